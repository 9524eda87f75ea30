-- The tables of capped counts. Assumes nothing.
use Rattle.std.specs.Prelude.{◌≡◌, ℕ, zero, suc, ◌+◌, ◌-◌, ◌<◌, ◌≤◌, min, true, List, [], ◌∷◌, ◌++◌, reverse, length, take, drop, replicate, sum, slice_index, slice_set, Result, refl}
use Rattle.std.proofs.Common.{sym, ap, subst, ◌∙◌, ⊎_elim, add_comm, arith}
use Rattle.std.proofs.lemmas.List.FromFn.{fill_by_all, get_or-map-range_with_len}
use Rattle.std.proofs.lemmas.List.{append_assoc, drop_more, length-take, reverse-append}
use Rattle.std.proofs.lemmas.List.Elements.{All-take, All-drop, All-map, All-from_get_or}
use Rattle.std.specs.List.{All, range_with_len}
use Rattle.std.proofs.lemmas.List.Sums.{sum_by-cons, sum_by-le}
use Rattle.std.proofs.lemmas.Bool.{and_from, cases_lt}
use Rattle.walk.specs.Rows.{same_row}
use Rattle.walk.proofs.Differences.{same_itself}
use Rattle.kinds.specs.Bins.{capped, capped_ways, count_with, counts_with, mosts, bins_of, bins_hold}
use Rattle.kinds.specs.Counts.{counted}
use Rattle.kinds.specs.Limits.{counted_over, counted_converted}
use Rattle.kinds.specs.Lists.{ways, total}
use Rattle.std.specs.Result.{OkIff, result_ok}

-- the count of a sum
pub ways_at : (stocks : List ℕ) (t : ℕ) → t < 33 → slice_index (capped_ways stocks) t ≡ capped (ways stocks t)
unfolding capped_ways
ways_at stocks t small = get_or-map-range_with_len (λ s. capped (ways stocks s)) 0 33 t t 0 small (omega arith)

-- there are 33 counts
pub ways_length : (stocks : List ℕ) → length (capped_ways stocks) ≡ 33
unfolding capped_ways
ways_length stocks = refl

-- no count is above the cap
pub ways_few : (stocks : List ℕ) → All (λ n. n ≤ 4294967296) (capped_ways stocks)
ways_few stocks = All-from_get_or (λ n. n ≤ 4294967296) (capped_ways stocks) 0 (λ i lt. omega (arith, ways_length stocks, ways_at stocks i))

-- a count in 32 bits is a number of rows
pub ways_converted : {E : Type 0} (stocks : List ℕ) (t n : ℕ) (r : Result ℕ E) → n ≡ slice_index (capped_ways stocks) t → t ≤ 32 → OkIff r (n < 4294967296) n → result_ok r ≡ counted (ways stocks t)
ways_converted stocks t n r is small told =
    let count : n ≡ capped (ways stocks t) = is ∙ ways_at stocks t (omega arith) in
    counted_converted r n told ∙ ap counted count ∙ ⊎_elim over within (cases_lt 4294967295 (ways stocks t))
  where
    over : 4294967295 < ways stocks t → counted (capped (ways stocks t)) ≡ counted (ways stocks t)
    over h = counted_over (capped (ways stocks t)) (omega arith) ∙ sym (counted_over (ways stocks t) h)

    within : ways stocks t ≤ 4294967295 → counted (capped (ways stocks t)) ≡ counted (ways stocks t)
    within h = let same : capped (ways stocks t) ≡ ways stocks t = omega arith in ap counted same

-- up to 33 counts together fit 64 bits
pub slice_fits : (counts : List ℕ) (a k : ℕ) → All (λ n. n ≤ 4294967296) counts → k ≤ 33 → sum (take k (drop a counts)) < 18446744073709551616
slice_fits counts a k few short =
    let each = All-take (λ n. n ≤ 4294967296) k (drop a counts) (All-drop (λ n. n ≤ 4294967296) a counts few) in
    omega (arith, length-take k (drop a counts), sum_by-le (λ n. n) 4294967296 (take k (drop a counts)) each)

-- the k counts up to that of a sum, from there down
pub total_slice : (counts : List ℕ) (k s : ℕ) → k ≤ suc s → s < length counts → sum (take k (drop (suc s - k) counts)) ≡ total k (λ v. slice_index counts (s - v))
total_slice counts zero s h lt = refl
total_slice counts (suc m) s h lt =
    let start : suc s - suc m ≡ s - m = omega arith in
    let next : s - m + 1 ≡ suc s - m = omega arith in
    ap (λ a. sum (take (suc m) (drop a counts))) start
    ∙ ap (λ l. sum (take (suc m) l)) (drop_more counts (s - m) 0 (omega arith) ∙ ap (λ a. slice_index counts (s - m) ∷ drop a counts) next)
    ∙ sum_by-cons (λ n. n) (slice_index counts (s - m)) (take m (drop (suc s - m) counts))
    ∙ add_comm (slice_index counts (s - m)) (sum (take m (drop (suc s - m) counts)))
    ∙ ap (λ n. n + slice_index counts (s - m)) (total_slice counts m s (omega arith) lt)

-- with no stocks there is one row, with the sum 0
pub ways_none : slice_set (replicate 33 0) 0 1 ≡ capped_ways []
unfolding capped_ways
ways_none = refl

-- a sum of capped numbers is capped as the sum is
capped_total : (f g : ℕ → ℕ) (m : ℕ) → ((v : ℕ) → v < m → g v ≡ capped (f v)) → capped (total m g) ≡ capped (total m f)
capped_total f g zero same = refl
capped_total f g (suc m) same = omega (arith, capped_total f g m (λ v lt. same v (omega arith)), same m (omega arith))

-- counts with one stock more in front are not above the cap
pub with_few : (most : ℕ) (behind : List ℕ) → All (λ n. n ≤ 4294967296) (counts_with most behind)
unfolding counts_with
with_few most behind = All-map (λ n. n ≤ 4294967296) (count_with most behind) (range_with_len 0 33) (λ k d lt. omega arith)

-- and are those of the stocks with that one in front
pub ways_more : (most : ℕ) (stocks : List ℕ) → counts_with most (capped_ways stocks) ≡ capped_ways (most ∷ stocks)
unfolding counts_with capped_ways
ways_more most stocks =
    fill_by_all (λ t. capped (ways (most ∷ stocks) t)) (counts_with most (capped_ways stocks)) 33 0 refl
    (λ t lt.
    get_or-map-range_with_len (count_with most (capped_ways stocks)) 0 33 t t 0 lt (omega arith)
    ∙ capped_total (λ v. ways stocks (t - v)) (λ v. slice_index (capped_ways stocks) (t - v)) (suc (min most t)) (λ v below. ways_at stocks (t - v) (omega arith)))

-- from the last stock to the first: the one in front of those that are done is the next
pub next_stock : (stocks rest front : List ℕ) (most : ℕ) (done : List ℕ) → rest ++ done ≡ stocks → rest ≡ front ++ (most ∷ []) → front ++ (most ∷ done) ≡ stocks
next_stock stocks rest front most done split last = sym (append_assoc front (most ∷ []) done) ∙ ap (λ r. r ++ done) (sym last) ∙ split

-- and its bin is the next
pub bins_more : (most : ℕ) (done table : List ℕ) → table ≡ capped_ways done → reverse (bins_of done) ++ (record { most = most; ways = table } ∷ []) ≡ reverse (bins_of (most ∷ done))
bins_more most done table is =
    ap (λ w. reverse (bins_of done) ++ (record { most = most; ways = w } ∷ [])) is
    ∙ sym (reverse-append (record { most = most; ways = capped_ways done } ∷ []) (bins_of done))

-- the bins of stocks have their stocks
pub mosts_of_bins : (stocks : List ℕ) → mosts (bins_of stocks) ≡ stocks
mosts_of_bins [] = refl
mosts_of_bins (most ∷ stocks) = ap (λ rest. most ∷ rest) (mosts_of_bins stocks)

-- there is a bin for each stock
pub length_bins : (stocks : List ℕ) → length (bins_of stocks) ≡ length stocks
length_bins [] = refl
length_bins (most ∷ stocks) = ap suc (length_bins stocks)

-- and their counts
pub bins_of_hold : (stocks : List ℕ) → bins_hold (bins_of stocks) ≡ true
bins_of_hold [] = refl
bins_of_hold (most ∷ stocks) =
    and_from (same_row (capped_ways stocks) (capped_ways (mosts (bins_of stocks)))) _
    (subst (λ s. same_row (capped_ways stocks) (capped_ways s) ≡ true) (sym (mosts_of_bins stocks)) (same_itself (capped_ways stocks))) (bins_of_hold stocks)
