-- Rows with a sum, by the counts in their bins. Assumes nothing.
use Rattle.std.specs.Prelude.{◌≡◌, ℕ, zero, suc, ◌+◌, ◌-◌, ◌<◌, ◌≤◌, min, Bool, true, false, not, ◌&&◌, ◌||◌, List, [], ◌∷◌, length, take, drop, replicate, sum, nat_le, slice_index, slice_index_or, refl}
use Rattle.std.proofs.Common.{sym, ap, ap₂, subst, ◌∙◌, arith, ⊎_elim}
use Rattle.std.proofs.lemmas.List.{drop_more}
use Rattle.std.proofs.lemmas.List.Sums.{sum_by-cons}
use Rattle.std.proofs.lemmas.Bool.{and_parts, leb-true, cases_lt}
use Rattle.walk.specs.Rows.{odd, same_row}
use Rattle.walk.proofs.Differences.{equal_from_same}
use Rattle.kinds.specs.Bins.{mosts, capped_ways, bins_hold, filled}
use Rattle.kinds.specs.Ranges.{all_between}
use Rattle.kinds.specs.Lists.{door, ways, total}
use Rattle.kinds.specs.Tree.{Stands}
use Rattle.kinds.specs.declared.shape.Bin.{Bin}
use Rattle.kinds.specs.declared.sums.StockNode.{StockNode}
use Rattle.kinds.specs.Door.{door_length}
use Rattle.kinds.specs.Fronts.{rest_of, rest_is, rest_length}
use Rattle.kinds.specs.Nodes.{Nowhere, Begins, ways_before, stock_enters, stock_outside, stock_picks, ways_within, door_enters, door_outside, door_picks}
use Rattle.kinds.specs.Shapes.{reflects}
use Rattle.kinds.specs.Stock.{stock_length}
use Rattle.kinds.specs.WayCounts.{ways_length, ways_at}

-- sums of the same numbers are the same
pub total_same : (f g : ℕ → ℕ) (m : ℕ) → ((v : ℕ) → v < m → f v ≡ g v) → total m f ≡ total m g
total_same f g zero same = refl
total_same f g (suc m) same = ap₂ ◌+◌ (total_same f g m (λ v lt. same v (omega arith))) (same m (omega arith))

-- a part of a list, summed from its end
pub sum_taken : (xs : List ℕ) (t v i n : ℕ) → i + v ≡ t + 1 → n ≡ v → t < length xs → sum (take n (drop i xs)) ≡ total v (λ w. slice_index xs (t - w))
sum_taken xs t zero i n at all in_range = rw all refl
sum_taken xs t (suc v) i n at all in_range =
    let rest = sum_taken xs t v (i + 1) v (omega arith) refl in_range in
    let back : t - v ≡ i = omega arith in
    let split : sum (take (suc v) (drop i xs)) ≡ slice_index xs i + sum (take v (drop (i + 1) xs)) = rw (drop_more xs i 0 (omega arith)) (sum_by-cons (λ x. x) (slice_index xs i) (take v (drop (i + 1) xs))) in
    rw all (omega (arith, split, rest, ap (slice_index xs) back))

-- a longer sum is no smaller
pub total_more : (f : ℕ → ℕ) (k m : ℕ) → k ≤ m → total k f ≤ total m f
total_more f k zero h = let e : k ≡ 0 = omega arith in rw e (omega arith)
total_more f k (suc m) h = ⊎_elim (λ lt. omega (arith, total_more f k m (omega arith))) (λ (ge : suc m ≤ k). let e : k ≡ suc m = omega arith in rw e (omega arith)) (cases_lt k (suc m))

-- stocks that are all 1
pub ones_are : (stocks : List ℕ) → all_between 1 1 stocks ≡ true → stocks ≡ replicate (length stocks) 1
ones_are [] all = refl
ones_are (s ∷ ss) all =
    let a = and_parts (nat_le 1 s) _ all in
    let b = and_parts (nat_le s 1) _ a.1 in
    let low = leb-true 1 s a.0 in
    let high = leb-true s 1 b.0 in
    let one : s ≡ 1 = omega arith in
    ap₂ (λ x xs. x ∷ xs) one (ones_are ss b.1)

abbrev pub Ones : Bool → List ℕ → Type 0
Ones reflected stocks = (not reflected || all_between 1 1 stocks) ≡ true

-- the rows are as many as the ways
pub filled_length : (reflected : Bool) (stocks : List ℕ) (t : ℕ) → Ones reflected stocks → length (filled reflected stocks t) ≡ ways stocks t
filled_length true stocks t ones = door_length (length stocks) t ∙ ap (λ s. ways s t) (sym (ones_are stocks ones))
filled_length false stocks t ones = stock_length stocks t

module _ (most : ℕ) (stocks : List ℕ) (t v : ℕ) where
  -- the branch of a value within its stock and the sum
  pub filled_enters : (reflected : Bool) → Ones reflected (most ∷ stocks) → v ≤ min most t → Stands (filled reflected (most ∷ stocks) t) (v ∷ []) (record { from = ways_before stocks t v; count = ways stocks (t - v); backward = reflected && odd v }) (filled reflected stocks (t - v))
  filled_enters true ones h =
      let parts = and_parts (nat_le 1 most) _ ones in
      let more = and_parts (nat_le most 1) _ parts.1 in
      let one = leb-true most 1 more.0 in
      subst (λ s. Stands (door (suc (length stocks)) t) (v ∷ []) (record { from = ways_before s t v; count = ways s (t - v); backward = odd v }) (door (length stocks) (t - v)))
      (sym (ones_are stocks more.1)) (door_enters (length stocks) t v (omega arith))
  filled_enters false ones h = stock_enters most stocks t v h

  -- no branch for a larger value
  pub filled_outside : (reflected : Bool) → Ones reflected (most ∷ stocks) → min most t < v → Nowhere (filled reflected (most ∷ stocks) t) v
  filled_outside true ones h =
      let parts = and_parts (nat_le 1 most) _ ones in
      let low = leb-true 1 most parts.0 in
      door_outside (length stocks) t v (omega arith)
  filled_outside false ones h = stock_outside most stocks t v h

  -- the first value of the row at a label
  pub filled_picks : (reflected : Bool) → Ones reflected (most ∷ stocks) → (label : ℕ) → v ≤ min most t → ways_before stocks t v ≤ label → label < ways_before stocks t (suc v) → Begins (filled reflected (most ∷ stocks) t) label v
  filled_picks true ones label h low high =
      let parts = and_parts (nat_le 1 most) _ ones in
      let more = and_parts (nat_le most 1) _ parts.1 in
      let one = leb-true most 1 more.0 in
      let same = ones_are stocks more.1 in
      door_picks (length stocks) t v label (omega arith) (subst (λ s. ways_before s t v ≤ label) same low) (subst (λ s. label < ways_before s t (suc v)) same high)
  filled_picks false ones label h low high = stock_picks most stocks t v label h low high

  -- a value whose branch has no rows begins none
  pub filled_empty : (reflected : Bool) → Ones reflected (most ∷ stocks) → v ≤ min most t → ways stocks (t - v) ≡ 0 → Nowhere (filled reflected (most ∷ stocks) t) v
  filled_empty reflected ones h none i r lt is =
      let range = (filled_enters reflected ones h).only i r lt is in
      omega arith

-- the ones go on behind the first
pub ones_rest : (reflected : Bool) (most : ℕ) (stocks : List ℕ) → Ones reflected (most ∷ stocks) → Ones reflected stocks
ones_rest true most stocks ones = (and_parts (nat_le most 1) _ (and_parts (nat_le 1 most) _ ones).1).1
ones_rest false most stocks ones = refl

-- a bin for numbers that no place has
abbrev no_bin : Bin
no_bin = record { most = 0; ways = [] }

-- the first bin of a list that has one
abbrev pub front : List Bin → Bin
front bins = slice_index_or bins 0 no_bin

-- what the first bin says
pub record First (bins : List Bin) : Type 0 where
  pub stocks : mosts bins ≡ (front bins).most ∷ mosts (rest_of bins)
  pub counts : (front bins).ways ≡ capped_ways (mosts (rest_of bins))
  pub rest : bins_hold (rest_of bins) ≡ true

pub first_bin : (bins : List Bin) → 0 < length bins → bins_hold bins ≡ true → First bins
first_bin [] some hold = absurd (omega arith)
first_bin (b ∷ bs) some hold =
    let parts = and_parts (same_row b.ways (capped_ways (mosts bs))) (bins_hold bs) hold in
    record {
      stocks = ap (λ rest. b.most ∷ mosts rest) (sym (rest_is b bs));
      counts = equal_from_same b.ways (capped_ways (mosts bs)) parts.0 ∙ ap (λ rest. capped_ways (mosts rest)) (sym (rest_is b bs));
      rest = ap bins_hold (rest_is b bs) ∙ parts.1;
    }

-- a count that a walk may have is exact
pub count_exact : (stocks : List ℕ) (t : ℕ) → t ≤ 32 → ways stocks t ≤ 4294967295 → slice_index (capped_ways stocks) t ≡ ways stocks t
count_exact stocks t small few = ways_at stocks t (omega arith) ∙ omega arith

module _ (self : StockNode) (bin : 0 < length self.bins.now) where
  abbrev bins : List Bin
  bins = self.bins.now

  abbrev t : ℕ
  t = self.left

  abbrev reflected : Bool
  reflected = reflects self.order

  -- the counts of the first bin, for a sum that is left
  abbrev pub count_of : ℕ → ℕ
  count_of v = slice_index (front bins).ways (t - v)

  abbrev pub most : ℕ
  most = (front bins).most

  abbrev stocks : List ℕ
  stocks = mosts (rest_of bins)

  all_few : ways (most ∷ stocks) t ≤ 4294967295
  all_few = subst (λ s. ways s t ≤ 4294967295) (first_bin bins bin self.hold).stocks self.few

  all_ones : Ones reflected (most ∷ stocks)
  all_ones = subst (Ones reflected) (first_bin bins bin self.hold).stocks self.ones

  -- the count of a branch is that of its rows
  pub count_is : (v : ℕ) → v ≤ min most t → count_of v ≡ ways stocks (t - v)
  count_is v h =
      ap (λ table. slice_index table (t - v)) (first_bin bins bin self.hold).counts
      ∙ count_exact stocks (t - v) (omega (arith, self.small)) (omega (arith, all_few, ways_within most stocks t v h))

  -- and so are the counts before a branch, together
  pub before_is : (v : ℕ) → v ≤ suc (min most t) → total v count_of ≡ ways_before stocks t v
  before_is v h = total_same count_of (λ w. ways stocks (t - w)) v (λ w lt. count_is w (omega arith))

  -- the first bin has counts for the sums 0 to 32
  pub ways_many : length (front bins).ways ≡ 33
  ways_many = ap length (first_bin bins bin self.hold).counts ∙ ways_length stocks

  -- these stand side by side in the first bin
  pub before_read : (v i n : ℕ) → i + v ≡ t + 1 → n ≡ v → sum (take n (drop i (front bins).ways)) ≡ total v count_of
  before_read v i n at all =
      sum_taken (front bins).ways t v i n at all (omega (arith, ways_many, self.small))

  -- it is a label
  pub counts_few : (v : ℕ) → v ≤ min most t → total v count_of + count_of v ≤ 4294967295
  counts_few v h = omega (arith, all_few, ways_within most stocks t v h, before_is v (omega arith), count_is v h)

  -- and so are those before it, together
  pub before_few : (v i n : ℕ) → v ≤ min most t → i + v ≡ t + 1 → n ≡ v → sum (take n (drop i (front bins).ways)) ≤ 4294967295
  before_few v i n h at all = omega (arith, before_read v i n at all, counts_few v h)

  -- where the rows that begin with a value stand
  pub node_enters : (v from count : ℕ) (back : Bool) → v ≤ min most t → from ≡ total v count_of → count ≡ count_of v → back ≡ (reflected && odd v) → Stands (filled reflected (mosts bins) t) (v ∷ []) (record { from = from; count = count; backward = back }) (filled reflected stocks (t - v))
  node_enters v from count back h before here turns =
      rw (before ∙ before_is v (omega arith), here ∙ count_is v h, turns)
      (subst (λ s. Stands (filled reflected s t) (v ∷ []) (record { from = ways_before stocks t v; count = ways stocks (t - v); backward = reflected && odd v }) (filled reflected stocks (t - v)))
      (sym (first_bin bins bin self.hold).stocks) (filled_enters most stocks t v reflected all_ones h))

  pub node_outside : (v : ℕ) → min most t < v → Nowhere (filled reflected (mosts bins) t) v
  node_outside v h = subst (λ s. Nowhere (filled reflected s t) v) (sym (first_bin bins bin self.hold).stocks) (filled_outside most stocks t v reflected all_ones h)

  pub node_empty : (v : ℕ) → v ≤ min most t → count_of v ≡ 0 → Nowhere (filled reflected (mosts bins) t) v
  node_empty v h none =
      subst (λ s. Nowhere (filled reflected s t) v) (sym (first_bin bins bin self.hold).stocks)
      (filled_empty most stocks t v reflected all_ones h (sym (count_is v h) ∙ none))

  -- a value begins the rows at the labels that its count covers
  pub node_picks : (v label : ℕ) → v ≤ min most t → total v count_of ≤ label → label < total (suc v) count_of → Begins (filled reflected (mosts bins) t) label v
  node_picks v label h low high =
      subst (λ s. Begins (filled reflected s t) label v) (sym (first_bin bins bin self.hold).stocks)
      (filled_picks most stocks t v reflected all_ones label h (omega (arith, before_is v (omega arith))) (omega (arith, before_is v (omega arith), count_is v h)))

  -- and all counts together are those of all rows
  pub node_whole : total (suc (min most t)) count_of ≡ length (filled reflected (mosts bins) t)
  node_whole = before_is (suc (min most t)) (omega arith) ∙ sym (filled_length reflected (mosts bins) t self.ones ∙ ap (λ s. ways s t) (first_bin bins bin self.hold).stocks)

  -- what is left of the rows is again such a node
  pub rest_few : (v : ℕ) → v ≤ min most t → ways stocks (t - v) ≤ 4294967295
  rest_few v h = omega (arith, counts_few v h, count_is v h)

  pub rest_ones : Ones reflected stocks
  rest_ones = ones_rest reflected most stocks all_ones

-- what a step to the bins behind the first keeps
pub ruleset entering = (first_bin, rest_few, rest_ones, count_is, counts_few, before_few, node_outside, rest_length)
