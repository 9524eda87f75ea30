-- How many rows `words` has, and each of its branches. Assumes nothing.
use Rattle.std.specs.Prelude.{◌≡◌, ℕ, zero, suc, ◌+◌, ◌-◌, ◌*◌, ◌/◌, ◌<◌, ◌≤◌, List, [], ◌∷◌, ◌++◌, length, take, sum, slice_index, slice_index_or, refl}
use Rattle.std.proofs.Common.{sym, ap, ap₂, ◌∙◌, arith, zero-mul, add-mul, mul_assoc, mul_comm, mul_left_comm, add-one}
use Rattle.std.proofs.Math.Nat.{eq_of_mul-eq-mul_right}
use Rattle.std.proofs.lemmas.Nat.{div-mul-add, mul-lt}
use Rattle.std.proofs.lemmas.List.{take_all, get_or_at, set_at}
use Rattle.std.proofs.lemmas.List.Sums.{sum_by_more, sum_by_push}
use Rattle.kinds.specs.Lists.{one_less, words_of, factorial}
use Rattle.kinds.specs.Branches.{before, before_suc, before_later}
use Rattle.kinds.specs.Stock.{sum_cons}
use Rattle.kinds.specs.Words.{words_branch, branch_counted, each_branch, counted_below, one_less_sum}

-- the product of the counts' factorials
abbrev pub factorials : List ℕ → ℕ
factorials [] = 1
factorials (c ∷ counts) = factorial c * factorials counts

-- a factorial is not 0
pub factorial_some : (n : ℕ) → 0 < factorial n
factorial_some zero = omega arith
factorial_some (suc n) = mul-lt 0 0 (suc n) (factorial n) (omega arith) (factorial_some n)

-- nor is a product of factorials
pub factorials_some : (counts : List ℕ) → 0 < factorials counts
factorials_some [] = omega arith
factorials_some (c ∷ counts) = mul-lt 0 0 (factorial c) (factorials counts) (factorial_some c) (factorials_some counts)

-- no counts
pub factorials_none : (counts : List ℕ) → sum counts ≡ 0 → factorials counts ≡ 1
factorials_none [] e = refl
factorials_none (c ∷ counts) e =
    let first : c ≡ 0 = omega (arith, sum_cons c counts) in
    ap₂ (λ x y. factorial x * y) first (factorials_none counts (omega (arith, sum_cons c counts)))

-- a count and one fewer
pub factorials_less : (counts : List ℕ) (v : ℕ) → 0 < slice_index counts v → factorials counts ≡ slice_index counts v * factorials (one_less counts v)
factorials_less [] v h = absurd (omega arith)
factorials_less (c ∷ counts) zero h =
    let one : c ≡ suc (c - 1) = omega arith in
    ap (λ x. x * factorials counts) (ap factorial one ∙ ap (λ x. x * factorial (c - 1)) (sym one)) ∙ mul_assoc c (factorial (c - 1)) (factorials counts)
factorials_less (c ∷ counts) (suc v) h =
    ap (λ x. factorial c * x) (factorials_less counts v h) ∙ mul_left_comm (factorial c) (slice_index counts v) (factorials (one_less counts v))

-- what has the count c of s orders is the share c of all that have s times as many
pub share : (f s b c m o : ℕ) → 0 < f → b * f ≡ c * o → m * f ≡ s * o → s * b ≡ c * m
share f s b c m o some hb hm = eq_of_mul-eq-mul_right f some (s * b) (c * m)
    (mul_assoc s b f ∙ ap (λ x. s * x) hb ∙ mul_left_comm s c o ∙ ap (λ x. c * x) (sym hm) ∙ sym (mul_assoc c m f))

-- a factor by division
pub quotient : (s b m : ℕ) → 0 < s → s * b ≡ m → b ≡ m / s
quotient s b m some e = sym (ap (λ x. x / s) (sym e ∙ mul_comm s b ∙ omega arith) ∙ div-mul-add b s 0 some)

-- where the rows of one less are as many as they should be, so are those of a branch
pub branch_count : (n : ℕ) (counts : List ℕ) (v : ℕ) → (0 < slice_index counts v → length (words_of n (one_less counts v)) * factorials (one_less counts v) ≡ factorial n)
    → length (words_branch n counts v) * factorials counts ≡ slice_index counts v * factorial n
branch_count n counts v less = each_branch (λ rows. length rows * factorials counts ≡ slice_index counts v * factorial n) n counts v none some
  where
    none : slice_index_or counts v 0 ≡ 0 → 0 * factorials counts ≡ slice_index counts v * factorial n
    none e = rw e (zero-mul (factorials counts) ∙ sym (zero-mul (factorial n)))

    some : 0 < slice_index counts v → length (words_of n (one_less counts v)) * factorials counts ≡ slice_index counts v * factorial n
    some h =
        ap (λ x. length (words_of n (one_less counts v)) * x) (factorials_less counts v h)
        ∙ mul_left_comm (length (words_of n (one_less counts v))) (slice_index counts v) (factorials (one_less counts v))
        ∙ ap (λ x. slice_index counts v * x) (less h)

-- and those before a branch
pub before_count : (n : ℕ) (counts : List ℕ) → ((v : ℕ) → length (words_branch n counts v) * factorials counts ≡ slice_index counts v * factorial n)
    → (v : ℕ) → v ≤ length counts → before (words_branch n counts) v * factorials counts ≡ sum (take v counts) * factorial n
before_count n counts each zero h = zero-mul (factorials counts) ∙ sym (zero-mul (factorial n))
before_count n counts each (suc v) h =
    let more : sum (take (suc v) counts) ≡ sum (take v counts) + slice_index_or counts v 0 = ap (λ k. sum (take k counts)) (sym (add-one v)) ∙ sum_by_more (λ x. x) counts v 0 (omega arith) in
    ap (λ x. x * factorials counts) (before_suc (words_branch n counts) v)
    ∙ add-mul (before (words_branch n counts) v) (length (words_branch n counts v)) (factorials counts)
    ∙ ap₂ ◌+◌ (before_count n counts each v (omega arith)) (each v)
    ∙ sym (add-mul (sum (take v counts)) (slice_index counts v) (factorial n))
    ∙ ap (λ x. x * factorial n) (sym more)

-- the rows of `words`, times the orders of equal values, are the orders of all
pub words_count : (n : ℕ) (counts : List ℕ) → sum counts ≡ n → length (words_of n counts) * factorials counts ≡ factorial n
words_count zero counts e = ap (λ x. 1 * x) (factorials_none counts e)
words_count (suc n) counts e =
    before_count n counts (λ v. branch_count n counts v (λ some. words_count n (one_less counts v) (omega (arith, one_less_sum counts v some)))) (length counts) (omega arith)
    ∙ ap (λ x. x * factorial n) (ap sum (take_all (length counts) counts (omega arith)) ∙ e)

-- so there are some
pub words_some : (n : ℕ) (counts : List ℕ) → sum counts ≡ n → 0 < length (words_of n counts)
words_some n counts e = some (length (words_of n counts)) (words_count n counts e)
  where
    some : (m : ℕ) → m * factorials counts ≡ factorial n → 0 < m
    some zero h = absurd (omega (arith, factorial_some n, zero-mul (factorials counts), h))
    some (suc m) h = omega arith

-- and no other number does that
pub words_length_is : (n : ℕ) (counts : List ℕ) (m : ℕ) → sum counts ≡ n → m * factorials counts ≡ factorial n → length (words_of n counts) ≡ m
words_length_is n counts m e h = eq_of_mul-eq-mul_right (factorials counts) (factorials_some counts) (length (words_of n counts)) m (words_count n counts e ∙ sym h)

module _ (n : ℕ) (counts : List ℕ) (e : sum counts ≡ suc n) where
  each_count : (v : ℕ) → length (words_branch n counts v) * factorials counts ≡ slice_index counts v * factorial n
  each_count v = branch_count n counts v (λ some. words_count n (one_less counts v) (omega (arith, one_less_sum counts v some)))

  -- the branch v has the share of its count
  pub branch_share : (v : ℕ) → suc n * length (words_branch n counts v) ≡ slice_index counts v * length (words_of (suc n) counts)
  branch_share v = share (factorials counts) (suc n) (length (words_branch n counts v)) (slice_index counts v) (length (words_of (suc n) counts)) (factorial n) (factorials_some counts) (each_count v) (words_count (suc n) counts e)

  -- before it lie the shares of the counts before
  pub before_share : (v : ℕ) → v ≤ length counts → suc n * before (words_branch n counts) v ≡ sum (take v counts) * length (words_of (suc n) counts)
  before_share v h = share (factorials counts) (suc n) (before (words_branch n counts) v) (sum (take v counts)) (length (words_of (suc n) counts)) (factorial n) (factorials_some counts) (before_count n counts each_count v h) (words_count (suc n) counts e)

  -- so both come by division
  pub branch_length : (v : ℕ) → length (words_branch n counts v) ≡ slice_index counts v * length (words_of (suc n) counts) / suc n
  branch_length v = quotient (suc n) (length (words_branch n counts v)) (slice_index counts v * length (words_of (suc n) counts)) (omega arith) (branch_share v)

  pub before_length : (v : ℕ) → v ≤ length counts → before (words_branch n counts) v ≡ sum (take v counts) * length (words_of (suc n) counts) / suc n
  before_length v h = quotient (suc n) (before (words_branch n counts) v) (sum (take v counts) * length (words_of (suc n) counts)) (omega arith) (before_share v h)

  -- one fewer of a value
  pub words_less : (v : ℕ) → 0 < slice_index counts v → slice_index counts v * length (words_of (suc n) counts) ≡ suc n * length (words_of n (one_less counts v))
  words_less v some = sym (branch_share v) ∙ ap (λ rows. suc n * length rows) (branch_counted n counts v some)

  pub words_fewer : (v : ℕ) → 0 < slice_index counts v → length (words_of n (one_less counts v)) ≤ length (words_of (suc n) counts)
  words_fewer v some = omega (arith, before_later (words_branch n counts) v (length counts) (counted_below counts v some), ap length (branch_counted n counts v some))

-- one more of the last count
module _ (n c : ℕ) (counts : List ℕ) (e : sum counts + c ≡ n) where
  push_sum : sum (counts ++ (suc c ∷ [])) ≡ suc n
  push_sum = omega (arith, sum_by_push (λ x. x) counts (suc c))

  push_last : slice_index_or (counts ++ (suc c ∷ [])) (length counts) 0 ≡ suc c
  push_last = get_or_at counts (suc c) [] 0 (length counts) refl

  push_less : one_less (counts ++ (suc c ∷ [])) (length counts) ≡ counts ++ (c ∷ [])
  push_less =
      let less : slice_index_or (counts ++ (suc c ∷ [])) (length counts) 0 - 1 ≡ c = omega (arith, push_last) in
      set_at counts (suc c) [] (slice_index (counts ++ (suc c ∷ [])) (length counts) - 1) (length counts) refl ∙ ap (λ x. counts ++ (x ∷ [])) less

  pub words_push : suc c * length (words_of (suc n) (counts ++ (suc c ∷ []))) ≡ suc n * length (words_of n (counts ++ (c ∷ [])))
  words_push =
      ap (λ x. x * length (words_of (suc n) (counts ++ (suc c ∷ [])))) (sym push_last)
      ∙ words_less n (counts ++ (suc c ∷ [])) push_sum (length counts) (omega (arith, push_last))
      ∙ ap (λ less. suc n * length (words_of n less)) push_less
