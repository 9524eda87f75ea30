-- Products counted factor by factor, up to what a walk may have. Assumes nothing.
use Rattle.std.proofs.Common.{◌≡◌, ℕ, zero, suc, ◌+◌, ◌-◌, ◌*◌, ◌<◌, ◌≤◌, Bool, true, false, leb, length, List, [], ◌∷◌, Some, None, Option, sym, ap, ◌∙◌, refl, arith, mul_assoc, mul_comm, mul-one, mul-le-mul_left}
use Rattle.std.proofs.lemmas.Bool.{cond_both, leb-true, leb-false}
use Rattle.std.proofs.lemmas.List.Elements.{All-head, All-tail, All-from_get_or}
use Rattle.std.proofs.lemmas.List.FromFn.{length-range_with_len, get_or-range_with_len}
use Rattle.std.specs.List.{All, range_with_len}
use Rattle.std.specs.Option.{option_and_then, SomeIff}
use Rattle.std.specs.Iterator.{AlwaysYields}
use Rattle.std.specs.Range.{range_inclusive_steps, range_inclusive_len, range_inclusive_left, range_inclusive_start, range_inclusive_end, range_inclusive_exhausted}
use Rattle.std.specs.declared.ops.RangeInclusive.{RangeInclusive}
use Rattle.kinds.specs.Counts.{counted}
use Rattle.kinds.specs.Lists.{product, factorial, changes}
use Rattle.kinds.specs.Changes.{changes_length}
use Rattle.kinds.specs.Limits.{counted_within, counted_over}
use Rattle.kinds.proofs.Folds.{stepped}

-- one factor more in the count
abbrev pub multiplied : ℕ → ℕ → Option ℕ
multiplied count factor = counted (count * factor)

-- as `checked_mul` answers
pub multiplied_checked : (count factor : ℕ) (w : Option ℕ) → SomeIff w (count * factor < 4294967296) (count * factor) → w ≡ multiplied count factor
multiplied_checked count factor None small = sym (counted_over (count * factor) (over small))
  where
    over : (count * factor < 4294967296 → ⊥) → 4294967295 < count * factor
    over small = omega arith
multiplied_checked count factor (Some y) small = ap Some small.1 ∙ sym (counted_within (count * factor) (omega (arith, small.0)))

-- factors of 1 and more have such a product
pub product_positive : (factors : List ℕ) → All (λ x. 1 ≤ x) factors → 1 ≤ product factors
product_positive [] all = omega arith
product_positive (x ∷ xs) all =
    let rest = product_positive xs (All-tail (λ x. 1 ≤ x) x xs all) in
    omega (arith, rest, All-head (λ x. 1 ≤ x) x xs all, mul-le-mul_left x rest, mul-one x)

-- factors of 1 and more can be multiplied one after another if a walk may have their product
pub multiplied_each : (count : ℕ) (factors : List ℕ) → count ≤ 4294967295 → All (λ x. 1 ≤ x) factors → stepped multiplied count factors ≡ counted (count * product factors)
multiplied_each count [] few all = sym (counted_within (count * 1) (omega (arith, mul-one count)) ∙ ap Some (mul-one count))
multiplied_each count (x ∷ xs) few all =
    let rest = All-tail (λ x. 1 ≤ x) x xs all in
    let join = mul_assoc count x (product xs) in
    cond_both (leb (count * x) 4294967295) (Some (count * x)) None (λ o. option_and_then (λ c. stepped multiplied c xs) o ≡ counted (count * (x * product xs)))
    (λ e. multiplied_each (count * x) xs (leb-true (count * x) 4294967295 e) rest ∙ ap counted join)
    (λ e.
    let over = leb-false (count * x) 4294967295 e in
    let more : (count * x) * 1 ≤ (count * x) * product xs = mul-le-mul_left (count * x) (product_positive xs rest) in
    sym (counted_over (count * (x * product xs)) (omega (arith, over, more, mul-one (count * x), join))))

-- a step of a range with its end, and how many numbers it has left
abbrev inclusive_steps : RangeInclusive ℕ → Option ℕ → RangeInclusive ℕ → Type 0
inclusive_steps = range_inclusive_steps (λ a b. b - a) (λ a b. b ≡ a + 1)

-- how many numbers a range with its end has left
abbrev inclusive_left : RangeInclusive ℕ → ℕ
inclusive_left = range_inclusive_left (λ a b. b - a)

-- a range that has numbers left is not spent
unspent : (a b : ℕ) (exhausted : Bool) → 0 < range_inclusive_len (λ a b. b - a) a b exhausted → exhausted ≡ false
unspent a b false more = refl
unspent a b true more = absurd (omega arith)

-- a range with its end gives its numbers
pub inclusive_gives : (n a : ℕ) (s : RangeInclusive ℕ) → inclusive_left s ≡ n → (0 < n → range_inclusive_start s ≡ a) → AlwaysYields inclusive_steps (λ x. x) s (range_with_len a n)
inclusive_gives zero a s left start = λ x t step. omega (arith, left, step.1.1)
inclusive_gives (suc n) a s left start = (
  (λ t step. omega (arith, left, step.1.0)),
  λ x t step. (
    step.1.0 ∙ start (omega arith),
    inclusive_gives n (a + 1) t (omega (arith, left, step.1.1)) (λ more. step.1.2 (going t (omega (arith, left, step.1.1, more))) ∙ ap (λ k. k + 1) (start (omega arith))),
  ),
)
  where
    going : (t : RangeInclusive ℕ) → 0 < inclusive_left t → range_inclusive_exhausted t ≡ false
    going t more = unspent _ _ (range_inclusive_exhausted t) more

-- the numbers from 1 to n come from such a range as it is made
pub rising_gives : (n : ℕ) (s : RangeInclusive ℕ) → range_inclusive_start s ≡ 1 → range_inclusive_end s ≡ n → range_inclusive_exhausted s ≡ false → AlwaysYields inclusive_steps (λ x. x) s (range_with_len 1 n)
rising_gives n s start end fresh =
    inclusive_gives n 1 s (ap (range_inclusive_len (λ a b. b - a) (range_inclusive_start s) (range_inclusive_end s)) fresh ∙ omega (arith, start, end)) (λ _. start)

-- and are positive
pub rising_positive : (n : ℕ) → All (λ x. 1 ≤ x) (range_with_len 1 n)
rising_positive n = All-from_get_or (λ x. 1 ≤ x) (range_with_len 1 n) 0 (λ i lt. omega (arith, length-range_with_len 1 n, get_or-range_with_len 1 n i 0))

-- one factor more at the end of rising factors
product_push : (a n : ℕ) → product (range_with_len a (suc n)) ≡ product (range_with_len a n) * (a + n)
product_push a zero = omega arith
product_push a (suc n) =
    let next : a + 1 + n ≡ a + suc n = omega arith in
    ap (λ p. a * p) (product_push (a + 1) n ∙ ap (λ m. product (range_with_len (a + 1) n) * m) next) ∙ sym (mul_assoc a (product (range_with_len (a + 1) n)) (a + suc n))

-- the product of the numbers from 1 to n
pub product_rising : (n : ℕ) → product (range_with_len 1 n) ≡ factorial n
product_rising zero = refl
product_rising (suc n) =
    let next : 1 + n ≡ suc n = omega arith in
    product_push 1 n ∙ ap (λ m. product (range_with_len 1 n) * m) next ∙ ap (λ p. p * suc n) (product_rising n) ∙ mul_comm (factorial n) (suc n)

-- what is counted of the factors of such a range is the number of orders
pub rising_counted : (n : ℕ) (s : RangeInclusive ℕ) (r : Option ℕ) → ((list : List ℕ) → AlwaysYields inclusive_steps (λ x. x) s list → All (λ x. 1 ≤ x) list → r ≡ counted (product list))
    → range_inclusive_start s ≡ 1 → range_inclusive_end s ≡ n → range_inclusive_exhausted s ≡ false → r ≡ counted (length (changes n))
rising_counted n s r counts start end fresh =
    counts (range_with_len 1 n) (rising_gives n s start end fresh) (rising_positive n) ∙ ap counted (product_rising n ∙ sym (changes_length n))
