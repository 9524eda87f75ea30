-- Radices within their range, and their levels. Assumes nothing.
use Rattle.std.specs.Prelude.{◌≡◌, ℕ, zero, suc, ◌+◌, ◌*◌, ◌/◌, ◌<◌, ◌≤◌, true, List, [], ◌∷◌, ◌++◌, length, drop, ◌==◌, nat_le, slice_index, refl, false, ◌&&◌, ◌⊎◌, Some, None, slice_index_or}
use Rattle.std.proofs.Common.{sym, ap, ◌∙◌, arith, ap₂, mul_assoc, mul-one, mul-le-mul_left, mul-le-mul_right}
use Rattle.std.proofs.Math.Nat.{mul-div_cancel_left}
use Rattle.std.proofs.lemmas.List.{at_drop_more, append_assoc, length-append, get_or_at, at_drop_all}
use Rattle.std.proofs.lemmas.Bool.{and_parts, and_from, leb-true, eq-eqb, le-leb}
use Rattle.kinds.specs.Ranges.{all_between}
use Rattle.kinds.specs.Lists.{product}
use Rattle.kinds.specs.Shapes.{radices, levels_of, levels_hold}
use Rattle.kinds.specs.declared.shape.Level.{Level}
use Rattle.std.proofs.lemmas.Bool.Decides.{nat_tests}
use Rattle.kinds.specs.Counts.{counted}
use Rattle.kinds.specs.Limits.{counted_within, counted_over}

-- a number outside the range ends the test
pub outside : (low high x : ℕ) (xs : List ℕ) → (x < low) ⊎ ((low ≤ x) × (high < x)) → all_between low high (x ∷ xs) ≡ false
outside low high x xs out = grind (arith, nat_tests)

-- a number within the range leaves it to the others
pub inside : (low high x : ℕ) (xs : List ℕ) → low ≤ x → x ≤ high → all_between low high (x ∷ xs) ≡ all_between low high xs
inside low high x xs above below =
    ap₂ ◌&&◌ (le-leb low x above) refl ∙ ap₂ ◌&&◌ (le-leb x high below) refl

-- each number of the list is in the range
pub between_at : (low high : ℕ) (xs : List ℕ) (i : ℕ) → all_between low high xs ≡ true → i < length xs → (low ≤ slice_index xs i) × (slice_index xs i ≤ high)
between_at low high [] i all lt = absurd (omega arith)
between_at low high (x ∷ xs) zero all lt =
    let a = and_parts (nat_le low x) _ all in
    let b = and_parts (nat_le x high) _ a.1 in
    (leb-true low x a.0, leb-true x high b.0)
between_at low high (x ∷ xs) (suc i) all lt =
    let a = and_parts (nat_le low x) _ all in
    let b = and_parts (nat_le x high) _ a.1 in
    between_at low high xs i b.1 (omega arith)

-- and so is each of those that are left
pub between_drop : (low high : ℕ) (xs : List ℕ) (i : ℕ) → all_between low high xs ≡ true → all_between low high (drop i xs) ≡ true
between_drop low high xs zero all = all
between_drop low high [] (suc i) all = all
between_drop low high (x ∷ xs) (suc i) all =
    let a = and_parts (nat_le low x) _ all in
    let b = and_parts (nat_le x high) _ a.1 in
    between_drop low high xs i b.1

-- as is one between others
pub between_mid : (low high : ℕ) (xs front : List ℕ) (x : ℕ) (back : List ℕ) → front ++ (x ∷ back) ≡ xs → all_between low high xs ≡ true → (low ≤ x) × (x ≤ high)
between_mid low high xs front x back split all =
    let here : slice_index xs (length front) ≡ x = ap (λ l. slice_index l (length front)) (sym split) ∙ get_or_at front x back 0 (length front) refl in
    let each = between_at low high xs (length front) all (omega (arith, ap length split, length-append front (x ∷ back))) in
    (omega (arith, each.0, here), omega (arith, each.1, here))

-- radices of 1 and more have a row
pub product_some : (rs : List ℕ) → all_between 1 255 rs ≡ true → 1 ≤ product rs
product_some [] all = omega arith
product_some (r ∷ rs) all =
    let a = and_parts (nat_le 1 r) _ all in
    let b = and_parts (nat_le r 255) _ a.1 in
    omega (arith, product_some rs b.1, mul-le-mul_right (product rs) (leb-true 1 r a.0))

module _ (rs : List ℕ) (i : ℕ) (lt : i < length rs) where
  -- the first of the radices that are left
  pub product_more : product (drop i rs) ≡ slice_index rs i * product (drop (i + 1) rs)
  product_more = at_drop_more product rs i 0 lt

  -- one radix more in the count
  pub count_more : (count : ℕ) → count * product (drop i rs) ≡ product rs → (count * slice_index rs i) * product (drop (i + 1) rs) ≡ product rs
  count_more count so = mul_assoc count (slice_index rs i) (product (drop (i + 1) rs)) ∙ ap (λ n. count * n) (sym product_more) ∙ so

  -- a count that is too large stays so
  pub count_over : (count : ℕ) → all_between 1 255 rs ≡ true → count * product (drop i rs) ≡ product rs → (count * slice_index rs i < 4294967296 → ⊥) → counted (product rs) ≡ None
  count_over count all so over =
      let n = count * slice_index_or rs i 0 in
      let large : n * 1 ≤ n * product (drop (i + 1) rs) = mul-le-mul_left n (product_some (drop (i + 1) rs) (between_drop 1 255 rs (i + 1) all)) in
      counted_over (product rs) (omega (arith, large, mul-one n, count_more count so, over))

  -- the radix divides what is left
  pub rest_more : all_between 1 255 rs ≡ true → product (drop i rs) / slice_index rs i ≡ product (drop (i + 1) rs)
  rest_more all = ap (λ n. n / slice_index rs i) product_more ∙ mul-div_cancel_left (product (drop (i + 1) rs)) (between_at 1 255 rs i all lt).0

  -- one level more
  pub levels_more : (done : List Level) → done ++ levels_of (drop i rs) ≡ levels_of rs → (done ++ record { radix = slice_index rs i; below = product (drop (i + 1) rs) } ∷ []) ++ levels_of (drop (i + 1) rs) ≡ levels_of rs
  levels_more done so = append_assoc done _ (levels_of (drop (i + 1) rs)) ∙ ap (λ ls. done ++ ls) (sym (at_drop_more levels_of rs i 0 lt)) ∙ so

-- a whole count that a label can hold
pub count_whole : (rs : List ℕ) (i count : ℕ) → length rs ≤ i → count < 4294967296 → count * product (drop i rs) ≡ product rs → Some count ≡ counted (product rs)
count_whole rs i count end fits so =
    let all : count ≡ product rs = sym (ap (λ n. count * n) (at_drop_all product rs i end) ∙ mul-one count) ∙ so in
    ap Some all ∙ sym (counted_within (product rs) (omega arith))

-- the levels have the radices
pub radices_of_levels : (rs : List ℕ) → radices (levels_of rs) ≡ rs
radices_of_levels [] = refl
radices_of_levels (r ∷ rs) = ap (λ ns. r ∷ ns) (radices_of_levels rs)

-- there is a level for each radix
pub length_levels : (rs : List ℕ) → length (levels_of rs) ≡ length rs
length_levels [] = refl
length_levels (r ∷ rs) = ap suc (length_levels rs)

-- and hold
pub levels_of_hold : (rs : List ℕ) → all_between 1 255 rs ≡ true → levels_hold (levels_of rs) ≡ true
levels_of_hold [] all = refl
levels_of_hold (r ∷ rs) all =
    let a = and_parts (nat_le 1 r) _ all in
    let b = and_parts (nat_le r 255) _ a.1 in
    and_from (nat_le 1 r) _ a.0 (and_from (nat_le r 255) _ b.0 (and_from (product rs == product (radices (levels_of rs))) _ (eq-eqb (product rs) (product (radices (levels_of rs))) (ap product (sym (radices_of_levels rs)))) (levels_of_hold rs b.1)))
