-- How many words there are as counts are added. Assumes nothing.
use Rattle.std.proofs.Common.{◌≡◌, ℕ, zero, suc, ◌+◌, ◌*◌, ◌/◌, ◌<◌, ◌≤◌, List, [], ◌∷◌, ◌++◌, leb, length, get_or, take, drop, sum, Some, None, Option, sym, refl, ap, ◌∙◌, subst, ap₂, ⊎_elim, mul_assoc, mul_comm, mul-le-mul_left, zero-mul, mul-one, le_of_mul-le-mul_right, mul_left_comm, add-one, arith}
use native.Mathlib.Nat.{mul-mul-mul_comm, eq_of_mul-eq-mul_right}
use Rattle.std.proofs.lemmas.Nat.{mul-lt}
use Rattle.std.proofs.lemmas.List.{append-nil, append_assoc, take-append-drop, take_more}
use Rattle.std.proofs.lemmas.List.Sums.{sum_by_push, sum_by_more, sum_by-take-le}
use Rattle.std.proofs.lemmas.Bool.{cases_eq, cases_lt, cond_both, leb-true, leb-false}
use Rattle.std.specs.List.{range_with_len}
use Rattle.std.specs.Option.{option_and_then}
use Rattle.kinds.specs.Counts.{counted}
use Rattle.kinds.specs.Limits.{counted_within, counted_over}
use Rattle.kinds.proofs.Folds.{stepped}
use Rattle.kinds.specs.Lists.{words, factorial}
use Rattle.kinds.specs.WordNodes.{mixings}
use Rattle.kinds.specs.Multinomial.{factorials, factorial_some, factorials_some, words_count, quotient}

-- the words, times the orders of equal values, are the orders of all
orders : (counts : List ℕ) → length (words counts) * factorials counts ≡ factorial (sum counts)
orders counts = words_count (sum counts) counts refl

-- every counts have a word
pub words_some : (counts : List ℕ) → 0 < length (words counts)
words_some counts =
    ⊎_elim (λ e. absurd (omega (arith, factorial_some (sum counts), orders counts, ap (λ n. n * factorials counts) e, zero-mul (factorials counts)))) (λ h. omega arith) (cases_eq (length (words counts)) 0)

-- one more count is one more factor
factorials_push : (xs : List ℕ) (c : ℕ) → factorials (xs ++ (c ∷ [])) ≡ factorials xs * factorial c
factorials_push [] c = omega arith
factorials_push (x ∷ xs) c = ap (λ n. factorial x * n) (factorials_push xs c) ∙ sym (mul_assoc (factorial x) (factorials xs) (factorial c))

module _ (s : ℕ) where
  mixings_orders : (c : ℕ) → mixings s c * (factorial s * factorial c) ≡ factorial (s + c)
  mixings_orders c =
      let two : sum (s ∷ c ∷ []) ≡ s + c = omega arith in
      ap (λ n. mixings s c * (factorial s * n)) (sym (mul-one (factorial c))) ∙ orders (s ∷ c ∷ []) ∙ ap factorial two

  orders_some : (c : ℕ) → 0 < factorial s * factorial c
  orders_some c = mul-lt 0 0 (factorial s) (factorial c) (factorial_some s) (factorial_some c)

  -- there is one way to mix in nothing
  pub mixings_none : mixings s 0 ≡ 1
  mixings_none =
      let all : s + 0 ≡ s = omega arith in
      eq_of_mul-eq-mul_right (factorial s * 1) (orders_some 0) (mixings s 0) 1 (mixings_orders 0 ∙ ap factorial all ∙ omega arith)

  -- one value more is put before, between or behind the others, and equal values have no order
  pub mixings_more : (c : ℕ) → mixings s (suc c) * suc c ≡ mixings s c * (s + c + 1)
  mixings_more c =
      let all = factorial s * factorial c in
      let last : s + suc c ≡ suc (s + c) = omega arith in
      let one : suc (s + c) ≡ s + c + 1 = omega arith in
      eq_of_mul-eq-mul_right all (orders_some c) (mixings s (suc c) * suc c) (mixings s c * (s + c + 1))
      (mul_assoc (mixings s (suc c)) (suc c) all
      ∙ ap (λ n. mixings s (suc c) * n) (mul_left_comm (suc c) (factorial s) (factorial c))
      ∙ mixings_orders (suc c)
      ∙ ap factorial last
      ∙ ap (λ n. n * factorial (s + c)) one
      ∙ ap (λ n. (s + c + 1) * n) (sym (mixings_orders c))
      ∙ sym (mul_assoc (s + c + 1) (mixings s c) all)
      ∙ ap (λ n. n * all) (mul_comm (s + c + 1) (mixings s c)))

  -- which is found by division
  pub mixings_next : (rows c mixed places orders : ℕ) → mixed ≡ rows * mixings s c → places ≡ s + c + 1 → orders ≡ c + 1 → mixed * places / orders ≡ rows * mixings s (c + 1)
  mixings_next rows c mixed places orders m p o =
      let step : mixings s (c + 1) * (c + 1) ≡ mixings s c * (s + c + 1) = subst (λ d. mixings s d * d ≡ mixings s c * (s + c + 1)) (sym (add-one c)) (mixings_more c) in
      ap₂ ◌/◌ (ap₂ ◌*◌ m p) o
      ∙ sym (quotient (c + 1) (rows * mixings s (c + 1)) (rows * mixings s c * (s + c + 1)) (omega arith)
      (mul_left_comm (c + 1) rows (mixings s (c + 1)) ∙ ap (λ n. rows * n) (mul_comm (c + 1) (mixings s (c + 1)) ∙ step) ∙ sym (mul_assoc rows (mixings s c) (s + c + 1))))

  -- more values have no fewer mixings
  pub mixings_grow : (c d : ℕ) → c ≤ d → mixings s c ≤ mixings s d
  mixings_grow c zero h = rw (none h) (omega arith)
    where
      none : c ≤ 0 → c ≡ 0
      none h = omega arith
  mixings_grow c (suc d) h = ⊎_elim (λ l. omega (arith, mixings_grow c d (omega arith), step)) (λ l. rw (same l) (omega arith)) (cases_lt c (suc d))
    where
      same : suc d ≤ c → c ≡ suc d
      same l = omega arith

      step : mixings s d ≤ mixings s (suc d)
      step = le_of_mul-le-mul_right {k = suc d} (omega (arith, mixings_more d, mul-le-mul_left {m = suc d} {n = s + d + 1} (mixings s d) (omega arith))) (omega arith)

-- one value more mixed into rows, if a walk may have as many
abbrev pub mixed : ℕ → ℕ → ℕ → Option ℕ
mixed some rows done = counted (rows * (some + done + 1) / (done + 1))

-- values can be mixed in one after another if a walk may have the rows
pub mixed_each : (some rows k done now : ℕ) → now ≡ rows * mixings some done → now ≤ 4294967295 → stepped (mixed some) now (range_with_len done k) ≡ counted (rows * mixings some (done + k))
mixed_each some rows zero done now is few =
    let all : done + 0 ≡ done = omega arith in
    sym (counted_within now few) ∙ ap counted (is ∙ ap (λ n. rows * mixings some n) (sym all))
mixed_each some rows (suc k) done now is few =
    let next : now * (some + done + 1) / (done + 1) ≡ rows * mixings some (done + 1) = mixings_next some rows done now (some + done + 1) (done + 1) is refl refl in
    let last : done + 1 + k ≡ done + suc k = omega arith in
    cond_both (leb (now * (some + done + 1) / (done + 1)) 4294967295) (Some (now * (some + done + 1) / (done + 1))) None
    (λ o. option_and_then (λ n. stepped (mixed some) n (range_with_len (done + 1) k)) o ≡ counted (rows * mixings some (done + suc k)))
    (λ e. mixed_each some rows k (done + 1) _ next (leb-true _ 4294967295 e) ∙ ap (λ n. counted (rows * mixings some n)) last)
    (λ e.
    let more = mul-le-mul_left rows (mixings_grow some (done + 1) (done + suc k) (omega arith)) in
    sym (counted_over (rows * mixings some (done + suc k)) (omega (arith, leb-false _ 4294967295 e, next, more))))

-- one count more: its values are mixed into the words of the others
pub words_push : (xs : List ℕ) (c : ℕ) → length (words (xs ++ (c ∷ []))) ≡ length (words xs) * mixings (sum xs) c
words_push xs c =
    let all = factorials xs * factorial c in
    eq_of_mul-eq-mul_right all (mul-lt 0 0 (factorials xs) (factorial c) (factorials_some xs) (factorial_some c)) (length (words (xs ++ (c ∷ [])))) (length (words xs) * mixings (sum xs) c)
    (ap (λ n. length (words (xs ++ (c ∷ []))) * n) (sym (factorials_push xs c))
    ∙ orders (xs ++ (c ∷ []))
    ∙ ap factorial (sum_by_push (λ x. x) xs c)
    ∙ sym (mixings_orders (sum xs) c)
    ∙ mul_left_comm (mixings (sum xs) c) (factorial (sum xs)) (factorial c)
    ∙ ap (λ n. n * (mixings (sum xs) c * factorial c)) (sym (orders xs))
    ∙ mul-mul-mul_comm (length (words xs)) (factorials xs) (mixings (sum xs) c) (factorial c))

-- further counts have no fewer words
pub words_grow : (xs ys : List ℕ) → length (words xs) ≤ length (words (xs ++ ys))
words_grow xs [] = rw append-nil (omega arith)
words_grow xs (c ∷ ys) =
    let one : length (words xs) * 1 ≤ length (words xs) * mixings (sum xs) c = mul-le-mul_left (length (words xs)) (words_some (sum xs ∷ c ∷ [])) in
    let join : (xs ++ (c ∷ [])) ++ ys ≡ xs ++ (c ∷ ys) = append_assoc xs (c ∷ []) ys in
    omega (arith, one, mul-one (length (words xs)), words_push xs c, words_grow (xs ++ (c ∷ [])) ys, ap (λ l. length (words l)) join)

module _ (counts : List ℕ) (i : ℕ) where
  -- the first counts and one more are some of all
  pub sum_within : i < length counts → sum (take i counts) + get_or counts i 0 ≤ sum counts
  sum_within h = omega (arith, sum_by_more (λ x. x) counts i 0 h, sum_by-take-le (λ x. x) counts (i + 1))

  -- the words of the first counts and of one more
  pub words_more : i < length counts → length (words (take (i + 1) counts)) ≡ length (words (take i counts)) * mixings (sum (take i counts)) (get_or counts i 0)
  words_more h = ap (λ l. length (words l)) (take_more counts i 0 h) ∙ words_push (take i counts) (get_or counts i 0)

  -- the first counts have no more words than all
  pub words_front : length (words (take i counts)) ≤ length (words counts)
  words_front = omega (arith, words_grow (take i counts) (drop i counts), ap (λ l. length (words l)) (take-append-drop i counts))
