-- Ranges of labels from which labels are taken away.
use Rattle.std.proofs.Common.{◌≡◌, ℕ, ◌+◌, ◌<◌, ◌≤◌, Bool, true, false, cond, not, ◌&&◌, eqb, List, [], ◌∷◌, ◌++◌, filter, sym, refl, ap, ◌∙◌, subst, add-one, arith}
use Rattle.std.specs.List.{range_with_len, AllByRecursion}
use Rattle.std.proofs.lemmas.List.Elements.{filter-append}
use Rattle.std.proofs.lemmas.List.{append-nil}
use Rattle.std.proofs.lemmas.Bool.{eq-eqb, ne_eqb, cond-true, cond-false}
use Rattle.book.proofs.Tallies.{all_counting, counting_split}

-- all numbers but one
abbrev pub other_than : ℕ → ℕ → Bool
other_than x l = not (eqb x l)

-- to keep by two tests is to keep by the one and then by the other
pub kept_by_both : (p q : ℕ → Bool) (xs : List ℕ) → filter (λ l. q l && p l) xs ≡ filter q (filter p xs)
kept_by_both p q [] = refl
kept_by_both p q (x ∷ xs) = step (p x) (q x) refl (kept_by_both p q xs)
  where
    step : (b c : Bool) → q x ≡ c → filter (λ l. q l && p l) xs ≡ filter q (filter p xs) →
        cond (c && b) (x ∷ filter (λ l. q l && p l) xs) (filter (λ l. q l && p l) xs) ≡ filter q (cond b (x ∷ filter p xs) (filter p xs))
    step true true t e = ap (λ (ys : List ℕ). x ∷ ys) e ∙ sym (cond-true (q x) (x ∷ filter q (filter p xs)) (filter q (filter p xs)) t)
    step true false t e = e ∙ sym (cond-false (q x) (x ∷ filter q (filter p xs)) (filter q (filter p xs)) t)
    step false true t e = e
    step false false t e = e

-- where every element passes, all are kept
pub kept_all : (p : ℕ → Bool) (xs : List ℕ) → AllByRecursion (λ x. p x ≡ true) xs → filter p xs ≡ xs
kept_all p [] all = refl
kept_all p (x ∷ xs) (here, all) = cond-true (p x) (x ∷ filter p xs) (filter p xs) here ∙ ap (λ (ys : List ℕ). x ∷ ys) (kept_all p xs all)

-- a range without a number that it has not
pub without_outside : (x a n : ℕ) → ((l : ℕ) → a ≤ l → l < a + n → x ≡ l → ⊥) → filter (other_than x) (range_with_len a n) ≡ range_with_len a n
without_outside x a n out = kept_all (other_than x) (range_with_len a n) (all_counting _ a n (λ l low high. ap not (ne_eqb x l (out l low high))))

-- a range without its first number, and without its last one
pub without_first_number : (a n : ℕ) → filter (other_than a) (range_with_len a (n + 1)) ≡ range_with_len (a + 1) n
without_first_number a n =
    subst (λ m. filter (other_than a) (range_with_len a m) ≡ range_with_len (a + 1) n) (sym (add-one n))
    (cond-false (other_than a a) (a ∷ filter (other_than a) (range_with_len (a + 1) n)) (filter (other_than a) (range_with_len (a + 1) n)) (ap not (eq-eqb a a refl))
    ∙ without_outside a (a + 1) n (λ l low high e. omega arith))

pub without_last_number : (a n : ℕ) → filter (other_than (a + n)) (range_with_len a (n + 1)) ≡ range_with_len a n
without_last_number a n =
    ap (filter (other_than (a + n))) (counting_split a n 1)
    ∙ filter-append (other_than (a + n)) (range_with_len a n) ((a + n) ∷ [])
    ∙ ap (λ (ys : List ℕ). filter (other_than (a + n)) (range_with_len a n) ++ ys) (cond-false (other_than (a + n) (a + n)) ((a + n) ∷ []) [] (ap not (eq-eqb (a + n) (a + n) refl)))
    ∙ append-nil (filter (other_than (a + n)) (range_with_len a n))
    ∙ without_outside (a + n) a n (λ l low high e. omega arith)
