-- Counting over lists and ranges.
use Rattle.std.proofs.Common.{◌≡◌, ℕ, zero, suc, ◌+◌, ◌<◌, ◌≤◌, Bool, false, eqb, List, [], ◌∷◌, ◌++◌, length, sum_by, count_by, sym, refl, ap, ◌∙◌, subst, ⊎_elim, add-zero, suc-add, zero-add, arith}
use Rattle.std.specs.List.{range_with_len, AllByRecursion}
use Rattle.std.proofs.lemmas.List.FromFn.{length-range_with_len, get_or-range_with_len}
use Rattle.std.proofs.lemmas.List.Sums.{sum_by-cons, get_or-le-sum_by}
use Rattle.std.proofs.lemmas.Bool.{eq-eqb, ne_eqb, cases_eq}
use Rattle.book.specs.WholeLife.{one_if}

module _ {X : Type 0} where
  -- a sum over sums is the sum of the sums
  pub sum_by_plus : (f g : X → ℕ) (xs : List X) → sum_by (λ x. f x + g x) xs ≡ sum_by f xs + sum_by g xs
  sum_by_plus f g [] = refl
  sum_by_plus f g (x ∷ xs) =
      omega (arith, sum_by-cons (λ x. f x + g x) x xs, sum_by-cons f x xs, sum_by-cons g x xs, sum_by_plus f g xs)

  -- equal terms give equal sums
  pub sum_by_same : (f g : X → ℕ) (xs : List X) → AllByRecursion (λ x. f x ≡ g x) xs → sum_by f xs ≡ sum_by g xs
  sum_by_same f g [] same = refl
  sum_by_same f g (x ∷ xs) (here, same) = omega (arith, sum_by-cons f x xs, sum_by-cons g x xs, sum_by_same f g xs same)

  pub sum_by_ones : (xs : List X) → sum_by (λ _. 1) xs ≡ length xs
  sum_by_ones [] = refl
  sum_by_ones (x ∷ xs) = omega (arith, sum_by-cons (λ (_ : X). 1) x xs, sum_by_ones xs)

  pub sum_by_zeros : (xs : List X) → sum_by (λ _. 0) xs ≡ 0
  sum_by_zeros [] = refl
  sum_by_zeros (x ∷ xs) = omega (arith, sum_by-cons (λ (_ : X). 0) x xs, sum_by_zeros xs)

-- to count pairs by the one side or by the other is the same
pub counted_either_way : {X Y : Type 0} (p : X → Y → Bool) (xs : List X) (ys : List Y) → sum_by (λ x. count_by (p x) ys) xs ≡ sum_by (λ y. count_by (λ x. p x y) xs) ys
counted_either_way p xs [] = sum_by_zeros xs
counted_either_way {X = X} p xs (y ∷ ys) =
    let apart = sum_by_same (λ x. count_by (p x) (y ∷ ys)) (λ x. one_if (p x y) + count_by (p x) ys) xs (each xs) in
    let both = sum_by_plus (λ x. one_if (p x y)) (λ x. count_by (p x) ys) xs in
    omega (arith, apart, both, counted_either_way p xs ys, sum_by-cons (λ y. count_by (λ x. p x y) xs) y ys)
  where
    each : (xs : List X) → AllByRecursion (λ x. count_by (p x) (y ∷ ys) ≡ one_if (p x y) + count_by (p x) ys) xs
    each [] = tt
    each (x ∷ xs) = (sum_by-cons (λ y. one_if (p x y)) y ys, each xs)

-- what holds of every number of a range holds of the list of them
pub all_counting : (P : ℕ → Type 0) (a n : ℕ) → ((x : ℕ) → a ≤ x → x < a + n → P x) → AllByRecursion P (range_with_len a n)
all_counting P a zero each = tt
all_counting P a (suc n) each = (each a (omega arith) (omega arith), all_counting P (a + 1) n (λ x low high. each x (omega arith) (omega arith)))

-- one more or one less, where two tests differ at one place of a range alone
pub count_changed : (p q : ℕ → Bool) (i a n : ℕ) → ((j : ℕ) → (j ≡ i → ⊥) → p j ≡ q j) → a ≤ i → i < a + n →
    count_by q (range_with_len a n) + one_if (p i) ≡ count_by p (range_with_len a n) + one_if (q i)
count_changed p q i a zero same low high = absurd (omega arith)
count_changed p q i a (suc n) same low high =
    ⊎_elim
    (λ e. subst (λ x. count_by q (range_with_len a (suc n)) + one_if (p x) ≡ count_by p (range_with_len a (suc n)) + one_if (q x)) e (here e))
    (λ other. omega (arith, first q, first p, ap one_if (same a other), count_changed p q i (a + 1) n same (omega arith) (omega arith)))
    (cases_eq a i)
  where
    first : (r : ℕ → Bool) → count_by r (range_with_len a (suc n)) ≡ one_if (r a) + count_by r (range_with_len (a + 1) n)
    first r = sum_by-cons (λ x. one_if (r x)) a (range_with_len (a + 1) n)

    later : a ≡ i → count_by q (range_with_len (a + 1) n) ≡ count_by p (range_with_len (a + 1) n)
    later e = sum_by_same (λ x. one_if (q x)) (λ x. one_if (p x)) (range_with_len (a + 1) n) (all_counting _ (a + 1) n (λ x low high. sym (ap one_if (same x (omega arith)))))

    here : a ≡ i → count_by q (range_with_len a (suc n)) + one_if (p a) ≡ count_by p (range_with_len a (suc n)) + one_if (q a)
    here e = omega (arith, first q, first p, later e)

-- a number is once in a range that has it
pub count_itself : (x a n : ℕ) → a ≤ x → x < a + n → count_by (λ l. eqb x l) (range_with_len a n) ≡ 1
count_itself x a n low high =
    let changed = count_changed (λ _. false) (λ l. eqb x l) x a n (λ j other. sym (ne_eqb x j (λ e. other (sym e)))) low high in
    omega (arith, changed, ap one_if (eq-eqb x x refl), sum_by_zeros (range_with_len a n))

-- what one number of a range gives is at most the whole sum
pub at_le_sum : (f : ℕ → ℕ) (n l : ℕ) → l < n → f l ≤ sum_by f (range_with_len 0 n)
at_le_sum f n l h =
    subst (λ x. f x ≤ sum_by f (range_with_len 0 n)) (get_or-range_with_len 0 n l 0 h ∙ zero-add l) (get_or-le-sum_by f (range_with_len 0 n) l 0 (omega (arith, length-range_with_len 0 n)))

pub one_le_count : (p : ℕ → Bool) (n l : ℕ) → l < n → one_if (p l) ≤ count_by p (range_with_len 0 n)
one_le_count p = at_le_sum (λ x. one_if (p x))

-- the range from 0 is the two ranges that meet at a
pub counting_split : (a b n : ℕ) → range_with_len a (b + n) ≡ range_with_len a b ++ range_with_len (a + b) n
counting_split a zero n = ap (λ m. range_with_len a m) (zero-add n) ∙ sym (ap (λ b. range_with_len b n) (add-zero a))
counting_split a (suc b) n =
    ap (λ m. range_with_len a m) (suc-add b n)
    ∙ ap (λ (xs : List ℕ). a ∷ xs) (counting_split (a + 1) b n ∙ ap (λ c. range_with_len (a + 1) b ++ range_with_len c n) (omega arith))
