-- What the tests on rows tell, and where a row stands in a list. Assumes nothing.
use Rattle.std.proofs.Common.{◌≡◌, ℕ, zero, suc, ◌+◌, ◌<◌, true, false, eqb, List, [], ◌∷◌, length, get_or, Some, None, Option, sym, refl, ap, ◌∙◌, subst, ap₂, ⊎_elim, zero-add, arith}
use Rattle.std.specs.Option.{option_map}
use Rattle.std.proofs.lemmas.List.{ext_get_or}
use Rattle.std.proofs.lemmas.Bool.{eqb-true, eqb-false, eq-eqb, ne_eqb, and_parts, and_from, cases_Bool, cond-true, cond-false}
use Rattle.std.proofs.lemmas.Bool.Decides.{nat_tests}
use Rattle.walk.specs.Rows.{Row, row_at, Apart, same_row, label_of, differences, lowest, highest}

-- rows that pass the test are equal
pub equal_from_same : (a b : Row) → same_row a b ≡ true → a ≡ b
equal_from_same [] [] e = refl
equal_from_same [] (y ∷ ys) e = absurd (Rattle.std.proofs.lemmas.Bool.false≢true e)
equal_from_same (x ∷ xs) [] e = absurd (Rattle.std.proofs.lemmas.Bool.false≢true e)
equal_from_same (x ∷ xs) (y ∷ ys) e =
    let p = and_parts (eqb x y) (same_row xs ys) e in
    ap₂ (λ v r. v ∷ r) (eqb-true x y p.0) (equal_from_same xs ys p.1)

-- a row is the same as itself
pub same_itself : (a : Row) → same_row a a ≡ true
same_itself [] = refl
same_itself (x ∷ xs) = and_from (eqb x x) (same_row xs xs) (eq-eqb x x refl) (same_itself xs)

-- rows that are not equal fail the test
pub differ_from_unequal : (a b : Row) → (a ≡ b → ⊥) → same_row a b ≡ false
differ_from_unequal a b ne = ⊎_elim (λ t. absurd (ne (equal_from_same a b t))) (λ f. f) (cases_Bool (same_row a b))

-- the first label at which a row stands is its label
pub label_of_first : (rows : List Row) (r : Row) (i : ℕ) → i < length rows → row_at rows i ≡ r → ((j : ℕ) → j < i → row_at rows j ≡ r → ⊥) → label_of rows r ≡ Some i
label_of_first [] r i h e none = absurd (omega arith)
label_of_first (x ∷ xs) r zero h e none = cond-true (same_row x r) (Some 0) (option_map suc (label_of xs r)) (subst (λ y. same_row x y ≡ true) e (same_itself x))
label_of_first (x ∷ xs) r (suc i) h e none =
    cond-false (same_row x r) (Some 0) (option_map suc (label_of xs r)) (differ_from_unequal x r (none 0 (omega arith)))
    ∙ ap (option_map suc) (label_of_first xs r i (omega arith) e (λ j lt. none (suc j) (omega arith)))

-- a row that stands nowhere has no label
pub label_of_missing : (rows : List Row) (r : Row) → ((i : ℕ) → i < length rows → row_at rows i ≡ r → ⊥) → label_of rows r ≡ None
label_of_missing [] r none = refl
label_of_missing (x ∷ xs) r none =
    cond-false (same_row x r) (Some 0) (option_map suc (label_of xs r)) (differ_from_unequal x r (none 0 (omega arith)))
    ∙ ap (option_map suc) (label_of_missing xs r (λ i lt. none (suc i) (omega arith)))

-- the lowest difference is the place that ends the common front
pub lowest_is : (a b : Row) (i : ℕ) → i < length a → i < length b → ((k : ℕ) → k < i → get_or a k 0 ≡ get_or b k 0) → (get_or a i 0 ≡ get_or b i 0 → ⊥) → lowest a b ≡ i
lowest_is [] b i ha hb below here = absurd (omega arith)
lowest_is (x ∷ xs) [] i ha hb below here = absurd (omega arith)
lowest_is (x ∷ xs) (y ∷ ys) zero ha hb below here = cond-false (eqb x y) (suc (lowest xs ys)) 0 (ne_eqb x y here)
lowest_is (x ∷ xs) (y ∷ ys) (suc i) ha hb below here =
    cond-true (eqb x y) (suc (lowest xs ys)) 0 (eq-eqb x y (below 0 (omega arith)))
    ∙ ap suc (lowest_is xs ys i (omega arith) (omega arith) (λ k lt. below (suc k) (omega arith)) here)

-- rows without a difference have none below their width
pub lowest_none : (a b : Row) → length a ≡ length b → ((k : ℕ) → k < length a → get_or a k 0 ≡ get_or b k 0) → lowest a b ≡ length a
lowest_none [] b long all = refl
lowest_none (x ∷ xs) [] long all = absurd (omega arith)
lowest_none (x ∷ xs) (y ∷ ys) long all =
    cond-true (eqb x y) (suc (lowest xs ys)) 0 (eq-eqb x y (all 0 (omega arith)))
    ∙ ap suc (lowest_none xs ys (omega arith) (λ k lt. all (suc k) (omega arith)))

-- the highest difference is the place behind which all values are equal
pub highest_is : (a b : Row) (i : ℕ) → length a ≡ length b → i < length a → ((k : ℕ) → i < k → k < length a → get_or a k 0 ≡ get_or b k 0) → (get_or a i 0 ≡ get_or b i 0 → ⊥) → highest a b ≡ i
highest_is [] b i long h above here = absurd (omega arith)
highest_is (x ∷ xs) [] i long h above here = absurd (omega arith)
highest_is (x ∷ xs) (y ∷ ys) zero long h above here =
    let rest = ext_get_or 0 xs ys (omega arith) (λ k lt. above (suc k) (omega arith) (omega arith)) in
    cond-true (same_row xs ys) 0 (suc (highest xs ys)) (subst (λ r. same_row xs r ≡ true) rest (same_itself xs))
highest_is (x ∷ xs) (y ∷ ys) (suc i) long h above here =
    cond-false (same_row xs ys) 0 (suc (highest xs ys)) (differ_from_unequal xs ys (λ e. here (ap (λ r. get_or r i 0) e)))
    ∙ ap suc (highest_is xs ys i (omega arith) (omega arith) (λ k lt lk. above (suc k) (omega arith) (omega arith)) here)

-- rows without a difference: 0 stands in
pub highest_none : (a b : Row) → length a ≡ length b → ((k : ℕ) → k < length a → get_or a k 0 ≡ get_or b k 0) → highest a b ≡ 0
highest_none [] b long all = refl
highest_none (x ∷ xs) [] long all = refl
highest_none (x ∷ xs) (y ∷ ys) long all =
    let rest = ext_get_or 0 xs ys (omega arith) (λ k lt. all (suc k) (omega arith)) in
    cond-true (same_row xs ys) 0 (suc (highest xs ys)) (subst (λ r. same_row xs r ≡ true) rest (same_itself xs))

-- two rows with one first value differ in as many places as without it
pub differences_behind : (v : ℕ) (r s : Row) → differences (v ∷ r) (v ∷ s) ≡ differences r s
differences_behind v r s = rw (eq-eqb v v refl) (zero-add (differences r s))

-- two rows with first values that differ differ in one place more than without them
pub differences_first : (v w : ℕ) (r s : Row) → (v ≡ w → ⊥) → differences (v ∷ r) (w ∷ s) ≡ suc (differences r s)
differences_first v w r s h = rw (ne_eqb v w h) (omega arith)

-- a row differs nowhere from itself
pub differences_same : (r : Row) → differences r r ≡ 0
differences_same [] = refl
differences_same (x ∷ xs) = differences_behind x xs xs ∙ differences_same xs

-- the order of two rows does not matter
pub differences_comm : (r s : Row) → differences r s ≡ differences s r
differences_comm [] [] = refl
differences_comm [] (y ∷ ys) = refl
differences_comm (x ∷ xs) [] = refl
differences_comm (x ∷ xs) (y ∷ ys) = ap₂ ◌+◌ (grind (arith, nat_tests)) (differences_comm xs ys)

-- where no two rows are the same, the label at which a row stands is its label
pub label_of_listed : (rows : List Row) (r : Row) (i : ℕ) → Apart rows → i < length rows → row_at rows i ≡ r → label_of rows r ≡ Some i
label_of_listed rows r i apart h e = label_of_first rows r i h e (λ j l same. omega (arith, apart j i (omega arith) h (same ∙ sym e)))

-- a row stands at its label
pub label_of_stands : (rows : List Row) (r : Row) (i : ℕ) → label_of rows r ≡ Some i → (i < length rows) × (row_at rows i ≡ r)
label_of_stands [] r i e = let no : ◌≡◌ {A = ℕ} 0 1 = cc e in absurd (omega arith)
label_of_stands (x ∷ xs) r i e = ⊎_elim here (λ other. further (label_of_stands xs r) (label_of xs r) refl (sym (cond-false (same_row x r) (Some 0) (option_map suc (label_of xs r)) other) ∙ e)) (cases_Bool (same_row x r))
  where
    here : same_row x r ≡ true → (i < suc (length xs)) × (row_at (x ∷ xs) i ≡ r)
    here same =
        let first : i ≡ 0 = cc (e, cond-true (same_row x r) (Some 0) (option_map suc (label_of xs r)) same) in
        (omega arith, ap (row_at (x ∷ xs)) first ∙ equal_from_same x r same)

    further : ((j : ℕ) → label_of xs r ≡ Some j → (j < length xs) × (row_at xs j ≡ r)) → (o : Option ℕ) → label_of xs r ≡ o → option_map suc o ≡ Some i → (i < suc (length xs)) × (row_at (x ∷ xs) i ≡ r)
    further stands None is e' = let no : ◌≡◌ {A = ℕ} 0 1 = cc e' in absurd (omega arith)
    further stands (Some j) is e' =
        let next : i ≡ suc j = cc e' in
        let inner = stands j is in
        (omega (arith, inner.0), ap (row_at (x ∷ xs)) next ∙ inner.1)
