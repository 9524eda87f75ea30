-- Where two rows differ, and which row stands at a label. Assumes nothing.
use Rattle.std.proofs.Common.{◌≡◌, ℕ, zero, suc, ◌<◌, ◌≢◌, true, eqb, [], ◌∷◌, length, get_or, sym, refl, ap, subst, ap₂, ⊎_elim, arith}
use Rattle.std.proofs.lemmas.Bool.{cases_eq, cases_Bool, cond-true, cond-false, eq-eqb, ne_eqb, both_ways}
use Rattle.walk.specs.Answers.{span_of}
use Rattle.walk.specs.Meaning.{Meaning, Lawful, row}
use Rattle.walk.specs.Rows.{Row, same_row, lowest, highest}
use Rattle.walk.specs.WalkLaws.{FindLaws, IsLowest, IsHighest, SpanLaws}
use Rattle.walk.proofs.Cases.{found, finds_label, finds_none}
use Rattle.walk.proofs.Differences.{equal_from_same, same_itself}

-- with equal first values the lowest difference is that of the rest
lowest_behind : (x y : ℕ) (xs ys : Row) (i : ℕ) → x ≡ y → IsLowest xs ys i → IsLowest (x ∷ xs) (y ∷ ys) (suc i)
lowest_behind x y xs ys i e rest = record { inside = omega (arith, rest.inside); differ = rest.differ; same = before }
  where
    before : (k : ℕ) → k < suc i → get_or (x ∷ xs) k 0 ≡ get_or (y ∷ ys) k 0
    before zero h = e
    before (suc k) h = rest.same k (omega arith)

-- rows of one width that are not equal have a lowest difference
lowest_stands : (r s : Row) → length r ≡ length s → r ≢ s → IsLowest r s (lowest r s)
lowest_stands [] [] long ne = absurd (ne refl)
lowest_stands [] (y ∷ ys) long ne = absurd (omega arith)
lowest_stands (x ∷ xs) [] long ne = absurd (omega arith)
lowest_stands (x ∷ xs) (y ∷ ys) long ne =
    ⊎_elim
    (λ e.
    subst (IsLowest (x ∷ xs) (y ∷ ys)) (sym (cond-true (eqb x y) (suc (lowest xs ys)) 0 (eq-eqb x y e)))
    (lowest_behind x y xs ys (lowest xs ys) e (lowest_stands xs ys (omega arith) (λ rest. ne (ap₂ (λ v r. v ∷ r) e rest)))))
    (λ other.
    subst (IsLowest (x ∷ xs) (y ∷ ys)) (sym (cond-false (eqb x y) (suc (lowest xs ys)) 0 (ne_eqb x y other)))
    (record { inside = omega arith; differ = other; same = λ k h. absurd (omega arith) }))
    (cases_eq x y)

-- with a difference in the rest the highest one is there
highest_behind : (x y : ℕ) (xs ys : Row) (i : ℕ) → IsHighest xs ys i → IsHighest (x ∷ xs) (y ∷ ys) (suc i)
highest_behind x y xs ys i rest = record { inside = omega (arith, rest.inside); differ = rest.differ; same = behind }
  where
    behind : (k : ℕ) → suc i < k → k < suc (length xs) → get_or (x ∷ xs) k 0 ≡ get_or (y ∷ ys) k 0
    behind zero h l = absurd (omega arith)
    behind (suc k) h l = rest.same k (omega arith) (omega arith)

-- with no difference in the rest it is the first place
highest_first : (x y : ℕ) (xs ys : Row) → x ≢ y → xs ≡ ys → IsHighest (x ∷ xs) (y ∷ ys) 0
highest_first x y xs ys other e = record { inside = omega arith; differ = other; same = behind }
  where
    behind : (k : ℕ) → 0 < k → k < suc (length xs) → get_or (x ∷ xs) k 0 ≡ get_or (y ∷ ys) k 0
    behind zero h l = absurd (omega arith)
    behind (suc k) h l = ap (λ r. get_or r k 0) e

-- rows of one width that are not equal have a highest difference
highest_stands : (r s : Row) → length r ≡ length s → r ≢ s → IsHighest r s (highest r s)
highest_stands [] [] long ne = absurd (ne refl)
highest_stands [] (y ∷ ys) long ne = absurd (omega arith)
highest_stands (x ∷ xs) [] long ne = absurd (omega arith)
highest_stands (x ∷ xs) (y ∷ ys) long ne =
    ⊎_elim
    (λ same.
    let rest = equal_from_same xs ys same in
    subst (IsHighest (x ∷ xs) (y ∷ ys)) (sym (cond-true (same_row xs ys) 0 (suc (highest xs ys)) same)) (highest_first x y xs ys (λ e. ne (ap₂ (λ v r. v ∷ r) e rest)) rest))
    (λ other.
    subst (IsHighest (x ∷ xs) (y ∷ ys)) (sym (cond-false (same_row xs ys) 0 (suc (highest xs ys)) other))
    (highest_behind x y xs ys (highest xs ys) (highest_stands xs ys (omega arith) (λ e. both_ways (same_row xs ys) other (subst (λ r. same_row xs r ≡ true) e (same_itself xs))))))
    (cases_Bool (same_row xs ys))

-- both ends of the change between two rows
pub spans_stand : (r s : Row) → length r ≡ length s → r ≢ s → SpanLaws r s (span_of r s)
spans_stand r s long ne = record { lowest = lowest_stands r s long ne; highest = highest_stands r s long ne }

-- rows and labels of a walk tell one another
pub finds_stand : (m : Meaning) → Lawful m → FindLaws m
finds_stand m lawful = record {
  again = λ label h. finds_label m (row m label) lawful.apart label h refl;
  stands = λ r label e. found m r label (sym e);
  nowhere = λ r none. finds_none m r none;
}
