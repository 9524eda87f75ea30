-- How often values occur in rows. Assumes nothing.
use Rattle.std.specs.Prelude.{◌≡◌, ℕ, zero, suc, ◌+◌, ◌<◌, ◌≤◌, cond, [], ◌∷◌, ◌++◌, length, take, ◌==◌, ◌≢◌, slice_index, refl}
use Rattle.std.proofs.Common.{ap, ⊎_elim, arith}
use Rattle.std.proofs.lemmas.List.Sums.{sum_by-cons, sum_by-append, sum_by-take-le}
use Rattle.std.proofs.lemmas.Bool.{eq-eqb, ne_eqb, cases_eq}
use Rattle.walk.specs.Rows.{Row}
use Rattle.kinds.specs.Laws.{occurrences}

-- 1 for the value v itself, and 0 for any other
abbrev pub counts_as : ℕ → ℕ → ℕ
counts_as v x = cond (x == v) 1 0

-- the value itself counts 1
pub counts_same : (v : ℕ) → counts_as v v ≡ 1
counts_same v = rw (eq-eqb v v refl)

-- another value counts 0
pub counts_other : (v x : ℕ) → (x ≢ v) → counts_as v x ≡ 0
counts_other v x h = rw (ne_eqb x v h)

-- in a row with the value x first
pub occurrences_cons : (v x : ℕ) (r : Row) → occurrences v (x ∷ r) ≡ counts_as v x + occurrences v r
occurrences_cons v x r = sum_by-cons (counts_as v) x r

-- in two rows joined
pub occurrences_append : (v : ℕ) (r s : Row) → occurrences v (r ++ s) ≡ occurrences v r + occurrences v s
occurrences_append v r s = sum_by-append (counts_as v) r s

-- in a row with x put in
pub occurrences_put : (v x : ℕ) (r s : Row) → occurrences v (r ++ (x ∷ s)) ≡ counts_as v x + occurrences v (r ++ s)
occurrences_put v x r s = omega (arith, occurrences_append v r (x ∷ s), occurrences_cons v x s, occurrences_append v r s)

-- in the front of a row
pub occurrences_take : (v n : ℕ) (r : Row) → occurrences v (take n r) ≤ occurrences v r
occurrences_take v n r = sum_by-take-le (counts_as v) r n

-- a value that stands in a row occurs
pub occurs : (r : Row) (k : ℕ) → k < length r → 0 < occurrences (slice_index r k) r
occurs [] k h = absurd (omega arith)
occurs (x ∷ r) zero h = omega (arith, occurrences_cons x x r, counts_same x)
occurs (x ∷ r) (suc k) h = omega (arith, occurrences_cons (slice_index r k) x r, occurs r k (omega arith))

-- a value that occurs stands somewhere
pub found : (v : ℕ) (r : Row) → 0 < occurrences v r → (front : Row) × (back : Row) × (r ≡ front ++ (v ∷ back))
found v [] h = absurd (omega arith)
found v (x ∷ r) h = ⊎_elim (λ e. ([], r, ap (λ y. y ∷ r) e)) (λ other. later (found v r (omega (arith, occurrences_cons v x r, counts_other v x other)))) (cases_eq x v)
  where
    later : (front : Row) × (back : Row) × (r ≡ front ++ (v ∷ back)) → (front : Row) × (back : Row) × (x ∷ r ≡ front ++ (v ∷ back))
    later (front, back, e) = (x ∷ front, back, ap (λ s. x ∷ s) e)

-- before its first occurrence and after it
pub parted : (v : ℕ) (p q : Row) (r s : Row) → occurrences v p ≡ 0 → occurrences v q ≡ 0 → p ++ (v ∷ r) ≡ q ++ (v ∷ s) → (p ≡ q) × (r ≡ s)
parted v [] [] r s hp hq e = (refl, cc e)
parted v [] (y ∷ q) r s hp hq e =
    let same : v ≡ y = cc e in
    absurd (omega (arith, occurrences_cons v y q, ap (counts_as v) same, counts_same v))
parted v (x ∷ p) [] r s hp hq e =
    let same : x ≡ v = cc e in
    absurd (omega (arith, occurrences_cons v x p, ap (counts_as v) same, counts_same v))
parted v (x ∷ p) (y ∷ q) r s hp hq e =
    let first : x ≡ y = cc e in
    let others = parted v p q r s (omega (arith, occurrences_cons v x p)) (omega (arith, occurrences_cons v y q)) (cc e) in
    ((cc (first, others.0)), others.1)
