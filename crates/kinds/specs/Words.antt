-- The laws of `words`, and how many rows its branches have. Assumes nothing.
use Rattle.std.specs.Prelude.{◌≡◌, ℕ, zero, suc, ◌+◌, ◌-◌, ◌<◌, ◌≤◌, cond, List, [], ◌∷◌, length, sum, ◌==◌, ◌≢◌, slice_index, refl}
use Rattle.std.proofs.Common.{sym, ◌∙◌, ⊎_elim, arith}
use Rattle.std.proofs.lemmas.List.{nil_from_length, get_or-set_same, get_or-set_other, get_or_past}
use Rattle.std.proofs.lemmas.List.Sums.{sum_by-set, get_or-le-sum_by}
use Rattle.std.proofs.lemmas.Bool.{eqb-true, eqb-false, ne_eqb, cond_both, cases_lt, cases_eq}
use Rattle.walk.specs.Rows.{Row, row_at}
use Rattle.kinds.specs.Lists.{one_less, words_of, words}
use Rattle.kinds.specs.Laws.{Spells, Apart, Rising, WordsLaws}
use Rattle.kinds.specs.Branches.{apart_one, apart_branches, rising_branches}
use Rattle.kinds.specs.Just.{Just, just_row, just_same, just_empty, just_branches, apart_few, rising_few}
use Rattle.kinds.specs.Occurrences.{counts_as, counts_same, counts_other, occurrences_cons, occurs}

-- the rows of one value less behind the first value v
abbrev pub words_branch : ℕ → List ℕ → ℕ → List Row
words_branch n counts v = cond (slice_index counts v == 0) [] (words_of n (one_less counts v))

-- the branch of a value that has a count
pub branch_counted : (n : ℕ) (counts : List ℕ) (v : ℕ) → 0 < slice_index counts v → words_branch n counts v ≡ words_of n (one_less counts v)
branch_counted n counts v some = rw (ne_eqb (slice_index counts v) 0 (λ e. omega arith))

-- what holds of no rows, and where v has a count of the rows of one less of it, holds of the branch v
pub each_branch : (P : List Row → Type 0) (n : ℕ) (counts : List ℕ) (v : ℕ) → (slice_index counts v ≡ 0 → P []) → (0 < slice_index counts v → P (words_of n (one_less counts v))) → P (words_branch n counts v)
each_branch P n counts v none some = cond_both (slice_index counts v == 0) [] (words_of n (one_less counts v)) P
    (λ e. none (eqb-true (slice_index counts v) 0 e))
    (λ e. some (positive (eqb-false (slice_index counts v) 0 e)))
  where
    positive : (slice_index counts v ≢ 0) → 0 < slice_index counts v
    positive h = omega arith

-- a value with a count is among the counts
pub counted_below : (counts : List ℕ) (v : ℕ) → 0 < slice_index counts v → v < length counts
counted_below counts v h = ⊎_elim (λ l. l) (λ l. absurd (omega (arith, get_or_past counts v 0 l))) (cases_lt v (length counts))

module _ (counts : List ℕ) (v : ℕ) (some : 0 < slice_index counts v) where
  -- one fewer in all
  pub one_less_sum : sum counts ≡ suc (sum (one_less counts v))
  one_less_sum = omega (arith, sum_by-set (λ x. x) counts v (slice_index counts v - 1) 0 (counted_below counts v some))

  -- one fewer of v, and as many of the others
  pub one_less_at : (w : ℕ) → counts_as w v + slice_index (one_less counts v) w ≡ slice_index counts w
  one_less_at w = ⊎_elim same other (cases_eq w v)
    where
      same : w ≡ v → counts_as w v + slice_index (one_less counts v) w ≡ slice_index counts w
      same e = rw e (omega (arith, counts_same v, get_or-set_same counts v (slice_index counts v - 1) 0 (counted_below counts v some)))

      other : (w ≢ v) → counts_as w v + slice_index (one_less counts v) w ≡ slice_index counts w
      other h = omega (arith, counts_other w v (λ e. h (sym e)), get_or-set_other counts v w (slice_index counts v - 1) 0 h)

  -- v goes before what spells one fewer of it
  pub spells_more : (r : Row) → Spells (one_less counts v) r → Spells counts (v ∷ r)
  spells_more r h = (omega (arith, one_less_sum, h.0), λ w. omega (arith, occurrences_cons w v r, h.1 w, one_less_at w))

  -- and parts from it
  pub spells_less : (r : Row) → Spells counts (v ∷ r) → Spells (one_less counts v) r
  spells_less r h = (omega (arith, one_less_sum, h.0), λ w. omega (arith, occurrences_cons w v r, h.1 w, one_less_at w))

-- the first value has a count
pub spells_first : (counts : List ℕ) (v : ℕ) (r : Row) → Spells counts (v ∷ r) → 0 < slice_index counts v
spells_first counts v r h = omega (arith, h.1 v, occurs (v ∷ r) 0 (omega arith))

-- no counts
pub counts_none : (counts : List ℕ) (v : ℕ) → sum counts ≡ 0 → slice_index counts v ≡ 0
counts_none counts v h = ⊎_elim (λ l. omega (arith, get_or-le-sum_by (λ x. x) counts v 0 l)) (get_or_past counts v 0) (cases_lt v (length counts))

-- they are the rows that the counts spell
pub words_spell : (n : ℕ) (counts : List ℕ) → sum counts ≡ n → Just (Spells counts) (words_of n counts)
words_spell zero counts e = just_empty (Spells counts) (sym e, λ v. sym (counts_none counts v e)) (λ r h. nil_from_length r (h.0 ∙ e))
words_spell (suc n) counts e = just_branches (Spells counts) (length counts) (words_branch n counts) Rest
    (λ v h. each_branch (Just (Rest v)) n counts v
    (λ none r. (λ l. absurd (omega (arith, l.1)), λ q. absurd (omega (arith, q.0))))
    (λ some. just_same (Spells (one_less counts v)) (Rest v) (words_of n (one_less counts v)) (λ r. (λ s. (some, s), λ q. q.1)) (words_spell n (one_less counts v) (omega (arith, one_less_sum counts v some)))))
    (λ h. omega (arith, h.0))
    (λ v r h q. spells_more counts v q.0 r q.1)
    (λ v r h. let some = spells_first counts v r h in (counted_below counts v some, (some, spells_less counts v some r h)))
  where
    Rest : ℕ → Row → Type 0
    Rest v r = (0 < slice_index counts v) × Spells (one_less counts v) r

-- no two are the same
pub words_apart : (n : ℕ) (counts : List ℕ) → Apart (words_of n counts)
words_apart zero counts = apart_one []
words_apart (suc n) counts = apart_branches (words_branch n counts) (length counts)
    (λ v h. each_branch Apart n counts v (λ e. apart_few [] (omega arith)) (λ some. words_apart n (one_less counts v)))

-- each precedes all later ones
pub words_rising : (n : ℕ) (counts : List ℕ) → Rising (words_of n counts)
words_rising zero counts = rising_few ([] ∷ []) (omega arith)
words_rising (suc n) counts = rising_branches (words_branch n counts) (length counts)
    (λ v h. each_branch Rising n counts v (λ e. rising_few [] (omega arith)) (λ some. words_rising n (one_less counts v)))

-- the laws together
pub words_laws : (counts : List ℕ) → WordsLaws counts (words counts)
words_laws counts = record { sound = λ r. (words_spell (sum counts) counts refl r).0; complete = λ r. (words_spell (sum counts) counts refl r).1; rising = words_rising (sum counts) counts }

module _ (counts : List ℕ) (i : ℕ) (h : i < length (words counts)) where
  -- each row is spelled by the counts
  pub words_row : Spells counts (row_at (words counts) i)
  words_row = just_row (Spells counts) (words counts) (words_spell (sum counts) counts refl) i h

  -- as wide as the counts say together
  pub words_width : length (row_at (words counts) i) ≡ sum counts
  words_width = words_row.0

  -- of values that have a count
  pub words_below : (k : ℕ) → k < sum counts → slice_index (row_at (words counts) i) k < length counts
  words_below k l =
      let r = row_at (words counts) i in
      counted_below counts (slice_index r k) (omega (arith, words_row.1 (slice_index r k), occurs r k (omega (arith, words_width))))

  -- of bytes, where there are at most 256 counts
  pub words_bytes : length counts ≤ 256 → (k : ℕ) → k < sum counts → slice_index (row_at (words counts) i) k ≤ 255
  words_bytes few k l = omega (arith, words_below k l)
