-- The laws of `digits`, and what holds of any list of just the rows under given radices. Assumes nothing.
use Rattle.std.specs.Prelude.{◌≡◌, ℕ, suc, ◌<◌, ◌≤◌, List, [], ◌∷◌, length, slice_index, refl}
use Rattle.std.proofs.Common.{ap, arith}
use Rattle.std.proofs.lemmas.List.{nil_from_length}
use Rattle.walk.specs.Rows.{Row, row_at}
use Rattle.kinds.specs.Lists.{branches, product, digits}
use Rattle.kinds.specs.Laws.{Under, Apart, Rising, DigitsLaws}
use Rattle.kinds.specs.Branches.{length_uniform, apart_one, apart_branches, rising_branches}
use Rattle.kinds.specs.Just.{Just, below_suc, just_row, just_empty, just_branches}

-- just the rows with each value below its radix
abbrev pub JustUnder : List ℕ → List Row → Type 0
JustUnder radices rows = Just (Under radices) rows

-- a value below its radix goes before a row
pub under_more : (radix v : ℕ) (radices : List ℕ) (r : Row) → v < radix → Under radices r → Under (radix ∷ radices) (v ∷ r)
under_more radix v radices r h u = (ap suc u.0, below_suc (length radices) (λ k. slice_index (v ∷ r) k < slice_index (radix ∷ radices) k) h u.1)

-- and parts from it
pub under_parts : (radix v : ℕ) (radices : List ℕ) (r : Row) → Under (radix ∷ radices) (v ∷ r) → (v < radix) × Under radices r
under_parts radix v radices r u = (u.1 0 (omega arith), (omega (arith, u.0), λ k h. u.1 (suc k) (omega arith)))

-- the empty row alone is under no radices
pub under_none : JustUnder [] ([] ∷ [])
under_none = just_empty (Under []) (refl, λ k h. absurd (omega arith)) (λ r u. nil_from_length r u.0)

-- where each branch has just the rows under the other radices, the branches have just those under all
pub under_branches : (radix : ℕ) (radices : List ℕ) (f : ℕ → List Row) → ((v : ℕ) → v < radix → JustUnder radices (f v)) → JustUnder (radix ∷ radices) (branches radix f)
under_branches radix radices f each =
    just_branches (Under (radix ∷ radices)) radix f (λ v. Under radices) each (λ u. omega (arith, u.0)) (λ v r. under_more radix v radices r) (λ v r. under_parts radix v radices r)

-- just the rows under the radices: what each row then is
module _ (radices : List ℕ) (rows : List Row) (just : JustUnder radices rows) (i : ℕ) (h : i < length rows) where
  -- under the radices
  pub row_under : Under radices (row_at rows i)
  row_under = just_row (Under radices) rows just i h

  -- as wide as there are radices
  pub width_under : length (row_at rows i) ≡ length radices
  width_under = row_under.0

  -- of bytes, where each radix is at most 256
  pub bytes_under : ((k : ℕ) → k < length radices → slice_index radices k ≤ 256) → (k : ℕ) → k < length radices → slice_index (row_at rows i) k ≤ 255
  bytes_under small k l = omega (arith, row_under.1 k l, small k l)

-- there are as many rows as the product of the radices
pub digits_length : (radices : List ℕ) → length (digits radices) ≡ product radices
digits_length [] = refl
digits_length (radix ∷ radices) = length_uniform (λ v. digits radices) radix (product radices) (λ v h. digits_length radices)

-- they are the rows under the radices
pub digits_under : (radices : List ℕ) → JustUnder radices (digits radices)
digits_under [] = under_none
digits_under (radix ∷ radices) = under_branches radix radices (λ v. digits radices) (λ v h. digits_under radices)

-- no two are the same
pub digits_apart : (radices : List ℕ) → Apart (digits radices)
digits_apart [] = apart_one []
digits_apart (radix ∷ radices) = apart_branches (λ v. digits radices) radix (λ v h. digits_apart radices)

-- each precedes all later ones
pub digits_rising : (radices : List ℕ) → Rising (digits radices)
digits_rising [] = λ i j h l. absurd (omega arith)
digits_rising (radix ∷ radices) = rising_branches (λ v. digits radices) radix (λ v h. digits_rising radices)

-- the laws together
pub digits_laws : (radices : List ℕ) → DigitsLaws radices (digits radices)
digits_laws radices = record { sound = λ r. (digits_under radices r).0; complete = λ r. (digits_under radices r).1; rising = digits_rising radices }
