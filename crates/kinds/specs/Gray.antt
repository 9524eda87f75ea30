-- The laws of `gray`. Assumes nothing.
use Rattle.std.specs.Prelude.{◌≡◌, ℕ, suc, ◌-◌, ◌<◌, List, [], ◌∷◌, length, refl}
use Rattle.std.proofs.Common.{◌∙◌, arith}
use Rattle.walk.specs.Rows.{Row, row_at}
use Rattle.walk.proofs.Parity.{odd_suc}
use Rattle.kinds.specs.Lists.{turned, odd, product, gray}
use Rattle.kinds.specs.Laws.{Under, Apart, Stepping, GrayLaws}
use Rattle.kinds.specs.Branches.{before, length_uniform, apart_one, apart_branches, stepping_one, next_branch, length_turned, apart_turned, stepping_turned, turned_meets}
use Rattle.kinds.specs.Just.{just_turned}
use Rattle.kinds.specs.Digits.{JustUnder, under_none, under_branches}

-- the rows of the other radices behind the first value v
abbrev pub gray_branch : List ℕ → ℕ → List Row
gray_branch radices v = turned (odd v) (gray radices)

-- there are as many rows as the product of the radices
pub gray_length : (radices : List ℕ) → length (gray radices) ≡ product radices
gray_length [] = refl
gray_length (radix ∷ radices) = length_uniform (gray_branch radices) radix (product radices) (λ v h. length_turned (odd v) (gray radices) ∙ gray_length radices)

-- they are the rows under the radices
pub gray_under : (radices : List ℕ) → JustUnder radices (gray radices)
gray_under [] = under_none
gray_under (radix ∷ radices) = under_branches radix radices (gray_branch radices) (λ v h. just_turned (Under radices) (odd v) (gray radices) (gray_under radices))

-- no two are the same
pub gray_apart : (radices : List ℕ) → Apart (gray radices)
gray_apart [] = apart_one []
gray_apart (radix ∷ radices) = apart_branches (gray_branch radices) radix (λ v h. apart_turned (odd v) (gray radices) (gray_apart radices))

-- where a first value gives way to the next, nothing else changes
pub gray_seam : (radices : List ℕ) (v w : ℕ) → v < w → 0 < length (gray_branch radices v) → before (gray_branch radices) w ≡ before (gray_branch radices) (suc v)
    → row_at (gray_branch radices v) (length (gray_branch radices v) - 1) ≡ row_at (gray_branch radices w) 0
gray_seam radices v w h l e =
    let some : 0 < length (gray radices) = omega (arith, length_turned (odd v) (gray radices)) in
    let next = next_branch (gray_branch radices) v w h (omega (arith, length_turned (odd (suc v)) (gray radices))) e in
    rw (next, odd_suc v) (turned_meets (odd v) (gray radices) some)

-- neighbours differ in one place
pub gray_stepping : (radices : List ℕ) → Stepping 1 (gray radices)
gray_stepping [] = λ i h. absurd (omega arith)
gray_stepping (radix ∷ radices) = stepping_one (gray_branch radices) radix (λ v h. stepping_turned (odd v) 1 (gray radices) (gray_stepping radices)) (gray_seam radices)

-- the laws together
pub gray_laws : (radices : List ℕ) → GrayLaws radices (gray radices)
gray_laws radices = record { sound = λ r. (gray_under radices r).0; complete = λ r. (gray_under radices r).1; apart = gray_apart radices; stepping = gray_stepping radices }
