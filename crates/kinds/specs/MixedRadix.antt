-- The branches of mixed radices, by the counts in their levels. Assumes nothing.
use Rattle.std.specs.Prelude.{◌≡◌, ℕ, ◌*◌, ◌/◌, ◌%◌, ◌<◌, ◌≤◌, Bool, true, false, ◌&&◌, List, [], ◌∷◌, length, ◌≢◌, slice_index_or, refl}
use Rattle.std.proofs.Common.{sym, ap, subst, subst₂, ◌∙◌, le_of_lt, mul-le-mul_right, arith}
use Rattle.std.proofs.lemmas.Bool.{and_parts, leb-true, eqb-true}
use Rattle.std.proofs.lemmas.Nat.{div_below}
use Rattle.walk.specs.Rows.{Row, row_at}
use Rattle.kinds.specs.Lists.{branches, turned, odd, product}
use Rattle.kinds.specs.Shapes.{radices, mixed, levels_hold}
use Rattle.kinds.specs.Tree.{Stands}
use Rattle.kinds.specs.declared.shape.Level.{Level}
use Rattle.kinds.specs.Branches.{before, length_uniform, length_turned, row_uniform}
use Rattle.kinds.specs.Digits.{digits_length}
use Rattle.kinds.specs.Fronts.{rest_of, rest_is, rest_length}
use Rattle.kinds.specs.Gray.{gray_length}
use Rattle.kinds.specs.Entering.{branch_stands, branch_outside}

-- what the first level says
pub record First (l : Level) (ls : List Level) : Type 0 where
  pub some : 1 ≤ l.radix
  pub byte : l.radix ≤ 255
  pub counts : l.below ≡ product (radices ls)
  pub rest : levels_hold ls ≡ true

pub first_level : (l : Level) (ls : List Level) → levels_hold (l ∷ ls) ≡ true → First l ls
first_level l ls hold =
    let a = and_parts _ _ hold in
    let b = and_parts _ _ a.1 in
    let c = and_parts _ _ b.1 in
    record { some = leb-true 1 l.radix a.0; byte = leb-true l.radix 255 b.0; counts = eqb-true _ _ c.0; rest = c.1 }

-- mixed radices have as many rows as the product of the radices
pub mixed_length : (reflected : Bool) (rs : List ℕ) → length (mixed reflected rs) ≡ product rs
mixed_length true rs = gray_length rs
mixed_length false rs = digits_length rs

-- no radix is 0, so there are rows
pub some_rows : (levels : List Level) → levels_hold levels ≡ true → 1 ≤ product (radices levels)
some_rows [] hold = omega arith
some_rows (l ∷ ls) hold =
    let first = first_level l ls hold in
    omega (arith, some_rows ls first.rest, mul-le-mul_right (product (radices ls)) first.some)

-- the rows behind a first value v
abbrev branch : Bool → List ℕ → ℕ → List Row
branch reflected rs v = turned (reflected && odd v) (mixed reflected rs)

-- the rows of the first radix and the others, as branches
mixed_branches : (reflected : Bool) (radix : ℕ) (rs : List ℕ) → mixed reflected (radix ∷ rs) ≡ branches radix (branch reflected rs)
mixed_branches true radix rs = refl
mixed_branches false radix rs = refl

-- behind each first value there are as many rows
branch_length : (reflected : Bool) (rs : List ℕ) (v : ℕ) → length (branch reflected rs v) ≡ product rs
branch_length reflected rs v = length_turned (reflected && odd v) (mixed reflected rs) ∙ mixed_length reflected rs

module _ (reflected : Bool) (l : Level) (ls : List Level) (hold : levels_hold (l ∷ ls) ≡ true) where
  -- the branch of a value below the radix
  pub radix_enters : (v : ℕ) → v < l.radix → Stands (mixed reflected (radices (l ∷ ls))) (v ∷ []) (record { from = v * l.below; count = l.below; backward = reflected && odd v }) (mixed reflected (radices ls))
  radix_enters v lt =
      let rs = radices ls in
      let counts = (first_level l ls hold).counts in
      let from : before (branch reflected rs) v ≡ v * l.below = length_uniform (branch reflected rs) v (product rs) (λ w _. branch_length reflected rs w) ∙ ap (λ n. v * n) (sym counts) in
      let count : length (mixed reflected rs) ≡ l.below = mixed_length reflected rs ∙ sym counts in
      subst₂ (λ a n. Stands (mixed reflected (radices (l ∷ ls))) (v ∷ []) (record { from = a; count = n; backward = reflected && odd v }) (mixed reflected rs)) from count
      (subst (λ rows. Stands rows (v ∷ []) (record { from = before (branch reflected rs) v; count = length (mixed reflected rs); backward = reflected && odd v }) (mixed reflected rs))
      (sym (mixed_branches reflected l.radix rs))
      (branch_stands (branch reflected rs) l.radix v (reflected && odd v) (mixed reflected rs) lt refl))

  -- no row begins with a larger value
  pub radix_outside : (v : ℕ) → l.radix ≤ v → (i : ℕ) (r : Row) → i < length (mixed reflected (radices (l ∷ ls))) → row_at (mixed reflected (radices (l ∷ ls))) i ≢ v ∷ r
  radix_outside v out =
      subst (λ rows. (i : ℕ) (r : Row) → i < length rows → row_at rows i ≢ v ∷ r) (sym (mixed_branches reflected l.radix (radices ls)))
      (branch_outside (branch reflected (radices ls)) l.radix v out)

  -- the first value of the row at a label
  pub radix_picks : (label : ℕ) → label < length (mixed reflected (radices (l ∷ ls))) → (label / l.below < l.radix) × ((r : Row) × (row_at (mixed reflected (radices (l ∷ ls))) label ≡ (label / l.below) ∷ r))
  radix_picks label lt =
      let rs = radices ls in
      let first = first_level l ls hold in
      let some : 0 < l.below = subst (λ n. 0 < n) (sym first.counts) (some_rows ls first.rest) in
      let inside : label < l.radix * l.below = subst (λ n. label < n) (mixed_length reflected (l.radix ∷ rs) ∙ ap (λ n. l.radix * n) (sym first.counts)) lt in (
        div_below label l.below l.radix some inside,
        (
          row_at (branch reflected rs (label / l.below)) (label % l.below),
          ap (λ rows. row_at rows label) (mixed_branches reflected l.radix rs)
              ∙ row_uniform (branch reflected rs) l.radix l.below label (λ v _. branch_length reflected rs v ∙ sym first.counts) some inside,
        ),
      )

-- a level for numbers that no place has
abbrev no_level : Level
no_level = record { radix = 0; below = 0 }

-- the first level of a list that has one
abbrev pub front : List Level → Level
front levels = slice_index_or levels 0 no_level

-- with the first level taken off, the others still hold
pub rest_holds : (levels : List Level) → 0 < length levels → levels_hold levels ≡ true → levels_hold (rest_of levels) ≡ true
rest_holds [] some hold = absurd (omega arith)
rest_holds (l ∷ ls) some hold = ap levels_hold (rest_is l ls) ∙ (first_level l ls hold).rest

-- and have no more rows than all
pub rest_few : (levels : List Level) (cap : ℕ) → 0 < length levels → levels_hold levels ≡ true → product (radices levels) ≤ cap → product (radices (rest_of levels)) ≤ cap
rest_few [] cap some hold few = absurd (omega arith)
rest_few (l ∷ ls) cap some hold few =
    subst (λ rest. product (radices rest) ≤ cap) (sym (rest_is l ls))
    (omega (arith, mul-le-mul_right (product (radices ls)) (first_level l ls hold).some))

-- the rows before a branch are some of all rows
pub before_few : (levels : List Level) (v cap : ℕ) → 0 < length levels → levels_hold levels ≡ true → v < (front levels).radix → product (radices levels) ≤ cap → v * (front levels).below ≤ cap
before_few [] v cap some hold lt few = absurd (omega arith)
before_few (l ∷ ls) v cap some hold lt few =
    omega (arith, mul-le-mul_right l.below (le_of_lt lt), ap (λ n. l.radix * n) (first_level l ls hold).counts)

-- the branch of a value below the first radix
pub levels_enter : (reflected : Bool) (levels : List Level) (v from : ℕ) (back : Bool) → 0 < length levels → levels_hold levels ≡ true → v < (front levels).radix → from ≡ v * (front levels).below → back ≡ (reflected && odd v) → Stands (mixed reflected (radices levels)) (v ∷ []) (record { from = from; count = (front levels).below; backward = back }) (mixed reflected (radices (rest_of levels)))
levels_enter reflected [] v from back some hold lt before turns = absurd (omega arith)
levels_enter reflected (l ∷ ls) v from back some hold lt before turns =
    rw (before, turns)
    (subst (λ rest. Stands (mixed reflected (radices (l ∷ ls))) (v ∷ []) (record { from = v * l.below; count = l.below; backward = reflected && odd v }) (mixed reflected (radices rest)))
    (sym (rest_is l ls)) (radix_enters reflected l ls hold v lt))

-- no branch for a larger value
pub levels_outside : (reflected : Bool) (levels : List Level) (v : ℕ) → 0 < length levels → levels_hold levels ≡ true → (front levels).radix ≤ v → (i : ℕ) (r : Row) → i < length (mixed reflected (radices levels)) → row_at (mixed reflected (radices levels)) i ≢ v ∷ r
levels_outside reflected [] v some hold out = absurd (omega arith)
levels_outside reflected (l ∷ ls) v some hold out = radix_outside reflected l ls hold v out

-- the count of the first level is a divisor
pub levels_some : (levels : List Level) → 0 < length levels → levels_hold levels ≡ true → 0 < (front levels).below
levels_some [] some hold = absurd (omega arith)
levels_some (l ∷ ls) some hold = let level = first_level l ls hold in subst (λ n. 0 < n) (sym level.counts) (some_rows ls level.rest)

-- by it a label is taken apart
pub record Picks (reflected : Bool) (levels : List Level) (label : ℕ) : Type 0 where
  pub byte : label / (front levels).below ≤ 255
  pub first : (r : Row) × (row_at (mixed reflected (radices levels)) label ≡ (label / (front levels).below) ∷ r)

pub levels_pick : (reflected : Bool) (levels : List Level) (label : ℕ) → 0 < length levels → levels_hold levels ≡ true → label < length (mixed reflected (radices levels)) → Picks reflected levels label
levels_pick reflected [] label some hold lt = absurd (omega arith)
levels_pick reflected (l ∷ ls) label some hold lt =
    let picked = radix_picks reflected l ls hold label lt in
    record { byte = omega (arith, (first_level l ls hold).byte, picked.0); first = picked.1 }

-- what a step to the levels behind the first keeps
pub ruleset entering = (rest_holds, rest_few, before_few, levels_outside, rest_length)
