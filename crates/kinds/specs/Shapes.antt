-- What a shape means: its rows, their width, and its answer to `steady`. Assumes nothing.
use Rattle.std.specs.Prelude.{◌≡◌, ℕ, Bool, true, false, cond, not, ◌&&◌, ◌||◌, List, [], ◌∷◌, map, length, vec_items, sum, ◌==◌, nat_le, refl}
use Rattle.std.proofs.Common.{arith}
use Rattle.walk.specs.Rows.{Row}
use Rattle.kinds.specs.Bins.{mosts, bins_hold, filled}
use Rattle.kinds.specs.Lists.{product, digits, gray, choose, door, words, changes}
use Rattle.kinds.specs.Ranges.{all_between}
use Rattle.kinds.specs.declared.shape.Bin.{Bin}
use Rattle.kinds.specs.declared.shape.Level.{Level}
use Rattle.kinds.specs.declared.shape.Order.{Order}
use Rattle.kinds.specs.declared.shape.Order.TheVariants.{Rising, Reflected}
use Rattle.kinds.specs.declared.shape.Shape.{Shape}
use Rattle.kinds.specs.declared.shape.Shape.TheVariants.{Radices, Sums, Words, Changes}

-- whether the rows after an odd value come backward
abbrev pub reflects : Order → Bool
reflects Rising = false
reflects Reflected = true

-- the radices of levels
abbrev pub radices : List Level → List ℕ
radices levels = map (λ (l : Level). l.radix) levels

-- each radix with the number of rows of the radices after it
abbrev pub levels_of : List ℕ → List Level
levels_of [] = []
levels_of (r ∷ rs) = record { radix = r; below = product rs } ∷ levels_of rs

-- the rows of mixed radices: after an odd first value backward where they are reflected
abbrev pub mixed : Bool → List ℕ → List Row
mixed reflected rs = cond reflected (gray rs) (digits rs)

-- no radices give one empty row
pub mixed_leaf : (reflected : Bool) (levels : List Level) → length levels ≡ 0 → mixed reflected (radices levels) ≡ [] ∷ []
mixed_leaf true [] none = refl
mixed_leaf false [] none = refl
mixed_leaf true (l ∷ ls) none = absurd (omega arith)
mixed_leaf false (l ∷ ls) none = absurd (omega arith)

-- the rows of n values of which t are 1 and the others 0
abbrev pub chosen : Bool → ℕ → ℕ → List Row
chosen reflected n t = cond reflected (door n t) (choose n t)

-- each radix is from 1 to 255, and has the number of rows of the radices after it
abbrev pub levels_hold : List Level → Bool
levels_hold [] = true
levels_hold (l ∷ ls) = nat_le 1 l.radix && (nat_le l.radix 255 && (l.below == product (radices ls) && levels_hold ls))

-- radices: `digits`, and reflected `gray`; stocks with a sum: `stock`, and reflected `door`
abbrev pub rows_of : Shape → List Row
rows_of (Radices levels order) = mixed (reflects order) (radices (vec_items levels))
rows_of (Sums bins t order) = filled (reflects order) (mosts (vec_items bins)) t
rows_of (Words counts) = words (vec_items counts)
rows_of (Changes n) = changes n

-- how many values the rows of a shape have
abbrev pub width_of : Shape → ℕ
width_of (Radices levels order) = length (vec_items levels)
width_of (Sums bins t order) = length (vec_items bins)
width_of (Words counts) = sum (vec_items counts)
width_of (Changes n) = n

-- reflected rows are steady, and so are `changes`
abbrev pub steady_of : Shape → Bool
steady_of (Radices levels order) = reflects order
steady_of (Sums bins t order) = reflects order
steady_of (Words counts) = false
steady_of (Changes n) = true

-- up to 32 stocks, each up to 32, and a sum up to 32
abbrev pub sums_hold : List Bin → ℕ → Bool
sums_hold bins t = bins_hold bins && (nat_le (length bins) 32 && (all_between 0 32 (mosts bins) && nat_le t 32))

-- the counts in a shape are right, and its numbers within their ranges; reflected stocks are all 1
abbrev pub shape_holds : Shape → Bool
shape_holds (Radices levels order) = nat_le (length (vec_items levels)) 32 && levels_hold (vec_items levels)
shape_holds (Sums bins t order) = (not (reflects order) || all_between 1 1 (mosts (vec_items bins))) && sums_hold (vec_items bins) t
shape_holds (Words counts) = nat_le (length (vec_items counts)) 32 && nat_le (sum (vec_items counts)) 32
shape_holds (Changes n) = nat_le n 12
