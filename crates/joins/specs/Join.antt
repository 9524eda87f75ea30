-- Two walks joined: each row of the one followed by the rows of the other. Assumes nothing.
use Rattle.std.specs.Prelude.{◌≡◌, ℕ, suc, ◌+◌, ◌-◌, ◌*◌, Bool, true, false, cond, ◌&&◌, List, [], ◌∷◌, ◌++◌, map, is_ok, Ok, Err, Result, ◌==◌, nat_le}
use Rattle.walk.specs.Making.{new_walk}
use Rattle.walk.specs.Meaning.{Meaning, size, standing}
use Rattle.walk.specs.Rows.{Row, turned, odd}
use Rattle.walk.specs.declared.making.MakingFault.TheVariants.{TooManyRows}
use Rattle.walk.specs.declared.making.Refused.{Refused}
use Rattle.joins.specs.declared.fault.JoinFault.{JoinFault}
use Rattle.joins.specs.declared.fault.JoinFault.TheVariants.{Making, TooWide}
use Rattle.joins.specs.declared.join.Join.{Join}
use Rattle.joins.specs.declared.join.Order.{Order}
use Rattle.joins.specs.declared.join.Order.TheVariants.{Odometer, Swing}

-- in `swing` the rows of the right walk come backward where the label in the left walk is odd
abbrev pub swings : Order → Bool
swings Odometer = false
swings Swing = true

-- the rows under the left rows from the label i on
abbrev pub joined_from : Bool → ℕ → List Row → List Row → List Row
joined_from swing i [] rs = []
joined_from swing i (l ∷ ls) rs = map (λ r. l ++ r) (turned (swing && odd i) rs) ++ joined_from swing (suc i) ls rs

-- each left row followed by the right rows
abbrev pub joined_rows : Bool → List Row → List Row → List Row
joined_rows swing ls rs = joined_from swing 0 ls rs

-- the label counted from the other end of n
abbrev pub mirrored : Bool → ℕ → ℕ → ℕ
mirrored back n j = cond back (n - 1 - j) j

-- the label of the left row i followed by the right row j, where there are n right rows
abbrev pub joined_label : Bool → ℕ → ℕ → ℕ → ℕ
joined_label swing n i j = i * n + mirrored (swing && odd i) n j

-- The number of rows of a join. It refuses rows that are too wide, and then more rows than a walk may have.
abbrev pub join_size : Meaning → Meaning → Result ℕ JoinFault
join_size a b = cond (nat_le (a.width + b.width) 64) (cond (nat_le (size a * size b) 4294967295) (Ok (size a * size b)) (Err (Making TooManyRows))) (Err TooWide)

-- a join standing at 0; `swing` is steady if both walks are
abbrev pub join_of : Bool → Meaning → Meaning → Meaning
join_of swing a b = new_walk (joined_rows swing a.rows b.rows) (a.width + b.width) (swing && (a.steady && b.steady))

-- A join stands where its walks stand, or at 0 where there are no left rows.
abbrev pub join_place : Bool → Meaning → Meaning → ℕ
join_place swing a b = cond (size a == 0) 0 (joined_label swing (size b) a.place b.place)

-- Where two walks do not fit, their join has no rows.
abbrev pub joined : Bool → Meaning → Meaning → Meaning
joined swing a b = cond (is_ok (join_size a b)) (standing (join_of swing a b) (join_place swing a b)) (new_walk [] 0 false)

-- what is given where nothing is refused
abbrev pub unless_refused : Result ℕ JoinFault → Meaning → Result Meaning JoinFault
unless_refused (Ok n) m = Ok m
unless_refused (Err fault) m = Err fault

-- what making a join gives
abbrev pub join_made : Bool → Meaning → Meaning → Result Meaning JoinFault
join_made swing a b = unless_refused (join_size a b) (join_of swing a b)

-- what a join means, given what the two walks mean
abbrev pub join_meaning : {L R : Type 0} → (L → Meaning) → (R → Meaning) → Join L R → Meaning
join_meaning left_meaning right_meaning j = joined (swings j.order) (left_meaning j.left) (right_meaning j.right)

-- The maker answers the walk that making gives, or the fault, and with it both walks as they were.
abbrev pub Joins : {L R : Type 0} → (L → Meaning) → (R → Meaning) → Bool → L → R → Result (Join L R) (Refused JoinFault (L × R)) → Type 0
Joins left_meaning right_meaning swing left right (Ok j) =
    join_made swing (left_meaning left) (right_meaning right) ≡ Ok (join_meaning left_meaning right_meaning j)
Joins left_meaning right_meaning swing left right (Err e) =
    (join_made swing (left_meaning left) (right_meaning right) ≡ Err e.fault) × (e.kept.0 ≡ left) × (e.kept.1 ≡ right)
