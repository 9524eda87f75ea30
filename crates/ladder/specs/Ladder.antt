-- The rows of one value each, from 0 up. Assumes nothing.
use Rattle.std.specs.Prelude.{ℕ, true, List, [], ◌∷◌, map}
use Rattle.std.specs.List.{range_with_len}
use Rattle.walk.specs.Rows.{Row}
use Rattle.walk.specs.Meaning.{Meaning}
use Rattle.ladder.specs.declared.Ladder.{Ladder}

-- the rows 0, 1, 2 and so on, of one value each
abbrev pub ladder_rows : ℕ → List Row
ladder_rows rungs = map (λ (v : ℕ). v ∷ []) (range_with_len 0 rungs)

-- a ladder as a walk
abbrev pub ladder_meaning : Ladder → Meaning
ladder_meaning l = record { rows = ladder_rows l.rungs; width = 1; place = l.place; steady = true }
