-- The rows of a walk, backward. Assumes nothing.
use Rattle.std.specs.Prelude.{◌-◌, reverse}
use Rattle.walk.specs.Meaning.{Meaning, size}

-- It stands where the walk below stands, with the label counted from the other end, or at 0 where there are no rows.
abbrev pub reversed : Meaning → Meaning
reversed m = record { rows = reverse m.rows; width = m.width; place = size m - 1 - m.place; steady = m.steady }
