-- The rows of a walk from one label up to another. Assumes nothing.
use Rattle.std.specs.Prelude.{◌≡◌, ℕ, ◌+◌, ◌-◌, min, cond, ◌&&◌, take, drop, Ok, Err, Result, ◌==◌, nat_le}
use Rattle.walk.specs.Meaning.{Meaning, size}
use Rattle.walk.specs.declared.making.MakingFault.{MakingFault}
use Rattle.walk.specs.declared.making.MakingFault.TheVariants.{OutOfRange}
use Rattle.walk.specs.declared.making.Refused.{Refused}
use Rattle.layers.specs.declared.part.Part.{Part}

-- n rows of a walk from the label `from` on, standing at the label p of these
abbrev pub piece : ℕ → ℕ → ℕ → Meaning → Meaning
piece from n p m = record { rows = take n (drop from m.rows); width = m.width; place = p; steady = m.steady }

-- A part lies around the place of the walk below: so many rows from that place on, as far as there are any,
abbrev pub cut_ahead : ℕ → Meaning → ℕ
cut_ahead ahead m = min ahead (size m - m.place)

-- and, unless there are none of these, so many behind it.
abbrev pub cut_behind : ℕ → ℕ → Meaning → ℕ
cut_behind behind ahead m = cond (cut_ahead ahead m == 0) 0 (min behind m.place)

-- the label below of its first row
abbrev pub cut_start : ℕ → ℕ → Meaning → ℕ
cut_start behind ahead m = m.place - cut_behind behind ahead m

-- the number of its rows
abbrev pub cut_size : ℕ → ℕ → Meaning → ℕ
cut_size behind ahead m = cut_behind behind ahead m + cut_ahead ahead m

-- It stands where the walk below stands, with the label counted from the first row of the part.
abbrev pub cut : ℕ → ℕ → Meaning → Meaning
cut behind ahead m = piece (cut_start behind ahead m) (cut_size behind ahead m) (cut_behind behind ahead m) m

-- the rows from the label `from` up to, not including, `to`
abbrev pub part_made : ℕ → ℕ → Meaning → Result Meaning MakingFault
part_made from to m = cond (nat_le from to && nat_le to (size m)) (Ok (piece from (to - from) 0 m)) (Err OutOfRange)

-- The maker answers the walk that making gives, or the fault, and with it the walk below as it was.
abbrev pub Cuts : {W : Type 0} → (W → Meaning) → W → ℕ → ℕ → Result (Part W) (Refused MakingFault W) → Type 0
Cuts meaning below from to (Ok p) = part_made from to (meaning below) ≡ Ok (cut p.behind p.ahead (meaning p.below))
Cuts meaning below from to (Err e) = (part_made from to (meaning below) ≡ Err e.fault) × (e.kept ≡ below)
