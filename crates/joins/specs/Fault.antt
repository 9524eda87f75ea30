-- Why two walks could not be joined. Assumes nothing.
use Rattle.std.specs.Prelude.{ℕ, Some, Option}
use Rattle.walk.specs.Making.{making_number}
use Rattle.joins.specs.declared.fault.JoinFault.{JoinFault}
use Rattle.joins.specs.declared.fault.JoinFault.TheVariants.{Making, TooWide}

-- The number by which a fault is told.
abbrev pub join_number : JoinFault → Option ℕ
join_number (Making fault) = making_number fault
join_number TooWide = Some 3
