use Rattle.std.proofs.Common.{◌≤◌, [], sym, subst}
use Rattle.std.specs.List.{All}
use Rattle.kinds.specs.WayCounts.{ways_few, ways_none}
use Rattle.kinds.proofs.ways.Ways.none.Goals as goal

pub invariant_of-result : goal.invariant_of-result
invariant_of-result c = record { few = subst (All (λ n. n ≤ 4294967296)) (sym ways_none) (ways_few []) }
