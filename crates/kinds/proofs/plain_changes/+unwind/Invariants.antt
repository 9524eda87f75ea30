use Rattle.std.proofs.Common.{length}
use Rattle.kinds.proofs.plain_changes.+unwind.Given as goal

abbrev pub decreases-unwind : goal.decreases-unwind
decreases-unwind l = length l.row.now
