use Rattle.std.proofs.Common.{length}
use Rattle.kinds.proofs.plain_changes.+write_changes.Given as goal

abbrev pub decreases-write_changes : goal.decreases-write_changes
decreases-write_changes l = length l.tray.now
