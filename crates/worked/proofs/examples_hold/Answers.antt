-- How examples_hold is proved: the definitions compute, and so do the digits of a number. Assumes nothing.
use Rattle.std.proofs.Common.{rules}
use Rattle.std.specs.Fmt.{digits}
use Rattle.worked.proofs.examples_hold.Goals as goal

pub returns : goal.returns
unfolding digits
returns c = search rules
