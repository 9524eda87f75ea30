use Rattle.std.proofs.Common.{sym, ◌∙◌}
use Rattle.layers.specs.Reversed.{reverse_read}
use Rattle.layers.proofs.reverse.ReverseWalk.read.Goals as goal

pub returns-clause-bytes : goal.returns-clause-bytes
returns-clause-bytes g c = c.read.ensures.bytes ∙ sym (reverse_read (g.W.Walk.meaning c.args.self.now.below) (g.met.W.Walk.lawful c.args.self.now.below) c.args.tray.now).1
