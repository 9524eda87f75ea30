use Rattle.std.proofs.Common.{◌*◌, ap}
use Rattle.kinds.specs.MixedRadix.{front, levels_enter}
use Rattle.kinds.specs.Shapes.{reflects}
use Rattle.kinds.proofs.radix.RadixNodeNode.enter.Goals as goal

pub returns-clause-branch : goal.returns-clause-branch
returns-clause-branch c =
    let self = c.args.self.now in
    levels_enter (reflects self.order) self.levels.now c.args.value _ _ c.requires self.hold c.if-value-radix.false (ap (λ v. v * (front self.levels.now).below) c.from.ensures) c.turns.ensures
