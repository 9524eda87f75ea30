use Rattle.std.proofs.Common.{◌≤◌, min, get_or, sym, ap, ◌∙◌, arith}
use Rattle.kinds.specs.RowSums.{front, before_read, node_enters, node_empty}
use Rattle.kinds.proofs.sums.StockNodeNode.enter.Goals as goal

pub returns-then-count-eq0-clause-branch : goal.returns-then-count-eq0-clause-branch
returns-then-count-eq0-clause-branch c =
    let self = c.args.self.now in
    let read = ap (λ i. get_or (front self.bins.now).ways i 0) c.from-behind.ensures in
    node_empty self c.requires c.args.value (omega (arith, c.min.ensures, c.if-value-min.false)) (sym read ∙ c.if-count-eq0.true)

pub returns-clause-branch : goal.returns-clause-branch
returns-clause-branch c =
    let self = c.args.self.now in
    let within : c.args.value ≤ min (front self.bins.now).most self.left = omega (arith, c.min.ensures, c.if-value-min.false) in
    let before = before_read self c.requires c.args.value _ _ (omega arith) (omega arith) in
    let read = ap (λ i. get_or (front self.bins.now).ways i 0) c.from-behind.ensures in
    node_enters self c.requires c.args.value _ _ _ within (c.total-from.ensures ∙ before) read c.turns.ensures
