use Rattle.std.proofs.Common.{sym, inl, inr, arith}
use Rattle.layers.specs.Pieces.{part_size, part_outside}
use Rattle.layers.proofs.part.PartWalk.find.Goals.{then-label-start-via-then-label-start, then-label-start-via-else-label-start+then-label-start-2}
use Rattle.layers.proofs.part.PartWalk.find.Goals as goal

pub returns-then-label-start : goal.returns-then-label-start
returns-then-label-start g c =
    let self = c.args.self.now in
    let m = g.W.Walk.meaning self.below in
    let lawful = g.met.W.Walk.lawful self.below in
    let all = part_size m lawful self.behind self.ahead in
    sym (part_outside m lawful self.behind self.ahead c.args.row.now c.in_ok-label.label c.in_ok-label.ensures (elim c.then-label-start.branch [
      | then-label-start-via-then-label-start w ↦ inl (omega (arith, w.if-label-start.true))
      | then-label-start-via-else-label-start+then-label-start-2 w ↦ inr (omega (arith, w.if-label-start-2.true, w.size.ensures))
    ]))
