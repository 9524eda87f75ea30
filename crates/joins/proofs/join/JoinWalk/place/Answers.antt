use Rattle.std.proofs.Common.{sym, ◌∙◌, arith}
use Rattle.joins.specs.Join.{swings}
use Rattle.joins.proofs.JoinCalls.{some_rows, right_inside}
use Rattle.joins.specs.JoinLaws.{join_lawful}
use Rattle.joins.proofs.join.JoinWalk.place.Goals as goal

pub returns-then-rows-eq0 : goal.returns-then-rows-eq0
returns-then-rows-eq0 g c =
    let self = c.args.self.now in
    sym ((join_lawful (swings self.order) _ _ (g.met.L.Walk.lawful self.left) (g.met.R.Walk.lawful self.right)).inside.1 (sym c.rows.ensures ∙ c.if-rows-eq0.true))

pub label-requires-clause-right : goal.label-requires-clause-right
label-requires-clause-right g c =
    let self = c.args.self.now in
    omega (arith, right_inside (swings self.order) _ _ (g.met.L.Walk.lawful self.left) (g.met.R.Walk.lawful self.right) (some_rows (swings self.order) _ _ (omega arith)))
