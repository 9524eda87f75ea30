use Rattle.std.proofs.Common.{◌∙◌, ap₂, arith}
use Rattle.joins.specs.Join.{swings, joined}
use Rattle.walk.proofs.Cases.{not_both, seek_in}
use Rattle.joins.proofs.JoinCalls.{some_rows, pair_of, join_seek}
use Rattle.joins.proofs.join.JoinWalk.seek.Goals as goal

-- the left walk goes to every label that it has
pub returns-in_err-seek : goal.returns-in_err-seek
returns-in_err-seek g c =
    let self = c.args.self.now in
    let swing = swings self.order in
    let a = g.L.Walk.meaning self.left in
    let b = g.R.Walk.meaning self.right in
    let pair = pair_of swing a b (some_rows swing a b (omega arith)) c.size-n.result c.args.label c.under-j.result c.size-n.ensures (omega arith) c.under-j.ensures in
    absurd (not_both _ _ c.in_err-seek.ensures.answer (seek_in a _ pair.0).0)

pub returns : goal.returns
returns g c =
    let self = c.args.self.now in
    let swing = swings self.order in
    let a = g.L.Walk.meaning self.left in
    let b = g.R.Walk.meaning self.right in
    let rows = some_rows swing a b (omega arith) in
    let pair = pair_of swing a b rows c.size-n.result c.args.label c.under-j.result c.size-n.ensures (omega arith) c.under-j.ensures in
    let goes = join_seek swing a b (g.met.L.Walk.lawful self.left) (g.met.R.Walk.lawful self.right) rows _ c.under-j.result c.args.label pair.0 pair.1 pair.2 in
    record { answer = c.seek-2.ensures.answer ∙ goes.0; after = ap₂ (joined swing) c.seek.ensures.after c.seek-2.ensures.after ∙ goes.1 }
