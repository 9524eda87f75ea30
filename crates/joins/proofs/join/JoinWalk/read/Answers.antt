use Rattle.std.proofs.Common.{◌-◌, length, take, drop, ◌∙◌, arith}
use Rattle.std.proofs.lemmas.List.{take_rest}
use Rattle.joins.specs.Join.{swings}
use Rattle.joins.proofs.JoinCalls.{some_rows, join_reads}
use Rattle.joins.proofs.join.JoinWalk.read.Goals as goal

pub returns : goal.returns
returns g c =
    let self = c.args.self.now in
    let front = c.read.new.tray in
    let w = c.width-width.result in
    let told = join_reads (swings self.order) _ _ (g.met.L.Walk.lawful self.left) (g.met.R.Walk.lawful self.right) (some_rows (swings self.order) _ _ (omega arith)) c.args.tray.now front (take (length front - w) (drop w front)) c.read-2.new.tray w c.width-width.ensures (omega arith)
    c.read.ensures.bytes (take_rest front w) c.read-2.ensures.bytes in
    record { answer = c.read-2.ensures.answer ∙ told.0; bytes = told.1 }
