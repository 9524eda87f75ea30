use Rattle.std.proofs.Common.{◌≡◌, ◌<◌, false, length, is_some, Some, sym, ◌∙◌, rules}
use Rattle.std.proofs.lemmas.List.{length-set}
use Rattle.book.specs.Lanes.{lane_at}
use Rattle.book.proofs.Accounts.{rehanded}
use Rattle.book.proofs.Draws.{given_at, still_kept}
use Rattle.book.proofs.book.Book.take.Goals as goal

pub invariant_of-self : goal.invariant_of-self
invariant_of-self g c =
    let known : c.args.printer < length c.args.self.now.ledger.lanes.items = search rules in
    let empty : is_some (lane_at c.args.self.now.ledger.lanes.items c.args.printer).hand ≡ false = search rules in
    let counts = given_at c.args.self.now.ledger.waiting.items c.remove.new.self.waiting.items c.args.self.now.ledger.lanes.items c.remove.new.self.lanes.items
    c.args.printer c.in_ok-draw.draw c.index_mut.result.now known empty (sym c.next_draw.ensures ∙ c.in_ok-draw.ensures.ok_part)
    c.remove.ensures.lanes c.remove.ensures.waiting c.index_mut.ensures.value in
    let long = length-set c.remove.new.self.lanes.items c.args.printer (rehanded c.index_mut.result.now (Some c.in_ok-draw.draw.label)) in
    let kept = still_kept c.args.self.now.ledger c.remove.new.self _ counts long c.remove.ensures.bench in
    record { few = kept.0; out = kept.1; room = c.remove.new.self.room }
