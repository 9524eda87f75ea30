use Rattle.std.proofs.Common.{refl}
use Rattle.book.specs.State.{state}
use Rattle.book.proofs.WholeLives.{opened_life}
use Rattle.book.proofs.book.Book.open.Goals as goal

pub returns-in-Ok-clause-life : goal.returns-in-Ok-clause-life
returns-in-Ok-clause-life g c =
    let facts = c.in-Ok.ensures in
    (opened_life (g.W.Walk.meaning c.args.walk) c.args.printers _ (state g.W.Walk.meaning (record { walk = c.args.walk; ledger = c.in-Ok.ledger }))
    (g.met.W.Walk.lawful c.args.walk) facts.0 refl refl facts.1 facts.2 facts.3).1
