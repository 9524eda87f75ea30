use Rattle.std.proofs.Common.{sym, ap, ◌∙◌, ap₂}
use Rattle.book.specs.Histories.{answer, showing}
use Rattle.book.specs.State.{state}
use Rattle.trial.specs.Answers.{told}
use Rattle.trial.specs.Calls.{meant}
use Rattle.trial.proofs.session.Session.perform.Goals as goal

pub returns-in-Take-clause-answer : goal.returns-in-Take-clause-answer
returns-in-Take-clause-answer g c =
    let s = state g.W.Walk.meaning c.args.self.now.book in
    c.showing.ensures ∙ ap (told c.args.self.now.width) (ap₂ showing c.take-taken.ensures.answer c.take-taken.ensures.bytes ∙ sym (ap (λ k. answer s (meant k)) c.in-Take.is))

pub returns-in-Row-clause-answer : goal.returns-in-Row-clause-answer
returns-in-Row-clause-answer g c =
    let s = state g.W.Walk.meaning c.args.self.now.book in
    c.showing-in-Row.ensures ∙ ap (told c.args.self.now.width) (ap₂ showing c.row-found.ensures.answer c.row-found.ensures.bytes ∙ sym (ap (λ k. answer s (meant k)) c.in-Row.is))
