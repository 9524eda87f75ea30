use Rattle.std.proofs.Common.{◌≡◌, ◌++◌, vec_items}
use Rattle.text.specs.Coming.{coming}
use Rattle.book.specs.State.{state}
use Rattle.trial.specs.Lines.{lines_text}
use Rattle.trial.proofs.session.Session.push_lines.Given as goal

-- what is written so far before what the lines to come give
abbrev pub invariant-loop-line : goal.invariant-loop-line
invariant-loop-line g l =
    (goal.iterator-loop-line g).can_next l.line-iterator ×
    (goal.iterator-loop-line g).is_finite l.line-iterator ×
    (l.self.width ≡ l.initial.self.width) ×
    (vec_items l.initial.out ++ lines_text l.initial.self.width (state g.W.Walk.meaning l.initial.self.book) (coming l.lines)
    ≡ vec_items l.out ++ lines_text l.initial.self.width (state g.W.Walk.meaning l.self.book) (coming l.line-iterator))
