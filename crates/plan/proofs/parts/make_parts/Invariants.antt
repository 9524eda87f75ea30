use Rattle.std.proofs.Common.{◌≡◌, ◌+◌, ◌≤◌, length, vec_items}
use Rattle.text.specs.Coming.{coming}
use Rattle.plan.specs.Format.{each, entry_read, numbered, line_made, parts_made}
use Rattle.plan.specs.Reading.{meanings}
use Rattle.plan.proofs.Gathers.{also}
use Rattle.plan.proofs.parts.make_parts.Given as goal

-- at most as many lines as numbers for them, and the parts made so far before those to come
abbrev pub invariant-loop-line : goal.invariant-loop-line
invariant-loop-line l =
    let it = l.line-iterator in
    (goal.iterator-loop-line).can_next it ×
    (goal.iterator-loop-line).is_finite it ×
    (it.a.end ≡ 5) ×
    (length (coming it.b) + it.a.start ≤ 5) ×
    (parts_made (coming l.initial.lines) ≡ also (meanings (vec_items l.made)) (each line_made (numbered it.a.start (coming it.b))))

-- the numbers read so far before those to come
abbrev pub invariant-loop-piece : goal.invariant-loop-piece
invariant-loop-piece l =
    (goal.iterator-loop-piece).can_next l.piece-iterator ×
    (goal.iterator-loop-piece).is_finite l.piece-iterator ×
    (each entry_read (coming l.head.entries) ≡ also (vec_items l.list) (each entry_read (coming l.piece-iterator)))
