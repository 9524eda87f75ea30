use Rattle.std.proofs.Common.{◌≡◌, vec_items}
use Rattle.text.specs.Coming.{coming}
use Rattle.trial.specs.Calls.{scanned}
use Rattle.trial.proofs.Scans.{also}
use Rattle.trial.proofs.call.scanned.Given as goal

-- the values so far before those to come
abbrev pub invariant-loop-field : goal.invariant-loop-field
invariant-loop-field l =
    (goal.iterator-loop-field).can_next l.field-iterator ×
    (goal.iterator-loop-field).is_finite l.field-iterator ×
    (scanned (coming l.fields) ≡ also (vec_items l.row) (scanned (coming l.field-iterator)))
