use Rattle.std.proofs.Common.{◌≡◌, ℕ, ◌+◌, ◌-◌, ◌*◌, ◌<◌, length, get_or, Some, None, refl, sym, ap, ◌∙◌, arith}
use Rattle.std.specs.List.{remove}
use Rattle.walk.specs.Rows.{label_of}
use Rattle.kinds.specs.Lists.{changes}
use Rattle.kinds.specs.Changes.{position_below}
use Rattle.walk.proofs.Differences.{label_of_stands}
use Rattle.kinds.proofs.PlainChanges.{rest_label, label_small, label_more, label_none, label_without}
use Rattle.kinds.proofs.plain_changes.+unwind.Goals as goal

pub returns-in_err-position : goal.returns-in_err-position
returns-in_err-position t c =
    let row = c.args.row.now in
    c.from_residual.ensures ∙ sym (label_without (length row - 1) row (omega arith) c.in_err-position.ensures)

pub returns-in_err-sweep : goal.returns-in_err-sweep
returns-in_err-sweep t c =
    let row = c.args.row.now in
    let position = c.in_ok-position.position in
    let at = c.in_ok-position.ensures in
    c.from_residual-in_err-sweep.ensures
    ∙ sym (label_none (length row - 1) position row (omega arith) at.0 at.1
    (rest_label row c.take_out.new.row position (get_or row position 0) (length row - 1) None at.0 c.take_out.ensures refl c.in_err-sweep.ensures))

-- the label of what is left
labelled : (t : ℕ) (c : goal.After-swept-place t) → label_of (changes (length c.args.row.now - 1)) (remove c.args.row.now c.in_ok-position.position) ≡ Some c.in_ok-sweep.sweep
labelled t c =
    let row = c.args.row.now in
    let position = c.in_ok-position.position in
    let at = c.in_ok-position.ensures in
    rest_label row c.take_out.new.row position (get_or row position 0) (length row - 1) (Some c.in_ok-sweep.sweep) at.0 c.take_out.ensures refl c.in_ok-sweep.ensures

-- the label is small
small : (t : ℕ) (c : goal.After-swept-place t) → c.in_ok-sweep.sweep * length c.args.row.now + c.swept-place.result < 479001600
small t c =
    let row = c.args.row.now in
    let position = c.in_ok-position.position in
    let sweep = c.in_ok-sweep.sweep in
    let at = c.in_ok-position.ensures in
    let n = length row - 1 in
    let stands = label_of_stands (changes n) (remove row position) sweep (labelled t c) in
    label_small (length row) n sweep c.swept-place.result (omega arith) c.requires stands.0 (omega (arith, c.swept-place.ensures, position_below n sweep position (omega (arith, at.0))))

pub overflow_mul-result : goal.overflow_mul-result
overflow_mul-result t c = omega (arith, small t c)

pub overflow_add-result : goal.overflow_add-result
overflow_add-result t c = omega (arith, small t c)

pub returns : goal.returns
returns t c =
    let row = c.args.row.now in
    let position = c.in_ok-position.position in
    let sweep = c.in_ok-sweep.sweep in
    let at = c.in_ok-position.ensures in
    ap (λ place. Some (sweep * length row + place)) c.swept-place.ensures ∙ sym (label_more (length row - 1) position row (omega arith) at.0 at.1 sweep (labelled t c))
