use Rattle.std.proofs.Common.{◌-◌, length, set, ◌∙◌}
use Rattle.std.proofs.lemmas.List.{take_rest}
use Rattle.kinds.proofs.PlainChanges.{written_end, turned_in}
use Rattle.kinds.proofs.plain_changes.put_in.Goals as goal

pub returns : goal.returns
returns c =
    let row = c.args.row.now in
    let at = c.args.at in
    let value = c.args.value in
    let written = set row (length row - 1) value in
    written_end at written _ ∙ turned_in row at value _ _ c.requires (take_rest written at) c.rotate_right.ensures.after
