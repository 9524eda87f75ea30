use Rattle.std.proofs.Common.{◌∙◌}
use Rattle.std.proofs.lemmas.List.{take_rest}
use Rattle.kinds.proofs.PlainChanges.{written_end, turned_out}
use Rattle.kinds.proofs.plain_changes.take_out.Goals as goal

pub returns : goal.returns
returns c =
    let row = c.args.row.now in
    let at = c.args.at in
    written_end at row _ ∙ turned_out row at _ _ c.requires (take_rest row at) c.rotate_left.ensures.after
