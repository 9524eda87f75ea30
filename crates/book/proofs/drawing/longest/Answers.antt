use Rattle.std.proofs.Common.{sym, ◌∙◌}
use Rattle.book.proofs.Longest.{longest_found}
use Rattle.book.proofs.drawing.longest.Goals as goal

pub returns : goal.returns
returns c = c.first_with.ensures ∙ longest_found c.args.lanes.now c.in_ok-most_left.field-0 (sym c.most_left.ensures ∙ c.in_ok-most_left.was)
