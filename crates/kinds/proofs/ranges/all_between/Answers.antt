use Rattle.std.proofs.Common.{◌&&◌, leb, sym, ◌∙◌, rules}
use borrow.Author.Tests.{tests}
use Rattle.std.proofs.lemmas.Iterator.{YieldsList-from_slice}
use Rattle.std.proofs.lemmas.Iterator.Search.{all_from_yields_List}
use Rattle.kinds.specs.Ranges.{between_is_all}
use Rattle.kinds.proofs.ranges.all_between.Goals as goal

pub returns : goal.returns
returns c =
    all_from_yields_List (λ x. leb c.args.low x && leb x c.args.high) _ _ _ c.all.ensures.ran (YieldsList-from_slice c.args.list.now cc) (λ x b q k. search (rules, tests))
    ∙ sym (between_is_all c.args.low c.args.high c.args.list.now)
