use Rattle.std.proofs.Common.{◌≡◌, ◌*◌, ◌∙◌, ap, rules, arith}
use Rattle.kinds.specs.Counts.{counted}
use Rattle.kinds.specs.Lists.{product}
use Rattle.kinds.proofs.Folds.{stepped_from_yields_List}
use Rattle.kinds.proofs.Products.{multiplied, multiplied_checked, multiplied_each}
use Rattle.kinds.proofs.levels.count_product.Goals as goal

pub returns : goal.returns
returns g c list gives all =
    let one : 1 * product list ≡ product list = omega arith in
    stepped_from_yields_List _ g.I.Iterator.next_gives (λ x. x) _ multiplied _ (λ b x w q k. search (rules, multiplied_checked)) c.try_fold.result _ _ 1 list c.try_fold.ensures.ran (record { runs = gives })
    ∙ multiplied_each 1 list (omega arith) all
    ∙ ap counted one
