use Rattle.std.proofs.Common.{ap, ◌∙◌, rules}
use Rattle.std.specs.Option.{is_some}
use Rattle.std.proofs.lemmas.Iterator.{YieldsList-from_slice}
use Rattle.kinds.proofs.Folds.{stepped_from_yields_List, taken, taken_checked, taken_each}
use Rattle.kinds.proofs.ranges.sum_within.Goals as goal

pub returns : goal.returns
returns c =
    c.is_some.ensures
    ∙ ap is_some (stepped_from_yields_List _ _ _ _ taken _ (λ b x w q k. search (rules, taken_checked)) c.try_fold.result _ _ c.args.most c.args.list.now c.try_fold.ensures.ran (YieldsList-from_slice c.args.list.now cc))
    ∙ taken_each c.args.most c.args.list.now
