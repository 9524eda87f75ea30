use Rattle.std.proofs.Common.{[], ◌∷◌, ◌++◌, is_ok, ap, ◌∙◌, arith}
use Rattle.std.proofs.ResultArms.{chosen}
use Rattle.kinds.specs.Bins.{counts_with}
use Rattle.kinds.specs.Radices.{between_mid}
use Rattle.kinds.specs.WayCounts.{ways_more, next_stock, bins_more}
use Rattle.kinds.proofs.ways.bins_of.Goals as goal

pub overflow_cast-most : goal.overflow_cast-most
overflow_cast-most c =
    let (done, split, counts, bins) = c.loop-most.invariant.2 in
    let here = next_stock c.args.stocks.now _ _ c.in-Some.most.now done split c.in-Some.ensures.steps in
    omega (arith, (between_mid 0 32 c.args.stocks.now _ c.in-Some.most.now done here c.requires).1)

pub loop-most-preserved : goal.loop-most-preserved
loop-most-preserved c =
    let (done, split, counts, bins) = c.loop-most.invariant.2 in
    let most = c.in-Some.most.now in
    let here = next_stock c.args.stocks.now _ _ most done split c.in-Some.ensures.steps in
    let pushed = chosen _ _ _ _ c.push.ensures.items (ap is_ok c.in_ok-push.was) in
    let table = c.loop-most.behind.counts in (
      tt,
      tt,
      (
        most ∷ done,
        here,
        c.with-behind.ensures ∙ ap (counts_with most) counts ∙ ways_more most done,
        pushed ∙ ap (λ bs. bs ++ (record { most = most; ways = table } ∷ [])) bins ∙ bins_more most done table counts,
      ),
    )
