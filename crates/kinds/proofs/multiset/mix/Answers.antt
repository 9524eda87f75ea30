use Rattle.std.proofs.Common.{◌≡◌, ◌*◌, ◌+◌, refl, sym, ap, ◌∙◌, mul-one, rules, arith}
use Rattle.std.proofs.lemmas.Iterator.{YieldsList-from_range}
use Rattle.kinds.specs.Counts.{counted}
use Rattle.kinds.specs.Limits.{counted_converted}
use Rattle.kinds.specs.WordNodes.{mixings}
use Rattle.kinds.proofs.Folds.{stepped_from_yields_List}
use Rattle.kinds.proofs.WordCounts.{mixings_none, mixed, mixed_each}
use Rattle.kinds.proofs.multiset.mix.Goals as goal

pub returns : goal.returns
returns c =
    let rows = c.args.rows in
    let some = c.args.some in
    let others = c.args.others in
    let start : rows ≡ rows * mixings some 0 = sym (ap (λ n. rows * n) (mixings_none some) ∙ mul-one rows) in
    let all : 0 + others ≡ others = omega arith in
    stepped_from_yields_List _ _ (λ x. x) _ (mixed some) _ (λ b x w q k. search (rules, counted_converted)) c.try_fold.result _ _ rows _ c.try_fold.ensures.ran (YieldsList-from_range 0 others others refl (omega arith))
    ∙ mixed_each some rows others 0 rows start (omega (arith, c.ranges.rows)) ∙ ap (λ n. counted (rows * mixings some n)) all
