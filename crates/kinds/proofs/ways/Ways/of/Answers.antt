use Rattle.std.proofs.Common.{◌≡◌, [], ◌∷◌, reverse, sym, ap, ◌∙◌, refl, rules}
use Rattle.std.proofs.lemmas.List.{reverse-append, reverse-reverse}
use Rattle.std.proofs.lemmas.Fn.{fold_over}
use Rattle.std.proofs.lemmas.Iterator.Adapters.{YieldsList-from_rev_slice}
use Rattle.std.specs.Iterator.Adapters.{rev_steps}
use Rattle.std.specs.Slice.Iter.{iter_steps_back}
use Rattle.kinds.specs.Bins.{capped_ways, counts_with}
use Rattle.kinds.specs.WayCounts.{ways_more}
use Rattle.kinds.proofs.Folds.{runs_of}
use Rattle.kinds.proofs.ways.Ways.of.Goals as goal

pub returns : goal.returns
returns c =
    let stocks = c.args.stocks.now in
    fold_over (rev_steps iter_steps_back) (λ y. y.now) _ (λ seen w. w.counts ≡ capped_ways (reverse seen)) _
    (λ seen a x b q so k.
    let more : b.counts ≡ counts_with x.now a.counts = search rules in
    (more ∙ ap (counts_with x.now) so ∙ ways_more x.now (reverse seen) ∙ ap capped_ways (sym (reverse-append seen (x.now ∷ []))), refl))
    c.rev.result (reverse stocks) c.none.result c.fold.result (runs_of (YieldsList-from_rev_slice {s = c.rev.result} stocks cc)) c.none.ensures c.fold.ensures.ran
    ∙ ap capped_ways (reverse-reverse stocks)
