use Rattle.std.proofs.Common.{codes, ap, ◌∙◌}
use Rattle.walk.specs.Meaning.{standing}
use Rattle.listing.proofs.Lines.{lines_more}
use Rattle.listing.proofs.listing.Goals as goal

pub loop-label-preserved : goal.loop-label-preserved
loop-label-preserved g c =
    let kept = c.loop-label.invariant in
    let meaning = g.W.Walk.meaning in (
      ap (λ n. standing n 0) c.push_line.ensures.after ∙ kept.0,
      lines_more (meaning c.args.walk.now) (meaning c.loop-label.walk) _ _ (codes "label,row\n") c.loop-label.label kept.0 kept.1 c.in_ok-push_line.ensures.text,
    )
