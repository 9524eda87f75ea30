use Rattle.std.proofs.Common.{◌+◌, ◌*◌, length, get_or, sym, ◌∙◌, ap₂, arith}
use Rattle.std.proofs.lemmas.List.Sums.{sum_by_more}
use Rattle.kinds.specs.Lists.{words}
use Rattle.kinds.specs.WordNodes.{mixings}
use Rattle.kinds.specs.Limits.{counted_over, counted_some, counted_none}
use Rattle.kinds.proofs.WordCounts.{words_more, words_front}
use Rattle.kinds.proofs.multiset.count_words.Goals as goal

pub returns-in_err-rows : goal.returns-in_err-rows
returns-in_err-rows c =
    let counts = c.args.counts.now in
    let i = c.loop-count.count-index in
    let over = counted_none _ c.in_err-rows.ensures in
    let mixed = ap₂ (λ rows some. rows * mixings some (get_or counts i 0)) c.loop-count.invariant.1 c.loop-count.invariant.2 ∙ sym (words_more counts i c.loop-count-test.true) in
    c.from_residual.ensures ∙ sym (counted_over (length (words counts)) (omega (arith, over, mixed, words_front counts (i + 1))))

pub loop-count-preserved : goal.loop-count-preserved
loop-count-preserved c =
    let counts = c.args.counts.now in
    let i = c.loop-count.count-index in
    let told = counted_some c.in_ok-rows.rows _ c.in_ok-rows.ensures in (
      omega (arith, told.0, told.1),
      told.0
          ∙ ap₂ (λ rows some. rows * mixings some (get_or counts i 0)) c.loop-count.invariant.1 c.loop-count.invariant.2
          ∙ sym (words_more counts i c.loop-count-test.true),
      omega (arith, c.loop-count.invariant.2, sum_by_more (λ x. x) counts i 0 c.loop-count-test.true),
    )
