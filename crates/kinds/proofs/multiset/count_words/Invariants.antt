use Rattle.std.proofs.Common.{◌≡◌, ◌≤◌, length, take, sum}
use Rattle.kinds.specs.Lists.{words}
use Rattle.kinds.proofs.multiset.count_words.Given as goal

abbrev pub invariant-loop-count : goal.invariant-loop-count
invariant-loop-count l =
    (l.rows ≤ 4294967295)
    × (l.rows ≡ length (words (take l.count-index l.counts)))
    × (l.some ≡ sum (take l.count-index l.counts))
