use Rattle.std.proofs.Common.{◌≡◌, ℕ, List, ◌++◌, reverse, vec_items}
use Rattle.std.specs.Iterator.Adapters.{rev_source}
use Rattle.std.specs.Slice.Iter.{iter_rest}
use Rattle.kinds.specs.Bins.{capped_ways, bins_of}
use Rattle.kinds.proofs.ways.bins_of.Given as goal

abbrev pub invariant-loop-most : goal.invariant-loop-most
invariant-loop-most l =
    goal.iterator-loop-most.can_next l.most-iterator
    × goal.iterator-loop-most.is_finite l.most-iterator
    × ((done : List ℕ) × (iter_rest (rev_source l.most-iterator) ++ done ≡ l.stocks) × (l.behind.counts ≡ capped_ways done) × (vec_items l.bins ≡ reverse (bins_of done)))
