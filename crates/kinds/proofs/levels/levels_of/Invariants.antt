use Rattle.std.proofs.Common.{◌≡◌, ◌++◌, drop, vec_items}
use Rattle.kinds.specs.Lists.{product}
use Rattle.kinds.specs.Shapes.{levels_of}
use Rattle.kinds.proofs.levels.levels_of.Given as goal

abbrev pub invariant-loop-radix : goal.invariant-loop-radix
invariant-loop-radix l = (l.below ≡ product (drop l.radix-index l.radices)) × (vec_items l.levels ++ levels_of (drop l.radix-index l.radices) ≡ levels_of l.radices)
