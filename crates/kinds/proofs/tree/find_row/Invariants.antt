use Rattle.std.proofs.Common.{◌≡◌, ◌+◌, length, take}
use Rattle.kinds.specs.Tree.{Stands}
use Rattle.kinds.proofs.tree.find_row.Given as goal

abbrev pub invariant-loop-i : goal.invariant-loop-i
invariant-loop-i g l = record {
  left : g.N.Node.depth l.node + l.i ≡ length l.row;
  stands : Stands (g.N.Node.below l.initial.node) (take l.i l.row) l.whole (g.N.Node.below l.node);
}
