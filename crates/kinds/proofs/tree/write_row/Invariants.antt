use Rattle.std.proofs.Common.{◌≡◌, ◌+◌, ◌<◌, ◌++◌, length, take}
use Rattle.walk.specs.Rows.{row_at}
use Rattle.kinds.proofs.tree.write_row.Given as goal

abbrev pub invariant-loop-cell : goal.invariant-loop-cell
invariant-loop-cell g l = record {
  left : g.N.Node.depth l.node + l.cell-index ≡ length l.tray;
  listed : l.rest < length (g.N.Node.below l.node);
  row : row_at (g.N.Node.below l.initial.node) l.label ≡ take l.cell-index l.tray ++ row_at (g.N.Node.below l.node) l.rest;
}
