use Rattle.std.proofs.Common.{◌<◌, ◌≤◌, ◌∷◌, ◌++◌, length, take, sym, ap, ◌∙◌, subst, arith}
use Rattle.std.proofs.lemmas.List.{append-nil, length-set, take_all}
use Rattle.walk.specs.Rows.{row_at}
use Rattle.kinds.proofs.Stretches.{stands_at, leaf_row, one_more}
use Rattle.kinds.proofs.tree.write_row.Goals as goal

pub loop-cell-preserved : goal.loop-cell-preserved
loop-cell-preserved g c =
    let tray = c.loop-cell.tray in
    let i = c.loop-cell.cell-index in
    let v = c.pick-value.result in
    let inner = g.N.Node.below c.enter.new.self in
    let first = c.pick-value.ensures in
    let stands = c.in-Some.ensures.branch in
    let range = stands.only _ first.0 c.loop-cell.invariant.listed first.1 in
    let there = stands_at stands c.loop-cell.rest range.0 range.1 in
    let inside : i < length tray = omega arith in
    record {
      left = omega (arith, c.in-Some.ensures.down, c.loop-cell.invariant.left, length-set tray i v);
      listed = subst (λ k. k < length inner) (sym c.label_within-rest.ensures) there.0;
      row = one_more tray i v _ (row_at (g.N.Node.below c.loop-cell.node) c.loop-cell.rest) (row_at inner c.label_within-rest.result) inside c.loop-cell.invariant.row (there.1 ∙ ap (λ k. v ∷ row_at inner k) (sym c.label_within-rest.ensures));
    }

pub returns : goal.returns
returns g c =
    let tray = c.loop-cell.tray in
    let done : length tray ≤ c.loop-cell.cell-index = omega arith in
    let leaf = g.N.Node.leaf c.loop-cell.node (omega (arith, c.loop-cell.invariant.left)) in
    sym (c.loop-cell.invariant.row ∙ ap (λ r. take c.loop-cell.cell-index tray ++ r) (leaf_row leaf c.loop-cell.rest) ∙ append-nil _ ∙ take_all _ tray done)
