use Rattle.std.proofs.Common.{◌+◌, ◌++◌, get_or, take, drop, sym, ap, ◌∙◌, subst₂, arith, take-append-drop}
use Rattle.std.proofs.lemmas.List.{take_more, take_all, drop_more}
use Rattle.kinds.specs.Tree.{Stands}
use Rattle.walk.specs.Rows.{label_of}
use Rattle.kinds.proofs.Stretches.{stands_then, stands_leaf, stands_none}
use Rattle.kinds.proofs.tree.find_row.Goals as goal

pub returns-in_err-stretch : goal.returns-in_err-stretch
returns-in_err-stretch g c =
    let row = c.args.row.now in
    let i = c.loop-i.i in
    let split = ap (λ r. take i row ++ r) (sym (drop_more row i 0 (omega arith))) ∙ take-append-drop i row in
    c.from_residual.ensures
    ∙ sym (stands_none c.loop-i.invariant.stands (get_or row i 0) (drop (i + 1) row) c.in_err-stretch.ensures.branch)
    ∙ ap (label_of (g.N.Node.below c.args.node)) split

pub loop-i-preserved : goal.loop-i-preserved
loop-i-preserved g c =
    let row = c.args.row.now in
    let i = c.loop-i.i in
    let below = g.N.Node.below in
    let went = stands_then c.loop-i.invariant.stands (get_or row i 0) _ (below c.enter.new.self) c.in_ok-stretch.ensures.branch in
    let more = take_more row i 0 (omega arith) in
    record {
      left = omega (arith, c.in_ok-stretch.ensures.down, c.loop-i.invariant.left);
      stands = subst₂ (λ front s. Stands (below c.args.node) front s (below c.enter.new.self)) (sym more) (sym c.then-whole.ensures) went;
    }

pub returns : goal.returns
returns g c =
    let row = c.args.row.now in
    let i = c.loop-i.i in
    sym (stands_leaf c.loop-i.invariant.stands (g.N.Node.leaf c.loop-i.node (omega (arith, c.loop-i.invariant.left))))
    ∙ ap (label_of (g.N.Node.below c.args.node)) (take_all i row (omega arith))
