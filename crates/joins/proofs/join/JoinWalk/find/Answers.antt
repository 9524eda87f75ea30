use Rattle.std.proofs.Common.{◌≡◌, ◌-◌, ◌++◌, length, take, drop, Ok, Err, sym, ap, ◌∙◌, ap₂, arith}
use Rattle.std.proofs.lemmas.List.{take_rest, take-append-drop}
use Rattle.std.proofs.lemmas.Result.{err_from_is_err_and}
use Rattle.joins.specs.Join.{swings, joined}
use Rattle.walk.proofs.Cases.{finds_none}
use Rattle.joins.proofs.JoinCalls.{some_rows, join_lost_width, join_lost_right, join_found}
use Rattle.joins.proofs.join.JoinWalk.find.Goals.{then-rows-eq0-via-then-rows-eq0, then-rows-eq0-via-else-rows-eq0+then-row-width}
use Rattle.joins.proofs.join.JoinWalk.find.Goals as goal

pub returns-then-rows-eq0 : goal.returns-then-rows-eq0
returns-then-rows-eq0 g c =
    let self = c.args.self.now in
    let r = c.args.row.now in
    let whole = joined (swings self.order) (g.L.Walk.meaning self.left) (g.R.Walk.meaning self.right) in
    elim c.then-rows-eq0.branch [
      | then-rows-eq0-via-then-rows-eq0 w ↦ sym (finds_none whole r (λ i lt e. omega (arith, w.if-rows-eq0.true)))
      | then-rows-eq0-via-else-rows-eq0+then-row-width w ↦
          sym (join_lost_width _ _ _ (g.met.L.Walk.lawful self.left) (g.met.R.Walk.lawful self.right) (some_rows (swings self.order) _ _ (omega (arith, w.if-rows-eq0.false))) r (λ e. w.if-row-width.true (omega (arith, w.width.ensures))))
    ]

pub returns-in_err-j : goal.returns-in_err-j
returns-in_err-j g c =
    let r = c.args.row.now in
    let why = err_from_is_err_and c.from_residual-in_err-j.result c.from_residual-in_err-j.ensures.1 in
    why.1 ∙ ap Err why.2 ∙ sym (join_lost_right _ _ _ (g.met.L.Walk.lawful c.args.self.now.left) (g.met.R.Walk.lawful c.args.self.now.right) (some_rows _ _ _ (omega arith)) r _ _ (take_rest r c.width-width.result ∙ ap (λ n. drop n r) c.width-width.ensures) c.in_err-j.ensures)

pub returns : goal.returns
returns g c =
    let r = c.args.row.now in
    let w = c.width-width.result in
    let parts : take (w - 0) r ++ take (length r - w) (drop w r) ≡ r = ap₂ ◌++◌ (ap (λ n. take n r) (omega arith)) (take_rest r w) ∙ take-append-drop w r in
    ap Ok c.label.ensures ∙ sym (join_found _ _ _ (g.met.L.Walk.lawful c.args.self.now.left) (g.met.R.Walk.lawful c.args.self.now.right) (some_rows _ _ _ (omega arith)) r _ _ c.in_ok-i.i c.in_ok-j.j parts c.in_ok-i.ensures c.in_ok-j.ensures)
