use Rattle.std.proofs.Common.{true, false, is_ok, Err, sym, ap, ◌∙◌, arith}
use Rattle.std.proofs.lemmas.Result.{err_from_is_err_and}
use Rattle.joins.specs.Join.{swings}
use Rattle.joins.specs.Steps.{goes_down}
use Rattle.joins.proofs.JoinCalls.{right_step, step_without_rows, step_of_right, right_some, step_of_none, step_carried, step_turned}
use Rattle.joins.proofs.join.Join.step.Goals as goal

pub returns-then-rows-eq0 : goal.returns-then-rows-eq0
returns-then-rows-eq0 g c =
    let self = c.args.self.now in
    let told = step_without_rows (swings self.order) (g.L.Walk.meaning self.left) (g.R.Walk.meaning self.right) (goes_down c.args.way)
    (g.met.L.Walk.lawful self.left) (g.met.R.Walk.lawful self.right) (sym c.rows.ensures ∙ c.if-rows-eq0.true) in
    record { answer = told.0; after = told.1 }

pub returns-then-is_ok : goal.returns-then-is_ok
returns-then-is_ok g c =
    let self = c.args.self.now in
    let right = right_step (swings self.order) (g.L.Walk.meaning self.left) (g.R.Walk.meaning self.right) _ (goes_down c.args.way) true (omega arith) _ _ _
    c.place.ensures c.backward-back.ensures c.turned.ensures (sym (ap is_ok c.step.ensures.answer) ∙ sym c.is_ok.ensures.value ∙ c.if-is_ok.true) c.step.ensures.after in
    let told = step_of_right _ _ _ _ _ (g.met.L.Walk.lawful self.left) (g.met.R.Walk.lawful self.right) right in
    record { answer = told.0; after = told.1 }

pub returns-in_err-step : goal.returns-in_err-step
returns-in_err-step g c =
    let self = c.args.self.now in
    let right = right_step (swings self.order) (g.L.Walk.meaning self.left) (g.R.Walk.meaning self.right) _ (goes_down c.args.way) false (omega arith) _ _ _
    c.place.ensures c.backward-back.ensures c.turned.ensures (sym (ap is_ok c.step.ensures.answer) ∙ sym c.is_ok.ensures.value ∙ c.if-is_ok.false) c.step.ensures.after in
    let why = err_from_is_err_and c.from_residual.result c.from_residual.ensures.1 in
    let told = step_of_none _ _ _ _ _ (g.met.L.Walk.lawful self.left) (g.met.R.Walk.lawful self.right) right _ _ c.in_err-step.ensures.answer c.step-2.ensures.after in
    record { answer = why.1 ∙ ap Err why.2 ∙ told.0; after = told.1 }

pub begin-requires : goal.begin-requires
begin-requires g c =
    let self = c.args.self.now in
    let right = right_step (swings self.order) (g.L.Walk.meaning self.left) (g.R.Walk.meaning self.right) _ (goes_down c.args.way) false (omega arith) _ _ _
    c.place.ensures c.backward-back.ensures c.turned.ensures (sym (ap is_ok c.step.ensures.answer) ∙ sym c.is_ok.ensures.value ∙ c.if-is_ok.false) c.step.ensures.after in
    right_some _ _ _ _ _ (g.met.L.Walk.lawful self.left) (g.met.R.Walk.lawful self.right) right

pub returns-in-Odometer : goal.returns-in-Odometer
returns-in-Odometer g c =
    let self = c.args.self.now in
    let right = right_step (swings self.order) (g.L.Walk.meaning self.left) (g.R.Walk.meaning self.right) _ (goes_down c.args.way) false (omega arith) _ _ _
    c.place.ensures c.backward-back.ensures c.turned.ensures (sym (ap is_ok c.step.ensures.answer) ∙ sym c.is_ok.ensures.value ∙ c.if-is_ok.false) c.step.ensures.after in
    let told = step_carried _ _ _ _ _ (g.met.L.Walk.lawful self.left) (g.met.R.Walk.lawful self.right) right _ _ (ap swings c.in-Odometer.is) c.in_ok-step.ensures.answer c.step-2.ensures.after c.begin.ensures.after in
    record { answer = c.begin.ensures.answer ∙ told.0; after = told.1 }

pub returns-in-Swing : goal.returns-in-Swing
returns-in-Swing g c =
    let self = c.args.self.now in
    let right = right_step (swings self.order) (g.L.Walk.meaning self.left) (g.R.Walk.meaning self.right) _ (goes_down c.args.way) false (omega arith) _ _ _
    c.place.ensures c.backward-back.ensures c.turned.ensures (sym (ap is_ok c.step.ensures.answer) ∙ sym c.is_ok.ensures.value ∙ c.if-is_ok.false) c.step.ensures.after in
    let told = step_turned _ _ _ _ _ (g.met.L.Walk.lawful self.left) (g.met.R.Walk.lawful self.right) right _ (ap swings c.in-Swing.is) c.in_ok-step.ensures.answer c.step-2.ensures.after in
    record { answer = told.0; after = told.1 }
