use Rattle.std.proofs.Common.{◌≡◌, suc, ◌-◌, ◌/◌, ◌<◌, ◌++◌, length, drop, sym, ap, ◌∙◌, subst, arith, rules}
use Rattle.std.specs.List.{insert}
use Rattle.std.proofs.lemmas.List.{take_at, length-take-le, length-append, length-drop}
use Rattle.walk.specs.Rows.{row_at}
use Rattle.kinds.specs.Lists.{changes}
use Rattle.kinds.proofs.PlainChanges.{no_values, sweep_below, row_more}
use Rattle.kinds.proofs.plain_changes.+write_changes.Goals as goal

pub returns-then-size-eq0 : goal.returns-then-size-eq0
returns-then-size-eq0 t c = no_values c.args.tray.now c.args.label c.if-size-eq0.true c.requires.listed

pub write_changes-requires : goal.write_changes-requires
write_changes-requires t c =
    let tray = c.args.tray.now in
    let n = length tray - 1 in
    let next : length tray ≡ suc n = omega arith in
    let size = length-take-le n tray (omega arith) in
    (search rules, (omega arith, subst (λ k. c.args.label / length tray < length (changes k)) (sym size) (sweep_below (length tray) n next c.args.label c.requires.listed)))

pub returns : goal.returns
returns t c =
    let tray = c.args.tray.now in
    let label = c.args.label in
    let front = c.write_changes.new.tray in
    let n = length tray - 1 in
    let past = drop n tray in
    let next : length tray ≡ suc n = omega arith in
    let part = length-take-le n tray (omega arith) in
    let size : length front ≡ n = omega (arith, part) in
    let whole : length front ≡ length (front ++ past) - 1 = omega (arith, length-append front past, length-drop n tray) in
    c.put_in.ensures
    ∙ ap (λ s. insert s c.swept-position.result n) (take_at front past (length (front ++ past) - 1) whole)
    ∙ row_more (length tray) n next label c.requires.listed front c.swept-position.result (c.write_changes.ensures ∙ ap (λ k. row_at (changes k) (label / length tray)) part) c.swept-position.ensures
