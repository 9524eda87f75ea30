-- What follows from the answers of a walk's calls. Assumes nothing.
use Rattle.std.proofs.Common.{◌≡◌, ℕ, ◌+◌, ◌-◌, ◌<◌, ◌≤◌, Bool, true, false, cond, eqb, ltb, List, length, take, drop, is_ok, Ok, Err, Result, sym, refl, ap, ◌∙◌, subst, ap₂, arith}
use Rattle.std.proofs.lemmas.List.{take_at}
use Rattle.std.proofs.lemmas.Bool.{ltb-true, le-ltb, ne_eqb, cond-true, cond-false}
use Rattle.walk.specs.Meaning.{Meaning, Lawful, size, row, standing}
use Rattle.walk.specs.Answers.{seeks, after_seek, after_back, reads, after_read, span_of, changes}
use Rattle.walk.specs.declared.answers.Refusal.{Refusal}
use Rattle.walk.specs.declared.answers.Refusal.TheVariants.{NoSuchLabel}
use Rattle.walk.specs.declared.answers.Span.{Span}

-- `read` accepts a tray that is long enough where there are rows
pub reads_ok : (m : Meaning) (tray : List ℕ) → 0 < size m → m.width ≤ length tray → reads m tray ≡ Ok tt
reads_ok m tray some long =
    cond-false (eqb (size m) 0) _ _ (ne_eqb (size m) 0 (λ e. omega arith))
    ∙ cond-false (ltb (length tray) m.width) _ _ (le-ltb (length tray) m.width long)

-- the first bytes of the tray are then the row
pub tray_begins : (m : Meaning) (tray : List ℕ) → Lawful m → 0 < size m → m.width ≤ length tray → take m.width (after_read m tray) ≡ row m m.place
tray_begins m tray lawful some long =
    ap (take m.width) (cond-true (is_ok (reads m tray)) _ _ (ap is_ok (reads_ok m tray some long)))
    ∙ take_at (row m m.place) (drop m.width tray) m.width (lawful.wide m.place (lawful.inside.0 some))

-- what a call answers that has nothing to tell
abbrev accepted : Result (Unit {0}) Refusal
accepted = Ok tt

-- an accepted `seek` goes to a label below the size
pub sought_below : (m : Meaning) (label : ℕ) → seeks m label ≡ Ok tt → ltb label (size m) ≡ true
sought_below m label ok = go (ltb label (size m)) ok
  where
    go : (b : Bool) → cond b accepted (Err NoSuchLabel) ≡ accepted → b ≡ true
    go true e = refl
    go false e = let z : ◌≡◌ {A = ℕ} 0 1 = cc in absurd (omega arith)

-- one step up and one back lead to where the walk stood
pub back_from_next : (m : Meaning) → after_back (standing m (m.place + 1)) ≡ m
back_from_next m =
    cond-false (eqb (m.place + 1) 0) (standing m (m.place + 1)) (standing m (m.place + 1 - 1)) (ne_eqb (m.place + 1) 0 (λ e. omega arith))
    ∙ ap (standing m) (omega arith)

-- what `change` computes from the two rows that it read
pub change_from_reads : (m up down : Meaning) (before_next next before_here here : List ℕ) (width : ℕ) (s : Span) →
    Lawful m → Lawful up → width ≡ m.width → seeks m (m.place + 1) ≡ Ok tt → up ≡ after_seek m (m.place + 1) → down ≡ after_back up →
    next ≡ after_read up before_next → here ≡ after_read down before_here → 64 ≤ length before_next → 64 ≤ length before_here →
    s ≡ span_of (take width here) (take width next) → (Ok s ≡ changes m) × (down ≡ m)
change_from_reads m up down before_next next before_here here width s lawful lawful_up w sought up_is down_is next_is here_is long_next long_here s_is =
    let below = sought_below m (m.place + 1) sought in
    let some = ltb-true (m.place + 1) (size m) below in
    let up_at : up ≡ standing m (m.place + 1) = up_is ∙ cond-true (ltb (m.place + 1) (size m)) (standing m (m.place + 1)) m below in
    let home : down ≡ m = down_is ∙ ap after_back up_at ∙ back_from_next m in
    let narrow = lawful.narrow in
    let lawful_next = subst Lawful up_at lawful_up in
    let next_row : take width next ≡ row m (m.place + 1) =
    ap₂ take w (next_is ∙ ap (λ v. after_read v before_next) up_at)
    ∙ tray_begins (standing m (m.place + 1)) before_next lawful_next (omega arith) (omega arith) in
    let here_row : take width here ≡ row m m.place =
    ap₂ take w (here_is ∙ ap (λ v. after_read v before_here) home)
    ∙ tray_begins m before_here lawful (omega arith) (omega arith) in
    (ap Ok (s_is ∙ ap₂ span_of here_row next_row) ∙ sym (cond-true (ltb (m.place + 1) (size m)) _ _ below), home)
