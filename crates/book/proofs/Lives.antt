-- What holds of a book over its whole life.
use Rattle.std.proofs.Common.{◌≡◌, ℕ, ◌+◌, ◌<◌, false, cond, eqb, ltb, List, [], ◌∷◌, length, drop, is_some, is_ok, Some, None, Ok, Err, Option, Result, sym, refl, ap, ◌∙◌, subst, arith}
use Rattle.std.specs.Option.{ok_or}
use Rattle.std.proofs.lemmas.Bool.{eqb-true, ltb-true, cond_both}
use Rattle.walk.specs.Answers.{finds}
use Rattle.walk.specs.Meaning.{Meaning, size, standing}
use Rattle.walk.specs.Rows.{Row, Apart, label_of}
use Rattle.walk.specs.declared.answers.Refusal.{Refusal}
use Rattle.book.specs.Calls.{next_draw, labelled, taken, written, held, matched, spoilt, shows, lanes_after, waiting_after}
use Rattle.book.specs.Histories.{Call, Take, Printed, Spoiled, AskRow, AskLabel, AskCounts, Close, numbered, showing, answer, after, state_after, history}
use Rattle.book.specs.Lanes.{lane_at, longest, with_hand}
use Rattle.book.specs.Opening.{opened}
use Rattle.book.specs.Places.{Move, draws, nothing, take_moves, printed_moves, spoiled_moves, move, moves, hand}
use Rattle.book.specs.State.{State, printers}
use Rattle.book.specs.declared.draw.Draw.{Draw}
use Rattle.book.specs.declared.draw.Source.{Source}
use Rattle.book.specs.declared.draw.Source.TheVariants.{Waiting, Front, Back}
use Rattle.book.specs.declared.refusal.BookRefusal.{BookRefusal}
use Rattle.book.specs.declared.refusal.BookRefusal.TheVariants.{UnknownPrinter, HandFull, NothingLeft, HandEmpty, OtherRow, NotAllPrinted}
use Rattle.book.specs.declared.refusal.BookRefusal.TheVariants as refused
use Rattle.walk.specs.declared.answers.Refusal.TheVariants.{NoSuchLabel, ShortTray, NoSuchRow}
use Rattle.book.proofs.Accounts.{held_hand}
use Rattle.book.proofs.Draws.{Drew, oldest, first, last, drew, none_from}
use Rattle.book.proofs.Kept.{Kept, kept_opened, kept_nothing}
use Rattle.book.proofs.Longest.{longest_within}
use Rattle.book.proofs.Moving.{kept_puts, kept_returns}
use Rattle.book.proofs.Taking.{kept_draws_oldest, kept_draws_first, kept_draws_last}

module _ {m : Meaning} {k : ℕ} {h : List Move} {s : State} (kept : Kept m k h s) where
  -- a refused call changes nothing
  unchanged : Kept m k (nothing ∷ h) s
  unchanged = kept_nothing m k h s s.walk.place kept

  -- the label l has come from its source into the hand of printer i
  abbrev DrawnThen : ℕ → ℕ → Source → List ℕ → Type 0
  DrawnThen i l source waiting =
      Kept m k (draws i l ∷ h) (record { walk = standing s.walk l; lanes = with_hand i (Some l) (lanes_after source s.lanes); waiting = waiting; bench = s.bench })

  -- it has come by one of the three ways
  drawn_then : (i : ℕ) (d : Draw) → i < k → hand h i ≡ None → Drew s.waiting s.lanes i d → DrawnThen i d.label d.from (waiting_after d.from s.waiting)
  drawn_then i d known empty (oldest rest e from) =
      subst (λ source. DrawnThen i d.label source (waiting_after source s.waiting)) (sym from)
      (subst (DrawnThen i d.label Waiting) (sym (ap (drop 1) e)) (kept_draws_oldest kept i d.label rest known empty e))
  drawn_then i d known empty (first e some label from) =
      subst (λ source. DrawnThen i d.label source (waiting_after source s.waiting)) (sym from)
      (subst (λ l. DrawnThen i l (Front i) s.waiting) (sym label) (subst (DrawnThen i _ (Front i)) (sym e) (kept_draws_first kept i known empty e some)))
  drawn_then i d known empty (last e none some label from) =
      subst (λ source. DrawnThen i d.label source (waiting_after source s.waiting)) (sym from)
      (subst (λ l. DrawnThen i l (Back (longest s.lanes)) s.waiting) (sym label)
      (subst (DrawnThen i _ (Back (longest s.lanes))) (sym e)
      (kept_draws_last kept i (longest s.lanes) known (omega (arith, longest_within s.lanes (omega (arith, kept.known)), kept.known)) empty e none some)))

  after_taking : (i : ℕ) (tray : List ℕ) → Kept m k (move (Take i tray) (answer s (Take i tray)) ∷ h) (after s (Take i tray))
  after_taking i tray =
      cond_both (ltb i (printers s)) _ (Err UnknownPrinter) (λ r. After r (next_draw s.waiting s.lanes i))
      (λ known. cond_both (is_some (lane_at s.lanes i).hand) (Err HandFull) _ (λ r. After r (next_draw s.waiting s.lanes i))
      (λ _. unchanged)
      (λ free. cond_both (ltb (length tray) s.walk.width) (Err (refused.Row ShortTray)) _ (λ r. After r (next_draw s.waiting s.lanes i))
      (λ _. unchanged)
      (λ _. given (omega (arith, ltb-true i (printers s) known, kept.known)) free (next_draw s.waiting s.lanes i) refl)))
      (λ _. unchanged)
    where
      After : Result ℕ BookRefusal → Option Draw → Type 0
      After r o = Kept m k (take_moves i (showing r (written s.walk s.walk.width r tray)) ∷ h) (taken s i r o)

      given : i < k → is_some (lane_at s.lanes i).hand ≡ false → (o : Option Draw) → next_draw s.waiting s.lanes i ≡ o → After (labelled s.walk o) o
      given known free None e = unchanged
      given known free (Some d) e =
          cond_both (ltb d.label (size s.walk)) (Ok d.label) (Err (refused.Row NoSuchLabel)) (λ r. After r (Some d))
          (λ _. drawn_then i d known (sym (kept.hands i known) ∙ none_from (lane_at s.lanes i).hand free) (drew s.waiting s.lanes i d e))
          (λ _. unchanged)

  -- a label that is told of a hand is held by the hand of a known printer
  told_held : (i l : ℕ) → held s.lanes i ≡ Ok l → (i < k) × (hand h i ≡ Some l)
  told_held i l e =
      let told = held_hand s.lanes i l e in
      let known : i < k = omega (arith, told.0, kept.known) in
      (known, sym (kept.hands i known) ∙ told.1)

  after_printing : (i : ℕ) (scanned : Row) → Apart m.rows → Kept m k (move (Printed i scanned) (answer s (Printed i scanned)) ∷ h) (after s (Printed i scanned))
  after_printing i scanned apart = by (held s.lanes i) refl (finds s.walk scanned) refl
    where
      After : Result ℕ BookRefusal → Type 0
      After r = Kept m k (printed_moves i scanned (numbered r) ∷ h)
          (cond (is_ok r) (record { walk = s.walk; lanes = with_hand i None s.lanes; waiting = s.waiting; bench = s.bench + 1 }) s)

      found : (l f : ℕ) → finds s.walk scanned ≡ Ok f → f ≡ l → label_of m.rows scanned ≡ Some l
      found l f e same = ap (λ (w : Meaning). label_of w.rows scanned) (sym kept.walk) ∙ some_from (label_of s.walk.rows scanned) e ∙ ap Some same
        where
          some_from : (o : Option ℕ) → ok_or o NoSuchRow ≡ Ok f → o ≡ Some f
          some_from None e = absurd (let z : ◌≡◌ {A = ℕ} 0 1 = cc in omega arith)
          some_from (Some x) e = cc

      by : (r : Result ℕ BookRefusal) → held s.lanes i ≡ r → (f : Result ℕ Refusal) → finds s.walk scanned ≡ f → After (matched r f)
      by (Err e) told f seen = unchanged
      by (Ok l) told (Err e) seen = unchanged
      by (Ok l) told (Ok f) seen =
          cond_both (eqb f l) (Ok l) (Err OtherRow) After
          (λ same. kept_puts kept i l (told_held i l told).0 (told_held i l told).1 scanned apart (found l f seen (eqb-true f l same)))
          (λ _. unchanged)

  after_spoiling : (i : ℕ) → Kept m k (move (Spoiled i) (answer s (Spoiled i)) ∷ h) (after s (Spoiled i))
  after_spoiling i = by (held s.lanes i) refl
    where
      by : (r : Result ℕ BookRefusal) → held s.lanes i ≡ r → Kept m k (spoiled_moves i (numbered r) ∷ h) (spoilt s i r)
      by (Err e) told = unchanged
      by (Ok l) told = kept_returns kept i l (told_held i l told).0 (told_held i l told).1

  after_reading : (l : ℕ) (tray : List ℕ) → Kept m k (nothing ∷ h) (after s (AskRow l tray))
  after_reading l tray = cond_both (is_ok (shows s l tray)) _ s (Kept m k (nothing ∷ h)) (λ _. kept_nothing m k h s l kept) (λ _. unchanged)

  -- every call keeps the ties between state and history
  pub kept_after : Apart m.rows → (call : Call) → Kept m k (move call (answer s call) ∷ h) (after s call)
  kept_after apart (Take i tray) = after_taking i tray
  kept_after apart (Printed i scanned) = after_printing i scanned apart
  kept_after apart (Spoiled i) = after_spoiling i
  kept_after apart (AskRow l tray) = after_reading l tray
  kept_after apart (AskLabel scanned) = unchanged
  kept_after apart AskCounts = unchanged
  kept_after apart Close = unchanged

-- and so does every list of calls
pub kept_always : (m : Meaning) (k : ℕ) → Apart m.rows → (calls : List Call) → Kept m k (moves (history (opened m k) calls)) (state_after (opened m k) calls)
kept_always m k apart [] = kept_opened m k
kept_always m k apart (call ∷ calls) = kept_after (kept_always m k apart calls) apart call
