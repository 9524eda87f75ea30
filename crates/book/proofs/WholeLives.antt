-- The theorem on a book's whole life.
use Rattle.std.proofs.Common.{◌≡◌, ℕ, ◌+◌, ◌<◌, ◌≤◌, true, cond, eqb, ltb, List, [], ◌∷◌, length, is_some, is_ok, Some, None, Ok, Err, count_by, Option, sym, refl, ap, ◌∙◌, subst, ⊎_elim, arith}
use Rattle.std.specs.List.{range_with_len, AllByRecursion}
use Rattle.std.specs.Option.{option_map}
use Rattle.std.proofs.lemmas.List.FromFn.{length-range_with_len, length-map-range_with_len}
use Rattle.std.proofs.lemmas.List.{nil_from_length}
use Rattle.std.proofs.lemmas.List.Sums.{sum_by-cons, get_or-le-sum_by}
use Rattle.std.proofs.lemmas.Bool.{eqb-true, eq-eqb, ne_eqb, ltb-true, ltb-false, lt-ltb, le-ltb, cases_lt, cases_eq, and_parts, cond-true, cond-false, cond_both}
use Rattle.walk.specs.Meaning.{Meaning, Lawful, size, standing}
use Rattle.walk.specs.Meaning as meaning
use Rattle.walk.specs.Rows.{Row, Apart, differences}
use Rattle.book.specs.Calls.{next_draw, last_of_longest}
use Rattle.book.specs.Histories.{Take, AskCounts, Close, Answer, number, shown, refusal, answer, state_after, history}
use Rattle.book.specs.Lanes.{no_lane, lane_at, left, longest, printers_allowed, opened_lane, opened_lanes}
use Rattle.book.specs.Opening.{opened, opens, Refuses, NoLedger}
use Rattle.book.specs.Places.{Move, moves, hand, waits, undrawn, bench, queue, lane_left, waiting_count, undrawn_count, at_front, last_front}
use Rattle.book.specs.Rules.{next_label, giving, rule}
use Rattle.book.specs.State.{State}
use Rattle.book.specs.WholeLife.{one_if, ExactlyWhen, Refused, on_bench, in_hands, Complete, Life, WholeLife}
use Rattle.book.specs.declared.draw.Draw.{Draw}
use Rattle.book.specs.declared.draw.Source.TheVariants.{Front}
use Rattle.book.specs.declared.lane.Lane.{Lane}
use Rattle.book.specs.declared.refusal.BookRefusal.{BookRefusal}
use Rattle.book.specs.declared.refusal.BookRefusal.TheVariants.{UnknownPrinter, HandFull, NothingLeft, NotAllPrinted}
use Rattle.book.specs.declared.refusal.BookRefusal.TheVariants as refused
use Rattle.book.specs.declared.refusal.OpeningFault.{OpeningFault}
use Rattle.book.specs.declared.refusal.OpeningFault.TheVariants.{NumberOfPrinters, NoMemory}
use Rattle.walk.specs.declared.answers.Refusal.TheVariants.{ShortTray}
use Rattle.book.proofs.Starts.{allowed_some}
use Rattle.book.proofs.Kept.{Kept}
use Rattle.book.proofs.Lives.{kept_always}
use Rattle.book.proofs.Draws.{drew}
use Rattle.book.proofs.Longest.{left_le_longest, longest_within}
use Rattle.book.proofs.Ruled.{ruled, next_told, drawn_below}
use Rattle.book.proofs.Taking.{none_waits, lane_left_total}
use Rattle.book.proofs.Tallies.{sum_by_same, sum_by_ones, sum_by_zeros, all_counting, at_le_sum, one_le_count}
use Rattle.book.proofs.Totals.{queue_total, hands_total, bench_total, all_rows, state_undrawn, sum_by_at, left_in_lanes}

-- rows that differ nowhere are the same
equal_from_differences : (a b : Row) → differences a b ≡ 0 → a ≡ b
equal_from_differences [] [] e = refl
equal_from_differences [] (y ∷ ys) e = absurd (omega arith)
equal_from_differences (x ∷ xs) [] e = absurd (omega arith)
equal_from_differences (x ∷ xs) (y ∷ ys) e =
    ⊎_elim
    (λ same. ap (λ z. z ∷ xs) same ∙ ap (λ (zs : List ℕ). y ∷ zs) (equal_from_differences xs ys (omega (arith, e))))
    (λ other. absurd (let one : ◌≡◌ {A = ℕ} (cond (eqb x y) 0 1) 1 = cond-false (eqb x y) 0 1 (ne_eqb x y other) in omega arith))
    (cases_eq x y)

-- what is counted in a list is there
counted_there : (P : ℕ → Type 0) (l : ℕ) (xs : List ℕ) → 1 ≤ count_by (λ q. eqb q l) xs → AllByRecursion P xs → P l
counted_there P l [] some all = absurd (omega arith)
counted_there P l (q ∷ qs) some (here, all) =
    ⊎_elim
    (λ e. subst P e here)
    (λ other. counted_there P l qs (omega (arith, sum_by-cons (λ q. one_if (eqb q l)) q qs, ap one_if (ne_eqb q l other))) all)
    (cases_eq q l)

-- Where a printer has no next label, nothing waits and the longest lane is empty.
none_left : (waiting : List ℕ) (lanes : List Lane) (i : ℕ) → next_draw waiting lanes i ≡ None → (waiting ≡ []) × (left (lane_at lanes (longest lanes)) ≡ 0)
none_left (q ∷ qs) lanes i = λ e. absurd (let z : ◌≡◌ {A = ℕ} 0 1 = cc in omega arith)
none_left [] lanes i =
    cond_both (eqb (left (lane_at lanes i)) 0) (last_of_longest lanes) _ (λ o. o ≡ None → (◌≡◌ {A = List ℕ} [] []) × (left (lane_at lanes (longest lanes)) ≡ 0))
    (λ _. cond_both (eqb (left (lane_at lanes (longest lanes))) 0) None _ (λ o. o ≡ None → (◌≡◌ {A = List ℕ} [] []) × (left (lane_at lanes (longest lanes)) ≡ 0))
    (λ none _. (refl, eqb-true (left (lane_at lanes (longest lanes))) 0 none))
    (λ _ e. absurd (let z : ◌≡◌ {A = ℕ} 0 1 = cc in omega arith)))
    (λ _ e. absurd (let z : ◌≡◌ {A = ℕ} 0 1 = cc in omega arith))

-- an answer that shows a label is that of a known printer, and shows its next label
shows_next : (m : Meaning) (k : ℕ) (h : List Move) (i : ℕ) (tray : List ℕ) (l : ℕ) (tray' : List ℕ) → rule m k h (Take i tray) ≡ shown l tray' → (i < k) × (next_label (size m) k h i ≡ Some l)
shows_next m k h i tray l tray' =
    cond_both (ltb i k) _ (refusal UnknownPrinter) Next
    (λ known. cond_both (is_some (hand h i)) (refusal HandFull) _ Next
    (λ _ e. absurd (never e))
    (λ _. cond_both (ltb (length tray) m.width) (refusal (refused.Row ShortTray)) (giving m tray (next_label (size m) k h i)) Next
    (λ _ e. absurd (never e))
    (λ _ e. (ltb-true i k known, given (next_label (size m) k h i) e))))
    (λ _ e. absurd (never e))
  where
    Next : Answer → Type 0
    Next a = a ≡ shown l tray' → (i < k) × (next_label (size m) k h i ≡ Some l)

    never : {r : BookRefusal} → refusal r ≡ shown l tray' → ⊥
    never e = let z : ◌≡◌ {A = ℕ} 0 1 = cc in omega arith

    given : (o : Option ℕ) → giving m tray o ≡ shown l tray' → o ≡ Some l
    given None e = absurd (never e)
    given (Some x) e = cc

module _ {m : Meaning} {k : ℕ} {h : List Move} {s : State} (kept : Kept m k h s) (apart : Apart m.rows) (some : 0 < k) where
  -- Where all rows are on the bench, each is there once.
  complete_from : size m ≤ length (bench h) → Complete m (bench h)
  complete_from enough = (
    (λ l below. omega (
      arith,
      all_rows kept apart,
      kept.once l below,
      at_le_sum (in_hands k h) (size m) l below,
      hands_total kept,
      one_le_count (waits h) (size m) l below,
      one_le_count (undrawn h) (size m) l below,
    )),
    kept.listed,
  )

  -- Where each row is there once, all are there.
  enough_from : Complete m (bench h) → length (bench h) ≡ size m
  enough_from (each, _) =
      sym (bench_total kept apart) ∙ sum_by_same (on_bench m h) (λ _. 1) (range_with_len 0 (size m)) (all_counting _ 0 (size m) (λ l _ high. each l (omega arith)))
      ∙ sum_by_ones (range_with_len 0 (size m)) ∙ length-range_with_len 0 (size m)

  closes : ExactlyWhen (answer s Close ≡ number (size m)) (Complete m (bench h))
  closes = (
    (λ e. complete_from (cond_both (ltb (length (bench h)) (size m)) (refusal NotAllPrinted) (number (size m)) (λ a. a ≡ number (size m) → size m ≤ length (bench h))
        (λ _ e. absurd (let z : ◌≡◌ {A = ℕ} 0 1 = cc in omega arith)) (λ all _. ltb-false (length (bench h)) (size m) all) (sym (ruled kept some Close) ∙ e))),
    (λ complete. ruled kept some Close
        ∙ cond-false (ltb (length (bench h)) (size m)) (refusal NotAllPrinted) (number (size m)) (le-ltb (length (bench h)) (size m) (omega (arith, enough_from complete)))),
  )

  -- what a known printer with an empty hand and a long enough tray is answered
  take_says : (i : ℕ) (tray : List ℕ) → i < k → hand h i ≡ None → m.width ≤ length tray → answer s (Take i tray) ≡ giving m tray (option_map (λ (d : Draw). d.label) (next_draw s.waiting s.lanes i))
  take_says i tray known empty long =
      ruled kept some (Take i tray) ∙ cond-true (ltb i k) _ _ (lt-ltb i k known) ∙ cond-false (is_some (hand h i)) _ _ (ap is_some empty)
      ∙ cond-false (ltb (length tray) m.width) _ _ (le-ltb (length tray) m.width long) ∙ ap (giving m tray) (next_told kept i known)

  takes : (i : ℕ) (tray : List ℕ) → i < k → hand h i ≡ None → m.width ≤ length tray →
      ExactlyWhen (Refused (answer s (Take i tray))) ((waiting_count (size m) h ≡ 0) × (undrawn_count (size m) h ≡ 0))
  takes i tray known empty long = (
    (λ turned. nothing_left (next_draw s.waiting s.lanes i) refl (subst Refused (take_says i tray known empty long) turned)),
    (λ none. subst Refused (sym (take_says i tray known empty long ∙ ap (λ o. giving m tray (option_map (λ (d : Draw). d.label) o)) (no_draw none.0 none.1))) tt),
  )
    where
      nothing_left : (o : Option Draw) → next_draw s.waiting s.lanes i ≡ o → Refused (giving m tray (option_map (λ (d : Draw). d.label) o)) → (waiting_count (size m) h ≡ 0) × (undrawn_count (size m) h ≡ 0)
      nothing_left (Some d) e turned = absurd turned
      nothing_left None e turned =
          let none = none_left s.waiting s.lanes i e in (
            none_waits kept none.0,
            sym (state_undrawn kept some) ∙ sum_by_at left s.lanes
                ∙ sum_by_same (λ j. left (lane_at s.lanes j)) (λ _. 0) (range_with_len 0 (length s.lanes)) (all_counting _ 0 (length s.lanes) (λ j _ _. omega (arith, left_le_longest s.lanes j, none.1)))
                ∙ sum_by_zeros (range_with_len 0 (length s.lanes)),
          )

      empty_lane : undrawn_count (size m) h ≡ 0 → (j : ℕ) → j < k → left (lane_at s.lanes j) ≡ 0
      empty_lane none j b = omega (arith, none, state_undrawn kept some, get_or-le-sum_by left s.lanes j no_lane (omega (arith, kept.known)))

      no_draw : waiting_count (size m) h ≡ 0 → undrawn_count (size m) h ≡ 0 → next_draw s.waiting s.lanes i ≡ None
      no_draw none_wait none_undrawn =
          ap (λ (w : List ℕ). next_draw w s.lanes i) (kept.waiting ∙ nil_from_length (queue h) (queue_total kept ∙ none_wait))
          ∙ cond-true (eqb (left (lane_at s.lanes i)) 0) _ _ (eq-eqb _ 0 (empty_lane none_undrawn i known))
          ∙ cond-true (eqb (left (lane_at s.lanes (longest s.lanes))) 0) None _
          (eq-eqb _ 0 (empty_lane none_undrawn (longest s.lanes) (omega (arith, longest_within s.lanes (omega (arith, kept.known)), kept.known))))

  steps : Lawful m → m.steady ≡ true → (i : ℕ) (tray : List ℕ) (l l' : ℕ) (tray' : List ℕ) → last_front (size m) k h i ≡ Some l → at_front (size m) k h i ≡ true →
      answer s (Take i tray) ≡ shown l' tray' → (1 ≤ differences (meaning.row m l) (meaning.row m l')) × (differences (meaning.row m l) (meaning.row m l') ≤ 2)
  steps lawful steady i tray l l' tray' told front gave =
      subst (λ x. (1 ≤ differences (meaning.row m l) (meaning.row m x)) × (differences (meaning.row m l) (meaning.row m x) ≤ 2)) (sym behind)
      (⊎_elim (λ none. absurd (same_rows (omega arith))) (λ h. h) (cases_lt (differences (meaning.row m l) (meaning.row m (l + 1))) 1), lawful.steps steady l below)
    where
      next : (i < k) × (next_label (size m) k h i ≡ Some l')
      next = shows_next m k h i tray l' tray' (sym (ruled kept some (Take i tray)) ∙ gave)

      fronts : (eqb (waiting_count (size m) h) 0 ≡ true) × (ltb 0 (length (lane_left (size m) k h i)) ≡ true)
      fronts = and_parts (eqb (waiting_count (size m) h) 0) (ltb 0 (length (lane_left (size m) k h i))) front

      d : Draw
      d = record { label = (lane_at s.lanes i).next; from = Front i }

      draw : next_draw s.waiting s.lanes i ≡ Some d
      draw =
          ap (λ (w : List ℕ). next_draw w s.lanes i) (kept.waiting ∙ nil_from_length (queue h) (queue_total kept ∙ eqb-true (waiting_count (size m) h) 0 fronts.0))
          ∙ cond-false (eqb (left (lane_at s.lanes i)) 0) (last_of_longest s.lanes) (Some d)
          (ne_eqb _ 0 (λ none. absurd (omega (arith, none, lane_left_total kept i next.0, ltb-true 0 (length (lane_left (size m) k h i)) fronts.1))))

      behind : l' ≡ l + 1
      behind = some_same (sym next.1 ∙ next_told kept i next.0 ∙ ap (option_map (λ (d : Draw). d.label)) draw) ∙ kept.fronts i l next.0 told
        where
          some_same : {a b : ℕ} → Some a ≡ Some b → a ≡ b
          some_same e = cc

      below : l + 1 < size m
      below = omega (arith, kept.fronts i l next.0 told, drawn_below kept i d next.0 (drew s.waiting s.lanes i d draw))

      same_rows : differences (meaning.row m l) (meaning.row m (l + 1)) ≡ 0 → ⊥
      same_rows none = omega (arith, apart l (l + 1) (omega (arith, below)) below (equal_from_differences (meaning.row m l) (meaning.row m (l + 1)) none))

  life : Lawful m → Life m k h (answer s)
  life lawful = record {
    by_the_rules = ruled kept some;
    closes = closes;
    in_one_place = λ l below. omega (arith, kept.once l below, left_in_lanes (size m) k h l some below);
    only_rows_on_bench = kept.listed;
    only_labels_in_hands = kept.held;
    only_labels_wait = λ l waiting. counted_there (λ x. x < size m) l (queue h) (omega (arith, kept.waits_queued l, ap one_if waiting)) kept.queued;
    totals = ruled kept some AskCounts;
    takes = takes;
    steps = steps lawful;
  }

-- It holds of every freshly opened book.
pub whole_life : (m : Meaning) (k : ℕ) → Lawful m → 0 < k → WholeLife (opened m k)
whole_life m k lawful some calls =
    subst (λ n. Life m n (moves (history (opened m k) calls)) (answer (state_after (opened m k) calls))) (sym (length-map-range_with_len (opened_lane (size m) k) 0 k))
    (life (kept_always m k lawful.apart calls) lawful.apart some lawful)

-- A book that begins as opening says is opened, and lives so.
pub opened_life : (m : Meaning) (k n : ℕ) (s : State) → Lawful m → printers_allowed k ≡ true → n ≡ size m → s.walk ≡ m → s.lanes ≡ opened_lanes n k → s.waiting ≡ [] → s.bench ≡ 0 →
    (opens m k ≡ Ok s) × WholeLife s
opened_life m k n s lawful may rows walk lanes waiting bench =
    let begins : s ≡ opened m k = begin in (
      cond-true (printers_allowed k) (Ok (opened m k)) (Err NumberOfPrinters) may ∙ ap Ok (sym begins),
      subst WholeLife (sym begins) (whole_life m k lawful (allowed_some k may).0),
    )
  where
    begin : s ≡ opened m k
    begin =
        ap (λ (w : Meaning). record { walk = w; lanes = s.lanes; waiting = s.waiting; bench = s.bench }) walk
        ∙ ap (λ (ls : List Lane). record { walk = m; lanes = ls; waiting = s.waiting; bench = s.bench }) (lanes ∙ ap (λ x. opened_lanes x k) rows)
        ∙ ap (λ (w : List ℕ). record { walk = m; lanes = opened_lanes (size m) k; waiting = w; bench = s.bench }) waiting
        ∙ ap (λ b. record { walk = m; lanes = opened_lanes (size m) k; waiting = []; bench = b }) bench

-- Why there is no ledger is why no book is opened.
pub not_opened : (m : Meaning) (k : ℕ) (e : OpeningFault) → NoLedger k e → Refuses (opens m k) e
not_opened m k NumberOfPrinters not_allowed = cond-false (printers_allowed k) (Ok (opened m k)) (Err NumberOfPrinters) not_allowed
not_opened m k NoMemory may = ap is_ok (cond-true (printers_allowed k) (Ok (opened m k)) (Err NumberOfPrinters) may)
