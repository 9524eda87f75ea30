-- What a book in its state answers is what the rules say of its history.
use Rattle.std.proofs.Common.{◌≡◌, ℕ, zero, suc, ◌+◌, ◌-◌, ◌<◌, Bool, true, false, cond, eqb, ltb, List, [], ◌∷◌, ◌++◌, map, length, drop, is_some, Some, None, Ok, Err, Option, Result, sym, refl, ap, ◌∙◌, subst, add-one, arith}
use Rattle.std.specs.List.{range_with_len, AllByRecursion}
use Rattle.std.specs.Option.{ok_or, option_or, option_map}
use Rattle.std.specs.Result as results
use Rattle.std.proofs.lemmas.List.FromFn.{fill_by_all}
use Rattle.std.proofs.lemmas.List.{reverse-append, length-map}
use Rattle.std.proofs.lemmas.Bool.{eqb-false, ne_eqb, lt-ltb, ltb-true, cond-true, cond-false}
use Rattle.walk.specs.Answers.{finds}
use Rattle.walk.specs.Meaning.{Meaning, size, standing}
use Rattle.walk.specs.Meaning as meaning
use Rattle.book.specs.Calls.{next_draw, from_lanes, last_of_longest, labelled, written, held, matched}
use Rattle.book.specs.Histories.{Call, Take, Printed, Spoiled, AskRow, AskLabel, AskCounts, Close, Answer, number, shown, four, refusal, numbered, showing, answer}
use Rattle.book.specs.Lanes.{no_lane, lane_at, left, longest, first_greatest}
use Rattle.book.specs.Lanes as lanes
use Rattle.book.specs.Places.{Move, hand, bench, lane_left, hands_count, waiting_count}
use Rattle.book.specs.Rules.{first_of, last_of, longest_lane, next_label, giving, in_hand, rule}
use Rattle.book.specs.State.{State, printers}
use Rattle.book.specs.declared.draw.Draw.{Draw}
use Rattle.book.specs.declared.refusal.BookRefusal.{BookRefusal}
use Rattle.book.specs.declared.refusal.BookRefusal.TheVariants.{UnknownPrinter, HandFull, NothingLeft, HandEmpty, NotAllPrinted}
use Rattle.book.specs.declared.refusal.BookRefusal.TheVariants as refused
use Rattle.walk.specs.declared.answers.Refusal.TheVariants.{NoSuchLabel, ShortTray}
use Rattle.book.proofs.Draws.{Drew, oldest, first, last, drew}
use Rattle.book.proofs.Kept.{Kept}
use Rattle.book.proofs.Longest.{longest_within, left_at}
use Rattle.book.proofs.Starts.{start_le}
use Rattle.book.proofs.Taking.{lane_left_total, left_in_lane}
use Rattle.book.proofs.Tallies.{counting_split}
use Rattle.book.proofs.Totals.{queue_total, state_hands, state_undrawn}

-- the first and the last number of a range
first_of_counting : (a n : ℕ) → first_of (range_with_len a n) ≡ cond (eqb n 0) None (Some a)
first_of_counting a zero = refl
first_of_counting a (suc n) = sym (cond-false (eqb (suc n) 0) None (Some a) (ne_eqb (suc n) 0 (λ e. omega arith)))

last_of_counting : (a n : ℕ) → last_of (range_with_len a n) ≡ cond (eqb n 0) None (Some (a + n - 1))
last_of_counting a zero = refl
last_of_counting a (suc n) =
    ap last_of (ap (range_with_len a) (sym (add-one n)) ∙ counting_split a n 1)
    ∙ ap first_of (reverse-append (range_with_len a n) ((a + n) ∷ []))
    ∙ ap Some (omega arith)
    ∙ sym (cond-false (eqb (suc n) 0) None (Some (a + suc n - 1)) (ne_eqb (suc n) 0 (λ e. omega arith)))

-- a test may be made before or after
through_cond : {X Y : Type 0} (f : X → Y) (b : Bool) (x y : X) → f (cond b x y) ≡ cond b (f x) (f y)
through_cond f true x y = refl
through_cond f false x y = refl

-- tests that agree, and answers that agree where they are given
same_cond : {X : Type 0} (b c : Bool) (x x' y y' : X) → b ≡ c → (c ≡ true → x ≡ x') → (c ≡ false → y ≡ y') → cond b x y ≡ cond c x' y'
same_cond b true x x' y y' e same _ = cond-true b x y e ∙ same refl
same_cond b false x x' y y' e _ same = cond-false b x y e ∙ same refl

-- the other of two, where a test decides
or_other_cond : {X : Type 0} (b : Bool) (x : X) (o : Option X) → option_or (cond b None (Some x)) o ≡ cond b o (Some x)
or_other_cond true x o = refl
or_other_cond false x o = refl

module _ {m : Meaning} {k : ℕ} {h : List Move} {s : State} (kept : Kept m k h s) where
  -- the longest lane by the history is the longest lane
  pub longest_told : longest_lane (size m) k h ≡ longest s.lanes
  longest_told =
      sym (ap first_greatest (fill_by_all (λ i. length (lane_left (size m) k h i)) (map left s.lanes) k 0 (length-map s.lanes left ∙ kept.known)
      (λ i known. left_at s.lanes i ∙ sym (lane_left_total kept i known))))

  -- the label that a printer draws from a lane is the one that the history tells
  from_lanes_told : (i : ℕ) → i < k →
      option_or (first_of (lane_left (size m) k h i)) (last_of (lane_left (size m) k h (longest_lane (size m) k h))) ≡ option_map (λ (d : Draw). d.label) (from_lanes s.lanes i)
  from_lanes_told i known =
      ap (λ o. option_or o (last_of (lane_left (size m) k h (longest_lane (size m) k h)))) (ap first_of (kept.lanes i known) ∙ first_of_counting (lane_at s.lanes i).next (left (lane_at s.lanes i)))
      ∙ or_other_cond (eqb (left (lane_at s.lanes i)) 0) (lane_at s.lanes i).next (last_of (lane_left (size m) k h (longest_lane (size m) k h)))
      ∙ ap (λ o. cond (eqb (left (lane_at s.lanes i)) 0) o (Some (lane_at s.lanes i).next)) last_told
      ∙ sym (through_cond (option_map (λ (d : Draw). d.label)) (eqb (left (lane_at s.lanes i)) 0) (last_of_longest s.lanes) _)
    where
      j : ℕ
      j = longest s.lanes

      last_told : last_of (lane_left (size m) k h (longest_lane (size m) k h)) ≡ option_map (λ (d : Draw). d.label) (last_of_longest s.lanes)
      last_told =
          ap (λ x. last_of (lane_left (size m) k h x)) longest_told
          ∙ ap last_of (kept.lanes j (omega (arith, longest_within s.lanes (omega (arith, kept.known)), kept.known)))
          ∙ last_of_counting (lane_at s.lanes j).next (left (lane_at s.lanes j))
          ∙ same_cond (eqb (left (lane_at s.lanes j)) 0) (eqb (left (lane_at s.lanes j)) 0) None None _ (Some ((lane_at s.lanes j).end - 1)) refl (λ _. refl)
          (λ some. ap Some (omega (arith, eqb-false (left (lane_at s.lanes j)) 0 some)))
          ∙ sym (through_cond (option_map (λ (d : Draw). d.label)) (eqb (left (lane_at s.lanes j)) 0) None _)

  -- the printer's next label by the history is the label that it draws
  pub next_told : (i : ℕ) → i < k → next_label (size m) k h i ≡ option_map (λ (d : Draw). d.label) (next_draw s.waiting s.lanes i)
  next_told i known =
      ap (λ (w : List ℕ). option_or (first_of w) (option_or (first_of (lane_left (size m) k h i)) (last_of (lane_left (size m) k h (longest_lane (size m) k h))))) (sym kept.waiting)
      ∙ by s.waiting
    where
      by : (w : List ℕ) → option_or (first_of w) (option_or (first_of (lane_left (size m) k h i)) (last_of (lane_left (size m) k h (longest_lane (size m) k h))))
          ≡ option_map (λ (d : Draw). d.label) (next_draw w s.lanes i)
      by [] = from_lanes_told i known
      by (q ∷ qs) = refl

  -- a label that is drawn is one of the walk's
  pub drawn_below : (i : ℕ) (d : Draw) → i < k → Drew s.waiting s.lanes i d → d.label < size m
  drawn_below i d known (oldest rest e from) = (subst (AllByRecursion (λ x. x < size m)) (sym kept.waiting ∙ e) kept.queued).0
  drawn_below i d known (first e some label from) =
      omega (arith, label, (left_in_lane kept i (lane_at s.lanes i).next known (omega arith) (omega arith)).1, start_le (size m) k (i + 1) (omega arith) (omega arith))
  drawn_below i d known (last e none some label from) =
      let within : longest s.lanes < k = omega (arith, longest_within s.lanes (omega (arith, kept.known)), kept.known) in
      omega (
        arith,
        label,
        (left_in_lane kept (longest s.lanes) ((lane_at s.lanes (longest s.lanes)).end - 1) within (omega arith) (omega arith)).1,
        start_le (size m) k (longest s.lanes + 1) (omega arith) (omega arith),
      )

  -- the label in a hand by the history is the label in the hand
  pub held_told : (i : ℕ) → held s.lanes i ≡ in_hand k h i
  held_told i =
      same_cond (ltb i (length s.lanes)) (ltb i k) _ (ok_or (hand h i) HandEmpty) _ (Err UnknownPrinter) (ap (ltb i) kept.known)
      (λ known. ap (λ o. ok_or o HandEmpty) (kept.hands i (ltb-true i k known))) (λ _. refl)

  take_ruled : (i : ℕ) (tray : List ℕ) → answer s (Take i tray) ≡ rule m k h (Take i tray)
  take_ruled i tray =
      through_cond shows (ltb i (printers s)) _ (Err UnknownPrinter)
      ∙ same_cond (ltb i (printers s)) (ltb i k) _ _ _ (refusal UnknownPrinter) (ap (ltb i) kept.known) (λ known. free_hand (ltb-true i k known)) (λ _. refl)
    where
      shows : Result ℕ BookRefusal → Answer
      shows r = showing r (written s.walk s.walk.width r tray)

      given : (o : Option Draw) → next_draw s.waiting s.lanes i ≡ o → i < k → shows (labelled s.walk o) ≡ giving m tray (option_map (λ (d : Draw). d.label) o)
      given None e known = refl
      given (Some d) e known =
          through_cond shows (ltb d.label (size s.walk)) (Ok d.label) (Err (refused.Row NoSuchLabel))
          ∙ cond-true (ltb d.label (size s.walk)) _ _ (ap (λ (w : Meaning). ltb d.label (size w)) kept.walk ∙ lt-ltb d.label (size m) (drawn_below i d known (drew s.waiting s.lanes i d e)))
          ∙ ap (λ (w : Meaning). shown d.label (meaning.row w d.label ++ drop w.width tray)) kept.walk

      long_tray : i < k → shows (cond (ltb (length tray) s.walk.width) (Err (refused.Row ShortTray)) (labelled s.walk (next_draw s.waiting s.lanes i)))
          ≡ cond (ltb (length tray) m.width) (refusal (refused.Row ShortTray)) (giving m tray (next_label (size m) k h i))
      long_tray known =
          through_cond shows (ltb (length tray) s.walk.width) _ _
          ∙ same_cond (ltb (length tray) s.walk.width) (ltb (length tray) m.width) _ _ _ _ (ap (λ (w : Meaning). ltb (length tray) w.width) kept.walk) (λ _. refl)
          (λ _. given (next_draw s.waiting s.lanes i) refl known ∙ ap (giving m tray) (sym (next_told i known)))

      free_hand : i < k → shows (cond (is_some (lane_at s.lanes i).hand) (Err HandFull)
          (cond (ltb (length tray) s.walk.width) (Err (refused.Row ShortTray)) (labelled s.walk (next_draw s.waiting s.lanes i))))
          ≡ cond (is_some (hand h i)) (refusal HandFull) (cond (ltb (length tray) m.width) (refusal (refused.Row ShortTray)) (giving m tray (next_label (size m) k h i)))
      free_hand known =
          through_cond shows (is_some (lane_at s.lanes i).hand) _ _
          ∙ same_cond (is_some (lane_at s.lanes i).hand) (is_some (hand h i)) _ _ _ _ (ap is_some (kept.hands i known)) (λ _. refl) (λ _. long_tray known)

  row_ruled : (l : ℕ) (tray : List ℕ) → answer s (AskRow l tray) ≡ rule m k h (AskRow l tray)
  row_ruled l tray =
      ap (λ (w : Meaning). showing (row_of w) (written w w.width (row_of w) tray)) kept.walk
      ∙ through_cond shows (ltb l (size m)) (cond (ltb (length tray) m.width) (Err (refused.Row ShortTray)) (Ok l)) (Err (refused.Row NoSuchLabel))
      ∙ ap (λ a. cond (ltb l (size m)) a (refusal (refused.Row NoSuchLabel))) (through_cond shows (ltb (length tray) m.width) (Err (refused.Row ShortTray)) (Ok l))
    where
      row_of : Meaning → Result ℕ BookRefusal
      row_of w = cond (ltb l (size w)) (cond (ltb (length tray) w.width) (Err (refused.Row ShortTray)) (Ok l)) (Err (refused.Row NoSuchLabel))

      shows : Result ℕ BookRefusal → Answer
      shows r = showing r (written m m.width r tray)

  counts_ruled : 0 < k → answer s AskCounts ≡ rule m k h AskCounts
  counts_ruled some =
      ap (λ n. totals n (lanes.hands s.lanes) (length s.waiting) (lanes.undrawn s.lanes)) kept.on_the_bench
      ∙ ap (λ n. totals (length (bench h)) n (length s.waiting) (lanes.undrawn s.lanes)) (state_hands kept)
      ∙ ap (λ n. totals (length (bench h)) (hands_count k h) n (lanes.undrawn s.lanes)) (ap length kept.waiting ∙ queue_total kept)
      ∙ ap (λ n. totals (length (bench h)) (hands_count k h) (waiting_count (size m) h) n) (state_undrawn kept some)
    where
      totals : ℕ → ℕ → ℕ → ℕ → Answer
      totals b hd w u = four (record { bench = b; hands = hd; waiting = w; undrawn = u })

  close_ruled : answer s Close ≡ rule m k h Close
  close_ruled =
      through_cond numbered (ltb s.bench (size s.walk)) (Err NotAllPrinted) (Ok (size s.walk))
      ∙ ap (λ b. cond (ltb b (size s.walk)) (refusal NotAllPrinted) (number (size s.walk))) kept.on_the_bench
      ∙ ap (λ (w : Meaning). cond (ltb (length (bench h)) (size w)) (refusal NotAllPrinted) (number (size w))) kept.walk

  -- every call answers as the rules fix it
  pub ruled : 0 < k → (call : Call) → answer s call ≡ rule m k h call
  ruled some (Take i tray) = take_ruled i tray
  ruled some (Printed i scanned) =
      ap (λ held. numbered (matched held (finds s.walk scanned))) (held_told i) ∙ ap (λ (w : Meaning). numbered (matched (in_hand k h i) (finds w scanned))) kept.walk
  ruled some (Spoiled i) = ap numbered (held_told i)
  ruled some (AskRow l tray) = row_ruled l tray
  ruled some (AskLabel scanned) = ap (λ (w : Meaning). numbered (results.result_map_both (λ l. l) refused.Row (finds w scanned))) kept.walk
  ruled some AskCounts = counts_ruled some
  ruled some Close = close_ruled
