-- The rows of a ladder, and that it is a walk. Assumes nothing.
use Rattle.std.specs.Prelude.{◌≡◌, ℕ, zero, suc, ◌+◌, ◌<◌, ◌≤◌, List, [], ◌∷◌, ◌++◌, length, drop, is_ok, Ok, Err, ◌≢◌, slice_index, slice_set, refl}
use Rattle.std.proofs.Common.{sym, ap, ap₂, subst, ◌∙◌, zero-add, arith}
use Rattle.std.proofs.lemmas.List.FromFn.{length-map-range_with_len, get_or-map-range_with_len}
use Rattle.std.proofs.lemmas.Bool.{lt-ltb, ne_eqb, cond-true, cond-false}
use Rattle.walk.specs.Answers.{reads, after_read, finds}
use Rattle.walk.specs.Rows.{Row, row_at, differences}
use Rattle.walk.specs.Meaning.{Lawful, size}
use Rattle.walk.specs.declared.answers.Refusal.TheVariants.{ShortTray, NoSuchRow}
use Rattle.walk.proofs.Cases.{read_row, finds_label, finds_none}
use Rattle.walk.proofs.Differences.{differences_first}
use Rattle.ladder.specs.Ladder.{ladder_rows, ladder_meaning}
use Rattle.ladder.specs.declared.Ladder.{Ladder}

-- the row of one value
abbrev rung : ℕ → Row
rung v = v ∷ []

-- a ladder has a row for each rung
pub ladder_length : (rungs : ℕ) → length (ladder_rows rungs) ≡ rungs
ladder_length rungs = length-map-range_with_len rung 0 rungs

-- the row at a label is that label
pub ladder_row : (rungs i : ℕ) → i < rungs → row_at (ladder_rows rungs) i ≡ i ∷ []
ladder_row rungs i h = get_or-map-range_with_len rung 0 rungs i i [] h (zero-add i)

-- rows of one value each are equal only where their values are
pub value_of : (a b : ℕ) → rung a ≡ rung b → a ≡ b
value_of a b e = ap (λ r. slice_index r 0) e

-- a row of one value is that value
single : (r : Row) → length r ≡ 1 → rung (slice_index r 0) ≡ r
single [] one = absurd (omega arith)
single (x ∷ []) one = refl
single (x ∷ y ∷ r) one = absurd (omega arith)

-- a first byte written is a row of one value before the other bytes
first_written : (tray : List ℕ) (v : ℕ) → 0 < length tray → slice_set tray 0 v ≡ rung v ++ drop 1 tray
first_written [] v some = absurd (omega arith)
first_written (x ∷ xs) v some = refl

module _ (l : Ladder) where
  below : (i : ℕ) → i < length (ladder_rows l.rungs) → i < l.rungs
  below i h = omega (arith, ladder_length l.rungs)

  here : (i : ℕ) → i < length (ladder_rows l.rungs) → row_at (ladder_rows l.rungs) i ≡ rung i
  here i h = ladder_row l.rungs i (below i h)

  -- a value of a row, which is there only at place 0
  value : (i k : ℕ) → k < 1 → i ≤ 255 → slice_index (rung i) k ≤ 255
  value i zero h small = small
  value i (suc k) h small = absurd (omega arith)

  -- every ladder is a walk
  pub ladder_lawful : Lawful (ladder_meaning l)
  ladder_lawful =
      let long = ladder_length l.rungs in
      let byte = l.byte in
      let inside = l.inside in
      record {
        narrow = omega arith;
        few = omega arith;
        wide = λ i lt. ap length (here i lt);
        bytes = λ i k lt first. subst (λ r. slice_index r k ≤ 255) (sym (here i lt)) (value i k first (omega (arith, below i lt)));
        apart = λ i j lt_i lt_j same. value_of i j (sym (here i lt_i) ∙ same ∙ here j lt_j);
        inside = (λ some. omega arith, λ none. omega arith);
        steps = λ yes i lt. subst (λ n. n ≤ 2) (sym (ap₂ differences (here i (omega arith)) (here (i + 1) lt) ∙ differences_first i (i + 1) [] [] (λ e. omega arith))) (omega arith);
      }

  -- `read` refuses a tray without room
  pub ladder_short : (tray : List ℕ) → 0 < l.rungs → length tray ≡ 0 → (reads (ladder_meaning l) tray ≡ Err ShortTray) × (after_read (ladder_meaning l) tray ≡ tray)
  ladder_short tray some none =
      let long = ladder_length l.rungs in
      let told : reads (ladder_meaning l) tray ≡ Err ShortTray =
      cond-false _ _ _ (ne_eqb (size (ladder_meaning l)) 0 (λ e. omega arith)) ∙ cond-true _ _ _ (lt-ltb (length tray) 1 (omega arith)) in
      (told, cond-false _ _ _ (ap is_ok told))

  -- `read` writes the place into the first byte
  pub ladder_read : (tray : List ℕ) → 0 < l.rungs → 0 < length tray → (reads (ladder_meaning l) tray ≡ Ok tt) × (after_read (ladder_meaning l) tray ≡ slice_set tray 0 l.place)
  ladder_read tray some room =
      let long = ladder_length l.rungs in
      let inside = l.inside in
      let done = read_row (ladder_meaning l) tray (omega arith) (omega arith) in
      (done.0, done.1 ∙ ap (λ r. r ++ drop 1 tray) (ladder_row l.rungs l.place (omega arith)) ∙ sym (first_written tray l.place room))

  -- `find` refuses what is no value below the number of rungs
  pub ladder_lost : (r : Row) → (length r ≡ 1 → l.rungs ≤ slice_index r 0) → finds (ladder_meaning l) r ≡ Err NoSuchRow
  ladder_lost r high = finds_none (ladder_meaning l) r nowhere
    where
      nowhere : (i : ℕ) → i < length (ladder_rows l.rungs) → row_at (ladder_rows l.rungs) i ≢ r
      nowhere i lt at =
          let is : rung i ≡ r = sym (here i lt) ∙ at in
          omega (arith, high (sym (ap length is)), ap (λ s. slice_index s 0) is, below i lt)

  -- `find` answers a value below the number of rungs
  pub ladder_found : (r : Row) → length r ≡ 1 → slice_index r 0 < l.rungs → finds (ladder_meaning l) r ≡ Ok (slice_index r 0)
  ladder_found r one lt =
      finds_label (ladder_meaning l) r ladder_lawful.apart (slice_index r 0) (omega (arith, ladder_length l.rungs)) (ladder_row l.rungs (slice_index r 0) lt ∙ single r one)
