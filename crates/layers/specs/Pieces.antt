-- A part of a walk is a walk, and how its calls follow from those below. Assumes nothing.
use Rattle.std.specs.Prelude.{◌≡◌, ℕ, ◌+◌, ◌-◌, ◌<◌, ◌≤◌, min, true, ◌⊎◌, List, length, Ok, Err, ◌==◌, ◌≢◌, refl}
use Rattle.std.proofs.Common.{sym, ap, ap₂, ◌∙◌, ⊎_elim, arith}
use Rattle.std.proofs.lemmas.List.{length-take, length-drop, get_or-take, get_or-drop}
use Rattle.std.proofs.lemmas.Bool.{cases_lt, cond-true, cond-false, cond_both, eq-eqb, ne_eqb}
use Rattle.walk.specs.Rows.{Row, differences}
use Rattle.walk.specs.Meaning.{Meaning, Lawful, size, row, standing}
use Rattle.walk.specs.Answers.{reads, after_read, finds}
use Rattle.walk.specs.declared.answers.Refusal.{Refusal}
use Rattle.walk.specs.declared.answers.Refusal.TheVariants.{NoSuchRow}
use Rattle.layers.specs.Part.{piece, cut_ahead, cut_behind, cut_start, cut_size, cut}
use Rattle.walk.proofs.Cases.{place_most, read_same, found, lost, finds_label, finds_none}

module _ (m : Meaning) (from n p : ℕ) (fits : from + n ≤ size m) where
  -- a piece has the rows that were asked for
  pub piece_size : size (piece from n p m) ≡ n
  piece_size = simp (length-take, length-drop) (omega arith)

  -- its labels count from its first row
  pub piece_row : (i : ℕ) → i < n → row (piece from n p m) i ≡ row m (from + i)
  piece_row i lt = rw (get_or-take, get_or-drop)

  -- a piece of a walk is a walk
  pub piece_lawful : Lawful m → p ≤ n - 1 → Lawful (piece from n p m)
  piece_lawful lawful inside =
      let long = piece_size in
      record {
        narrow = lawful.narrow;
        few = omega (arith, lawful.few);
        wide = λ i lt. ap length (piece_row i (omega arith)) ∙ lawful.wide (from + i) (omega arith);
        bytes = λ i k lt below. rw (piece_row i (omega arith)) (lawful.bytes (from + i) k (omega arith) below);
        apart = λ i j hi hj e. let same = lawful.apart (from + i) (from + j) (omega arith) (omega arith) (sym (piece_row i (omega arith)) ∙ e ∙ piece_row j (omega arith)) in omega arith;
        inside = (λ some. omega arith, λ none. omega arith);
        steps = λ told i lt. steps told i (omega arith);
      }
    where
      steps : m.steady ≡ true → (i : ℕ) → i + 1 < n → differences (row (piece from n p m) i) (row (piece from n p m) (i + 1)) ≤ 2
      steps told i lt =
          let e : from + (i + 1) ≡ from + i + 1 = omega arith in
          rw (piece_row i (omega arith), piece_row (i + 1) lt, e) (lawful.steps told (from + i) (omega arith))

module _ (m : Meaning) (lawful : Lawful m) (behind ahead : ℕ) where
  -- the rows behind the place are rows below
  pub cut_behind_most : cut_behind behind ahead m ≤ m.place
  cut_behind_most = cond_both (cut_ahead ahead m == 0) 0 (min behind m.place) (λ b. b ≤ m.place) (λ e. omega arith) (λ e. omega arith)

  -- and so are those from it on
  pub cut_ahead_most : m.place + cut_ahead ahead m ≤ size m
  cut_ahead_most = omega (arith, place_most m lawful)

  -- with no rows from the place on there are none behind it
  pub cut_behind_none : cut_ahead ahead m ≡ 0 → cut_behind behind ahead m ≡ 0
  cut_behind_none e = cond-true _ _ _ (eq-eqb (cut_ahead ahead m) 0 e)

  -- a part lies within the walk below
  pub cut_fits : cut_start behind ahead m + cut_size behind ahead m ≤ size m
  cut_fits = omega (arith, cut_behind_most, cut_ahead_most)

  -- a part has the rows behind the place and those from it on
  pub part_size : size (cut behind ahead m) ≡ cut_size behind ahead m
  part_size = piece_size m (cut_start behind ahead m) (cut_size behind ahead m) (cut_behind behind ahead m) cut_fits

  -- its labels count from its first row
  pub part_row : (i : ℕ) → i < cut_size behind ahead m → row (cut behind ahead m) i ≡ row m (cut_start behind ahead m + i)
  part_row = piece_row m (cut_start behind ahead m) (cut_size behind ahead m) (cut_behind behind ahead m) cut_fits

  -- a part of a walk is a walk
  pub part_lawful : Lawful (cut behind ahead m)
  part_lawful =
      piece_lawful m (cut_start behind ahead m) (cut_size behind ahead m) (cut_behind behind ahead m) cut_fits lawful
      (⊎_elim (λ some. omega arith) (λ none. omega (arith, cut_behind_none (omega arith))) (cases_lt 0 (cut_ahead ahead m)))

  -- a part stands at a label where the walk below goes to that row, with so many rows behind it and the others from it on
  pub part_standing : (label q rest : ℕ) (after : Meaning) → label < cut_size behind ahead m → q ≡ cut_start behind ahead m + label → label + rest ≡ cut_size behind ahead m →
      after ≡ standing m q → cut label rest after ≡ standing (cut behind ahead m) label
  part_standing label q rest after lt there all is =
      let fits = cut_fits in
      let on : cut_ahead rest (standing m q) ≡ rest = omega arith in
      let off : cut_behind label rest (standing m q) ≡ label = cond-false _ _ _ (ne_eqb (cut_ahead rest (standing m q)) 0 (λ e. omega arith)) ∙ omega arith in
      let start : q - label ≡ cut_start behind ahead m = omega arith in
      ap (cut label rest) is ∙ ap₂ (λ b a. piece (q - b) (b + a) b m) off on ∙ ap₂ (λ from long. piece from long label m) start all

  -- `read` is `read` below where there are rows
  pub part_read : (tray : List ℕ) → 0 < cut_ahead ahead m → (reads (cut behind ahead m) tray ≡ reads m tray) × (after_read (cut behind ahead m) tray ≡ after_read m tray)
  part_read tray some =
      let home : cut_start behind ahead m + cut_behind behind ahead m ≡ m.place = omega (arith, cut_behind_most) in
      read_same (cut behind ahead m) m tray (omega (arith, part_size)) (omega (arith, cut_ahead_most)) refl (part_row (cut_behind behind ahead m) (omega arith) ∙ ap (row m) home)

  -- a row below that lies in the part has its label there, counted from the first row
  pub part_found : (r : Row) (label : ℕ) → Ok label ≡ finds m r → cut_start behind ahead m ≤ label → label - cut_start behind ahead m < cut_size behind ahead m →
      finds (cut behind ahead m) r ≡ Ok (label - cut_start behind ahead m)
  part_found r label e from to =
      let home : cut_start behind ahead m + (label - cut_start behind ahead m) ≡ label = omega arith in
      finds_label (cut behind ahead m) r part_lawful.apart (label - cut_start behind ahead m) (omega (arith, part_size)) (part_row (label - cut_start behind ahead m) to ∙ ap (row m) home ∙ (found m r label e).1)

  -- a row below that does not lie in the part is not there
  pub part_outside : (r : Row) (label : ℕ) → Ok label ≡ finds m r → (label < cut_start behind ahead m) ⊎ (cut_size behind ahead m ≤ label - cut_start behind ahead m) →
      finds (cut behind ahead m) r ≡ Err NoSuchRow
  part_outside r label e out = finds_none (cut behind ahead m) r nowhere
    where
      nowhere : (i : ℕ) → i < size (cut behind ahead m) → row (cut behind ahead m) i ≢ r
      nowhere i lt at =
          let below = found m r label e in
          let lt' : i < cut_size behind ahead m = omega (arith, part_size) in
          let same = lawful.apart (cut_start behind ahead m + i) label (omega (arith, cut_fits)) below.0 (sym (part_row i lt') ∙ at ∙ sym below.1) in
          ⊎_elim (λ before. omega arith) (λ behind_it. omega arith) out

  -- a row that is not below is not in the part
  pub part_lost : (r : Row) (why : Refusal) → Err why ≡ finds m r → finds (cut behind ahead m) r ≡ Err why
  part_lost r why e =
      let gone = lost m r why e in
      finds_none (cut behind ahead m) r (λ i lt at. let lt' : i < cut_size behind ahead m = omega (arith, part_size) in gone.1 (cut_start behind ahead m + i) (omega (arith, cut_fits)) (sym (part_row i lt') ∙ at)) ∙ ap Err (sym gone.0)
