-- The rows of a walk backward are a walk, and how its calls follow from those below. Assumes nothing.
use Rattle.std.specs.Prelude.{◌≡◌, ℕ, ◌+◌, ◌-◌, ◌<◌, ◌≤◌, true, List, [], length, Ok, Err, refl}
use Rattle.std.proofs.Common.{sym, ap, ◌∙◌, ⊎_elim, arith}
use Rattle.std.proofs.lemmas.List.{get_or-reverse, length-reverse}
use Rattle.std.proofs.lemmas.Bool.{cases_lt}
use Rattle.walk.specs.Rows.{Row, differences}
use Rattle.walk.specs.Meaning.{Meaning, Lawful, size, row, standing}
use Rattle.walk.specs.Answers.{seeks, after_seek, backs, after_back, reads, after_read, finds}
use Rattle.walk.specs.declared.answers.Refusal.{Refusal}
use Rattle.walk.proofs.Differences.{differences_comm}
use Rattle.walk.proofs.Turned.{apart_reverse}
use Rattle.layers.specs.Reverse.{reversed}
use Rattle.walk.proofs.Cases.{place_most, seek_in, seek_out, back_in, back_out, read_none, read_same, found, lost, finds_label, finds_none}

-- `advance` backward is `back` below
abbrev Advances : Meaning → Type 0
Advances m = (seeks (reversed m) ((reversed m).place + 1) ≡ backs m) × (after_seek (reversed m) ((reversed m).place + 1) ≡ reversed (after_back m))

-- `back` backward is `advance` below
abbrev Backs : Meaning → Type 0
Backs m = (backs (reversed m) ≡ seeks m (m.place + 1)) × (after_back (reversed m) ≡ reversed (after_seek m (m.place + 1)))

-- `read` backward is `read` below
abbrev Reads : Meaning → List ℕ → Type 0
Reads m tray = (reads (reversed m) tray ≡ reads m tray) × (after_read (reversed m) tray ≡ after_read m tray)

module _ (m : Meaning) where
  -- backward there are as many rows
  pub reverse_size : size (reversed m) ≡ size m
  reverse_size = length-reverse m.rows

  -- labels count from the other end
  pub reverse_row : (i : ℕ) → i < size m → row (reversed m) i ≡ row m (size m - 1 - i)
  reverse_row i lt = get_or-reverse m.rows i [] lt

  -- `seek` goes to the label counted from the other end
  pub reverse_seek : (n label : ℕ) → n ≡ size m → label < n →
      (seeks m (n - 1 - label) ≡ seeks (reversed m) label) × (reversed (after_seek m (n - 1 - label)) ≡ after_seek (reversed m) label)
  reverse_seek n label all lt =
      let below = seek_in m (n - 1 - label) (omega arith) in
      let here = seek_in (reversed m) label (omega (arith, reverse_size)) in
      let home : size m - 1 - (n - 1 - label) ≡ label = omega arith in
      (below.0 ∙ sym here.0, ap reversed below.1 ∙ ap (standing (reversed m)) home ∙ sym here.1)

  -- a walk backward is a walk
  pub reverse_lawful : Lawful m → Lawful (reversed m)
  reverse_lawful lawful =
      let same = reverse_size in
      let inside = lawful.inside in
      record {
        narrow = lawful.narrow;
        few = omega (arith, lawful.few);
        wide = λ i lt. ap length (reverse_row i (omega arith)) ∙ lawful.wide (size m - 1 - i) (omega arith);
        bytes = λ i k lt below. rw (reverse_row i (omega arith)) (lawful.bytes (size m - 1 - i) k (omega arith) below);
        apart = apart_reverse m.rows lawful.apart;
        inside = (λ some. omega (arith, inside.0 (omega arith)), λ none. omega arith);
        steps = λ told i lt. steps told i (omega arith);
      }
    where
      steps : m.steady ≡ true → (i : ℕ) → i + 1 < size m → differences (row (reversed m) i) (row (reversed m) (i + 1)) ≤ 2
      steps told i lt =
          let k = size m - 1 - (i + 1) in
          let e : size m - 1 - i ≡ k + 1 = omega arith in
          rw (reverse_row i (omega arith), reverse_row (i + 1) lt, e, differences_comm (row m (k + 1)) (row m k)) (lawful.steps told k (omega arith))

  module _ (lawful : Lawful m) where
    pub reverse_advance : Advances m
    reverse_advance = ⊎_elim go stay (cases_lt 0 m.place)
      where
        go : 0 < m.place → Advances m
        go lt =
            let inside = place_most m lawful in
            let here = seek_in (reversed m) ((reversed m).place + 1) (omega (arith, reverse_size)) in
            let below = back_in m lt in
            let label : (reversed m).place + 1 ≡ size m - 1 - (m.place - 1) = omega arith in
            (here.0 ∙ sym below.0, here.1 ∙ ap (standing (reversed m)) label ∙ sym (ap reversed below.1))

        stay : m.place ≤ 0 → Advances m
        stay le =
            let here = seek_out (reversed m) ((reversed m).place + 1) (omega (arith, reverse_size)) in
            let below = back_out m (omega arith) in
            (here.0 ∙ sym below.0, here.1 ∙ sym (ap reversed below.1))

    pub reverse_back : Backs m
    reverse_back = ⊎_elim go stay (cases_lt (m.place + 1) (size m))
      where
        go : m.place + 1 < size m → Backs m
        go lt =
            let here = back_in (reversed m) (omega arith) in
            let below = seek_in m (m.place + 1) lt in
            let label : (reversed m).place - 1 ≡ size m - 1 - (m.place + 1) = omega arith in
            (here.0 ∙ sym below.0, here.1 ∙ ap (standing (reversed m)) label ∙ sym (ap reversed below.1))

        stay : size m ≤ m.place + 1 → Backs m
        stay le =
            let here = back_out (reversed m) (omega arith) in
            let below = seek_out m (m.place + 1) le in
            (here.0 ∙ sym below.0, here.1 ∙ sym (ap reversed below.1))

    pub reverse_read : (tray : List ℕ) → Reads m tray
    reverse_read tray = ⊎_elim some none (cases_lt 0 (size m))
      where
        some : 0 < size m → Reads m tray
        some lt =
            let inside = lawful.inside.0 lt in
            let home : size m - 1 - (size m - 1 - m.place) ≡ m.place = omega arith in
            read_same (reversed m) m tray (omega (arith, reverse_size)) lt refl (reverse_row (size m - 1 - m.place) (omega arith) ∙ ap (row m) home)

        none : size m ≤ 0 → Reads m tray
        none le =
            let here = read_none (reversed m) tray (omega (arith, reverse_size)) in
            let below = read_none m tray (omega arith) in
            (here.0 ∙ sym below.0, here.1 ∙ sym below.1)

    -- `find` counts the label below from the other end
    pub reverse_found : (r : Row) (label : ℕ) → Ok label ≡ finds m r → finds (reversed m) r ≡ Ok (size m - 1 - label)
    reverse_found r label e =
        let at = found m r label e in
        let home : size m - 1 - (size m - 1 - label) ≡ label = omega (arith, at.0) in
        finds_label (reversed m) r (apart_reverse m.rows lawful.apart) (size m - 1 - label) (omega (arith, at.0, reverse_size)) (reverse_row (size m - 1 - label) (omega (arith, at.0)) ∙ ap (row m) home ∙ at.1)

  -- a row that is not below is not here
  pub reverse_lost : (r : Row) (why : Refusal) → Err why ≡ finds m r → finds (reversed m) r ≡ Err why
  reverse_lost r why e =
      let gone = lost m r why e in
      finds_none (reversed m) r (λ i lt at. gone.1 (size m - 1 - i) (omega (arith, reverse_size)) (sym (reverse_row i (omega (arith, reverse_size))) ∙ at)) ∙ ap Err (sym gone.0)
