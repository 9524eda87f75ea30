-- What the calls of a walk answer, case by case. Assumes nothing.
use Rattle.std.proofs.Common.{◌≡◌, ℕ, zero, suc, ◌-◌, ◌<◌, ◌≤◌, true, false, cond, ltb, ◌⊎◌, List, [], ◌∷◌, ◌++◌, length, drop, is_ok, Some, None, Ok, Err, Result, sym, refl, ap, ◌∙◌, subst, ap₂, inl, inr, ⊎_elim, arith}
use Rattle.std.specs.Option.{option_map, ok_or}
use Rattle.std.proofs.lemmas.Bool.{cases_lt, lt-ltb, le-ltb, eq-eqb, ne_eqb, cases_Bool, cond-true, cond-false, both_ways}
use Rattle.walk.specs.Rows.{Row, row_at, Apart, same_row, label_of}
use Rattle.walk.specs.Meaning.{Meaning, Lawful, size, row, standing}
use Rattle.walk.specs.Answers.{seeks, after_seek, backs, after_back, reads, after_read, finds}
use Rattle.walk.specs.declared.answers.Refusal.{Refusal}
use Rattle.walk.specs.declared.answers.Refusal.TheVariants.{NoSuchLabel, ShortTray, NoSuchRow}
use Rattle.walk.proofs.Calls.{reads_ok}
use Rattle.walk.proofs.Differences.{equal_from_same, same_itself, label_of_listed, label_of_missing}

module _ (m : Meaning) where
  -- `seek` goes to a label
  pub seek_in : (label : ℕ) → label < size m → (seeks m label ≡ Ok tt) × (after_seek m label ≡ standing m label)
  seek_in label h = (cond-true _ _ _ (lt-ltb label (size m) h), cond-true _ _ _ (lt-ltb label (size m) h))

  -- `seek` refuses what is no label
  pub seek_out : (label : ℕ) → size m ≤ label → (seeks m label ≡ Err NoSuchLabel) × (after_seek m label ≡ m)
  seek_out label h = (cond-false _ _ _ (le-ltb label (size m) h), cond-false _ _ _ (le-ltb label (size m) h))

  -- `back` goes down by one
  pub back_in : 0 < m.place → (backs m ≡ Ok tt) × (after_back m ≡ standing m (m.place - 1))
  back_in h = (cond-false _ _ _ (ne_eqb m.place 0 (λ e. omega arith)), cond-false _ _ _ (ne_eqb m.place 0 (λ e. omega arith)))

  -- `back` refuses at 0
  pub back_out : m.place ≡ 0 → (backs m ≡ Err NoSuchLabel) × (after_back m ≡ m)
  back_out h = (cond-true _ _ _ (eq-eqb m.place 0 h), cond-true _ _ _ (eq-eqb m.place 0 h))

  -- `read` refuses where there are no rows
  pub read_none : (tray : List ℕ) → size m ≡ 0 → (reads m tray ≡ Err NoSuchLabel) × (after_read m tray ≡ tray)
  read_none tray h =
      let told : reads m tray ≡ Err NoSuchLabel = cond-true _ _ _ (eq-eqb (size m) 0 h) in
      (told, cond-false _ _ _ (ap is_ok told))

  -- `read` where there are rows
  read_some : (tray : List ℕ) → 0 < size m → reads m tray ≡ cond (ltb (length tray) m.width) (Err ShortTray) (Ok tt)
  read_some tray h = cond-false _ _ _ (ne_eqb (size m) 0 (λ e. omega arith))

-- `read` writes the row into a tray that is long enough
pub read_row : (m : Meaning) (tray : List ℕ) → 0 < size m → m.width ≤ length tray → (reads m tray ≡ Ok tt) × (after_read m tray ≡ row m m.place ++ drop m.width tray)
read_row m tray some long =
    (reads_ok m tray some long, cond-true _ _ _ (ap is_ok (reads_ok m tray some long)))

-- to go to the first row leaves a walk without rows where it is, which is 0
pub first_place : (m : Meaning) → Lawful m → after_seek m 0 ≡ standing m 0
first_place m lawful = ⊎_elim (λ some. (seek_in m 0 some).1) (λ none. (seek_out m 0 none).1 ∙ ap (standing m) (lawful.inside.1 (omega arith))) (cases_lt 0 (size m))

-- the label of a row, with what it tells of the list
pub record Labelled (rows : List Row) (r : Row) : Type 0 where
  pub label : ℕ
  pub told : label_of rows r ≡ Some label
  pub below : label < length rows
  pub is : row_at rows label ≡ r

-- a row that has no label, and so stands nowhere
pub record Unlisted (rows : List Row) (r : Row) : Type 0 where
  pub told : label_of rows r ≡ None
  pub nowhere : (i : ℕ) → i < length rows → row_at rows i ≡ r → ⊥

-- a row has a label, or it stands nowhere
pub label_cases : (rows : List Row) (r : Row) → Labelled rows r ⊎ Unlisted rows r
label_cases [] r = inr (record { told = refl; nowhere = λ i lt e. omega arith })
label_cases (x ∷ xs) r = ⊎_elim here (λ other. ⊎_elim (λ l. inl (later other l)) (λ l. inr (never other l)) (label_cases xs r)) (cases_Bool (same_row x r))
  where
    here : same_row x r ≡ true → Labelled (x ∷ xs) r ⊎ Unlisted (x ∷ xs) r
    here e = inl (record { label = 0; told = cond-true _ _ _ e; below = omega arith; is = equal_from_same x r e })

    later : same_row x r ≡ false → Labelled xs r → Labelled (x ∷ xs) r
    later other l = record { label = suc l.label; told = cond-false _ _ _ other ∙ ap (option_map suc) l.told; below = omega (arith, l.below); is = l.is }

    first : same_row x r ≡ false → x ≡ r → ⊥
    first other e = both_ways (same_row x r) other (subst (λ y. same_row x y ≡ true) e (same_itself x))

    never : same_row x r ≡ false → Unlisted xs r → Unlisted (x ∷ xs) r
    never other l = record { told = cond-false _ _ _ other ∙ ap (option_map suc) l.told; nowhere = λ i. nowhere_from i }
      where
        nowhere_from : (i : ℕ) → i < suc (length xs) → row_at (x ∷ xs) i ≡ r → ⊥
        nowhere_from zero lt e = first other e
        nowhere_from (suc i) lt e = l.nowhere i (omega arith) e

module _ (m : Meaning) (r : Row) where
  -- a label that `find` answers is that of the row
  pub found : (label : ℕ) → Ok label ≡ finds m r → (label < size m) × (row m label ≡ r)
  found label e = ⊎_elim at (λ u. absurd (none u)) (label_cases m.rows r)
    where
      at : Labelled m.rows r → (label < size m) × (row m label ≡ r)
      at l =
          let same : label ≡ l.label = cc (e, ap (λ o. ok_or o NoSuchRow) l.told) in
          (omega (arith, l.below), ap (row m) same ∙ l.is)

      none : Unlisted m.rows r → ⊥
      none u = let z : ◌≡◌ {A = ℕ} 0 1 = cc (e, ap (λ o. ok_or o NoSuchRow) u.told) in omega arith

  -- and one of the walk
  pub found_below : (label : ℕ) → Ok label ≡ finds m r → label < size m
  found_below label e = (found label e).0

  -- a row that `find` refuses is not in the walk
  pub lost : (why : Refusal) → Err why ≡ finds m r → (why ≡ NoSuchRow) × ((i : ℕ) → i < size m → row m i ≡ r → ⊥)
  lost why e = ⊎_elim (λ l. absurd (at l)) none (label_cases m.rows r)
    where
      at : Labelled m.rows r → ⊥
      at l = let z : ◌≡◌ {A = ℕ} 0 1 = cc (e, ap (λ o. ok_or o NoSuchRow) l.told) in omega arith

      none : Unlisted m.rows r → (why ≡ NoSuchRow) × ((i : ℕ) → i < size m → row m i ≡ r → ⊥)
      none u = (cc (e, ap (λ o. ok_or o NoSuchRow) u.told), u.nowhere)

  -- `find` answers the label at which the row stands
  pub finds_label : Apart m.rows → (label : ℕ) → label < size m → row m label ≡ r → finds m r ≡ Ok label
  finds_label apart label lt e =
      ap (λ o. ok_or o NoSuchRow) (label_of_listed m.rows r label apart lt e)

  -- `find` refuses a row that stands nowhere
  pub finds_none : ((i : ℕ) → i < size m → row m i ≡ r → ⊥) → finds m r ≡ Err NoSuchRow
  finds_none nowhere = ap (λ o. ok_or o NoSuchRow) (label_of_missing m.rows r nowhere)

-- two walks with one row at their places read alike
pub read_same : (m n : Meaning) (tray : List ℕ) → 0 < size m → 0 < size n → m.width ≡ n.width → row m m.place ≡ row n n.place →
    (reads m tray ≡ reads n tray) × (after_read m tray ≡ after_read n tray)
read_same m n tray some_m some_n width rows =
    let told : reads m tray ≡ reads n tray =
    read_some m tray some_m ∙ ap (λ w. cond (ltb (length tray) w) (Err ShortTray) (Ok tt)) width ∙ sym (read_some n tray some_n) in
    (told, ap₂ (λ ok written. cond ok written tray) (ap is_ok told) (ap₂ (λ r w. r ++ drop w tray) rows width))

-- the place is a label, or 0 where there are no rows
pub place_most : (m : Meaning) → Lawful m → m.place ≤ size m - 1
place_most m lawful = ⊎_elim (λ some. omega (arith, lawful.inside.0 some)) (λ none. omega (arith, lawful.inside.1 (omega arith))) (cases_lt 0 (size m))

-- what is accepted is not refused
pub not_both : (answer : Result (Unit {0}) Refusal) (why : Refusal) → Err why ≡ answer → answer ≡ Ok tt → ⊥
not_both answer why refused accepted = let z : ◌≡◌ {A = ℕ} 0 1 = cc in omega arith
