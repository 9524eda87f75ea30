-- The same rows backward. Assumes nothing.
use Rattle.std.proofs.Common.{◌≡◌, ℕ, ◌+◌, ◌-◌, ◌<◌, Bool, true, false, cond, not, ◌↔◌, List, [], ◌∷◌, reverse, length, sym, refl, ap, ◌∙◌, arith}
use Rattle.std.proofs.lemmas.List.{get_or-reverse, length-reverse, reverse-reverse}
use Rattle.walk.specs.Rows.{Row, row_at, Listed, Apart, Stepping, turned}
use Rattle.walk.proofs.Differences.{differences_comm}

-- one row alone is not there twice
pub apart_one : (r : Row) → Apart (r ∷ [])
apart_one r i j h l e = omega arith

module _ (rows : List Row) where
  -- backward there are the same rows
  pub listed_reverse : (r : Row) → Listed rows r → Listed (reverse rows) r
  listed_reverse r (i, h, e) =
      let back : length rows - 1 - (length rows - 1 - i) ≡ i = omega arith in
      (length rows - 1 - i, omega (arith, length-reverse rows), get_or-reverse rows (length rows - 1 - i) [] (omega arith) ∙ ap (row_at rows) back ∙ e)

  -- no two rows are the same backward either
  pub apart_reverse : Apart rows → Apart (reverse rows)
  apart_reverse apart i j h l e =
      let h' : i < length rows = omega (arith, length-reverse rows) in
      let l' : j < length rows = omega (arith, length-reverse rows) in
      let same = apart (length rows - 1 - i) (length rows - 1 - j) (omega arith) (omega arith) (sym (get_or-reverse rows i [] h') ∙ e ∙ get_or-reverse rows j [] l') in
      omega arith

  -- neighbours differ in as many places backward
  pub stepping_reverse : (n : ℕ) → Stepping n rows → Stepping n (reverse rows)
  stepping_reverse n steps i h =
      let l : i + 1 < length rows = omega (arith, length-reverse rows) in
      let k = length rows - 1 - (i + 1) in
      let e : length rows - 1 - i ≡ k + 1 = omega arith in
      rw (get_or-reverse rows i [] (omega arith), get_or-reverse rows (i + 1) [] l, e) (differences_comm (row_at rows (k + 1)) (row_at rows k) ∙ steps k (omega arith))

-- turned rows are as many
pub length_turned : (back : Bool) (rows : List Row) → length (turned back rows) ≡ length rows
length_turned true rows = length-reverse rows
length_turned false rows = refl

-- turned rows stand at labels counted from the other end
pub row_turned : (back : Bool) (rows : List Row) (i : ℕ) → i < length rows → row_at (turned back rows) i ≡ row_at rows (cond back (length rows - 1 - i) i)
row_turned true rows i h = get_or-reverse rows i [] h
row_turned false rows i h = refl

-- turned rows are the same rows
pub listed_turned : (back : Bool) (rows : List Row) (r : Row) → Listed (turned back rows) r ↔ Listed rows r
listed_turned true rows r = (λ h. rw (reverse-reverse rows) at (listed_reverse (reverse rows) r h), listed_reverse rows r)
listed_turned false rows r = (λ h. h, λ h. h)

-- no two turned rows are the same where no two rows are
pub apart_turned : (back : Bool) (rows : List Row) → Apart rows → Apart (turned back rows)
apart_turned true rows h = apart_reverse rows h
apart_turned false rows h = h

-- neighbours differ in as many places after a turn
pub stepping_turned : (back : Bool) (n : ℕ) (rows : List Row) → Stepping n rows → Stepping n (turned back rows)
stepping_turned true n rows h = stepping_reverse rows n h
stepping_turned false n rows h = h

-- rows and the same rows turned meet in one row
pub turned_meets : (back : Bool) (rows : List Row) → 0 < length rows → row_at (turned back rows) (length (turned back rows) - 1) ≡ row_at (turned (not back) rows) 0
turned_meets true rows h =
    let e : length rows - 1 - (length (reverse rows) - 1) ≡ 0 = omega (arith, length-reverse rows) in
    get_or-reverse rows (length (reverse rows) - 1) [] (omega (arith, length-reverse rows)) ∙ ap (row_at rows) e
turned_meets false rows h =
    let e : length rows - 1 - 0 ≡ length rows - 1 = omega arith in
    sym (get_or-reverse rows 0 [] h ∙ ap (row_at rows) e)
