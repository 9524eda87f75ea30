-- What each call of a walk answers, and what it leaves. Assumes nothing.
use Rattle.std.specs.Prelude.{ℕ, ◌+◌, ◌-◌, cond, List, ◌++◌, drop, is_ok, Ok, Err, Result, ◌==◌, nat_lt, length}
use Rattle.std.specs.Option.{ok_or}
use Rattle.walk.specs.Rows.{Row, label_of, lowest, highest}
use Rattle.walk.specs.Meaning.{Meaning, size, row, standing}
use Rattle.walk.specs.declared.answers.Refusal.{Refusal}
use Rattle.walk.specs.declared.answers.Refusal.TheVariants.{NoSuchLabel, ShortTray, NoSuchRow}
use Rattle.walk.specs.declared.answers.Span.{Span}

-- The number by which a refusal is told.
abbrev pub refusal_number : Refusal → ℕ
refusal_number NoSuchLabel = 4
refusal_number ShortTray = 5
refusal_number NoSuchRow = 6

-- `seek` goes to a label below the size, and refuses any other.
abbrev pub seeks : Meaning → ℕ → Result (Unit {0}) Refusal
seeks m label = cond (nat_lt label (size m)) (Ok tt) (Err NoSuchLabel)

-- the walk after a `seek`, accepted or refused
abbrev pub after_seek : Meaning → ℕ → Meaning
after_seek m label = cond (nat_lt label (size m)) (standing m label) m

-- `back` goes down by one, and refuses at 0.
abbrev pub backs : Meaning → Result (Unit {0}) Refusal
backs m = cond (m.place == 0) (Err NoSuchLabel) (Ok tt)

-- the walk after a `back`, accepted or refused
abbrev pub after_back : Meaning → Meaning
after_back m = cond (m.place == 0) m (standing m (m.place - 1))

-- `read` refuses where there are no rows, and then a tray that is shorter than a row.
abbrev pub reads : Meaning → List ℕ → Result (Unit {0}) Refusal
reads m tray = cond (size m == 0) (Err NoSuchLabel) (cond (nat_lt (length tray) m.width) (Err ShortTray) (Ok tt))

-- A tray is memory that the caller provides for an answer: the row goes into its first bytes, and later ones stay.
abbrev pub after_read : Meaning → List ℕ → List ℕ
after_read m tray = cond (is_ok (reads m tray)) (row m m.place ++ drop m.width tray) tray

-- `find` answers the label of a row, and refuses what is no row of the walk.
abbrev pub finds : Meaning → Row → Result ℕ Refusal
finds m r = ok_or (label_of m.rows r) NoSuchRow

-- The lowest and the highest place at which two rows differ.
abbrev pub span_of : Row → Row → Span
span_of r s = record { lowest = lowest r s; highest = highest r s }

-- `change` compares the row at the place with the next one, and refuses where there is none.
abbrev pub changes : Meaning → Result Span Refusal
changes m = cond (nat_lt (m.place + 1) (size m)) (Ok (span_of (row m m.place) (row m (m.place + 1)))) (Err NoSuchLabel)
