-- What a walk means, and the laws that its meaning keeps. Assumes nothing.
use Rattle.std.specs.Prelude.{◌≡◌, ℕ, ◌+◌, ◌<◌, ◌≤◌, Bool, true, List, length, slice_index}
use Rattle.walk.specs.Rows.{Row, row_at, Apart, differences}

-- A walk is a list of rows in a fixed order, and a place in it. The label of a row is its place in the list, counted
-- from 0. `steady` is its word that neighbouring rows differ in at most two places.
pub record Meaning : Type 0 where
  pub rows : List Row
  pub width : ℕ
  pub place : ℕ
  pub steady : Bool

-- the number of rows
abbrev pub size : Meaning → ℕ
size m = length m.rows

-- the row with the label i
abbrev pub row : Meaning → ℕ → Row
row m i = row_at m.rows i

-- the same walk, standing at p
abbrev pub standing : Meaning → ℕ → Meaning
standing m p = record { rows = m.rows; width = m.width; place = p; steady = m.steady }

pub record Lawful (m : Meaning) : Type 0 where
  -- a row has at most 64 values
  pub narrow : m.width ≤ 64
  -- labels fit 32 bits, and so does the number of rows
  pub few : size m ≤ 4294967295
  -- all rows have one width
  pub wide : (i : ℕ) → i < size m → length (row m i) ≡ m.width
  -- values go up to 255
  pub bytes : (i k : ℕ) → i < size m → k < m.width → slice_index (row m i) k ≤ 255
  -- no two rows are the same
  pub apart : Apart m.rows
  -- the place is a label, or 0 where there are no rows
  pub inside : (0 < size m → m.place < size m) × (size m ≡ 0 → m.place ≡ 0)
  -- after a yes, neighbouring rows differ in at most two places
  pub steps : m.steady ≡ true → (i : ℕ) → i + 1 < size m → differences (row m i) (row m (i + 1)) ≤ 2
