-- Rows, lists of rows, and how two rows differ. Assumes nothing.
use Rattle.std.specs.Prelude.{◌≡◌, ℕ, suc, ◌+◌, ◌%◌, ◌<◌, Bool, true, false, cond, ◌&&◌, List, [], ◌∷◌, reverse, length, Some, None, Option, ◌==◌, slice_index_or}
use Rattle.std.specs.Option.{option_map}

-- A row is a list of values; its width is its length, and its places count from 0 at the left.
abbrev pub Row : Type 0
Row = List ℕ

-- The row with the label i: labels count the rows of a list from 0.
abbrev pub row_at : List Row → ℕ → Row
row_at rows i = slice_index_or rows i []

-- the row stands at some label
abbrev pub Listed : List Row → Row → Type 0
Listed rows r = (i : ℕ) × (i < length rows) × (row_at rows i ≡ r)

-- no two rows are the same
abbrev pub Apart : List Row → Type 0
Apart rows = (i j : ℕ) → i < length rows → j < length rows → row_at rows i ≡ row_at rows j → i ≡ j

-- Two rows are the same when they have the same length and the same values.
abbrev pub same_row : Row → Row → Bool
same_row [] [] = true
same_row [] (y ∷ ys) = false
same_row (x ∷ xs) [] = false
same_row (x ∷ xs) (y ∷ ys) = x == y && same_row xs ys

-- The label of a row: the place where it stands in the list, if it does.
abbrev pub label_of : List Row → Row → Option ℕ
label_of [] r = None
label_of (x ∷ xs) r = cond (same_row x r) (Some 0) (option_map suc (label_of xs r))

-- At how many places two rows differ; a place that only one of them has counts too.
abbrev pub differences : Row → Row → ℕ
differences [] ys = length ys
differences (x ∷ xs) [] = suc (length xs)
differences (x ∷ xs) (y ∷ ys) = cond (x == y) 0 1 + differences xs ys

-- neighbouring rows differ in just n places
abbrev pub Stepping : ℕ → List Row → Type 0
Stepping n rows = (i : ℕ) → i + 1 < length rows → differences (row_at rows i) (row_at rows (i + 1)) ≡ n

-- The lowest place at which two rows of one width differ.
abbrev pub lowest : Row → Row → ℕ
lowest [] ys = 0
lowest (x ∷ xs) [] = 0
lowest (x ∷ xs) (y ∷ ys) = cond (x == y) (suc (lowest xs ys)) 0

-- The highest place at which two rows of one width differ.
abbrev pub highest : Row → Row → ℕ
highest [] ys = 0
highest (x ∷ xs) [] = 0
highest (x ∷ xs) (y ∷ ys) = cond (same_row xs ys) 0 (suc (highest xs ys))

-- the rows backward or as they are
abbrev pub turned : Bool → List Row → List Row
turned back rows = cond back (reverse rows) rows

-- the number is odd
abbrev pub odd : ℕ → Bool
odd v = v % 2 == 1
