-- What holds of the kinds' lists, in the words of the subject. Assumes nothing.
use Rattle.std.specs.Prelude.{◌≡◌, ℕ, ◌+◌, ◌<◌, ◌≤◌, cond, ◌⊎◌, List, [], ◌∷◌, length, replicate, sum, count_by, nat_eq, nat_lt, slice_index}
use Rattle.std.specs.List.{swap}
use Rattle.walk.specs.Rows.{Row, row_at}
pub use Rattle.walk.specs.Rows.{Listed, Apart, Stepping}

-- one value for each radix, and below it
abbrev pub Under : List ℕ → Row → Type 0
Under radices r = (length r ≡ length radices) × ((k : ℕ) → k < length radices → slice_index r k < slice_index radices k)

-- how often a value occurs in a row
abbrev pub occurrences : ℕ → Row → ℕ
occurrences v r = count_by (λ x. nat_eq x v) r

-- one value for each stock, and at most it, and the sum t
abbrev pub Within : List ℕ → ℕ → Row → Type 0
Within stocks t r = (length r ≡ length stocks) × ((k : ℕ) → k < length stocks → slice_index r k ≤ slice_index stocks k) × (sum r ≡ t)

-- n values, each 0 or 1, and just t of them 1
abbrev pub Chosen : ℕ → ℕ → Row → Type 0
Chosen n t r = (length r ≡ n) × ((k : ℕ) → k < n → slice_index r k ≤ 1) × (occurrences 1 r ≡ t)

-- as many values as the counts say together: each as often as its count says, and no other
abbrev pub Spells : List ℕ → Row → Type 0
Spells counts r = (length r ≡ sum counts) × ((v : ℕ) → occurrences v r ≡ slice_index counts v)

-- n values: each below n once, and no other
abbrev pub Permutation : ℕ → Row → Type 0
Permutation n r = (length r ≡ n) × ((v : ℕ) → occurrences v r ≡ cond (nat_lt v n) 1 0)

-- lexicographic order: the first value weighs most
abbrev pub Precedes : Row → Row → Type 0
Precedes [] ys = ⊥
Precedes (x ∷ xs) [] = ⊥
Precedes (x ∷ xs) (y ∷ ys) = (x < y) ⊎ ((x ≡ y) × Precedes xs ys)

-- each row precedes all later ones
abbrev pub Rising : List Row → Type 0
Rising rows = (i j : ℕ) → i < j → j < length rows → Precedes (row_at rows i) (row_at rows j)

-- `digits` has just the rows with each value below its radix, and they rise
pub record DigitsLaws (radices : List ℕ) (rows : List Row) : Type 0 where
  pub sound : (r : Row) → Listed rows r → Under radices r
  pub complete : (r : Row) → Under radices r → Listed rows r
  pub rising : Rising rows

-- `gray` has the same rows, and neighbours differ in one place
pub record GrayLaws (radices : List ℕ) (rows : List Row) : Type 0 where
  pub sound : (r : Row) → Listed rows r → Under radices r
  pub complete : (r : Row) → Under radices r → Listed rows r
  pub apart : Apart rows
  pub stepping : Stepping 1 rows

-- `stock` has just the rows within the stocks with the sum t, and they rise
pub record StockLaws (stocks : List ℕ) (t : ℕ) (rows : List Row) : Type 0 where
  pub sound : (r : Row) → Listed rows r → Within stocks t r
  pub complete : (r : Row) → Within stocks t r → Listed rows r
  pub rising : Rising rows

-- `choose` has just the rows of n values of which t are 1, and they rise
pub record ChooseLaws (n t : ℕ) (rows : List Row) : Type 0 where
  pub sound : (r : Row) → Listed rows r → Chosen n t r
  pub complete : (r : Row) → Chosen n t r → Listed rows r
  pub rising : Rising rows

-- `door` has the same rows, and neighbours differ in two places
pub record DoorLaws (n t : ℕ) (rows : List Row) : Type 0 where
  pub sound : (r : Row) → Listed rows r → Chosen n t r
  pub complete : (r : Row) → Chosen n t r → Listed rows r
  pub apart : Apart rows
  pub stepping : Stepping 2 rows
  pub zeros : t ≡ 0 → rows ≡ replicate n 0 ∷ []
  pub ones : t ≡ n → rows ≡ replicate n 1 ∷ []
  pub none : n < t → rows ≡ []

-- `words` has just the rows with each value as often as its count says, and they rise
pub record WordsLaws (counts : List ℕ) (rows : List Row) : Type 0 where
  pub sound : (r : Row) → Listed rows r → Spells counts r
  pub complete : (r : Row) → Spells counts r → Listed rows r
  pub rising : Rising rows

-- a row and the next with two values, side by side, exchanged
abbrev pub Exchange : ℕ → Row → Row → Type 0
Exchange n r next = (k : ℕ) × (k + 1 < n) × (next ≡ swap r k (k + 1))

-- `changes` has just the orders of the values below n, and neighbours differ in two places, side by side, whose values
-- are exchanged
pub record ChangesLaws (n : ℕ) (rows : List Row) : Type 0 where
  pub sound : (r : Row) → Listed rows r → Permutation n r
  pub complete : (r : Row) → Permutation n r → Listed rows r
  pub apart : Apart rows
  pub stepping : Stepping 2 rows
  pub exchange : (i : ℕ) → i + 1 < length rows → Exchange n (row_at rows i) (row_at rows (i + 1))
