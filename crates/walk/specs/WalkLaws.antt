-- What holds of the answers of `find` and `change`, in the words of the subject. Assumes nothing.
use Rattle.std.specs.Prelude.{◌≡◌, ℕ, ◌<◌, ◌≢◌, length, Ok, Err, slice_index}
use Rattle.walk.specs.Answers.{finds}
use Rattle.walk.specs.Meaning.{Meaning, size, row}
use Rattle.walk.specs.Rows.{Row}
use Rattle.walk.specs.declared.answers.Refusal.TheVariants.{NoSuchRow}
use Rattle.walk.specs.declared.answers.Span.{Span}

-- The row at a label is found at that label, what is found at a label is the row there, and what stands nowhere is refused.
pub record FindLaws (m : Meaning) : Type 0 where
  pub again : (label : ℕ) → label < size m → finds m (row m label) ≡ Ok label
  pub stands : (r : Row) (label : ℕ) → finds m r ≡ Ok label → (label < size m) × (row m label ≡ r)
  pub nowhere : (r : Row) → ((label : ℕ) → label < size m → row m label ≢ r) → finds m r ≡ Err NoSuchRow

-- two rows differ at the place i, and nowhere below it
pub record IsLowest (r s : Row) (i : ℕ) : Type 0 where
  pub inside : i < length r
  pub differ : slice_index r i ≢ slice_index s i
  pub same : (k : ℕ) → k < i → slice_index r k ≡ slice_index s k

-- two rows differ at the place i, and nowhere above it
pub record IsHighest (r s : Row) (i : ℕ) : Type 0 where
  pub inside : i < length r
  pub differ : slice_index r i ≢ slice_index s i
  pub same : (k : ℕ) → i < k → k < length r → slice_index r k ≡ slice_index s k

-- the lowest and the highest place at which two rows differ
pub record SpanLaws (r s : Row) (span : Span) : Type 0 where
  pub lowest : IsLowest r s span.lowest
  pub highest : IsHighest r s span.highest
