-- Which row of a join stands where, in the words of the subject. Assumes nothing.
use Rattle.std.specs.Prelude.{◌≡◌, ℕ, ◌+◌, ◌-◌, ◌*◌, ◌<◌, Bool, true, false, ◌&&◌, List, ◌++◌, length}
use Rattle.walk.specs.Rows.{Row, row_at, odd}
use Rattle.joins.specs.Join.{joined_rows}

-- Every left row comes with every right row: under the left row i, in its order, the right rows in theirs, and in `swing` backward
-- where i is odd.
pub record JoinedLaws (swing : Bool) (ls rs : List Row) : Type 0 where
  pub many : length (joined_rows swing ls rs) ≡ length ls * length rs
  pub forward : (i j : ℕ) → i < length ls → j < length rs → (swing && odd i) ≡ false → row_at (joined_rows swing ls rs) (i * length rs + j) ≡ row_at ls i ++ row_at rs j
  pub backward : (i j : ℕ) → i < length ls → j < length rs → (swing && odd i) ≡ true → row_at (joined_rows swing ls rs) (i * length rs + j) ≡ row_at ls i ++ row_at rs (length rs - 1 - j)
