-- The rows of a join by their labels. Assumes nothing.
use Rattle.std.proofs.Common.{◌≡◌, ℕ, ◌+◌, ◌*◌, ◌<◌, Bool, ◌&&◌, List, ◌++◌, length, ap, ◌∙◌, zero-add}
use Rattle.walk.specs.Rows.{Row, row_at, odd}
use Rattle.joins.specs.Join.{joined_rows, mirrored}
use Rattle.joins.specs.Joined.{length_joined, joined_from_at}
use Rattle.joins.specs.JoinedLaws.{JoinedLaws}

-- the row j under the left row i, whose right rows come backward or not
row_under : (swing : Bool) (ls rs : List Row) (i j : ℕ) (back : Bool) → i < length ls → j < length rs → (swing && odd i) ≡ back →
    row_at (joined_rows swing ls rs) (i * length rs + j) ≡ row_at ls i ++ row_at rs (mirrored back (length rs) j)
row_under swing ls rs i j back lt below turns =
    joined_from_at swing rs 0 i j ls lt below
    ∙ ap (λ x. row_at ls i ++ row_at rs (mirrored (swing && odd x) (length rs) j)) (zero-add i)
    ∙ ap (λ b. row_at ls i ++ row_at rs (mirrored b (length rs) j)) turns

-- the rows of a join
pub joined_laws : (swing : Bool) (ls rs : List Row) → JoinedLaws swing ls rs
joined_laws swing ls rs = record {
  many = length_joined swing rs 0 ls;
  forward = λ i j lt below even. row_under swing ls rs i j _ lt below even;
  backward = λ i j lt below back. row_under swing ls rs i j _ lt below back;
}
