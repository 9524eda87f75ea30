-- Which lane is the longest, in the words of the subject. Assumes nothing.
use Rattle.std.specs.Prelude.{ℕ, ◌<◌, ◌≤◌, List, length}
use Rattle.book.specs.Lanes.{lane_at, left}
use Rattle.book.specs.declared.lane.Lane.{Lane}

-- no lane has more labels left, and none with a lower number has as many
pub record IsLongest (lanes : List Lane) (number : ℕ) : Type 0 where
  pub inside : number < length lanes
  pub most : (i : ℕ) → i < length lanes → left (lane_at lanes i) ≤ left (lane_at lanes number)
  pub first : (i : ℕ) → i < number → left (lane_at lanes i) < left (lane_at lanes number)
