-- Lanes and hands, as lists. Assumes nothing.
use Rattle.std.specs.Prelude.{ℕ, suc, ◌+◌, ◌-◌, ◌*◌, ◌/◌, max, Bool, cond, ◌&&◌, List, [], ◌∷◌, map, is_some, Some, None, sum_by, count_by, Option, nat_le, slice_index_or, slice_set}
use Rattle.std.specs.List.{range_with_len}
use Rattle.book.specs.declared.lane.Lane.{Lane}

-- an empty lane and an empty hand, for numbers that no printer has
abbrev pub no_lane : Lane
no_lane = record { next = 0; end = 0; hand = None }

-- the lane of printer i
abbrev pub lane_at : List Lane → ℕ → Lane
lane_at lanes i = slice_index_or lanes i no_lane

-- how many labels a lane has left
abbrev pub left : Lane → ℕ
left lane = lane.end - lane.next

-- how many labels all lanes have left
abbrev pub undrawn : List Lane → ℕ
undrawn lanes = sum_by left lanes

-- how many hands hold a label
abbrev pub hands : List Lane → ℕ
hands lanes = count_by (λ lane. is_some lane.hand) lanes

-- the greatest of some numbers
abbrev pub greatest : List ℕ → ℕ
greatest [] = 0
greatest (x ∷ xs) = max x (greatest xs)

-- its place, the lowest where several are equally great
abbrev pub first_greatest : List ℕ → ℕ
first_greatest [] = 0
first_greatest (x ∷ xs) = cond (nat_le (greatest xs) x) 0 (suc (first_greatest xs))

-- the number of the longest lane, the lowest number where several are equally long
abbrev pub longest : List Lane → ℕ
longest lanes = first_greatest (map left lanes)

-- the number of the longest lane, if there are lanes
abbrev pub longest_of : List Lane → Option ℕ
longest_of [] = None
longest_of (lane ∷ lanes) = Some (longest (lane ∷ lanes))

-- the lane of printer i without its first label
abbrev pub without_first : ℕ → List Lane → List Lane
without_first i lanes = slice_set lanes i (record { next = (lane_at lanes i).next + 1; end = (lane_at lanes i).end; hand = (lane_at lanes i).hand })

-- the lane of printer i without its last label
abbrev pub without_last : ℕ → List Lane → List Lane
without_last i lanes = slice_set lanes i (record { next = (lane_at lanes i).next; end = (lane_at lanes i).end - 1; hand = (lane_at lanes i).hand })

-- what the hand of printer i holds now
abbrev pub with_hand : ℕ → Option ℕ → List Lane → List Lane
with_hand i hand lanes = slice_set lanes i (record { next = (lane_at lanes i).next; end = (lane_at lanes i).end; hand = hand })

-- a book has 1 to 16 printers
abbrev pub printers_allowed : ℕ → Bool
printers_allowed k = nat_le 1 k && nat_le k 16

-- where the lane of printer i begins on opening, with n rows and k printers
abbrev pub lane_start : ℕ → ℕ → ℕ → ℕ
lane_start n k i = (i * n) / k

-- On opening, the lane of printer i runs from its start up to, not including, the start of the next; all hands are empty.
abbrev pub opened_lane : ℕ → ℕ → ℕ → Lane
opened_lane n k i = record { next = lane_start n k i; end = lane_start n k (i + 1); hand = None }

-- the lanes of all k printers on opening
abbrev pub opened_lanes : ℕ → ℕ → List Lane
opened_lanes n k = map (opened_lane n k) (range_with_len 0 k)
