-- Where each row is, told from the calls and their answers alone. Assumes nothing.
use Rattle.std.specs.Prelude.{ℕ, ◌+◌, ◌-◌, Bool, true, false, cond, not, ◌&&◌, List, [], ◌∷◌, ◌++◌, map, length, is_some, Some, None, count_by, filter, Option, ◌==◌, nat_lt}
use Rattle.std.specs.List.{range_with_len}
use Rattle.walk.specs.Rows.{Row}
use Rattle.book.specs.Histories.{Event, Call, Take, Printed, Spoiled, AskRow, AskLabel, AskCounts, Close, Answer, number, shown, four, refusal}
use Rattle.book.specs.Lanes.{lane_start}

-- What an event moves: an accepted `take` draws a label for a printer, an accepted `printed` puts a row on the bench, an
-- accepted `spoiled` sends a label back to wait. Refused calls and the other calls move nothing.
pub data Move : Type 0 where
  draws : ℕ → ℕ → Move
  puts : ℕ → Row → Move
  returns : ℕ → ℕ → Move
  nothing : Move

-- a `take` that answers a label draws it
abbrev pub take_moves : ℕ → Answer → Move
take_moves i (shown label tray) = draws i label
take_moves i (number n) = nothing
take_moves i (four c) = nothing
take_moves i (refusal e) = nothing

-- a `printed` that answers a label puts the scanned row on the bench
abbrev pub printed_moves : ℕ → Row → Answer → Move
printed_moves i scanned (number label) = puts i scanned
printed_moves i scanned (shown label tray) = nothing
printed_moves i scanned (four c) = nothing
printed_moves i scanned (refusal e) = nothing

-- a `spoiled` that answers a label returns it
abbrev pub spoiled_moves : ℕ → Answer → Move
spoiled_moves i (number label) = returns i label
spoiled_moves i (shown label tray) = nothing
spoiled_moves i (four c) = nothing
spoiled_moves i (refusal e) = nothing

-- what a call with its answer moves
abbrev pub move : Call → Answer → Move
move (Take i tray) a = take_moves i a
move (Printed i scanned) a = printed_moves i scanned a
move (Spoiled i) a = spoiled_moves i a
move (AskRow l tray) a = nothing
move (AskLabel scanned) a = nothing
move AskCounts a = nothing
move Close a = nothing

-- the moves of a history, the newest first
abbrev pub moves : List Event → List Move
moves events = map (λ (e : Event). move e.called e.answered) events

-- A hand holds what its printer's last accepted `take` answered, until an accepted `printed` or `spoiled` of that printer.
abbrev pub hand : List Move → ℕ → Option ℕ
hand [] i = None
hand (draws j label ∷ h) i = cond (j == i) (Some label) (hand h i)
hand (puts j scanned ∷ h) i = cond (j == i) None (hand h i)
hand (returns j label ∷ h) i = cond (j == i) None (hand h i)
hand (nothing ∷ h) i = hand h i

-- A row waits if an accepted `spoiled` answered its label and no accepted `take` did since.
abbrev pub waits : List Move → ℕ → Bool
waits [] l = false
waits (draws j label ∷ h) l = cond (label == l) false (waits h l)
waits (puts j scanned ∷ h) l = waits h l
waits (returns j label ∷ h) l = cond (label == l) true (waits h l)
waits (nothing ∷ h) l = waits h l

-- It is undrawn if no accepted `take` ever answered its label.
abbrev pub undrawn : List Move → ℕ → Bool
undrawn [] l = true
undrawn (draws j label ∷ h) l = not (label == l) && undrawn h l
undrawn (puts j scanned ∷ h) l = undrawn h l
undrawn (returns j label ∷ h) l = undrawn h l
undrawn (nothing ∷ h) l = undrawn h l

-- The bench is the list of rows in accepted `printed` calls.
abbrev pub bench : List Move → List Row
bench [] = []
bench (draws j label ∷ h) = bench h
bench (puts j scanned ∷ h) = scanned ∷ bench h
bench (returns j label ∷ h) = bench h
bench (nothing ∷ h) = bench h

-- the waiting labels, in order of arrival
abbrev pub queue : List Move → List ℕ
queue [] = []
queue (draws j label ∷ h) = filter (λ l. not (label == l)) (queue h)
queue (puts j scanned ∷ h) = queue h
queue (returns j label ∷ h) = queue h ++ label ∷ []
queue (nothing ∷ h) = queue h

-- the labels of the lane of printer i as opened, with n rows and k printers, and those of them that are still undrawn
abbrev pub lane_labels : ℕ → ℕ → ℕ → List ℕ
lane_labels n k i = range_with_len (lane_start n k i) (lane_start n k (i + 1) - lane_start n k i)

abbrev pub lane_left : ℕ → ℕ → List Move → ℕ → List ℕ
lane_left n k h i = filter (undrawn h) (lane_labels n k i)

-- how many labels wait, how many are undrawn, and how many hands hold a label
abbrev pub waiting_count : ℕ → List Move → ℕ
waiting_count n h = count_by (waits h) (range_with_len 0 n)

abbrev pub undrawn_count : ℕ → List Move → ℕ
undrawn_count n h = count_by (undrawn h) (range_with_len 0 n)

abbrev pub hands_count : ℕ → List Move → ℕ
hands_count k h = count_by (λ i. is_some (hand h i)) (range_with_len 0 k)

-- A take is from the front of its printer's own lane if, before it, nothing waits and some label of that lane as opened is undrawn.
abbrev pub at_front : ℕ → ℕ → List Move → ℕ → Bool
at_front n k h i = waiting_count n h == 0 && nat_lt 0 (length (lane_left n k h i))

-- the label that the printer's last such take answered
abbrev pub last_front : ℕ → ℕ → List Move → ℕ → Option ℕ
last_front n k [] i = None
last_front n k (draws j label ∷ h) i = cond (j == i && at_front n k h i) (Some label) (last_front n k h i)
last_front n k (puts j scanned ∷ h) i = last_front n k h i
last_front n k (returns j label ∷ h) i = last_front n k h i
last_front n k (nothing ∷ h) i = last_front n k h i
