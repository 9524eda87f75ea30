-- What holds of a book over its whole life, whatever is called. Assumes nothing.
use Rattle.std.specs.Prelude.{◌≡◌, ℕ, ◌+◌, ◌<◌, ◌≤◌, Bool, true, false, cond, List, length, Some, None, sum_by, count_by, Option, ◌==◌, nat_eq}
use Rattle.std.specs.List.{range_with_len, AllByRecursion}
use Rattle.walk.specs.Meaning.{Meaning, size}
use Rattle.walk.specs.Meaning as meaning
use Rattle.walk.specs.Rows.{Row, Listed, same_row, differences}
use Rattle.book.specs.Histories.{Call, Take, AskCounts, Close, Answer, number, shown, four, refusal, answer, state_after, history}
use Rattle.book.specs.Places.{Move, moves, hand, waits, bench, lane_left, waiting_count, undrawn_count, hands_count, at_front, last_front}
use Rattle.book.specs.Rules.{rule}
use Rattle.book.specs.State.{State, printers}

-- what a yes counts
abbrev pub one_if : Bool → ℕ
one_if b = cond b 1 0

-- each of two facts follows from the other
abbrev pub ExactlyWhen : Type 0 → Type 0 → Type 0
ExactlyWhen P Q = (P → Q) × (Q → P)

-- the call was refused
abbrev pub Refused : Answer → Type 0
Refused (number n) = ⊥
Refused (shown l tray) = ⊥
Refused (four c) = ⊥
Refused (refusal e) = Unit {0}

-- how often a row is on the bench
abbrev pub on_bench : Meaning → List Move → ℕ → ℕ
on_bench m h l = count_by (same_row (meaning.row m l)) (bench h)

-- how many hands hold a label
abbrev pub holds : ℕ → Option ℕ → Bool
holds l None = false
holds l (Some held) = held == l

-- in how many hands a label is
abbrev pub in_hands : ℕ → List Move → ℕ → ℕ
in_hands k h l = count_by (λ i. holds l (hand h i)) (range_with_len 0 k)

-- how often a label is left undrawn in the lanes
abbrev pub in_lanes : ℕ → ℕ → List Move → ℕ → ℕ
in_lanes n k h l = sum_by (λ i. count_by (λ x. nat_eq x l) (lane_left n k h i)) (range_with_len 0 k)

-- the bench holds every row of the walk exactly once, and nothing else
abbrev pub Complete : Meaning → List Row → Type 0
Complete m rows = ((l : ℕ) → l < size m → count_by (same_row (meaning.row m l)) rows ≡ 1) × AllByRecursion (Listed m.rows) rows

-- What holds after the moves h, on the walk m with k printers, where `says` tells what each call would answer next.
pub record Life (m : Meaning) (k : ℕ) (h : List Move) (says : Call → Answer) : Type 0 where
  -- every call answers as the rules fix it
  pub by_the_rules : (call : Call) → says call ≡ rule m k h call
  -- a close is accepted exactly when the bench holds every row exactly once, and nothing else
  pub closes : ExactlyWhen (says Close ≡ number (size m)) (Complete m (bench h))
  -- every row is in exactly one place, and there once: bench, a hand, waiting, or undrawn in a lane
  pub in_one_place : (l : ℕ) → l < size m → on_bench m h l + in_hands k h l + one_if (waits h l) + in_lanes (size m) k h l ≡ 1
  -- and nothing else is anywhere
  pub only_rows_on_bench : AllByRecursion (Listed m.rows) (bench h)
  pub only_labels_in_hands : (i l : ℕ) → hand h i ≡ Some l → (i < k) × (l < size m)
  pub only_labels_wait : (l : ℕ) → waits h l ≡ true → l < size m
  -- `counts` answers these totals
  pub totals : says AskCounts ≡ four (record { bench = length (bench h); hands = hands_count k h; waiting = waiting_count (size m) h; undrawn = undrawn_count (size m) h })
  -- a take by a known printer with an empty hand, and a tray no shorter than a row, is refused exactly when nothing waits and
  -- nothing is undrawn
  pub takes : (i : ℕ) (tray : List ℕ) → i < k → hand h i ≡ None → m.width ≤ length tray →
      ExactlyWhen (Refused (says (Take i tray))) ((waiting_count (size m) h ≡ 0) × (undrawn_count (size m) h ≡ 0))
  -- where the walk is steady, two rows that a printer draws in succession from the front of its own lane differ in one or two places
  pub steps : m.steady ≡ true → (i : ℕ) (tray : List ℕ) (l l' : ℕ) (tray' : List ℕ) → last_front (size m) k h i ≡ Some l → at_front (size m) k h i ≡ true →
      says (Take i tray) ≡ shown l' tray' →
      (1 ≤ differences (meaning.row m l) (meaning.row m l')) × (differences (meaning.row m l) (meaning.row m l') ≤ 2)

-- All of it holds after every list of calls, refused ones included.
abbrev pub WholeLife : State → Type 0
WholeLife s = (calls : List Call) → Life s.walk (printers s) (moves (history s calls)) (answer (state_after s calls))
