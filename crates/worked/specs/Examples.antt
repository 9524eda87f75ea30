-- Worked examples, printed with the rules and not made by the library. Assumes nothing.
use Rattle.std.specs.Prelude.{◌≡◌, ℕ, ◌-◌, Bool, true, false, List, [], ◌∷◌, map, reverse, Some, codes, Option, option_map, option_and_then}
use Rattle.std.specs.List.{AllByRecursion}
use Rattle.std.specs.Result.{result_ok}
use Rattle.walk.specs.Meaning.{Meaning}
use Rattle.walk.specs.Rows.{Row}
use Rattle.kinds.specs.Kinds.{digits_made, gray_made, choose_made, door_made, stock_made, words_made, changes_made}
use Rattle.joins.specs.Join.{join_made}
use Rattle.text.specs.Pieces.{pieces}
use Rattle.plan.specs.Format.{plan_of}
use Rattle.listing.specs.Texts.{report_text}
use Rattle.book.specs.Histories.{Call, Take, Printed, Spoiled, Close, Answer, number, shown, four, refusal, Event, history}
use Rattle.book.specs.Lanes.{opened_lanes}
use Rattle.book.specs.Opening.{opens}
use Rattle.book.specs.Refusals.{refusal_number}
use Rattle.book.specs.State.{State}
use Rattle.book.specs.declared.lane.Lane.{Lane}

-- What the definitions give, and what is expected: the rows of a walk in order, a text, or some numbers.
pub data Example : Type 0 where
  lists : Option Meaning → List Row → Example
  writes : List ℕ → List ℕ → Example
  counts : Option (List ℕ) → List ℕ → Example

-- what is given is what is expected
abbrev pub Holds : Example → Type 0
Holds (lists walk rows) = option_map (λ (m : Meaning). m.rows) walk ≡ Some rows
Holds (writes text expected) = text ≡ expected
Holds (counts numbers expected) = numbers ≡ Some expected

-- rows as they are printed: one digit (from byte 48 on) for each value, and a blank between two rows
abbrev pub printed_rows : List ℕ → List Row
printed_rows text = map (λ row. map (λ digit. digit - 48) row) (pieces 32 text)

-- the join of two walks
abbrev pub join : Bool → Option Meaning → Option Meaning → Option Meaning
join swing left right = option_and_then (λ a. option_and_then (λ b. result_ok (join_made swing a b)) right) left

-- an answer by its number: a label, the number of rows, the first count, or that of the refusal
abbrev pub told : Answer → ℕ
told (number n) = n
told (shown label tray) = label
told (four c) = c.bench
told (refusal e) = refusal_number e

-- what a book answers to calls, of which the oldest comes first
abbrev pub answers : List Call → State → List ℕ
answers calls s = map (λ (e : Event). told e.answered) (reverse (history s (reverse calls)))

-- the same from opening it on the walk, with k printers
abbrev pub answers_of : Option Meaning → ℕ → List Call → Option (List ℕ)
answers_of walk k calls = option_and_then (λ m. option_map (answers calls) (result_ok (opens m k))) walk

-- Two printers work on three rows, 0, 1 and 2, each with a tray of one byte: one print is spoiled, and a close comes too early.
abbrev pub day : List Call
day = Take 0 (9 ∷ []) ∷ Spoiled 0 ∷ Take 1 (9 ∷ []) ∷ Printed 1 (0 ∷ []) ∷ Take 0 (9 ∷ []) ∷ Take 1 (9 ∷ []) ∷ Close ∷ Printed 0 (2 ∷ []) ∷ Printed 1 (1 ∷ []) ∷ Close ∷ []

-- each as it is printed with the rules
abbrev pub examples : List Example
examples =
    lists (result_ok (gray_made 2 (3 ∷ 2 ∷ []))) (printed_rows (codes "00 01 11 10 20 21")) ∷
    writes (report_text (plan_of (codes "kind,n,t,list\ngray,2,-,3 2\n"))) (codes "label,row\n0,0 0\n1,0 1\n2,1 1\n3,1 0\n4,2 0\n5,2 1\n") ∷
    lists (result_ok (choose_made 4 2)) (printed_rows (codes "0011 0101 0110 1001 1010 1100")) ∷
    lists (result_ok (door_made 4 2)) (printed_rows (codes "0011 0110 0101 1100 1010 1001")) ∷
    lists (result_ok (changes_made 3)) (printed_rows (codes "012 021 201 210 120 102")) ∷
    lists (result_ok (stock_made 3 2 (2 ∷ 1 ∷ 1 ∷ []))) (printed_rows (codes "011 101 110 200")) ∷
    lists (result_ok (words_made 2 (2 ∷ 1 ∷ []))) (printed_rows (codes "001 010 100")) ∷
    lists (join true (result_ok (gray_made 1 (2 ∷ []))) (result_ok (door_made 2 1))) (printed_rows (codes "001 010 110 101")) ∷
    lists (join false (result_ok (gray_made 1 (2 ∷ []))) (result_ok (door_made 2 1))) (printed_rows (codes "001 010 101 110")) ∷
    lists (result_ok (choose_made 3 5)) [] ∷
    counts (answers_of (result_ok (choose_made 3 5)) 1 (Close ∷ [])) (0 ∷ []) ∷
    lists (result_ok (digits_made 0 [])) ([] ∷ []) ∷
    counts (Some (map (λ (lane : Lane). lane.next) (opened_lanes 10 4))) (0 ∷ 2 ∷ 5 ∷ 7 ∷ []) ∷
    counts (answers_of (result_ok (digits_made 1 (3 ∷ []))) 2 day) (0 ∷ 0 ∷ 0 ∷ 0 ∷ 2 ∷ 1 ∷ 12 ∷ 2 ∷ 1 ∷ 3 ∷ []) ∷ []

-- All of them hold.
abbrev pub ExamplesHold : Type 0
ExamplesHold = AllByRecursion Holds examples
