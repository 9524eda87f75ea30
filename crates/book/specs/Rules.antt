-- What each call must answer, given where the rows are. Assumes nothing.
use Rattle.std.specs.Prelude.{ℕ, cond, List, [], ◌∷◌, ◌++◌, map, reverse, length, drop, is_some, Some, None, Err, Option, Result, nat_lt}
use Rattle.std.specs.List.{range_with_len}
use Rattle.std.specs.Option.{ok_or, option_or}
use Rattle.std.specs.Result.{result_map_both}
use Rattle.walk.specs.Answers.{finds}
use Rattle.walk.specs.Meaning.{Meaning, size}
use Rattle.walk.specs.Meaning as meaning
use Rattle.walk.specs.declared.answers.Refusal.TheVariants.{NoSuchLabel, ShortTray}
use Rattle.book.specs.Calls.{matched}
use Rattle.book.specs.Histories.{Call, Take, Printed, Spoiled, AskRow, AskLabel, AskCounts, Close, Answer, number, shown, four, refusal, numbered}
use Rattle.book.specs.Lanes.{first_greatest}
use Rattle.book.specs.Places.{Move, hand, queue, bench, lane_left, waiting_count, undrawn_count, hands_count}
use Rattle.book.specs.declared.refusal.BookRefusal.{BookRefusal}
use Rattle.book.specs.declared.refusal.BookRefusal.TheVariants.{Row, UnknownPrinter, HandFull, NothingLeft, HandEmpty, NotAllPrinted}

-- the first of a list, if there is one
abbrev pub first_of : List ℕ → Option ℕ
first_of [] = None
first_of (x ∷ xs) = Some x

-- and the last
abbrev pub last_of : List ℕ → Option ℕ
last_of xs = first_of (reverse xs)

-- the number of the lane with the most labels left, the lowest where several have as many
abbrev pub longest_lane : ℕ → ℕ → List Move → ℕ
longest_lane n k h = first_greatest (map (λ i. length (lane_left n k h i)) (range_with_len 0 k))

-- A printer's next label is the oldest waiting one. If none waits, it is the first of its own lane. If that lane is empty, it
-- is the last of the longest lane.
abbrev pub next_label : ℕ → ℕ → List Move → ℕ → Option ℕ
next_label n k h i = option_or (first_of (queue h)) (option_or (first_of (lane_left n k h i)) (last_of (lane_left n k h (longest_lane n k h))))

-- the label's row in the first bytes of the tray
abbrev pub with_row : Meaning → List ℕ → ℕ → Answer
with_row m tray l = shown l (meaning.row m l ++ drop m.width tray)

-- the label with its row, or the refusal where there is none left
abbrev pub giving : Meaning → List ℕ → Option ℕ → Answer
giving m tray None = refusal NothingLeft
giving m tray (Some l) = with_row m tray l

-- the label in the hand of a printer, of k
abbrev pub in_hand : ℕ → List Move → ℕ → Result ℕ BookRefusal
in_hand k h i = cond (nat_lt i k) (ok_or (hand h i) HandEmpty) (Err UnknownPrinter)

-- What a call answers on a walk with k printers after the moves h. In each the tests run in the order written.
abbrev pub rule : Meaning → ℕ → List Move → Call → Answer
rule m k h (Take i tray) =
    cond (nat_lt i k)
    (cond (is_some (hand h i)) (refusal HandFull)
    (cond (nat_lt (length tray) m.width) (refusal (Row ShortTray)) (giving m tray (next_label (size m) k h i))))
    (refusal UnknownPrinter)
rule m k h (Printed i scanned) = numbered (matched (in_hand k h i) (finds m scanned))
rule m k h (Spoiled i) = numbered (in_hand k h i)
rule m k h (AskRow l tray) =
    cond (nat_lt l (size m)) (cond (nat_lt (length tray) m.width) (refusal (Row ShortTray)) (with_row m tray l)) (refusal (Row NoSuchLabel))
rule m k h (AskLabel scanned) = numbered (result_map_both (λ l. l) Row (finds m scanned))
rule m k h AskCounts =
    four (record { bench = length (bench h); hands = hands_count k h; waiting = waiting_count (size m) h; undrawn = undrawn_count (size m) h })
rule m k h Close = cond (nat_lt (length (bench h)) (size m)) (refusal NotAllPrinted) (number (size m))
