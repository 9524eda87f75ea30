-- What each call of the book answers, and what it leaves. Assumes nothing.
use Rattle.std.specs.Prelude.{ℕ, ◌+◌, ◌-◌, ◌<◌, cond, List, [], ◌∷◌, ◌++◌, length, drop, is_some, is_ok, Some, None, Ok, Err, Option, Result, ◌==◌, nat_lt}
use Rattle.std.specs.Option.{ok_or}
use Rattle.std.specs.Result.{result_map_both}
use Rattle.walk.specs.Answers.{finds}
use Rattle.walk.specs.Meaning.{Meaning, size, row, standing}
use Rattle.walk.specs.Rows.{Row}
use Rattle.walk.specs.declared.answers.Refusal.{Refusal}
use Rattle.walk.specs.declared.answers.Refusal.TheVariants.{NoSuchLabel, ShortTray}
use Rattle.book.specs.Lanes.{lane_at, left, undrawn, hands, longest, without_first, without_last, with_hand}
use Rattle.book.specs.State.{State, printers}
use Rattle.book.specs.declared.counts.Counts.{Counts}
use Rattle.book.specs.declared.draw.Draw.{Draw}
use Rattle.book.specs.declared.draw.Source.{Source}
use Rattle.book.specs.declared.draw.Source.TheVariants.{Waiting, Front, Back}
use Rattle.book.specs.declared.lane.Lane.{Lane}
use Rattle.book.specs.declared.refusal.BookRefusal.{BookRefusal}
use Rattle.book.specs.declared.refusal.BookRefusal.TheVariants.{UnknownPrinter, HandFull, NothingLeft, HandEmpty, OtherRow, NotAllPrinted}
use Rattle.book.specs.declared.refusal.BookRefusal.TheVariants as refused

-- The last label of the longest lane, if any lane has labels left.
abbrev pub last_of_longest : List Lane → Option Draw
last_of_longest lanes =
    cond (left (lane_at lanes (longest lanes)) == 0) None (Some (record { label = (lane_at lanes (longest lanes)).end - 1; from = Back (longest lanes) }))

-- The first label of the printer's own lane; if that is empty, the last one of the longest lane.
abbrev pub from_lanes : List Lane → ℕ → Option Draw
from_lanes lanes i = cond (left (lane_at lanes i) == 0) (last_of_longest lanes) (Some (record { label = (lane_at lanes i).next; from = Front i }))

-- The printer's next label: the oldest waiting one; if none waits, one from the lanes.
abbrev pub next_draw : List ℕ → List Lane → ℕ → Option Draw
next_draw [] lanes i = from_lanes lanes i
next_draw (label ∷ labels) lanes i = Some (record { label = label; from = Waiting })

-- what is left of the waiting labels, and of the lanes
abbrev pub waiting_after : Source → List ℕ → List ℕ
waiting_after Waiting labels = drop 1 labels
waiting_after (Front j) labels = labels
waiting_after (Back j) labels = labels

abbrev pub lanes_after : Source → List Lane → List Lane
lanes_after Waiting lanes = lanes
lanes_after (Front j) lanes = without_first j lanes
lanes_after (Back j) lanes = without_last j lanes

-- the lane has a label to draw
abbrev pub Drawable : Source → List Lane → Type 0
Drawable Waiting lanes = Unit {0}
Drawable (Front j) lanes = (j < length lanes) × (0 < left (lane_at lanes j))
Drawable (Back j) lanes = (j < length lanes) × (0 < left (lane_at lanes j))

-- a label that the walk has; in a book that was opened, every label is one
abbrev pub labelled : Meaning → Option Draw → Result ℕ BookRefusal
labelled m None = Err NothingLeft
labelled m (Some d) = cond (nat_lt d.label (size m)) (Ok d.label) (Err (refused.Row NoSuchLabel))

-- `take` refuses an unknown printer, then one whose hand holds a label, then a short tray; then it has nothing left to give.
abbrev pub takes : State → ℕ → List ℕ → Result ℕ BookRefusal
takes s i tray =
    cond (nat_lt i (printers s))
    (cond (is_some (lane_at s.lanes i).hand) (Err HandFull)
    (cond (nat_lt (length tray) s.walk.width) (Err (refused.Row ShortTray))
    (labelled s.walk (next_draw s.waiting s.lanes i))))
    (Err UnknownPrinter)

-- It takes the label away where it was and puts it into the hand; the walk stands at it.
abbrev pub taken : State → ℕ → Result ℕ BookRefusal → Option Draw → State
taken s i (Ok label) (Some d) = record {
  walk = standing s.walk label;
  lanes = with_hand i (Some label) (lanes_after d.from s.lanes);
  waiting = waiting_after d.from s.waiting;
  bench = s.bench;
}
taken s i (Ok label) None = s
taken s i (Err refusal) d = s

-- what a `take` leaves, accepted or refused
abbrev pub after_take : State → ℕ → List ℕ → State
after_take s i tray = taken s i (takes s i tray) (next_draw s.waiting s.lanes i)

-- The label's row goes into the first bytes of the tray, and later ones stay; after a refusal all do.
abbrev pub written : {E : Type 0} → Meaning → ℕ → Result ℕ E → List ℕ → List ℕ
written m width (Ok label) tray = row m label ++ drop width tray
written m width (Err refusal) tray = tray

-- the tray after a `take`
abbrev pub tray_after_take : State → ℕ → List ℕ → List ℕ
tray_after_take s i tray = written s.walk s.walk.width (takes s i tray) tray

-- a printer's lane and hand
abbrev pub lane_of : List Lane → ℕ → Result Lane BookRefusal
lane_of lanes i = cond (nat_lt i (length lanes)) (Ok (lane_at lanes i)) (Err UnknownPrinter)

-- the label in a printer's hand
abbrev pub held : List Lane → ℕ → Result ℕ BookRefusal
held lanes i = cond (nat_lt i (length lanes)) (ok_or (lane_at lanes i).hand HandEmpty) (Err UnknownPrinter)

-- the label in the hand, if it is that of the row
abbrev pub matched : Result ℕ BookRefusal → Result ℕ Refusal → Result ℕ BookRefusal
matched (Err refusal) found = Err refusal
matched (Ok label) (Err refusal) = Err (refused.Row refusal)
matched (Ok label) (Ok found) = cond (found == label) (Ok label) (Err OtherRow)

-- `printed` refuses an unknown printer, then an empty hand, then what is no row of the walk, then another row than that in hand.
abbrev pub prints : State → ℕ → Row → Result ℕ BookRefusal
prints s i scanned = matched (held s.lanes i) (finds s.walk scanned)

-- The hand is empty, and the bench has one row more.
abbrev pub after_printed : State → ℕ → Row → State
after_printed s i scanned =
    cond (is_ok (prints s i scanned)) (record { walk = s.walk; lanes = with_hand i None s.lanes; waiting = s.waiting; bench = s.bench + 1 }) s

-- `spoiled` refuses an unknown printer, then an empty hand.
abbrev pub spoils : State → ℕ → Result ℕ BookRefusal
spoils s i = held s.lanes i

-- The hand is empty, and its label is the last of the waiting ones.
abbrev pub spoilt : State → ℕ → Result ℕ BookRefusal → State
spoilt s i (Ok label) = record { walk = s.walk; lanes = with_hand i None s.lanes; waiting = s.waiting ++ label ∷ []; bench = s.bench }
spoilt s i (Err refusal) = s

-- what a `spoiled` leaves, accepted or refused
abbrev pub after_spoiled : State → ℕ → State
after_spoiled s i = spoilt s i (spoils s i)

-- `row` refuses what is no label of the walk, then a short tray.
abbrev pub shows : State → ℕ → List ℕ → Result ℕ BookRefusal
shows s label tray =
    cond (nat_lt label (size s.walk)) (cond (nat_lt (length tray) s.walk.width) (Err (refused.Row ShortTray)) (Ok label)) (Err (refused.Row NoSuchLabel))

-- The walk stands at the label; the book is as it was.
abbrev pub after_row : State → ℕ → List ℕ → State
after_row s label tray =
    cond (is_ok (shows s label tray)) (record { walk = standing s.walk label; lanes = s.lanes; waiting = s.waiting; bench = s.bench }) s

-- the tray after a `row`
abbrev pub tray_after_row : State → ℕ → List ℕ → List ℕ
tray_after_row s label tray = written s.walk s.walk.width (shows s label tray) tray

-- `label` looks a row up in the walk.
abbrev pub labels : State → Row → Result ℕ BookRefusal
labels s scanned = result_map_both (λ label. label) refused.Row (finds s.walk scanned)

-- `counts` never refuses.
abbrev pub counted : State → Counts
counted s = record { bench = s.bench; hands = hands s.lanes; waiting = length s.waiting; undrawn = undrawn s.lanes }

-- `close` answers the number of rows of the walk, and refuses while the bench has fewer.
abbrev pub closes : State → Result ℕ BookRefusal
closes s = cond (nat_lt s.bench (size s.walk)) (Err NotAllPrinted) (Ok (size s.walk))
