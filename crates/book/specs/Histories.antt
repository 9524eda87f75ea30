-- A book's life as others see it: a list of calls with their answers. Assumes nothing.
use Rattle.std.specs.Prelude.{ℕ, List, [], ◌∷◌, Ok, Err, Result}
use Rattle.walk.specs.Rows.{Row}
use Rattle.book.specs.Calls.{takes, after_take, tray_after_take, prints, after_printed, spoils, after_spoiled, shows, after_row, tray_after_row, labels, counted, closes}
use Rattle.book.specs.State.{State}
use Rattle.book.specs.declared.counts.Counts.{Counts}
use Rattle.book.specs.declared.refusal.BookRefusal.{BookRefusal}

-- A call, with what is handed over: a printer, a tray, a scanned row, a label.
pub data Call : Type 0 where
  Take : ℕ → List ℕ → Call
  Printed : ℕ → Row → Call
  Spoiled : ℕ → Call
  AskRow : ℕ → List ℕ → Call
  AskLabel : Row → Call
  AskCounts : Call
  Close : Call

-- An answer: a number, a label with the tray as it is then, four counts, or a refusal.
pub data Answer : Type 0 where
  number : ℕ → Answer
  shown : ℕ → List ℕ → Answer
  four : Counts → Answer
  refusal : BookRefusal → Answer

-- a number or a refusal, as an answer
abbrev pub numbered : Result ℕ BookRefusal → Answer
numbered (Ok n) = number n
numbered (Err e) = refusal e

-- a label with its tray or a refusal, as an answer
abbrev pub showing : Result ℕ BookRefusal → List ℕ → Answer
showing (Ok label) tray = shown label tray
showing (Err e) tray = refusal e

-- What a call answers: what its own definition says.
abbrev pub answer : State → Call → Answer
answer s (Take i tray) = showing (takes s i tray) (tray_after_take s i tray)
answer s (Printed i scanned) = numbered (prints s i scanned)
answer s (Spoiled i) = numbered (spoils s i)
answer s (AskRow l tray) = showing (shows s l tray) (tray_after_row s l tray)
answer s (AskLabel scanned) = numbered (labels s scanned)
answer s AskCounts = four (counted s)
answer s Close = numbered (closes s)

-- What it leaves.
abbrev pub after : State → Call → State
after s (Take i tray) = after_take s i tray
after s (Printed i scanned) = after_printed s i scanned
after s (Spoiled i) = after_spoiled s i
after s (AskRow l tray) = after_row s l tray
after s (AskLabel scanned) = s
after s AskCounts = s
after s Close = s

-- Lists of calls and of events have the newest first. The state after some calls:
abbrev pub state_after : State → List Call → State
state_after s [] = s
state_after s (call ∷ calls) = after (state_after s calls) call

-- An event is a call with its answer; a history is the events of some calls.
pub record Event : Type 0 where
  pub called : Call
  pub answered : Answer

abbrev pub history : State → List Call → List Event
history s [] = []
history s (call ∷ calls) = record { called = call; answered = answer (state_after s calls) call } ∷ history s calls
