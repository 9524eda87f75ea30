-- How an answer is written: a comma stands behind it, and then its row, if it has one. Assumes nothing.
use Rattle.std.specs.Prelude.{ℕ, List, [], ◌++◌, take, Some, None, codes, decimal, Option}
use Rattle.walk.specs.Rows.{Row}
use Rattle.listing.specs.Texts.{row_text}
use Rattle.book.specs.Histories.{Answer, number, shown, four, refusal}
use Rattle.book.specs.Refusals.{refusal_number, opening_number}
use Rattle.book.specs.declared.counts.Counts.{Counts}
use Rattle.trial.specs.declared.answer.Answer.{Answer as AnswerHeld}
use Rattle.trial.specs.declared.answer.Answer.TheVariants.{Number, Shown, Counted, Refused, NotOpened, Unknown}

-- a number
abbrev pub number_text : ℕ → List ℕ
number_text n = decimal n ++ codes ","

-- a label and its row
abbrev pub shown_text : ℕ → Row → List ℕ
shown_text label r = number_text label ++ row_text r

-- four counts with blanks between
abbrev pub counts_text : Counts → List ℕ
counts_text c = decimal c.bench ++ (codes " " ++ (decimal c.hands ++ (codes " " ++ (decimal c.waiting ++ (codes " " ++ (decimal c.undrawn ++ codes ","))))))

-- a refusal by its number
abbrev pub refused_text : ℕ → List ℕ
refused_text n = codes "refused " ++ (decimal n ++ codes ",")

-- what is answered to a line that is no call
abbrev pub unknown_text : List ℕ
unknown_text = codes "unknown,"

-- what a book answers, where its rows have that width
abbrev pub told : ℕ → Answer → List ℕ
told width (number n) = number_text n
told width (shown label tray) = shown_text label (take width tray)
told width (four counts) = counts_text counts
told width (refusal e) = refused_text (refusal_number e)

-- a fault of opening; want of memory has no number, and is no answer
abbrev pub fault_said : Option ℕ → List ℕ
fault_said None = []
fault_said (Some n) = codes "refused " ++ decimal n

-- an answer as the code holds it
abbrev pub answer_text : AnswerHeld → List ℕ
answer_text (Number n) = number_text n
answer_text (Shown label r) = shown_text label r.items
answer_text (Counted counts) = counts_text counts
answer_text (Refused e) = refused_text (refusal_number e)
answer_text (NotOpened fault) = fault_said (opening_number fault) ++ codes ","
answer_text Unknown = unknown_text

-- what stands before its comma, and the row behind it
abbrev pub said : AnswerHeld → List ℕ
said (Number n) = decimal n
said (Shown label r) = decimal label
said (Counted c) = decimal c.bench ++ (codes " " ++ (decimal c.hands ++ (codes " " ++ (decimal c.waiting ++ (codes " " ++ decimal c.undrawn)))))
said (Refused e) = codes "refused " ++ decimal (refusal_number e)
said (NotOpened fault) = fault_said (opening_number fault)
said Unknown = codes "unknown"

-- the row behind that comma, which few answers have
abbrev pub row_shown : AnswerHeld → Row
row_shown (Number n) = []
row_shown (Shown label r) = r.items
row_shown (Counted counts) = []
row_shown (Refused e) = []
row_shown (NotOpened fault) = []
row_shown Unknown = []
