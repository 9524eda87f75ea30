-- What is written of the lines of calls. Assumes nothing.
use Rattle.std.specs.Prelude.{ℕ, cond, List, [], ◌∷◌, ◌++◌, Some, None, Ok, Err, codes, Option, Result, ◌==◌}
use Rattle.walk.specs.Meaning.{Meaning, size}
use Rattle.book.specs.Histories.{Call, answer, after}
use Rattle.book.specs.Opening.{opens}
use Rattle.book.specs.Refusals.{opening_number}
use Rattle.book.specs.State.{State}
use Rattle.book.specs.declared.refusal.OpeningFault.{OpeningFault}
use Rattle.trial.specs.Answers.{number_text, refused_text, unknown_text, told}
use Rattle.trial.specs.Calls.{call_of, printers_of}

-- a line, a comma, and what is answered
abbrev pub line_text : List ℕ → List ℕ → List ℕ
line_text line answered = line ++ (codes "," ++ (answered ++ codes "\n"))

-- what is answered to a call, and what it leaves; a line that is no call leaves everything
abbrev pub answered : ℕ → State → Option Call → List ℕ
answered width s None = unknown_text
answered width s (Some call) = told width (answer s call)

-- what the call leaves
abbrev pub left_by : State → Option Call → State
left_by s None = s
left_by s (Some call) = after s call

-- What is written of a line, and what it leaves: nothing of an empty one; one that begins with `#` (byte 35) as it is; any
-- other with its answer.
abbrev pub written : ℕ → State → List ℕ → List ℕ
written width s [] = []
written width s (b ∷ bs) = cond (b == 35) ((b ∷ bs) ++ codes "\n") (line_text (b ∷ bs) (answered width s (call_of (b ∷ bs))))

-- what the line leaves of the book
abbrev pub after_line : State → List ℕ → State
after_line s [] = s
after_line s (b ∷ bs) = cond (b == 35) s (left_by s (call_of (b ∷ bs)))

-- what is written of lines, one after the other
abbrev pub lines_text : ℕ → State → List (List ℕ) → List ℕ
lines_text width s [] = []
lines_text width s (line ∷ lines) = written width s line ++ lines_text width (after_line s line) lines

-- what is written after opening a book, and where none was opened; want of memory is no answer
abbrev pub refused_opening : List ℕ → Option ℕ → List ℕ
refused_opening line None = []
refused_opening line (Some n) = line_text line (refused_text n)

-- what opening the book gives, and the lines behind it
abbrev pub from_opening : Meaning → List ℕ → Result State OpeningFault → List (List ℕ) → List ℕ
from_opening m line (Ok s) lines = line_text line (number_text (size m)) ++ lines_text m.width s lines
from_opening m line (Err fault) lines = refused_opening line (opening_number fault)

-- the first line opens a book, or is no call
abbrev pub trial_text : Meaning → List ℕ → Option ℕ → List (List ℕ) → List ℕ
trial_text m line None lines = line_text line unknown_text
trial_text m line (Some k) lines = from_opening m line (opens m k) lines

-- The names, and then what the lines give. The first one opens the book; where it is empty there is none.
abbrev pub run_text : Meaning → List (List ℕ) → List ℕ
run_text m [] = codes "call,answer,row\n"
run_text m ([] ∷ lines) = codes "call,answer,row\n"
run_text m ((b ∷ bs) ∷ lines) = codes "call,answer,row\n" ++ trial_text m (b ∷ bs) (printers_of (b ∷ bs)) lines
