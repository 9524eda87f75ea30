-- What is written of a whole day: a plan text, and then calls. Assumes nothing.
use Rattle.std.specs.Prelude.{ℕ, suc, ◌-◌, Bool, true, false, cond, ◌&&◌, ◌||◌, List, [], ◌∷◌, take, drop, Ok, Err, codes, Result, ◌==◌, slice_index}
use Rattle.std.specs.Str.{bytes_eq}
use Rattle.walk.specs.Meaning.{Meaning}
use Rattle.faults.specs.Faults.{cause_number}
use Rattle.plan.specs.Format.{plan_of}
use Rattle.text.specs.Pieces.{pieces}
use Rattle.faults.specs.declared.PlanFault.{PlanFault}
use Rattle.listing.specs.Texts.{told}
use Rattle.trial.specs.Lines.{run_text}

-- the first piece is that
abbrev pub first_is : List ℕ → List (List ℕ) → Bool
first_is word [] = false
first_is word (piece ∷ more) = bytes_eq piece word

-- the first line is `open`, or begins with it and a blank
abbrev pub first_opens : List (List ℕ) → Bool
first_opens [] = false
first_opens (line ∷ lines) = first_is (codes "open") (pieces 32 line)

-- a line begins at the place, and opens a book
abbrev pub opens_at : List ℕ → ℕ → Bool
opens_at input place = (place == 0 || slice_index input (place - 1) == 10) && first_opens (pieces 10 (drop place input))

-- how many bytes stand before the first line that opens a book, where `begins` says whether a line begins here
abbrev pub before_opening : Bool → List ℕ → ℕ
before_opening begins [] = 0
before_opening begins (b ∷ bs) = cond (begins && first_opens (pieces 10 (b ∷ bs))) 0 (suc (before_opening (b == 10) bs))

-- how many bytes of the input are the plan
abbrev pub plan_length : List ℕ → ℕ
plan_length input = before_opening true input

-- the calls with their answers, or the fault of the plan as the lister tells it
abbrev pub from_plan : Result Meaning PlanFault → List ℕ → List ℕ
from_plan (Ok m) calls = run_text m (pieces 10 calls)
from_plan (Err fault) calls = told fault (cause_number fault.cause)

-- what is written of the whole input
abbrev pub day_text : List ℕ → List ℕ
day_text input = from_plan (plan_of (take (plan_length input) input)) (drop (plan_length input) input)
