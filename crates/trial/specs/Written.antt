-- The calls as they are written, each by its line. Assumes nothing.
use Rattle.std.specs.Prelude.{◌≡◌, ℕ, ◌≤◌, List, [], ◌∷◌, map, Some, codes, decimal}
use Rattle.std.specs.List.{join_with_byte, AllByRecursion}
use Rattle.book.specs.Histories.{Call, Take, Printed, Spoiled, AskRow, AskLabel, AskCounts, Close}
use Rattle.trial.specs.Calls.{tray, call_of}

-- what a call hands over, as fields: a printer or a label, and the values of a row
abbrev pub fields_text : Call → List (List ℕ)
fields_text (Take i t) = codes "take" ∷ decimal i ∷ []
fields_text (Printed i row) = codes "printed" ∷ decimal i ∷ map decimal row
fields_text (Spoiled i) = codes "spoiled" ∷ decimal i ∷ []
fields_text (AskRow label t) = codes "row" ∷ decimal label ∷ []
fields_text (AskLabel row) = codes "label" ∷ map decimal row
fields_text AskCounts = codes "counts" ∷ []
fields_text Close = codes "close" ∷ []

-- the fields with one blank (byte 32) between
abbrev pub call_text : Call → List ℕ
call_text call = join_with_byte 32 (fields_text call)

-- a number of a call fits 32 bits
abbrev pub Fits : ℕ → Type 0
Fits n = n ≤ 4294967295

-- and a value of a row 8
abbrev pub FitsRow : List ℕ → Type 0
FitsRow row = AllByRecursion (λ v. v ≤ 255) row

-- the calls that lines can write; the tray is always the same
abbrev pub IsCall : Call → Type 0
IsCall (Take i t) = Fits i × (t ≡ tray)
IsCall (Printed i row) = Fits i × FitsRow row
IsCall (Spoiled i) = Fits i
IsCall (AskRow label t) = Fits label × (t ≡ tray)
IsCall (AskLabel row) = FitsRow row
IsCall AskCounts = Unit {0}
IsCall Close = Unit {0}

-- A line that writes a call is read as that call, and no other line is.
pub record CallLinesLaws : Type 0 where
  pub written : (call : Call) → IsCall call → call_of (call_text call) ≡ Some call
  pub only_so : (line : List ℕ) (call : Call) → call_of line ≡ Some call → IsCall call × (line ≡ call_text call)
