-- The calls as a line writes them: a word, and then fields, with one blank (byte 32) between neighbours. Assumes nothing.
use Rattle.std.specs.Prelude.{◌≡◌, ℕ, List, [], ◌∷◌, replicate, Some, None, Ok, Err, vec_items, codes, Option, Result}
use Rattle.std.specs.Option.{option_map}
use Rattle.std.specs.Str.{bytes_eq}
use Rattle.walk.specs.Rows.{Row}
use Rattle.plan.specs.Format.{and_then, provided}
use Rattle.text.specs.Named.{named_among}
use Rattle.text.specs.Pieces.{pieces}
use Rattle.book.specs.Histories.{Call}
use Rattle.book.specs.Histories as book
use Rattle.trial.specs.declared.call.Call.{Call as CallRead}
use Rattle.trial.specs.declared.call.Call.TheVariants.{Take, Printed, Spoiled, Row as RowRead, Label, Counts, Close}
use Rattle.trial.specs.declared.call.NoCall.{NoCall}
use Rattle.trial.specs.declared.call.NoCall.TheVariants.{Unknown, NoMemory}
use Rattle.trial.specs.declared.verb.Verb.{Verb}
use Rattle.trial.specs.declared.verb.Verb.TheVariants as verb
use Rattle.trial.specs.Numbers.{number_of, value_of}

-- the tray that is handed over
abbrev pub tray : List ℕ
tray = replicate 64 0

-- Words

-- the word that a call begins with
abbrev pub word_of : Verb → List ℕ
word_of verb.Take = codes "take"
word_of verb.Printed = codes "printed"
word_of verb.Spoiled = codes "spoiled"
word_of verb.Row = codes "row"
word_of verb.Label = codes "label"
word_of verb.Counts = codes "counts"
word_of verb.Close = codes "close"

-- the call that a word begins
abbrev pub verb_of : List ℕ → Option Verb
verb_of word = named_among word_of (verb.Take ∷ verb.Printed ∷ verb.Spoiled ∷ verb.Row ∷ verb.Label ∷ verb.Counts ∷ verb.Close ∷ []) word

-- Fields

-- just one field, which is a number
abbrev pub lone_number : List (List ℕ) → Option ℕ
lone_number [] = None
lone_number (field ∷ []) = number_of field
lone_number (field ∷ other ∷ more) = None

-- the row of all the fields
abbrev pub scanned : List (List ℕ) → Option Row
scanned [] = Some []
scanned (field ∷ more) = and_then (value_of field) (λ value. option_map (λ values. value ∷ values) (scanned more))

-- a printer, and the row of the other fields
abbrev pub print_of : List (List ℕ) → Option Call
print_of [] = None
print_of (field ∷ more) = and_then (number_of field) (λ printer. option_map (book.Printed printer) (scanned more))

-- no field
abbrev pub bare : Call → List (List ℕ) → Option Call
bare call [] = Some call
bare call (field ∷ more) = None

-- Calls

-- the call with its fields
abbrev pub verb_call : Verb → List (List ℕ) → Option Call
verb_call verb.Take fields = option_map (λ printer. book.Take printer tray) (lone_number fields)
verb_call verb.Printed fields = print_of fields
verb_call verb.Spoiled fields = option_map book.Spoiled (lone_number fields)
verb_call verb.Row fields = option_map (λ label. book.AskRow label tray) (lone_number fields)
verb_call verb.Label fields = option_map book.AskLabel (scanned fields)
verb_call verb.Counts fields = bare book.AskCounts fields
verb_call verb.Close fields = bare book.Close fields

-- the first field is the word
abbrev pub call_of_fields : List (List ℕ) → Option Call
call_of_fields [] = None
call_of_fields (word ∷ fields) = and_then (verb_of word) (λ v. verb_call v fields)

-- the call that a line writes
abbrev pub call_of : List ℕ → Option Call
call_of line = call_of_fields (pieces 32 line)

-- the number of printers, where the line opens a book
abbrev pub printers_of_fields : List (List ℕ) → Option ℕ
printers_of_fields [] = None
printers_of_fields (word ∷ fields) = provided (bytes_eq word (codes "open")) (lone_number fields)

-- the same of a line
abbrev pub printers_of : List ℕ → Option ℕ
printers_of line = printers_of_fields (pieces 32 line)

-- How what the code holds stands to that

-- a call as the code holds it
abbrev pub meant : CallRead → Call
meant (Take printer) = book.Take printer tray
meant (Printed printer row) = book.Printed printer (vec_items row)
meant (Spoiled printer) = book.Spoiled printer
meant (RowRead label) = book.AskRow label tray
meant (Label row) = book.AskLabel (vec_items row)
meant Counts = book.AskCounts
meant Close = book.Close

-- r is what the line gives, or nothing where it gives nothing; or, whatever it gives, r tells want of memory
abbrev pub Reads : {X Y : Type 0} → (X → Y) → Result X NoCall → Option Y → Type 0
Reads value (Ok x) given = given ≡ Some (value x)
Reads value (Err Unknown) given = given ≡ None
Reads value (Err NoMemory) given = Unit {0}
