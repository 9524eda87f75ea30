-- The numbers by which refusals are told. Assumes nothing.
use Rattle.std.specs.Prelude.{ℕ, Some, None, Option}
use Rattle.walk.specs.Answers as walk
use Rattle.book.specs.declared.refusal.BookRefusal.{BookRefusal}
use Rattle.book.specs.declared.refusal.BookRefusal.TheVariants.{Row, UnknownPrinter, HandFull, NothingLeft, HandEmpty, OtherRow, NotAllPrinted}
use Rattle.book.specs.declared.refusal.OpeningFault.{OpeningFault}
use Rattle.book.specs.declared.refusal.OpeningFault.TheVariants.{NumberOfPrinters, NoMemory}

-- a refusal of the walk keeps its number
abbrev pub refusal_number : BookRefusal → ℕ
refusal_number (Row refusal) = walk.refusal_number refusal
refusal_number UnknownPrinter = 7
refusal_number HandFull = 8
refusal_number NothingLeft = 9
refusal_number HandEmpty = 10
refusal_number OtherRow = 11
refusal_number NotAllPrinted = 12

-- want of memory has no number
abbrev pub opening_number : OpeningFault → Option ℕ
opening_number NumberOfPrinters = Some 7
opening_number NoMemory = None
