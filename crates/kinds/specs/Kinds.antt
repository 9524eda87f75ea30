-- What a kind means as a walk, and what making one gives. Assumes nothing.
use Rattle.std.specs.Prelude.{ℕ, Bool, true, false, cond, ◌&&◌, List, length, Ok, Err, sum, Result, ◌==◌, nat_le}
use Rattle.walk.specs.Rows.{Row}
use Rattle.walk.specs.Meaning.{Meaning}
use Rattle.walk.specs.Making.{new_walk}
use Rattle.kinds.specs.Lists.{digits, gray, stock, choose, door, words, changes}
use Rattle.kinds.specs.Ranges.{all_between}
use Rattle.kinds.specs.Shapes.{rows_of, width_of, steady_of}
use Rattle.walk.specs.declared.making.MakingFault.{MakingFault}
use Rattle.walk.specs.declared.making.MakingFault.TheVariants.{OutOfRange, TooManyRows}
use Rattle.kinds.specs.declared.kind.Kind.{Kind}

-- a kind as a walk
abbrev pub kind_meaning : Kind → Meaning
kind_meaning k = record { rows = rows_of k.shape; width = width_of k.shape; place = k.place; steady = steady_of k.shape }

-- Making refuses numbers that do not fit their ranges, and then more rows than a walk may have.
abbrev pub making : Bool → List Row → ℕ → Bool → Result Meaning MakingFault
making fit rows width steady = cond fit (cond (nat_le (length rows) 4294967295) (Ok (new_walk rows width steady)) (Err TooManyRows)) (Err OutOfRange)

-- n radices, up to 32, each from 1 to 255
abbrev pub radices_fit : ℕ → List ℕ → Bool
radices_fit n list = nat_le n 32 && (length list == n && all_between 1 255 list)

-- what making `digits` gives
abbrev pub digits_made : ℕ → List ℕ → Result Meaning MakingFault
digits_made n list = making (radices_fit n list) (digits list) n false

-- what making `gray` gives
abbrev pub gray_made : ℕ → List ℕ → Result Meaning MakingFault
gray_made n list = making (radices_fit n list) (gray list) n true

-- n stocks and a sum, each up to 32
abbrev pub stocks_fit : ℕ → ℕ → List ℕ → Bool
stocks_fit n t list = nat_le n 32 && (nat_le t 32 && (length list == n && all_between 0 32 list))

-- what making `stock` gives
abbrev pub stock_made : ℕ → ℕ → List ℕ → Result Meaning MakingFault
stock_made n t list = making (stocks_fit n t list) (stock list t) n false

-- t of n, each up to 32
abbrev pub choice_fits : ℕ → ℕ → Bool
choice_fits n t = nat_le n 32 && nat_le t 32

-- what making `choose` gives
abbrev pub choose_made : ℕ → ℕ → Result Meaning MakingFault
choose_made n t = making (choice_fits n t) (choose n t) n false

-- what making `door` gives
abbrev pub door_made : ℕ → ℕ → Result Meaning MakingFault
door_made n t = making (choice_fits n t) (door n t) n true

-- n counts, up to 32, with a sum up to 32
abbrev pub counts_fit : ℕ → List ℕ → Bool
counts_fit n list = nat_le n 32 && (length list == n && nat_le (sum list) 32)

-- what making `words` gives
abbrev pub words_made : ℕ → List ℕ → Result Meaning MakingFault
words_made n list = making (counts_fit n list) (words list) (sum list) false

-- what making `changes` gives; n is up to 32, and beyond 12 there are too many rows
abbrev pub changes_made : ℕ → Result Meaning MakingFault
changes_made n = making (nat_le n 32) (changes n) n true
