-- Why a walk could not be made, and what a maker answers. Assumes nothing.
use Rattle.std.specs.Prelude.{◌≡◌, ℕ, Bool, true, List, is_ok, Some, None, Ok, Err, Option, Result}
use Rattle.walk.specs.Meaning.{Meaning}
use Rattle.walk.specs.Rows.{Row}
use Rattle.walk.specs.declared.making.MakingFault.{MakingFault}
use Rattle.walk.specs.declared.making.MakingFault.TheVariants.{OutOfRange, TooManyRows, NoMemory}

-- want of memory has no number
abbrev pub making_number : MakingFault → Option ℕ
making_number OutOfRange = Some 1
making_number TooManyRows = Some 2
making_number NoMemory = None

-- a walk as made stands at 0
abbrev pub new_walk : List Row → ℕ → Bool → Meaning
new_walk rows width steady = record { rows = rows; width = width; place = 0; steady = steady }

-- A maker answers the walk that making gives, or the fault; it wants for memory only where a walk is given.
abbrev pub Makes : {K : Type 0} → (K → Meaning) → Result K MakingFault → Result Meaning MakingFault → Type 0
Makes meaning (Ok k) given = given ≡ Ok (meaning k)
Makes meaning (Err OutOfRange) given = given ≡ Err OutOfRange
Makes meaning (Err TooManyRows) given = given ≡ Err TooManyRows
Makes meaning (Err NoMemory) given = is_ok given ≡ true
