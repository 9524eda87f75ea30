-- How many rows a walk may have, and what is counted before one is made. Assumes nothing.
use Rattle.std.specs.Prelude.{◌≡◌, ℕ, ◌<◌, ◌≤◌, Bool, true, false, cond, Some, None, Ok, Err, Option, Result, nat_le}
use Rattle.walk.specs.declared.making.MakingFault.{MakingFault}
use Rattle.walk.specs.declared.making.MakingFault.TheVariants.{OutOfRange, TooManyRows, NoMemory}

-- a number of rows, if a walk may have as many
abbrev pub counted : ℕ → Option ℕ
counted n = cond (nat_le n 4294967295) (Some n) None

-- what a walk is made from, with what holds of it, or why there is none: whether the numbers fit comes first, then the
-- count of the rows, and memory last
abbrev pub Tabled : {X : Type 0} → Bool → ℕ → (X → Type 0) → Result X MakingFault → Type 0
Tabled fit count P (Ok x) = (fit ≡ true) × (count ≤ 4294967295) × P x
Tabled fit count P (Err OutOfRange) = fit ≡ false
Tabled fit count P (Err TooManyRows) = (fit ≡ true) × (4294967295 < count)
Tabled fit count P (Err NoMemory) = (fit ≡ true) × (count ≤ 4294967295)
