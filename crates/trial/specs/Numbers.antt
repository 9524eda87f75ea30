-- Numbers as a call writes them. Assumes nothing.
use Rattle.std.specs.Prelude.{◌≡◌, ℕ, ◌≤◌, cond, List, [], ◌∷◌, Some, None, decimal, Option, ◌==◌, ◌≢◌, nat_le}
use Rattle.text.specs.Digits.{decimal_value}
use Rattle.plan.specs.Format.{and_then, provided}

-- a number is some decimal digits, with a value up to 4,294,967,295, and only 0 itself begins with a 0 (byte 48)
abbrev pub number_of : List ℕ → Option ℕ
number_of [] = None
number_of (b ∷ []) = decimal_value (b ∷ [])
number_of (b ∷ c ∷ bs) = cond (b == 48) None (decimal_value (b ∷ c ∷ bs))

-- a value of a row is a number up to 255
abbrev pub value_of : List ℕ → Option ℕ
value_of bs = and_then (number_of bs) (λ n. provided (nat_le n 255) (Some n))

-- the number, up to 4,294,967,295, that the bytes write in decimal digits; none where they write none
abbrev pub WrittenAs : List ℕ → Option ℕ → Type 0
WrittenAs bs (Some n) = (n ≤ 4294967295) × (bs ≡ decimal n)
WrittenAs bs None = (n : ℕ) → n ≤ 4294967295 → bs ≢ decimal n
