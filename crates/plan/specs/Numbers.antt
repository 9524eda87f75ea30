-- Numbers as a plan text writes them. Assumes nothing.
use Rattle.std.specs.Prelude.{◌≡◌, ℕ, ◌+◌, ◌-◌, ◌*◌, ◌<◌, Bool, cond, ◌&&◌, List, [], ◌∷◌, Some, None, decimal, Option, nat_le}

-- v where the test holds
abbrev pub only : Bool → ℕ → Option ℕ
only test v = cond test (Some v) None

-- the digits 0 to 9 are the bytes 48 to 57
abbrev pub digit : ℕ → Bool
digit b = nat_le 48 b && nat_le b 57

-- a digit that is not 0
abbrev pub leading : ℕ → Bool
leading b = nat_le 49 b && nat_le b 57

-- the value of a digit
abbrev pub digit_value : ℕ → Option ℕ
digit_value b = only (digit b) (b - 48)

-- a number has one, two or three decimal digits, and of these only 0 itself begins with a 0
abbrev pub number_value : List ℕ → Option ℕ
number_value [] = None
number_value (a ∷ []) = digit_value a
number_value (a ∷ b ∷ []) = only (leading a && digit b) (10 * (a - 48) + (b - 48))
number_value (a ∷ b ∷ c ∷ []) = only (leading a && (digit b && digit c)) (100 * (a - 48) + 10 * (b - 48) + (c - 48))
number_value (a ∷ b ∷ c ∷ d ∷ more) = None

-- the numbers are those below 1000, each as it is written in decimal digits
pub record NumbersLaws : Type 0 where
  pub written : (n : ℕ) → n < 1000 → number_value (decimal n) ≡ Some n
  pub only_so : (bs : List ℕ) (n : ℕ) → number_value bs ≡ Some n → (n < 1000) × (bs ≡ decimal n)
