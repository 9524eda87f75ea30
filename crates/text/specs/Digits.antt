-- Numbers in decimal digits. Assumes nothing.
use Rattle.std.specs.Prelude.{◌≡◌, ℕ, ◌+◌, ◌-◌, ◌*◌, ◌≤◌, cond, ◌&&◌, List, length, Some, None, decimal, Option, nat_lt, nat_le, slice_index}
use Rattle.std.specs.List.{fold}
use Rattle.std.specs.Char.{is_ascii_digit}
use Rattle.std.specs.Str.{all_ascii_digits}

-- the value with one digit more behind it, up to 4,294,967,295; the digits 0 to 9 are the bytes 48 to 57
abbrev pub one_behind : ℕ → ℕ → Option ℕ
one_behind value b = cond (is_ascii_digit b && nat_le (value * 10 + (b - 48)) 4294967295) (Some (value * 10 + (b - 48))) None

-- the value of all the digits
abbrev pub digits_value : List ℕ → ℕ
digits_value bs = fold (λ value b. value * 10 + (b - 48)) 0 bs

-- the value of the bytes where there are some, all of them are digits, and it is at most 4,294,967,295
abbrev pub decimal_value : List ℕ → Option ℕ
decimal_value bs = cond (nat_lt 0 (length bs) && (all_ascii_digits bs && nat_le (digits_value bs) 4294967295)) (Some (digits_value bs)) None

-- each number up to 4,294,967,295 is the value of its decimal digits, and of nothing else that has no 0 in front
pub record DecimalsLaws : Type 0 where
  pub written : (n : ℕ) → n ≤ 4294967295 → decimal_value (decimal n) ≡ Some n
  pub only_so : (bs : List ℕ) (n : ℕ) → (slice_index bs 0 ≡ 48 → length bs ≡ 1) → decimal_value bs ≡ Some n → (n ≤ 4294967295) × (bs ≡ decimal n)
