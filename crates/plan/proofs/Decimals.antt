-- The numbers of the format are the decimal numbers below 1000. Assumes nothing.
use Rattle.std.proofs.Common.{◌≡◌, ℕ, ◌+◌, ◌-◌, ◌*◌, ◌/◌, ◌%◌, ◌<◌, ◌≤◌, Bool, true, false, List, [], ◌∷◌, ◌++◌, Some, decimal, sym, refl, ap, ◌∙◌, subst, ⊎_elim, arith}
use Rattle.std.proofs.lemmas.Fmt.{decimal_digit, decimal_step}
use Rattle.std.proofs.lemmas.Bool.{cases_lt, and_parts, leb-true}
use Rattle.std.proofs.lemmas.Bool.Decides.{nat_tests}
use Rattle.plan.specs.Numbers.{only, digit, leading, number_value, NumbersLaws}

-- the last digit of a number of two digits or more
decimal_more : (m b : ℕ) → 0 < m → b < 10 → m < 1000 → decimal (10 * m + b) ≡ decimal m ++ ((48 + b) ∷ [])
decimal_more m b some small few =
    let front : (10 * m + b) / 10 ≡ m = omega arith in
    let last : (10 * m + b) % 10 ≡ b = omega arith in
    decimal_step (10 * m + b) (omega arith) (omega arith) ∙ ap (λ n. decimal n ++ ((48 + (10 * m + b) % 10) ∷ [])) front ∙ ap (λ d. decimal m ++ ((48 + d) ∷ [])) last

-- the two digits of a number below 100
decimal_two : (a b : ℕ) → 0 < a → a < 10 → b < 10 → decimal (10 * a + b) ≡ (48 + a) ∷ (48 + b) ∷ []
decimal_two a b some small last = decimal_more a b some last (omega arith) ∙ ap (λ ds. ds ++ ((48 + b) ∷ [])) (decimal_digit a small)

-- the three digits of a number below 1000
decimal_three : (a b d : ℕ) → 0 < a → a < 10 → b < 10 → d < 10 → decimal (10 * (10 * a + b) + d) ≡ (48 + a) ∷ (48 + b) ∷ (48 + d) ∷ []
decimal_three a b d some small more last =
    decimal_more (10 * a + b) d (omega arith) last (omega arith) ∙ ap (λ ds. ds ++ ((48 + d) ∷ [])) (decimal_two a b some small more)

-- two or three digits are read as what they weigh
read_two : (a b : ℕ) → 0 < a → a < 10 → b < 10 → number_value ((48 + a) ∷ (48 + b) ∷ []) ≡ Some (10 * a + b)
read_two a b some small last = grind (arith, nat_tests)

read_three : (a b d : ℕ) → 0 < a → a < 10 → b < 10 → d < 10 → number_value ((48 + a) ∷ (48 + b) ∷ (48 + d) ∷ []) ≡ Some (10 * (10 * a + b) + d)
read_three a b d some small more last = grind (arith, nat_tests)

-- one digit is read as its value
read_one : (a : ℕ) → a < 10 → number_value ((48 + a) ∷ []) ≡ Some a
read_one a small = grind (arith, nat_tests)

-- what a test leaves
only_some : (test : Bool) (v n : ℕ) → only test v ≡ Some n → (test ≡ true) × (v ≡ n)
only_some true v n is = (refl, cc)
only_some false v n is = absurd (let never : ◌≡◌ {A = ℕ} 0 1 = cc in omega arith)

-- a digit is a byte from 48 to 57
digit_bounds : (b : ℕ) → digit b ≡ true → (48 ≤ b) × (b ≤ 57)
digit_bounds b is = let both = and_parts _ _ is in (leb-true 48 b both.0, leb-true b 57 both.1)

-- one that is not 0 is a byte from 49 on
leading_bounds : (b : ℕ) → leading b ≡ true → (49 ≤ b) × (b ≤ 57)
leading_bounds b is = let both = and_parts _ _ is in (leb-true 49 b both.0, leb-true b 57 both.1)

-- a digit is the byte 48 more than its value
byte : (b : ℕ) → 48 ≤ b → b ≡ 48 + (b - 48)
byte b low = omega arith

-- a number below 1000 is read from its digits
read_decimal : (n : ℕ) → n < 1000 → number_value (decimal n) ≡ Some n
read_decimal n few =
    ⊎_elim
    (λ one. ap number_value (decimal_digit n one) ∙ read_one n one)
    (λ more.
    ⊎_elim
    (λ two.
    let parts : 10 * (n / 10) + n % 10 ≡ n = omega arith in
    subst (λ m. number_value (decimal m) ≡ Some m) parts (ap number_value (decimal_two (n / 10) (n % 10) (omega arith) (omega arith) (omega arith)) ∙ read_two (n / 10) (n % 10) (omega arith) (omega arith) (omega arith)))
    (λ three.
    let parts : 10 * (10 * (n / 100) + n / 10 % 10) + n % 10 ≡ n = omega arith in
    subst (λ m. number_value (decimal m) ≡ Some m) parts (ap number_value (decimal_three (n / 100) (n / 10 % 10) (n % 10) (omega arith) (omega arith) (omega arith) (omega arith)) ∙ read_three (n / 100) (n / 10 % 10) (n % 10) (omega arith) (omega arith) (omega arith) (omega arith)))
    (cases_lt n 100))
    (cases_lt n 10)

-- and from nothing else
decimal_read : (bs : List ℕ) (n : ℕ) → number_value bs ≡ Some n → (n < 1000) × (bs ≡ decimal n)
decimal_read [] n is = absurd (let never : ◌≡◌ {A = ℕ} 0 1 = cc in omega arith)
decimal_read (a ∷ []) n is =
    let told = only_some _ _ n is in
    let one = digit_bounds a told.0 in
    (omega (arith, told.1), ap (λ x. x ∷ []) (byte a one.0) ∙ sym (decimal_digit (a - 48) (omega arith)) ∙ ap decimal told.1)
decimal_read (a ∷ b ∷ []) n is =
    let told = only_some _ _ n is in
    let tests = and_parts _ _ told.0 in
    let first = leading_bounds a tests.0 in
    let last = digit_bounds b tests.1 in
    (omega (arith, told.1), (λ i. byte a (omega arith) i ∷ byte b last.0 i ∷ []) ∙ sym (decimal_two (a - 48) (b - 48) (omega arith) (omega arith) (omega arith)) ∙ ap decimal told.1)
decimal_read (a ∷ b ∷ d ∷ []) n is =
    let told = only_some _ _ n is in
    let tests = and_parts _ _ told.0 in
    let more = and_parts _ _ tests.1 in
    let first = leading_bounds a tests.0 in
    let second = digit_bounds b more.0 in
    let last = digit_bounds d more.1 in
    let weighs : 10 * (10 * (a - 48) + (b - 48)) + (d - 48) ≡ n = omega (arith, told.1) in
    (omega (arith, told.1), (λ i. byte a (omega arith) i ∷ byte b second.0 i ∷ byte d last.0 i ∷ []) ∙ sym (decimal_three (a - 48) (b - 48) (d - 48) (omega arith) (omega arith) (omega arith) (omega arith)) ∙ ap decimal weighs)
decimal_read (a ∷ b ∷ d ∷ e ∷ more) n is = absurd (let never : ◌≡◌ {A = ℕ} 0 1 = cc in omega arith)

-- the numbers of a text are those below 1000, as they are written
pub numbers_laws : NumbersLaws
numbers_laws = record { written = read_decimal; only_so = decimal_read }
