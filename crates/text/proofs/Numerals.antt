-- The value of decimal digits, and the number that they write. Assumes nothing.
use Rattle.std.proofs.Common.{◌≡◌, ℕ, ◌+◌, ◌-◌, ◌*◌, ◌^◌, ◌<◌, ◌≤◌, Bool, true, false, cond, leb, List, length, get_or, Some, None, decimal, sym, refl, ap, ◌∙◌, arith, rules}
use Rattle.std.specs.List.{fold}
use Rattle.std.specs.Str.{all_ascii_digits}
use Rattle.std.proofs.lemmas.Fmt.{decimal_nonempty, digits_decimal, digits_value-decimal, decimal-digits_value}
use Rattle.std.proofs.lemmas.Str.Parse.{IsNumeralModel, numerals_by_fold}
use Rattle.std.proofs.lemmas.Bool.{and_parts, and_from, leb-true, le-leb, cond-true}
use Rattle.text.specs.Digits.{digits_value, decimal_value, DecimalsLaws}

-- digits and their value, as the library has them too
own : IsNumeralModel (λ ds. all_ascii_digits ds ≡ true) digits_value
own = numerals_by_fold _ (search rules) (fold (λ value b. value * 10 + (b - 48))) (search rules)

-- the digits of a number are read as it
pub decimal_written : (n : ℕ) → n ≤ 4294967295 → decimal_value (decimal n) ≡ Some n
decimal_written n low =
    let fits : n < 2 ^ 64 = omega arith in
    let value : digits_value (decimal n) ≡ n = digits_value-decimal own n fits in
    cond-true _ _ _ (and_from _ _ (le-leb 1 (length (decimal n)) (decimal_nonempty n fits)) (and_from _ _ (digits_decimal own n fits) (le-leb (digits_value (decimal n)) 4294967295 (omega (arith, value)))))
    ∙ ap Some value

-- what a test lets through is there, and is the same
kept : (t : Bool) (v n : ℕ) → cond t (Some v) None ≡ Some n → (t ≡ true) × (v ≡ n)
kept true v n is = (refl, cc)
kept false v n is = absurd (let never : ◌≡◌ {A = ℕ} 0 1 = cc in omega arith)

-- and with no 0 in front nothing else is
pub decimal_only : (bs : List ℕ) (n : ℕ) → (get_or bs 0 0 ≡ 48 → length bs ≡ 1) → decimal_value bs ≡ Some n → (n ≤ 4294967295) × (bs ≡ decimal n)
decimal_only bs n lead is =
    let told = kept _ (digits_value bs) n is in
    let some = and_parts (leb 1 (length bs)) _ told.0 in
    let rest = and_parts (all_ascii_digits bs) (leb (digits_value bs) 4294967295) some.1 in
    let low : digits_value bs ≤ 4294967295 = leb-true _ _ rest.1 in
    let value : digits_value bs ≡ n = told.1 in
    let fits : digits_value bs < 2 ^ 64 = omega arith in
    (omega arith, sym (decimal-digits_value own bs rest.0 (leb-true 1 (length bs) some.0) lead fits) ∙ ap decimal value)

-- the digits of a number, both ways
pub decimals_laws : DecimalsLaws
decimals_laws = record { written = decimal_written; only_so = decimal_only }
