-- The numbers of a call are those that it writes in decimal digits. Assumes nothing.
use Rattle.std.proofs.Common.{◌≡◌, ℕ, ◌^◌, ◌<◌, ◌≤◌, eqb, ◌≢◌, List, [], ◌∷◌, length, get_or, Some, None, decimal, Option, sym, refl, ap, ◌∙◌, subst, ⊎_elim, arith, eqb-true}
use borrow.Author.Tests.{eqb-false}
use Rattle.std.proofs.lemmas.Fmt.{decimal_nonempty, decimal_digit, first_decimal}
use Rattle.std.proofs.lemmas.Bool.{cond_both, cases_lt}
use Rattle.text.specs.Digits.{decimal_value}
use Rattle.text.proofs.Numerals.{decimal_written, decimal_only}
use Rattle.trial.specs.Numbers.{number_of, WrittenAs}

-- what bytes with no leading 0 come to
plain : (bs : List ℕ) → (get_or bs 0 0 ≡ 48 → length bs ≡ 1) → (o : Option ℕ) → decimal_value bs ≡ o → WrittenAs bs o
plain bs lead (Some n) is = decimal_only bs n lead is
plain bs lead None is = λ n low writes.
    let reads : decimal_value bs ≡ Some n = ap decimal_value writes ∙ decimal_written n low in
    let never : ◌≡◌ {A = ℕ} 0 1 = cc in omega arith

-- bytes with a leading 0 write no number
pub leading : (bs : List ℕ) (n : ℕ) → get_or bs 0 0 ≡ 48 → 2 ≤ length bs → n ≤ 4294967295 → bs ≢ decimal n
leading bs n zero long low writes =
    let fits : n < 2 ^ 64 = omega arith in
    let first : get_or (decimal n) 0 0 ≡ 48 = ap (λ xs. get_or xs 0 0) (sym writes) ∙ zero in
    let wide : 2 ≤ length (decimal n) = let e = ap length writes in omega (arith, e) in
    ⊎_elim
    (λ below. let one : length (decimal n) ≡ 1 = ap length (decimal_digit n (omega arith)) in omega arith)
    (λ above. let high = first_decimal n (omega arith) fits in omega (arith, high))
    (cases_lt n 10)

-- all bytes write the number that is read of them, or none
pub every : (bs : List ℕ) → WrittenAs bs (number_of bs)
every [] = λ n low writes. let e = ap length writes in omega (arith, e, decimal_nonempty n (omega arith))
every (b ∷ []) = plain (b ∷ []) (λ _. refl) (decimal_value (b ∷ [])) refl
every (b ∷ c ∷ bs) =
    cond_both (eqb b 48) None (decimal_value (b ∷ c ∷ bs)) (WrittenAs (b ∷ c ∷ bs)) (λ is n. leading (b ∷ c ∷ bs) n (eqb-true _ _ is) (omega arith))
    (λ is. plain (b ∷ c ∷ bs) (λ zero. absurd (eqb-false _ _ is zero)) (decimal_value (b ∷ c ∷ bs)) refl)

-- what the definition gives is the number that the bytes write
pub numbers : (bs : List ℕ) (o : Option ℕ) → o ≡ number_of bs → WrittenAs bs o
numbers bs o is = subst (WrittenAs bs) (sym is) (every bs)
