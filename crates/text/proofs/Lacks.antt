-- Texts that lack a byte. Assumes nothing.
use Rattle.std.proofs.Common.{◌≡◌, ℕ, suc, ◌+◌, ◌%◌, ◌^◌, ◌<◌, true, leb, List, [], ◌∷◌, ◌++◌, decimal, arith}
use Rattle.std.proofs.lemmas.Bool.{and_parts, leb-true}
use Rattle.std.proofs.lemmas.Fmt.{decimal_by_steps}
use Rattle.std.specs.List.{list_all, join_with_byte, AllByRecursion}
use Rattle.std.specs.Str.Iter.{LacksByte}
use Rattle.text.proofs.Cuts.{lacks_more}

-- bytes from 48 on have none below
pub high_lack : (at : ℕ) (bs : List ℕ) → list_all (λ b. leb 48 b) bs ≡ true → at < 48 → LacksByte at bs
high_lack at [] high low = λ k h. absurd (omega arith)
high_lack at (b ∷ bs) high low =
    let both = and_parts _ _ high in
    let first = leb-true 48 b both.0 in
    lacks_more at b bs (λ e. omega arith) (high_lack at bs both.1 low)

-- two texts that lack a byte lack it together
pub both_lack : (at : ℕ) (p q : List ℕ) → LacksByte at p → LacksByte at q → LacksByte at (p ++ q)
both_lack at [] q front back = back
both_lack at (b ∷ p) q front back = lacks_more at b (p ++ q) (front 0 (omega arith)) (both_lack at p q (λ k h. front (suc k) (omega arith)) back)

-- and so do texts with another byte between
pub joined_lack : (at c : ℕ) (ps : List (List ℕ)) → (c ≡ at → ⊥) → AllByRecursion (LacksByte at) ps → LacksByte at (join_with_byte c ps)
joined_lack at c [] other clear = λ k h. absurd (omega arith)
joined_lack at c (p ∷ []) other clear = clear.0
joined_lack at c (p ∷ q ∷ ps) other clear = both_lack at p (c ∷ join_with_byte c (q ∷ ps)) clear.0 (lacks_more at c (join_with_byte c (q ∷ ps)) other (joined_lack at c (q ∷ ps) other clear.1))

-- the digits of a number are bytes from 48 on
pub digits_lack : (at n : ℕ) → at < 48 → n < 2 ^ 64 → LacksByte at (decimal n)
digits_lack at n low fits = decimal_by_steps
    (λ _ ds. LacksByte at ds)
    (λ d h. lacks_more at (48 + d) [] (λ e. omega arith) (λ k l. absurd (omega arith)))
    (λ m ds h rest. both_lack at ds ((48 + m % 10) ∷ []) rest (lacks_more at (48 + m % 10) [] (λ e. omega arith) (λ k l. absurd (omega arith))))
    n fits
