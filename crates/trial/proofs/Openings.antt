-- Lines that open a book. Assumes nothing.
use Rattle.std.proofs.Common.{◌≡◌, ℕ, zero, suc, Some, Option, ◌+◌, ◌-◌, ◌<◌, Bool, true, false, cond, ◌&&◌, ◌||◌, eqb, List, ◌∷◌, length, get_or, drop, sym, ap, ◌∙◌, ap₂, add-one, arith, drop-cons}
use Rattle.std.proofs.lemmas.Bool.Decides.{nat_tests}
use Rattle.std.proofs.lemmas.List.{drop_all}
use Rattle.text.specs.Pieces.{pieces}
use Rattle.std.specs.List.{find, range_with_len}
use Rattle.std.specs.Option.{unwrap_or}
use Rattle.trial.specs.Day.{first_opens, opens_at, before_opening, plan_length}

-- whether a line begins at the place
abbrev pub begins : List ℕ → ℕ → Bool
begins bs i = eqb i 0 || eqb (get_or bs (i - 1) 0) 10

-- the byte at i, and those behind it
dropped : (bs : List ℕ) (i : ℕ) → i < length bs → drop i bs ≡ get_or bs i 0 ∷ drop (i + 1) bs
dropped bs i lt = rw (add-one, drop-cons bs i 0)

-- how many bytes stand before the first line that opens a book, seen from the byte at i
here : (bs : List ℕ) (i : ℕ) → i < length bs → before_opening (begins bs i) (drop i bs) ≡ cond (opens_at bs i) 0 (suc (before_opening (begins bs (i + 1)) (drop (i + 1) bs)))
here bs i lt =
    let first : eqb (i + 1) 0 ≡ false = grind (arith, nat_tests) in
    let place : (i + 1) - 1 ≡ i = omega arith in
    let next : begins bs (i + 1) ≡ eqb (get_or bs i 0) 10 = ap₂ (λ t k. t || eqb (get_or bs k 0) 10) first place in
    ap (before_opening (begins bs i)) (dropped bs i lt)
    ∙ ap₂ (λ u v. cond u 0 (suc (before_opening v (drop (i + 1) bs)))) (ap (λ xs. begins bs i && first_opens (pieces 10 xs)) (sym (dropped bs i lt))) (sym next)

-- the place i, or the first one of those behind it
nearest : (opens : Bool) (later : Option ℕ) (i n r : ℕ) → unwrap_or later n ≡ (i + 1) + r → unwrap_or (cond opens (Some i) later) n ≡ i + cond opens 0 (suc r)
nearest true later i n r e = omega arith
nearest false later i n r e = omega (arith, e)

-- the first place that opens a book, from i on
found_from : (bs : List ℕ) (k i : ℕ) → i + k ≡ length bs → unwrap_or (find (opens_at bs) (range_with_len i k)) (length bs) ≡ i + before_opening (begins bs i) (drop i bs)
found_from bs zero i all = let none : before_opening (begins bs i) (drop i bs) ≡ 0 = ap (before_opening (begins bs i)) (drop_all i bs (omega arith)) in omega (arith, none)
found_from bs (suc k) i all =
    nearest (opens_at bs i) (find (opens_at bs) (range_with_len (i + 1) k)) i (length bs) (before_opening (begins bs (i + 1)) (drop (i + 1) bs)) (found_from bs k (i + 1) (omega arith))
    ∙ ap (λ n. i + n) (sym (here bs i (omega arith)))

-- the first place of all
pub opening_found : (bs : List ℕ) (o : Option ℕ) → o ≡ find (opens_at bs) (range_with_len 0 (length bs)) → unwrap_or o (length bs) ≡ plan_length bs
opening_found bs o is = let e = found_from bs (length bs) 0 (omega arith) in ap (λ o. unwrap_or o (length bs)) is ∙ omega (arith, e)
