-- Numbers within a range. Assumes nothing.
use Rattle.std.specs.Prelude.{◌≡◌, ℕ, Bool, true, ◌&&◌, List, [], ◌∷◌, sum, nat_le, refl}
use Rattle.std.specs.List.{list_all}
use Rattle.std.proofs.Common.{sym, ap, ◌∙◌}
use Rattle.std.proofs.Math.Bool.{and_assoc}

-- each number of the list is from low to high
abbrev pub all_between : ℕ → ℕ → List ℕ → Bool
all_between low high [] = true
all_between low high (x ∷ xs) = nat_le low x && (nat_le x high && all_between low high xs)

-- the numbers add up to at most `most`
abbrev pub sum_within : ℕ → List ℕ → Bool
sum_within most list = nat_le (sum list) most

-- the first is std's test of each element
pub between_is_all : (low high : ℕ) (xs : List ℕ) → all_between low high xs ≡ list_all (λ x. nat_le low x && nat_le x high) xs
between_is_all low high [] = refl
between_is_all low high (x ∷ xs) =
    ap (λ rest. nat_le low x && (nat_le x high && rest)) (between_is_all low high xs) ∙ sym (and_assoc (nat_le low x) (nat_le x high) _)
