-- Comparing bytes with a fixed word. Assumes nothing.
use Rattle.std.proofs.Common.{◌≡◌, ℕ, Bool, true, false, not, List, sym, refl, ap, ◌∙◌}
use Rattle.std.specs.Str.{bytes_eq}

-- a test denied twice is the test
not_not : (t : Bool) → not (not t) ≡ t
not_not true = refl
not_not false = refl

-- what `!=` answers at a word is the opposite of the test of the format
pub same_from_ne : (xs ys word : List ℕ) (r t : Bool) → r ≡ not (bytes_eq xs ys) → ys ≡ word → r ≡ not t → bytes_eq xs word ≡ t
same_from_ne xs ys word r t told is answer =
    ap (bytes_eq xs) (sym is) ∙ sym (not_not (bytes_eq xs ys)) ∙ ap not (sym told ∙ answer) ∙ not_not t
