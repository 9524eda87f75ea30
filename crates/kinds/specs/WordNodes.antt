-- The words that a node of `words` has below it. Assumes nothing.
use Rattle.std.specs.Prelude.{◌≡◌, ℕ, zero, suc, List, [], ◌∷◌, length, refl}
use Rattle.std.proofs.Common.{arith}
use Rattle.kinds.specs.Lists.{words_of, words}

-- where no value is left there is one word, the empty one
pub words_leaf : (left : ℕ) (counts : List ℕ) → left ≡ 0 → words_of left counts ≡ [] ∷ []
words_leaf zero counts none = refl
words_leaf (suc left) counts none = absurd (omega arith)

-- the ways to mix a row of some values with equal values of another kind: a word says whose turn it is
abbrev pub mixings : ℕ → ℕ → ℕ
mixings some others = length (words (some ∷ others ∷ []))
