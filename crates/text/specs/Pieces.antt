-- The pieces of a list of bytes between the occurrences of a byte. Assumes nothing.
use Rattle.std.specs.Prelude.{◌≡◌, ℕ, ◌<◌, cond, List, [], ◌∷◌, length, ◌==◌}
use Rattle.std.specs.Str.Iter.{LacksByte}
use Rattle.std.specs.List.{join_with_byte, AllByRecursion}

-- b before the first piece
abbrev pub grown : ℕ → List (List ℕ) → List (List ℕ)
grown b [] = (b ∷ []) ∷ []
grown b (piece ∷ more) = (b ∷ piece) ∷ more

-- where the byte occurs k times there are k + 1 pieces, and any of them may be empty
abbrev pub pieces : ℕ → List ℕ → List (List ℕ)
pieces at [] = [] ∷ []
pieces at (b ∷ bs) = cond (b == at) ([] ∷ pieces at bs) (grown b (pieces at bs))

-- there are pieces, each without the byte, and with the byte between each two they are the list again
pub record PiecesLaws (at : ℕ) (bs : List ℕ) (ps : List (List ℕ)) : Type 0 where
  pub some : 0 < length ps
  pub clear : AllByRecursion (LacksByte at) ps
  pub whole : join_with_byte at ps ≡ bs

-- and a text that was put together of pieces without the byte is cut into these again
abbrev pub CutsAgain : ℕ → List (List ℕ) → Type 0
CutsAgain at ps = 0 < length ps → AllByRecursion (LacksByte at) ps → pieces at (join_with_byte at ps) ≡ ps
