-- The pieces that an iterator over them has still to give. Assumes nothing.
use Rattle.std.specs.Prelude.{ℕ, List, [], Some, None, Option}
use Rattle.std.specs.Borrow.{Bor}
use Rattle.text.specs.declared.pieces.Pieces.{Pieces}
use Rattle.text.specs.Pieces.{pieces}

-- the pieces of what is left, or none
abbrev pub coming_of : ℕ → Option (Bor (List ℕ)) → List (List ℕ)
coming_of at None = []
coming_of at (Some bytes) = pieces at bytes.now

-- the pieces that are still to come
abbrev pub coming : Pieces → List (List ℕ)
coming s = coming_of s.at s.rest
