-- How many pieces a text has. Assumes nothing.
use Rattle.std.proofs.Common.{ℕ, ◌+◌, ◌≤◌, Bool, true, false, cond, eqb, List, [], ◌∷◌, length, arith}
use Rattle.text.specs.Pieces.{grown, pieces}

-- a byte before the first piece adds one piece at most
grown_length : (b : ℕ) (ps : List (List ℕ)) → length (grown b ps) ≤ length ps + 1
grown_length b [] = omega arith
grown_length b (p ∷ ps) = omega arith

-- a byte that parts or not adds one piece at most
parted_length : (t : Bool) (b n : ℕ) (ps : List (List ℕ)) → length ps + 1 ≤ n → length (cond t ([] ∷ ps) (grown b ps)) ≤ n
parted_length true b n ps le = omega arith
parted_length false b n ps le = omega (arith, grown_length b ps)

-- at most one more than it has bytes
pub few_pieces : (at : ℕ) (bs : List ℕ) → length (pieces at bs) ≤ length bs + 1
few_pieces at [] = omega arith
few_pieces at (b ∷ bs) = parted_length (eqb b at) b (length (b ∷ bs) + 1) (pieces at bs) (omega (arith, few_pieces at bs))
