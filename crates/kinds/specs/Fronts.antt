-- A list without its first element, as `&xs[1..]` has it. Assumes nothing.
use Rattle.std.specs.Prelude.{◌≡◌, ◌+◌, ◌-◌, ◌<◌, List, ◌∷◌, length, take, drop}
use Rattle.std.proofs.Common.{arith, length-drop}
use Rattle.std.proofs.lemmas.List.{take_rest}

-- all but the first element
abbrev pub rest_of : {X : Type 0} → List X → List X
rest_of xs = take (length xs - 1) (drop 1 xs)

-- it is shorter by one
pub rest_length : {X : Type 0} (xs : List X) → 0 < length xs → length xs ≡ length (rest_of xs) + 1
rest_length xs some = simp (take_rest, length-drop) (omega arith)

-- and is what stands behind the first element
pub rest_is : {X : Type 0} (x : X) (xs : List X) → rest_of (x ∷ xs) ≡ xs
rest_is x xs = take_rest (x ∷ xs) 1
