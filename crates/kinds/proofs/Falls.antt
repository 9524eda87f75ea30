-- What is found by counting off in order. Assumes nothing.
use Rattle.std.proofs.Common.{◌≡◌, ℕ, ◌+◌, ◌<◌, List, [], ◌∷◌, ◌++◌, length, take, sum, Some, None, Option, ap, ◌∙◌, arith}
use Rattle.std.proofs.lemmas.Iterator.{YieldsList}
use Rattle.std.proofs.lemmas.Iterator.Consumers.{YieldsList-from_enumerate, YieldsList-turn, YieldsList-end}
use Rattle.std.proofs.lemmas.List.{take_all, length_push}
use Rattle.std.proofs.lemmas.List.FromFn.{length-enumerate_from, get_or-enumerate_from}
use Rattle.std.proofs.lemmas.List.Sums.{sum_by_more}
use Rattle.std.specs.Iterator.{AlwaysYields, Yields}
use Rattle.std.specs.Iterator.Adapters.{enumerate_source, enumerate_count, enumerate_steps}
use Rattle.std.specs.List.{enumerate_from}
use Rattle.std.specs.Option.{unwrap_or}
use Rattle.kinds.specs.Tree.{FallsAt, FallsIn}

-- a number below all counts together falls to one of them
pub falls_found : (counts : List ℕ) (n : ℕ) (place : Option ℕ) → FallsIn counts n place → n < sum counts → FallsAt counts n (unwrap_or place 0)
falls_found counts n None over below = absurd (omega arith)
falls_found counts n (Some v) at below = at

module _ {S : Type 0} (steps : S → Option ℕ → S → Type 0) (list : List ℕ) (s : _) (gives : AlwaysYields steps (λ x. x) (enumerate_source s) list) (fresh : enumerate_count s ≡ 0)
    (xs : List (ℕ × ℕ)) (t : _) (came : Yields (enumerate_steps steps) s xs t) (r : Option (ℕ × ℕ)) (u : _) (next : enumerate_steps steps t r u) where
  numbered : YieldsList (enumerate_steps steps) (λ p. p) s (enumerate_from 0 list)
  numbered = YieldsList-from_enumerate {steps = steps} (record { runs = gives }) fresh

  -- a turn of a loop has the next count of the list, and its place
  pub turn_of : (place count : ℕ) → r ≡ Some (place, count)
      → (place < length list) × (sum (take place list) ≡ sum (take (length xs) list)) × (sum (take (place + 1) list) ≡ sum (take (length xs) list) + count) × (sum (take (length (xs ++ (place, count) ∷ [])) list) ≡ sum (take (length xs) list) + count)
  turn_of place count is =
      let turn = YieldsList-turn numbered xs t came r u (place, count) is next in
      let inside : length xs < length list = omega (arith, turn.0, length-enumerate_from 0 list) in
      let both = turn.1 ∙ get_or-enumerate_from 0 list (length xs) (place, count) inside in
      let here : place ≡ length xs = omega (arith, ap (λ (p : ℕ × ℕ). p.0) both) in
      let more : sum (take (length xs + 1) list) ≡ sum (take (length xs) list) + count = omega (arith, sum_by_more (λ x. x) list (length xs) count inside, ap (λ (p : ℕ × ℕ). p.1) both) in
      (omega arith, ap (λ k. sum (take k list)) here, ap (λ k. sum (take (k + 1) list)) here ∙ more, ap (λ k. sum (take k list)) (length_push xs (place, count)) ∙ more)

  -- and at the end every count came
  pub end_of : r ≡ None → take (length xs) list ≡ list
  end_of is =
      let end = YieldsList-end numbered xs t came r u is next in
      take_all (length xs) list (omega (arith, end.1, length-enumerate_from 0 list))
