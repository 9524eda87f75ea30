-- What `try_fold` answers and `array::from_fn` makes, where a call leaves the closure as it was. Assumes nothing.
use Rattle.std.proofs.Common.{◌≡◌, ℕ, zero, suc, ◌+◌, ◌-◌, ◌<◌, ◌≤◌, cond, leb, List, [], ◌∷◌, map, get_or, sum, Some, None, Option, sym, ap, ◌∙◌, subst, ⊎_elim, arith}
use Rattle.std.proofs.lemmas.Bool.{cases_lt, cond_both, cond-true, cond-false, leb-true, leb-false, le-leb, lt-leb}
use Rattle.std.proofs.lemmas.Bool.Decides.{nat_tests}
use Rattle.std.proofs.lemmas.List.FromFn.{fill_by_all}
use Rattle.std.proofs.lemmas.List.Sums.{sum_by-cons}
use Rattle.std.proofs.lemmas.Iterator.{YieldsList}
use Rattle.std.specs.declared.ops.ControlFlow.{ControlFlow}
use Rattle.std.specs.Array.{IsFromFnResult, IsFromFnResultFrom}
use Rattle.std.specs.ControlFlow.{continue_value}
use Rattle.std.specs.Fn.{Called}
use Rattle.std.specs.Iterator.{AlwaysYields, Yields, TryFoldsItems, TryFoldTurn}
use Rattle.std.specs.List.{FoldsTo, range_with_len}
use Rattle.std.specs.Option.{is_some, option_and_then, MatchOption, SomeIff}
use denote.Param.Members.{Mut}

-- a chain proof, for a clause that says `AlwaysYields`
pub runs_of : {S A B : Type 0} {steps : S → Option A → S → Type 0} {v : A → B} {s : S} {all : List B} → YieldsList steps v s all → AlwaysYields steps v s all
runs_of gives = gives.runs

-- what `array::from_fn` makes: h of each index
module _ {F B : Type 0} (g : Mut F (ℕ × Unit {0}) B) (f : F) (h : ℕ → B) (m : ℕ) (says : (i : ℕ) (y : B) (q : F) → i < m → Called g f (i, tt) y q → (q ≡ f) × (y ≡ h i)) (ys : List B) where
  given_from : (n i : ℕ) → i + n ≡ m → IsFromFnResultFrom g f ys i n → (k : ℕ) (d : B) → i ≤ k → k < m → get_or ys k d ≡ h k
  given_from zero i all calls k d low high = absurd (omega arith)
  given_from (suc n) i all (q, y, at, call, calls) k d low high =
      let said = says i y q (omega arith) call in
      ⊎_elim (λ later. given_from n (i + 1) (omega arith) (subst (λ p. IsFromFnResultFrom g p ys (i + 1) n) said.0 calls) k d (omega (arith, later)) high)
      (λ here. let same : k ≡ i = omega (arith, here) in rw same (at.1 d ∙ said.1)) (cases_lt i k)

  pub given_each : IsFromFnResult g f ys m → B → ys ≡ map h (range_with_len 0 m)
  given_each calls d = fill_by_all h ys m d calls.long (λ k lt. given_from m 0 (omega arith) calls.each k d (omega arith) lt)

-- the total of steps that may give none, over the elements in order
abbrev pub stepped : {A B : Type 0} → (B → A → Option B) → B → List A → Option B
stepped h b [] = Some b
stepped h b (x ∷ xs) = option_and_then (λ c. stepped h c xs) (h b x)

module _ {S A X B F : Type 0} (E : Type 0) (steps : S → Option A → S → Type 0) (v : A → X) (g : Mut F (B × (A × Unit {0})) (Option B)) (h : B → X → Option B) (f : F)
    (says : (b : B) (x : A) (w : Option B) (q : F) → Called g f (b, (x, tt)) w q → (q ≡ f) × (w ≡ h b (v x))) (r : Option B) where
  -- one turn that goes on, and the last of those that do not
  abbrev Turn : F × B → A → F × B → Type 0
  Turn = TryFoldTurn g (λ (s : Option B) (c : ControlFlow E B). s ≡ continue_value c)

  abbrev Ends : F → B → A → Type 0
  Ends f' a x = (w : Option B) × (q : F) × (e : E) × Called g f' (a, (x, tt)) w q × (w ≡ None) × (r ≡ None)

  -- the answer from a total on, by the items that came
  stepped_from : (xs : List A) (o : Option A) (all : List X) (s t u : S) (f' : F) (b a : B) → AlwaysYields steps v s all → Yields steps s xs t → steps t o u
      → FoldsTo {P = F × B} Turn (f, b) xs (f', a) → MatchOption o (r ≡ Some a) (Ends f' a) → r ≡ stepped h b all
  stepped_from [] None [] s t u f' b a left come last turns end = end ∙ ap (λ (p : F × B). Some p.1) (sym turns)
  stepped_from [] (Some x) [] s t u f' b a left come last turns end = absurd (left x u (subst (λ k. steps k (Some x) u) (sym come) last))
  stepped_from [] None (y ∷ all) s t u f' b a left come last turns end = absurd (left.0 u (subst (λ k. steps k None u) (sym come) last))
  stepped_from [] (Some x) (y ∷ all) s t u f' b a left come last turns end =
      let item = (left.1 x u (subst (λ k. steps k (Some x) u) (sym come) last)).0 in
      let said = says b x end.0 end.1 (subst (λ (p : F × B). Called g p.0 (p.1, (x, tt)) end.0 end.1) (sym turns) end.3) in
      end.5 ∙ ap (option_and_then (λ c. stepped h c all)) (sym end.4 ∙ said.1 ∙ ap (h b) item)
  stepped_from (x ∷ xs) o [] s t u f' b a left come last turns end = absurd (left x come.0 come.1)
  stepped_from (x ∷ xs) o (y ∷ all) s t u f' b a left come last turns end =
      let item = left.1 x come.0 come.1 in
      let next = turns.0 in
      let said = says b x turns.1.0 next.0 turns.1.1 in
      stepped_from xs o all come.0 t u f' next.1 a item.1 come.2 last (subst (λ k. FoldsTo {P = F × B} Turn (k, next.1) xs (f', a)) said.0 turns.2) end
      ∙ ap (option_and_then (λ c. stepped h c all)) (sym turns.1.2 ∙ said.1 ∙ ap (h b) item.0)

  -- what `try_fold` answers over a chain that gives the list
  pub stepped_from_yields_List : (s u : S) (init : B) (all : List X) → TryFoldsItems steps g (λ (s : Option B) (c : ControlFlow E B). s ≡ continue_value c) (λ e w. w ≡ None) s f init r u → YieldsList steps v s all → r ≡ stepped h init all
  stepped_from_yields_List s u init all (xs, o, f', a, (t, come, last), turns, end) yields = stepped_from xs o all s t u f' init a yields.runs come last turns end

-- what is left of a number when another is taken from it, if it is not smaller
abbrev pub taken : ℕ → ℕ → Option ℕ
taken most x = cond (leb x most) (Some (most - x)) None

-- as `checked_sub` answers
pub taken_checked : (most x : ℕ) (w : Option ℕ) → SomeIff w (x ≤ most) (most - x) → w ≡ taken most x
taken_checked most x None small = sym (cond-false (leb x most) (Some (most - x)) None (lt-leb x most (over small)))
  where
    over : (x ≤ most → ⊥) → most < x
    over small = omega arith
taken_checked most x (Some y) small = ap Some small.1 ∙ sym (cond-true (leb x most) (Some (most - x)) None (le-leb x most small.0))

-- numbers can be taken away one after another if their sum can
pub taken_each : (most : ℕ) (list : List ℕ) → is_some (stepped taken most list) ≡ leb (sum list) most
taken_each most [] = sym (le-leb 0 most (omega arith))
taken_each most (x ∷ xs) =
    let all : sum (x ∷ xs) ≡ x + sum xs = sum_by-cons (λ n. n) x xs in
    cond_both (leb x most) (Some (most - x)) None (λ o. is_some (option_and_then (λ c. stepped taken c xs) o) ≡ leb (sum (x ∷ xs)) most)
    (λ e. let h = leb-true x most e in taken_each (most - x) xs ∙ rest all h)
    (λ e. let h = leb-false x most e in sym (lt-leb (sum (x ∷ xs)) most (omega (arith, all))))
  where
    rest : sum (x ∷ xs) ≡ x + sum xs → x ≤ most → leb (sum xs) (most - x) ≡ leb (sum (x ∷ xs)) most
    rest all h = grind (arith, nat_tests)
