-- The lines of a text by its last byte. Assumes nothing.
use Rattle.std.proofs.Common.{◌≡◌, ℕ, ◌-◌, ◌≤◌, Bool, true, false, eqb, ◌&&◌, List, [], ◌∷◌, length, take, drop, Some, None, Option, sym, refl, ap, ◌∙◌, arith}
use Rattle.std.specs.Cmp.Lexicographic.{pointwise}
use Rattle.std.specs.Option.{option_map}
use Rattle.std.proofs.lemmas.Bool.{cond-true, le-leb}
use Rattle.plan.specs.Format.{and_then, provided, body, plan_lines, lines_of_text}
use Rattle.text.specs.Pieces.{pieces}

-- what is made of a value that is there where a test holds
mapped_provided : {X Y : Type 0} (f : X → Y) (t : Bool) (x : X) → option_map f (provided t (Some x)) ≡ provided t (Some (f x))
mapped_provided f true x = refl
mapped_provided f false x = refl

-- whether byte 10 stands at n, and ends the text
abbrev ended : ℕ → List ℕ → Bool
ended n text = pointwise eqb (drop n text) (10 ∷ [])

-- a test that holds adds nothing
and_end : (t : Bool) (front : Option (List ℕ)) → provided t front ≡ provided (t && true) front
and_end true front = refl
and_end false front = refl

-- the text before its last byte
some_last : (b : ℕ) (bs : List ℕ) → body (b ∷ bs) ≡ provided (ended (length bs) (b ∷ bs)) (Some (take (length bs) (b ∷ bs)))
some_last b [] = and_end (eqb b 10) (Some [])
some_last b (c ∷ more) =
    ap (option_map (λ bytes. b ∷ bytes)) (some_last c more) ∙ mapped_provided (λ bytes. b ∷ bytes) (ended (length more) (c ∷ more)) (take (length more) (c ∷ more))

body_last : (text : List ℕ) (n : ℕ) → n ≡ length text - 1 → body text ≡ provided (ended n text) (Some (take n text))
body_last [] n is = let none : n ≡ 0 = omega arith in sym (ap (λ k. provided (ended k []) (Some (take {A = ℕ} k []))) none)
body_last (b ∷ bs) n is = let last : length bs ≡ n = omega arith in some_last b bs ∙ ap (λ k. provided (ended k (b ∷ bs)) (Some (take k (b ∷ bs)))) last

module _ (text feed : List ℕ) (short : length text ≤ 4096) (is : feed ≡ 10 ∷ []) where
  lines_short : lines_of_text text ≡ and_then (provided (pointwise eqb (drop (length text - length feed) text) feed) (Some (take (length text - length feed) text))) (λ front. plan_lines (pieces 10 front))
  lines_short =
      cond-true _ _ _ (le-leb (length text) 4096 short)
      ∙ ap (λ o. and_then o (λ front. plan_lines (pieces 10 front))) (body_last text (length text - length feed) (ap (λ f. length text - length f) is)
      ∙ ap (λ f. provided (pointwise eqb (drop (length text - length feed) text) f) (Some (take (length text - length feed) text))) (sym is))

  -- a last line without an end
  pub lines_open : pointwise eqb (drop (length text - length feed) text) feed ≡ false → lines_of_text text ≡ None
  lines_open other =
      lines_short ∙ ap (λ t. and_then (provided t (Some (take (length text - length feed) text))) (λ front. plan_lines (pieces 10 front))) other

  -- the lines stand before the last byte
  pub lines_ended : (front : List ℕ) → pointwise eqb (drop (length text - length feed) text) feed ≡ true → front ≡ take (length text - length feed) text → lines_of_text text ≡ plan_lines (pieces 10 front)
  lines_ended front same stands =
      lines_short
      ∙ ap (λ t. and_then (provided t (Some (take (length text - length feed) text))) (λ f. plan_lines (pieces 10 f))) same
      ∙ ap (λ f. plan_lines (pieces 10 f)) (sym stands)
