-- What is made of each element of a list, gathered one by one. Assumes nothing.
use Rattle.std.proofs.Common.{◌≡◌, List, [], ◌∷◌, ◌++◌, Ok, Err, Result, sym, refl, ap, ◌∙◌, append_assoc, append-nil}
use Rattle.std.specs.Result.{result_map_both}
use Rattle.plan.specs.Format.{then, each}

-- what is to come, after what was gathered
abbrev pub also : {Y E : Type 0} → List Y → Result (List Y) E → Result (List Y) E
also front r = result_map_both (λ ys. front ++ ys) (λ e. e) r

-- y goes to the end of what was gathered
also_more : {Y E : Type 0} (front : List Y) (y : Y) (r : Result (List Y) E) → also front (then r (λ ys. Ok (y ∷ ys))) ≡ also (front ++ y ∷ []) r
also_more front y (Ok ys) = ap Ok (sym (append_assoc front (y ∷ []) ys))
also_more front y (Err e) = refl

module _ {X Y E : Type 0} (f : X → Result Y E) (all : Result (List Y) E) (front : List Y) where
  -- what f makes of one more goes to the end of what was gathered
  pub each_more : (x : X) (more : List X) (y : Y) (after : List Y) → all ≡ also front (each f (x ∷ more)) → f x ≡ Ok y → after ≡ front ++ y ∷ [] → all ≡ also after (each f more)
  each_more x more y after so is pushed =
      so ∙ ap (λ r. also front (then r (λ z. then (each f more) (λ ys. Ok (z ∷ ys))))) is ∙ also_more front y (each f more) ∙ ap (λ l. also l (each f more)) (sym pushed)

  -- after the last, all is gathered
  pub each_done : (xs : List X) → xs ≡ [] → all ≡ also front (each f xs) → all ≡ Ok front
  each_done xs none so = so ∙ ap (λ l. also front (each f l)) none ∙ ap Ok (append-nil front)
