-- What a word names. Assumes nothing.
use Rattle.std.proofs.Common.{◌≡◌, ℕ, Bool, true, List, [], ◌∷◌, Some, sym, ap, ◌∙◌, ⊎_elim, arith}
use Rattle.std.proofs.lemmas.Bool.{cases_Bool, cond-true, cond-false}
use Rattle.std.proofs.lemmas.Slice.Eq.{bytes_eq-Decides}
use Rattle.std.specs.List.{find}
use Rattle.std.specs.Str.{bytes_eq}
use Rattle.text.specs.Named.{named_among}

-- what is found passes the test
found_passes : {X : Type 0} (p : X → Bool) (xs : List X) (x : X) → find p xs ≡ Some x → p x ≡ true
found_passes p [] x e = absurd (let never : ◌≡◌ {A = ℕ} 0 1 = cc in omega arith)
found_passes p (y ∷ ys) x e =
    ⊎_elim
    (λ hit. let same : Some y ≡ Some x = sym (cond-true _ _ _ hit) ∙ e in let is : y ≡ x = cc in ap p (sym is) ∙ hit)
    (λ other. found_passes p ys x (sym (cond-false _ _ _ other) ∙ e))
    (cases_Bool (p y))

-- bytes that name a value are its word
pub named_is : {T : Type 0} (word_of : T → List ℕ) (values : List T) (bytes : List ℕ) (value : T) → named_among word_of values bytes ≡ Some value → bytes ≡ word_of value
named_is word_of values bytes value e = (bytes_eq-Decides bytes (word_of value)).0 (found_passes (λ v. bytes_eq bytes (word_of v)) values value e)
