-- The pieces of a list by its first byte of the kind that is looked for. Assumes nothing.
use Rattle.std.proofs.Common.{◌≡◌, ◌-◌, false, ◌+◌, Some, None, eqb, position, ℕ, zero, suc, ◌<◌, List, [], ◌∷◌, ◌++◌, length, get_or, take, drop, sym, refl, ap, ◌∙◌, subst, ⊎_elim, arith, eq-eqb, ne_eqb, add-one, eqb-true}
use Rattle.std.proofs.lemmas.Bool.{cases_Bool, cases_eq, cond-true, cond-false}
use Rattle.std.proofs.lemmas.List.{take_rest}
use Rattle.std.proofs.lemmas.List.Quantifiers.{position-Some}
use Rattle.std.proofs.lemmas.Iterator.Adapters.{position_from-zero}
use Rattle.std.specs.Str.Iter.{LacksByte}
use Rattle.std.specs.List.{position_from, join_with_byte, AllByRecursion}
use Rattle.text.specs.Pieces.{grown, pieces, PiecesLaws, CutsAgain}

-- the first byte that is looked for ends the first piece
first_cut : (at : ℕ) (bs : List ℕ) (i : ℕ) → i < length bs → get_or bs i 0 ≡ at → ((k : ℕ) → k < i → eqb (get_or bs k 0) at ≡ false) → pieces at bs ≡ take i bs ∷ pieces at (drop (suc i) bs)
first_cut at [] i inside here before = absurd (omega arith)
first_cut at (b ∷ bs) zero inside here before = cond-true _ _ _ (eq-eqb b at here)
first_cut at (b ∷ bs) (suc i) inside here before =
    cond-false _ _ _ (before 0 (omega arith)) ∙ ap (grown b) (first_cut at bs i (omega arith) here (λ k h. before (suc k) (omega arith)))

-- the first occurrence ends the first piece
pub pieces_cut : (at : ℕ) (bs : List ℕ) (i : ℕ) → Some i ≡ position (λ b. eqb b at) bs → pieces at bs ≡ take i bs ∷ pieces at (take (length bs - (i + 1)) (drop (i + 1) bs))
pieces_cut at bs i found =
    let is = position-Some (λ b. eqb b at) bs i 0 (sym found) in
    first_cut at bs i is.0 (eqb-true _ _ is.1) is.2 ∙ ap (λ rest. take i bs ∷ pieces at rest) (rw add-one (sym (take_rest bs (suc i))))

-- a list without it is one piece
none_cut : (at : ℕ) (bs : List ℕ) (k : ℕ) → position_from (λ b. eqb b at) k bs ≡ None → pieces at bs ≡ bs ∷ []
none_cut at [] k none = refl
none_cut at (b ∷ bs) k none =
    ⊎_elim
    (λ hit. absurd (let found : Some k ≡ None = sym (cond-true _ _ _ hit) ∙ none in let never : ◌≡◌ {A = ℕ} 0 1 = cc in omega arith))
    (λ other. cond-false _ _ _ other ∙ ap (grown b) (none_cut at bs (k + 1) (sym (cond-false _ _ _ other) ∙ none)))
    (cases_Bool (eqb b at))

-- with no occurrence there is one piece
pub pieces_whole : (at : ℕ) (bs : List ℕ) → None ≡ position (λ b. eqb b at) bs → pieces at bs ≡ bs ∷ []
pieces_whole at bs none = none_cut at bs 0 (sym (position_from-zero (λ b. eqb b at) bs) ∙ sym none)

-- a byte before the first piece goes before the whole
rejoined_grown : (at b : ℕ) (ps : List (List ℕ)) → 0 < length ps → join_with_byte at (grown b ps) ≡ b ∷ join_with_byte at ps
rejoined_grown at b [] some = absurd (omega arith)
rejoined_grown at b (p ∷ []) some = refl
rejoined_grown at b (p ∷ q ∷ ps) some = refl

-- another byte in front leaves a piece without it
pub lacks_more : (at b : ℕ) (p : List ℕ) → (b ≡ at → ⊥) → LacksByte at p → (k : ℕ) → k < length (b ∷ p) → get_or (b ∷ p) k 0 ≡ at → ⊥
lacks_more at b p other clear zero h e = other e
lacks_more at b p other clear (suc k) h e = clear k (omega arith) e

-- another byte before the first piece leaves the pieces clear
clear_grown : (at b : ℕ) (ps : List (List ℕ)) → (b ≡ at → ⊥) → AllByRecursion (LacksByte at) ps → AllByRecursion (LacksByte at) (grown b ps)
clear_grown at b [] other clear = (lacks_more at b [] other (λ k h. absurd (omega arith)), tt)
clear_grown at b (p ∷ ps) other clear = (lacks_more at b p other clear.0, clear.1)

-- there is a piece at least
some_grown : (b : ℕ) (ps : List (List ℕ)) → 0 < length (grown b ps)
some_grown b [] = omega arith
some_grown b (p ∷ ps) = omega arith

-- at the byte a new piece begins
pieces_laws_hit : (at : ℕ) (bs : List ℕ) (ps : List (List ℕ)) → PiecesLaws at bs ps → PiecesLaws at (at ∷ bs) ([] ∷ ps)
pieces_laws_hit at bs [] laws = absurd (omega arith)
pieces_laws_hit at bs (p ∷ ps) laws = record { some = omega arith; clear = ((λ k h. absurd (omega arith)), laws.clear); whole = ap (λ l. at ∷ l) laws.whole }

-- the pieces are what they are called
pub pieces_laws : (at : ℕ) (bs : List ℕ) → PiecesLaws at bs (pieces at bs)
pieces_laws at [] = record { some = omega arith; clear = ((λ k h. absurd (omega arith)), tt); whole = refl }
pieces_laws at (b ∷ bs) =
    let laws = pieces_laws at bs in
    ⊎_elim
    (λ hit. subst (PiecesLaws at (b ∷ bs)) (sym (cond-true _ _ _ (eq-eqb b at hit))) (subst (λ x. PiecesLaws at (x ∷ bs) ([] ∷ pieces at bs)) (sym hit) (pieces_laws_hit at bs (pieces at bs) laws)))
    (λ other.
    subst (PiecesLaws at (b ∷ bs)) (sym (cond-false _ _ _ (ne_eqb b at other))) (record {
      some = some_grown b (pieces at bs);
      clear = clear_grown at b (pieces at bs) other laws.clear;
      whole = rejoined_grown at b (pieces at bs) laws.some ∙ ap (λ l. b ∷ l) laws.whole;
    }))
    (cases_eq b at)

-- bytes without the byte, and then the byte: it ends the first piece
ended_by : (at : ℕ) (p rest : List ℕ) → LacksByte at p → pieces at (p ++ (at ∷ rest)) ≡ p ∷ pieces at rest
ended_by at [] rest clear = cond-true _ _ _ (eq-eqb at at refl)
ended_by at (b ∷ p) rest clear = cond-false _ _ _ (ne_eqb b at (clear 0 (omega arith))) ∙ ap (grown b) (ended_by at p rest (λ k h. clear (suc k) (omega arith)))

-- bytes without the byte alone are one piece
uncut : (at : ℕ) (p : List ℕ) → LacksByte at p → pieces at p ≡ p ∷ []
uncut at [] clear = refl
uncut at (b ∷ p) clear = cond-false _ _ _ (ne_eqb b at (clear 0 (omega arith))) ∙ ap (grown b) (uncut at p (λ k h. clear (suc k) (omega arith)))

-- what was put together of pieces is cut into them
pub cuts_again : (at : ℕ) (ps : List (List ℕ)) → CutsAgain at ps
cuts_again at [] some clear = absurd (omega arith)
cuts_again at (p ∷ []) some clear = uncut at p clear.0
cuts_again at (p ∷ q ∷ ps) some clear = ended_by at p (join_with_byte at (q ∷ ps)) clear.0 ∙ ap (λ more. p ∷ more) (cuts_again at (q ∷ ps) (omega arith) clear.1)
