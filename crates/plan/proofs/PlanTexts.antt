-- The texts of two to four ended lines, and no others, are read by their lines. Assumes nothing.
use Rattle.std.proofs.Common.{◌≡◌, ℕ, ◌≤◌, Bool, true, false, eqb, leb, ◌⊎◌, inl, inr, List, [], ◌∷◌, ◌++◌, length, Some, None, Err, Option, sym, refl, ap, ◌∙◌, subst, ⊎_elim, arith, eqb-true}
use Rattle.std.proofs.lemmas.Bool.{cases_Bool, cond-true, cond-false, and_parts, and_from, leb-true, le-leb}
use Rattle.std.proofs.lemmas.Option.{cond_some}
use Rattle.std.proofs.lemmas.Slice.Eq.{bytes_eq-Decides}
use Rattle.std.specs.List.{join_with_byte, AllByRecursion}
use Rattle.std.specs.Option.{option_map, ok_or}
use Rattle.std.specs.Str.{bytes_eq}
use Rattle.std.specs.Str.Iter.{LacksByte}
use Rattle.faults.specs.Faults.{fault}
use Rattle.faults.specs.declared.Cause.TheVariants.{Text, Names}
use Rattle.text.specs.Pieces.{pieces}
use Rattle.text.proofs.Cuts.{pieces_laws, cuts_again}
use Rattle.plan.specs.Format.{and_then, provided, then, body, Lines, one_to_three, plan_lines, lines_of_text, plan_of_lines, plan_of}
use Rattle.plan.specs.Written.{text_of, IsText, names, TextsLaws}

-- a text that is ended has what stands before its end
body_ended : (bs : List ℕ) → body (bs ++ (10 ∷ [])) ≡ Some bs
body_ended [] = refl
body_ended (b ∷ []) = refl
body_ended (b ∷ c ∷ bs) = ap (option_map (λ bytes. b ∷ bytes)) (body_ended (c ∷ bs))

-- what was made of a value that is there
pub mapped : {X Y : Type 0} (f : X → Y) (o : Option X) (y : Y) → option_map f o ≡ Some y → (x : X) × (o ≡ Some x) × (f x ≡ y)
mapped f None y e = absurd (let never : ◌≡◌ {A = ℕ} 0 1 = cc in omega arith)
mapped f (Some x) y e = (x, refl, cc)

-- and no other text has such
body_is : (text bs : List ℕ) → body text ≡ Some bs → text ≡ bs ++ (10 ∷ [])
body_is [] bs e = absurd (let never : ◌≡◌ {A = ℕ} 0 1 = cc in omega arith)
body_is (b ∷ []) bs e =
    let told = cond_some (eqb b 10) [] bs e in
    (λ i. eqb-true b 10 told.0 i ∷ []) ∙ ap (λ front. front ++ (10 ∷ [])) told.1
body_is (b ∷ c ∷ more) bs e =
    let front = mapped (λ bytes. b ∷ bytes) (body (c ∷ more)) bs e in
    ap (λ rest. b ∷ rest) (body_is (c ∷ more) front.0 front.1) ∙ ap (λ l. l ++ (10 ∷ [])) front.2

-- one to three parts stand behind the first line
some_parts : (first : List ℕ) (parts : List (List ℕ)) → IsText (first ∷ parts) → one_to_three parts ≡ true
some_parts first parts ok =
    let two = ok.two in
    let four = ok.four in
    and_from _ _ (le-leb 1 (length parts) (omega arith)) (le-leb (length parts) 3 (omega arith))

-- the lines of a text that is written of lines
lines_written : (first : List ℕ) (parts : List (List ℕ)) → IsText (first ∷ parts) → lines_of_text (text_of (first ∷ parts)) ≡ Some (record { names = first; parts = parts })
lines_written first parts ok =
    cond-true _ _ _ (le-leb (length (text_of (first ∷ parts))) 4096 ok.short)
    ∙ ap (λ o. and_then o (λ bytes. plan_lines (pieces 10 bytes))) (body_ended (join_with_byte 10 (first ∷ parts)))
    ∙ ap plan_lines (cuts_again 10 (first ∷ parts) (omega arith) ok.ended)
    ∙ cond-true _ _ _ (some_parts first parts ok)

-- what is made of the lines
read_written : (first : List ℕ) (parts : List (List ℕ)) → IsText (first ∷ parts) → plan_of (text_of (first ∷ parts)) ≡ plan_of_lines (record { names = first; parts = parts })
read_written first parts ok = ap (λ o. then (ok_or o (fault Text 0)) plan_of_lines) (lines_written first parts ok)

-- another first line is none of names
other_first : (first : List ℕ) (parts : List (List ℕ)) → (first ≡ names → ⊥) → plan_of_lines (record { names = first; parts = parts }) ≡ Err (fault Names 1)
other_first first parts other =
    ⊎_elim
    (λ same. absurd (other ((bytes_eq-Decides first names).0 same)))
    (λ differ. cond-false _ _ _ differ)
    (cases_Bool (bytes_eq first names))

-- what a test lets through
pub let_through : {X : Type 0} (test : Bool) (o : Option X) (x : X) → provided test o ≡ Some x → (test ≡ true) × (o ≡ Some x)
let_through true o x e = (refl, e)
let_through false o x e = absurd (let never : ◌≡◌ {A = ℕ} 0 1 = cc in omega arith)

-- what is made of a value was made of one that is there
pub made_of : {X Y : Type 0} (o : Option X) (f : X → Option Y) (y : Y) → and_then o f ≡ Some y → (x : X) × (o ≡ Some x) × (f x ≡ Some y)
made_of None f y e = absurd (let never : ◌≡◌ {A = ℕ} 0 1 = cc in omega arith)
made_of (Some x) f y e = (x, refl, e)

-- the pieces that are lines are these
lines_are : (ps : List (List ℕ)) (l : Lines) → plan_lines ps ≡ Some l → (ps ≡ l.names ∷ l.parts) × (one_to_three l.parts ≡ true)
lines_are [] l e = absurd (let never : ◌≡◌ {A = ℕ} 0 1 = cc in omega arith)
lines_are (first ∷ parts) l e =
    let told = cond_some (one_to_three parts) _ l e in
    (ap (λ (m : Lines). m.names ∷ m.parts) told.1, sym (ap (λ (m : Lines). one_to_three m.parts) told.1) ∙ told.0)

-- a text that is read by its lines is written of them
text_is : (text : List ℕ) (l : Lines) → lines_of_text text ≡ Some l → IsText (l.names ∷ l.parts) × (text ≡ text_of (l.names ∷ l.parts))
text_is text l e =
    let fits = let_through (leb (length text) 4096) (and_then (body text) (λ bytes. plan_lines (pieces 10 bytes))) l e in
    let front = made_of (body text) (λ bytes. plan_lines (pieces 10 bytes)) l fits.1 in
    let lines = lines_are (pieces 10 front.0) l front.2 in
    let laws = pieces_laws 10 front.0 in
    let joined : join_with_byte 10 (l.names ∷ l.parts) ≡ front.0 = ap (join_with_byte 10) (sym lines.0) ∙ laws.whole in
    let whole : text ≡ text_of (l.names ∷ l.parts) = body_is text front.0 front.1 ∙ ap (λ bs. bs ++ (10 ∷ [])) (sym joined) in
    let counts = and_parts _ _ lines.1 in
    let some = leb-true 1 (length l.parts) counts.0 in
    let few = leb-true (length l.parts) 3 counts.1 in (
      record {
        two = omega arith;
        four = omega arith;
        ended = subst (AllByRecursion (LacksByte 10)) lines.0 laws.clear;
        short = subst (λ t. length t ≤ 4096) whole (leb-true (length text) 4096 fits.0);
      },
      whole,
    )

-- a text is a fault as a whole, or has lines
by_lines : (text : List ℕ) (o : Option Lines) → lines_of_text text ≡ o → (plan_of text ≡ Err (fault Text 0)) ⊎ ((lines : List (List ℕ)) × IsText lines × (text ≡ text_of lines))
by_lines text None e = inl (ap (λ o. then (ok_or o (fault Text 0)) plan_of_lines) e)
by_lines text (Some l) e = let told = text_is text l e in inr (l.names ∷ l.parts, told.0, told.1)

-- the texts of plans, both ways
pub texts_laws : TextsLaws
texts_laws = record {
  written = read_written names;
  other_names = λ first parts ok other. read_written first parts ok ∙ other_first first parts other;
  only_so = λ text. by_lines text (lines_of_text text) refl;
}
