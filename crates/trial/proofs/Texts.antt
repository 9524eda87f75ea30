-- What is written, piece by piece. Assumes nothing.
use Rattle.std.proofs.Common.{◌≡◌, ℕ, List, ◌++◌, codes, decimal, sym, refl, ap, ◌∙◌}
use Rattle.std.proofs.lemmas.List.{append_assoc}
use Rattle.listing.specs.Texts.{row_text}
use Rattle.trial.specs.Answers.{answer_text, said, row_shown}
use Rattle.trial.specs.Lines.{line_text}
use Rattle.trial.specs.declared.answer.Answer.{Answer as AnswerHeld}
use Rattle.trial.specs.declared.answer.Answer.TheVariants.{Number, Shown, Counted, Refused, NotOpened, Unknown}

-- what is said, a comma and the row are the answer
answer_by_parts : (a : AnswerHeld) → said a ++ (codes "," ++ row_text (row_shown a)) ≡ answer_text a
answer_by_parts (Number n) = refl
answer_by_parts (Shown label r) = sym (append_assoc (decimal label) (codes ",") (row_text r.items))
answer_by_parts (Counted counts) = simp append_assoc
answer_by_parts (Refused e) = refl
answer_by_parts (NotOpened fault) = refl
answer_by_parts Unknown = refl

-- a line in whatever way its texts are put together
grouped : (o l c s d r e : List ℕ) → (o ++ l) ++ (((c ++ (s ++ d)) ++ r) ++ e) ≡ o ++ (l ++ (c ++ ((s ++ (d ++ r)) ++ e)))
grouped o l c s d r e = simp append_assoc

-- a line with its answer, part by part
pub line_pushed : (out line : List ℕ) (a : AnswerHeld) → (out ++ line) ++ (((codes "," ++ (said a ++ codes ",")) ++ row_text (row_shown a)) ++ codes "\n") ≡ out ++ line_text line (answer_text a)
line_pushed out line a =
    grouped out line (codes ",") (said a) (codes ",") (row_text (row_shown a)) (codes "\n")
    ∙ ap (λ t. out ++ line_text line t) (answer_by_parts a)
