-- The lines that write a call, and no others, are read as one. Assumes nothing.
use Rattle.std.proofs.Common.{◌≡◌, ℕ, ◌<◌, ◌≤◌, true, leb, List, [], ◌∷◌, map, length, Some, None, codes, decimal, Option, sym, refl, ap, ◌∙◌, subst, arith}
use Rattle.std.proofs.lemmas.Bool.{cond-true, le-leb, leb-true}
use Rattle.std.proofs.lemmas.Fmt.{decimal_injective}
use Rattle.std.proofs.lemmas.Option.{cond_some}
use Rattle.std.specs.List.{list_all, join_with_byte, AllByRecursion}
use Rattle.std.specs.Option.{option_map}
use Rattle.std.specs.Str.Iter.{LacksByte}
use Rattle.walk.specs.Rows.{Row}
use Rattle.text.specs.Pieces.{pieces}
use Rattle.text.proofs.Cuts.{pieces_laws, cuts_again}
use Rattle.text.proofs.Lacks.{high_lack, digits_lack}
use Rattle.text.proofs.Names.{named_is}
use Rattle.plan.specs.Format.{and_then, provided}
use Rattle.plan.proofs.PlanTexts.{mapped, made_of}
use Rattle.book.specs.Histories.{Call, Take, Printed, Spoiled, AskRow, AskLabel, AskCounts, Close}
use Rattle.trial.specs.Calls.{tray, word_of, verb_of, lone_number, scanned, print_of, bare, verb_call, call_of_fields, call_of}
use Rattle.trial.specs.Numbers.{number_of, value_of, WrittenAs}
use Rattle.trial.specs.Written.{fields_text, call_text, Fits, FitsRow, IsCall, CallLinesLaws}
use Rattle.trial.specs.declared.verb.Verb.{Verb}
use Rattle.trial.specs.declared.verb.Verb.TheVariants as verb
use Rattle.trial.proofs.Decimals.{every}

-- what bytes that write n are read as
reads_as : (bs : List ℕ) (o : Option ℕ) → WrittenAs bs o → (n : ℕ) → Fits n → bs ≡ decimal n → o ≡ Some n
reads_as bs None none n fits e = absurd (none n fits e)
reads_as bs (Some k) told n fits e = ap Some (decimal_injective k n (omega (arith, told.0)) (omega arith) (sym told.1 ∙ e))

-- a number is read from its digits
number_written : (n : ℕ) → Fits n → number_of (decimal n) ≡ Some n
number_written n fits = reads_as (decimal n) (number_of (decimal n)) (every (decimal n)) n fits refl

-- and from nothing else
number_is : (bs : List ℕ) (n : ℕ) → number_of bs ≡ Some n → Fits n × (bs ≡ decimal n)
number_is bs n e = subst (WrittenAs bs) e (every bs)

-- so is a value
value_written : (v : ℕ) → v ≤ 255 → value_of (decimal v) ≡ Some v
value_written v small = ap (λ o. and_then o (λ n. provided (leb n 255) (Some n))) (number_written v (omega arith)) ∙ cond-true _ _ _ (le-leb v 255 small)

-- and from nothing else
value_is : (bs : List ℕ) (v : ℕ) → value_of bs ≡ Some v → (v ≤ 255) × (bs ≡ decimal v)
value_is bs v e =
    let number = made_of (number_of bs) (λ n. provided (leb n 255) (Some n)) v e in
    let told = cond_some (leb number.0 255) number.0 v number.2 in
    let digits = number_is bs number.0 number.1 in
    (omega (arith, leb-true number.0 255 told.0, told.1), digits.1 ∙ ap decimal told.1)

-- the row of the values
row_written : (row : Row) → FitsRow row → scanned (map decimal row) ≡ Some row
row_written [] small = refl
row_written (v ∷ row) small =
    ap (λ o. and_then o (λ value. option_map (λ values. value ∷ values) (scanned (map decimal row)))) (value_written v small.0)
    ∙ ap (option_map (λ values. v ∷ values)) (row_written row small.1)

-- and of nothing else
row_is : (fields : List (List ℕ)) (row : Row) → scanned fields ≡ Some row → FitsRow row × (fields ≡ map decimal row)
row_is [] row e = let none : ◌≡◌ {A = Row} [] row = cc in (subst FitsRow none tt, ap (map decimal) none)
row_is (field ∷ more) row e =
    let first = made_of (value_of field) (λ value. option_map (λ values. value ∷ values) (scanned more)) row e in
    let rest = mapped (λ values. first.0 ∷ values) (scanned more) row first.2 in
    let told = value_is field first.0 first.1 in
    let behind = row_is more rest.0 rest.1 in
    (subst FitsRow rest.2 (told.0, behind.0), (λ i. told.1 i ∷ behind.1 i) ∙ ap (map decimal) rest.2)

-- the one field that is a number
lone_is : (fields : List (List ℕ)) (n : ℕ) → lone_number fields ≡ Some n → Fits n × (fields ≡ decimal n ∷ [])
lone_is [] n e = absurd (let never : ◌≡◌ {A = ℕ} 0 1 = cc in omega arith)
lone_is (field ∷ []) n e = let told = number_is field n e in (told.0, ap (λ f. f ∷ []) told.1)
lone_is (field ∷ other ∷ more) n e = absurd (let never : ◌≡◌ {A = ℕ} 0 1 = cc in omega arith)

-- the words of the calls are letters
word_high : (v : Verb) → list_all (λ b. leb 48 b) (word_of v) ≡ true
word_high verb.Take = refl
word_high verb.Printed = refl
word_high verb.Spoiled = refl
word_high verb.Row = refl
word_high verb.Label = refl
word_high verb.Counts = refl
word_high verb.Close = refl

-- a word has no blank
word_lacks : (v : Verb) → LacksByte 32 (word_of v)
word_lacks v = high_lack 32 (word_of v) (word_high v) (omega arith)

-- nor has a number
number_lacks : (n : ℕ) → Fits n → LacksByte 32 (decimal n)
number_lacks n fits = digits_lack 32 n (omega arith) (omega arith)

-- nor have values
row_lacks : (row : Row) → FitsRow row → AllByRecursion (LacksByte 32) (map decimal row)
row_lacks [] small = tt
row_lacks (v ∷ row) small = (number_lacks v (omega (arith, small.0)), row_lacks row small.1)

-- no field of a call has a blank
fields_lack : (call : Call) → IsCall call → AllByRecursion (LacksByte 32) (fields_text call)
fields_lack (Take i t) ok = (word_lacks verb.Take, (number_lacks i ok.0, tt))
fields_lack (Printed i row) ok = (word_lacks verb.Printed, (number_lacks i ok.0, row_lacks row ok.1))
fields_lack (Spoiled i) ok = (word_lacks verb.Spoiled, (number_lacks i ok, tt))
fields_lack (AskRow label t) ok = (word_lacks verb.Row, (number_lacks label ok.0, tt))
fields_lack (AskLabel row) ok = (word_lacks verb.Label, row_lacks row ok)
fields_lack AskCounts ok = (word_lacks verb.Counts, tt)
fields_lack Close ok = (word_lacks verb.Close, tt)

-- there are fields
fields_some : (call : Call) → 0 < length (fields_text call)
fields_some (Take i t) = omega arith
fields_some (Printed i row) = omega arith
fields_some (Spoiled i) = omega arith
fields_some (AskRow label t) = omega arith
fields_some (AskLabel row) = omega arith
fields_some AskCounts = omega arith
fields_some Close = omega arith

-- the fields of a call are read as it
fields_read : (call : Call) → IsCall call → call_of_fields (fields_text call) ≡ Some call
fields_read (Take i t) ok = ap (option_map (λ printer. Take printer tray)) (number_written i ok.0) ∙ ap (λ u. Some (Take i u)) (sym ok.1)
fields_read (Printed i row) ok =
    ap (λ o. and_then o (λ printer. option_map (Printed printer) (scanned (map decimal row)))) (number_written i ok.0) ∙ ap (option_map (Printed i)) (row_written row ok.1)
fields_read (Spoiled i) ok = ap (option_map Spoiled) (number_written i ok)
fields_read (AskRow label t) ok = ap (option_map (λ l. AskRow l tray)) (number_written label ok.0) ∙ ap (λ u. Some (AskRow label u)) (sym ok.1)
fields_read (AskLabel row) ok = ap (option_map AskLabel) (row_written row ok)
fields_read AskCounts ok = refl
fields_read Close ok = refl

-- so is its line
call_written : (call : Call) → IsCall call → call_of (call_text call) ≡ Some call
call_written call ok = ap call_of_fields (cuts_again 32 (fields_text call) (fields_some call) (fields_lack call ok)) ∙ fields_read call ok

-- the call has such fields, and nothing hinders its line
abbrev HasFields : List (List ℕ) → Call → Type 0
HasFields fields call = IsCall call × (fields ≡ fields_text call)

-- a call with no field behind its word
bare_is : (known call : Call) (fields : List (List ℕ)) → bare known fields ≡ Some call → (known ≡ call) × (fields ≡ [])
bare_is known call [] e = (cc, refl)
bare_is known call (field ∷ more) e = absurd (let never : ◌≡◌ {A = ℕ} 0 1 = cc in omega arith)

-- a printer and a row
print_is : (fields : List (List ℕ)) (call : Call) → print_of fields ≡ Some call → HasFields (codes "printed" ∷ fields) call
print_is [] call e = absurd (let never : ◌≡◌ {A = ℕ} 0 1 = cc in omega arith)
print_is (field ∷ more) call e =
    let first = made_of (number_of field) (λ printer. option_map (Printed printer) (scanned more)) call e in
    let rest = mapped (Printed first.0) (scanned more) call first.2 in
    let printer = number_is field first.0 first.1 in
    let row = row_is more rest.0 rest.1 in
    subst (HasFields (codes "printed" ∷ field ∷ more)) rest.2 ((printer.0, row.0), (λ i. codes "printed" ∷ printer.1 i ∷ row.1 i))

-- fields that are read as a call behind its word are the call's
verb_is : (v : Verb) (fields : List (List ℕ)) (call : Call) → verb_call v fields ≡ Some call → HasFields (word_of v ∷ fields) call
verb_is verb.Take fields call e =
    let got = mapped (λ printer. Take printer tray) (lone_number fields) call e in
    let told = lone_is fields got.0 got.1 in
    subst (HasFields (codes "take" ∷ fields)) got.2 ((told.0, refl), ap (λ fs. codes "take" ∷ fs) told.1)
verb_is verb.Printed fields call e = print_is fields call e
verb_is verb.Spoiled fields call e =
    let got = mapped Spoiled (lone_number fields) call e in
    let told = lone_is fields got.0 got.1 in
    subst (HasFields (codes "spoiled" ∷ fields)) got.2 (told.0, ap (λ fs. codes "spoiled" ∷ fs) told.1)
verb_is verb.Row fields call e =
    let got = mapped (λ label. AskRow label tray) (lone_number fields) call e in
    let told = lone_is fields got.0 got.1 in
    subst (HasFields (codes "row" ∷ fields)) got.2 ((told.0, refl), ap (λ fs. codes "row" ∷ fs) told.1)
verb_is verb.Label fields call e =
    let got = mapped AskLabel (scanned fields) call e in
    let told = row_is fields got.0 got.1 in
    subst (HasFields (codes "label" ∷ fields)) got.2 (told.0, ap (λ fs. codes "label" ∷ fs) told.1)
verb_is verb.Counts fields call e =
    let told = bare_is AskCounts call fields e in
    subst (HasFields (codes "counts" ∷ fields)) told.0 (tt, ap (λ fs. codes "counts" ∷ fs) told.1)
verb_is verb.Close fields call e =
    let told = bare_is Close call fields e in
    subst (HasFields (codes "close" ∷ fields)) told.0 (tt, ap (λ fs. codes "close" ∷ fs) told.1)

-- fields that are read as a call are the call's
fields_are : (fields : List (List ℕ)) (call : Call) → call_of_fields fields ≡ Some call → HasFields fields call
fields_are [] call e = absurd (let never : ◌≡◌ {A = ℕ} 0 1 = cc in omega arith)
fields_are (word ∷ fields) call e =
    let named = made_of (verb_of word) (λ v. verb_call v fields) call e in
    let told = verb_is named.0 fields call named.2 in
    let is = named_is word_of (verb.Take ∷ verb.Printed ∷ verb.Spoiled ∷ verb.Row ∷ verb.Label ∷ verb.Counts ∷ verb.Close ∷ []) word named.0 named.1 in
    (told.0, ap (λ w. w ∷ fields) is ∙ told.1)

-- and so is a line
line_is : (line : List ℕ) (call : Call) → call_of line ≡ Some call → IsCall call × (line ≡ call_text call)
line_is line call e =
    let told = fields_are (pieces 32 line) call e in
    (told.0, sym (pieces_laws 32 line).whole ∙ ap (join_with_byte 32) told.1)

-- the lines of calls, both ways
pub call_lines_laws : CallLinesLaws
call_lines_laws = record { written = call_written; only_so = line_is }
