-- The lines that write a part, and no others, are read as one. Assumes nothing.
use Rattle.std.proofs.Common.{◌≡◌, ℕ, ◌<◌, Bool, true, false, not, eqb, leb, ltb, ◌&&◌, ◌⊎◌, inl, inr, List, [], ◌∷◌, map, length, is_some, Some, None, Ok, Err, decimal, Option, Result, sym, refl, ap, ◌∙◌, arith}
use Rattle.std.proofs.lemmas.Bool.{lt-ltb}
use Rattle.std.proofs.lemmas.Option.{cond_some}
use Rattle.std.proofs.lemmas.Slice.Eq.{bytes_eq-Decides}
use Rattle.std.specs.List.{list_all, join_with_byte, AllByRecursion}
use Rattle.std.specs.Option.{unwrap_or, ok_or, option_map, option_to_list}
use Rattle.std.specs.Str.{bytes_eq}
use Rattle.std.specs.Str.Iter.{LacksByte}
use Rattle.walk.specs.Meaning.{Meaning}
use Rattle.faults.specs.declared.PartFault.{PartFault}
use Rattle.faults.specs.declared.PartFault.TheVariants.{Form}
use Rattle.text.specs.Pieces.{pieces}
use Rattle.text.proofs.Cuts.{pieces_laws, cuts_again, lacks_more}
use Rattle.text.proofs.Lacks.{high_lack, joined_lack, digits_lack}
use Rattle.text.proofs.Names.{named_is}
use Rattle.plan.specs.Numbers.{number_value}
use Rattle.plan.specs.Format.{and_then, then, each, Fields, four_fields, word_of, kind_named, takes_t, takes_list, dash, t_value, entries, Head, head_with, head_of_fields, head_of_line, kind_made, making, entry_read, head_made, part_made}
use Rattle.plan.specs.Written.{Asked, IsAsked, number_text, list_text, line_text, PartLinesLaws}
use Rattle.plan.specs.declared.name.KindName.{KindName}
use Rattle.plan.specs.declared.name.KindName.TheVariants.{Digits, Gray, Choose, Door, Stock, Words, Changes}
use Rattle.plan.proofs.Decimals.{numbers_laws}

-- a dash has no byte below its own
dash_lacks : (at : ℕ) → at < 45 → LacksByte at dash
dash_lacks at low = lacks_more at 45 [] (λ e. omega arith) (λ k h. absurd (omega arith))

-- the word for a kind is letters, and names it
word_tells : (kind : KindName) → (list_all (λ b. leb 48 b) (word_of kind) ≡ true) × (kind_named (word_of kind) ≡ Some kind)
word_tells Digits = (refl, refl)
word_tells Gray = (refl, refl)
word_tells Choose = (refl, refl)
word_tells Door = (refl, refl)
word_tells Stock = (refl, refl)
word_tells Words = (refl, refl)
word_tells Changes = (refl, refl)

-- numbers below 1000, each in its digits, lack what digits lack
numbers_lack : (at : ℕ) (list : List ℕ) → at < 48 → AllByRecursion (λ x. x < 1000) list → AllByRecursion (LacksByte at) (map decimal list)
numbers_lack at [] low small = tt
numbers_lack at (x ∷ xs) low small = (digits_lack at x low (omega (arith, small.0)), numbers_lack at xs low small.1)

-- Reading what was written

-- the field t has no comma
t_lacks : (t : Option ℕ) → AllByRecursion (λ x. x < 1000) (option_to_list t) → LacksByte 44 (number_text t)
t_lacks None small = dash_lacks 44 (omega arith)
t_lacks (Some t) small = digits_lack 44 t (omega arith) (omega (arith, small.0))

-- nor has the list
list_lacks : (list : List ℕ) → AllByRecursion (λ x. x < 1000) list → LacksByte 44 (list_text list)
list_lacks [] small = dash_lacks 44 (omega arith)
list_lacks (x ∷ xs) small = joined_lack 44 32 (map decimal (x ∷ xs)) (λ e. omega arith) (numbers_lack 44 (x ∷ xs) (omega arith) small)

-- t is read where it is there just where it is taken
t_read : (taken : Bool) (t : Option ℕ) → is_some t ≡ taken → AllByRecursion (λ x. x < 1000) (option_to_list t) → t_value taken (number_text t) ≡ Some (unwrap_or t 0)
t_read taken None has small = ap (λ b. t_value b dash) (sym has)
t_read taken (Some t) has small = ap (λ b. t_value b (decimal t)) (sym has) ∙ numbers_laws.written t small.0

-- so is the list
entries_read : (taken : Bool) (list : List ℕ) → ltb 0 (length list) ≡ taken → AllByRecursion (λ x. x < 1000) list → entries taken (list_text list) ≡ Some (map decimal list)
entries_read taken [] has small = ap (λ b. entries b dash) (sym has)
entries_read taken (x ∷ xs) has small =
    ap (λ b. entries b (list_text (x ∷ xs))) (sym has ∙ lt-ltb 0 (length (x ∷ xs)) (omega arith)) ∙ ap Some (cuts_again 32 (map decimal (x ∷ xs)) (omega arith) (numbers_lack 32 (x ∷ xs) (omega arith) small))

-- and its numbers
each_read : (list : List ℕ) → AllByRecursion (λ x. x < 1000) list → each entry_read (map decimal list) ≡ Ok list
each_read [] small = refl
each_read (x ∷ xs) small =
    ap (λ r. then r (λ y. then (each entry_read (map decimal xs)) (λ ys. Ok (y ∷ ys)))) (ap (λ o. ok_or o Form) (numbers_laws.written x small.0))
    ∙ ap (λ r. then r (λ ys. Ok (x ∷ ys))) (each_read xs small.1)

-- a head of such fields
abbrev headed : KindName → ℕ → ℕ → List (List ℕ) → Head
headed kind n t list = record { kind = kind; n = n; t = t; entries = list }

-- what is made of a head
abbrev after_head : Option Head → Result Meaning PartFault
after_head o = then (ok_or o Form) (λ head. then (each entry_read head.entries) (head_made head))

module _ (a : Asked) (ok : IsAsked a) where
  -- the fields as they are written
  abbrev fields : Fields
  fields = record { kind = word_of a.kind; n = decimal a.n; t = number_text a.t; list = list_text a.list }

  -- and as they are read
  abbrev head : Head
  head = headed a.kind a.n (unwrap_or a.t 0) (map decimal a.list)

  -- no field has a comma
  fields_lack : AllByRecursion (LacksByte 44) (fields.kind ∷ fields.n ∷ fields.t ∷ fields.list ∷ [])
  fields_lack = (high_lack 44 fields.kind (word_tells a.kind).0 (omega arith), (digits_lack 44 a.n (omega arith) (omega (arith, ok.small)), (t_lacks a.t ok.small_t, (list_lacks a.list ok.small_list, tt))))

  -- the head is read
  head_written : head_of_line (line_text a) ≡ Some head
  head_written =
      ap (λ ps. and_then (four_fields ps) head_of_fields) (cuts_again 44 (fields.kind ∷ fields.n ∷ fields.t ∷ fields.list ∷ []) (omega arith) fields_lack)
      ∙ ap (λ o. and_then o (λ kind. and_then (number_value fields.n) (λ n. head_with kind n fields))) (word_tells a.kind).1
      ∙ ap (λ o. and_then o (λ n. head_with a.kind n fields)) (numbers_laws.written a.n ok.small)
      ∙ ap (λ o. and_then o (λ t. option_map (headed a.kind a.n t) (entries (takes_list a.kind && not (eqb a.n 0)) fields.list))) (t_read (takes_t a.kind) a.t ok.has_t ok.small_t)
      ∙ ap (option_map (headed a.kind a.n (unwrap_or a.t 0))) (entries_read (takes_list a.kind && not (eqb a.n 0)) a.list ok.has_list ok.small_list)

  -- and so is the part
  part_written : part_made (line_text a) ≡ making (kind_made a.kind a.n (unwrap_or a.t 0) a.list)
  part_written = ap after_head head_written ∙ ap (λ r. then r (head_made head)) (each_read a.list ok.small_list)

-- What was read was written so

-- nothing but its word names a kind
word_is : (word : List ℕ) (kind : KindName) → kind_named word ≡ Some kind → word ≡ word_of kind
word_is word kind e = named_is word_of (Digits ∷ Gray ∷ Choose ∷ Door ∷ Stock ∷ Words ∷ Changes ∷ []) word kind e

-- the four pieces of a line that has its fields
four_is : (ps : List (List ℕ)) (f : Fields) → four_fields ps ≡ Some f → ps ≡ f.kind ∷ f.n ∷ f.t ∷ f.list ∷ []
four_is [] f e = absurd (let never : ◌≡◌ {A = ℕ} 0 1 = cc in omega arith)
four_is (kind ∷ []) f e = absurd (let never : ◌≡◌ {A = ℕ} 0 1 = cc in omega arith)
four_is (kind ∷ n ∷ []) f e = absurd (let never : ◌≡◌ {A = ℕ} 0 1 = cc in omega arith)
four_is (kind ∷ n ∷ t ∷ []) f e = absurd (let never : ◌≡◌ {A = ℕ} 0 1 = cc in omega arith)
four_is (kind ∷ n ∷ t ∷ list ∷ []) f e =
    let same : ◌≡◌ {A = Fields} (record { kind = kind; n = n; t = t; list = list }) f = cc in
    ap (λ (g : Fields). g.kind ∷ g.n ∷ g.t ∷ g.list ∷ []) same
four_is (kind ∷ n ∷ t ∷ list ∷ fifth ∷ more) f e = absurd (let never : ◌≡◌ {A = ℕ} 0 1 = cc in omega arith)

-- the line of those fields
line_is : (line : List ℕ) (f : Fields) → four_fields (pieces 44 line) ≡ Some f → line ≡ join_with_byte 44 (f.kind ∷ f.n ∷ f.t ∷ f.list ∷ [])
line_is line f e = sym (pieces_laws 44 line).whole ∙ ap (join_with_byte 44) (four_is (pieces 44 line) f e)

-- what a field t that was read is
record ReadT (taken : Bool) (bs : List ℕ) (value : ℕ) : Type 0 where
  t : Option ℕ
  has : is_some t ≡ taken
  text : bs ≡ number_text t
  is : unwrap_or t 0 ≡ value
  small : AllByRecursion (λ x. x < 1000) (option_to_list t)

-- it was written so
t_is : (taken : Bool) (bs : List ℕ) (value : ℕ) → t_value taken bs ≡ Some value → ReadT taken bs value
t_is true bs value e =
    let told = numbers_laws.only_so bs value e in
    record { t = Some value; has = refl; text = told.1; is = refl; small = (told.0, tt) }
t_is false bs value e =
    let told = cond_some (bytes_eq bs dash) 0 value e in
    record { t = None; has = refl; text = (bytes_eq-Decides bs dash).0 told.0; is = told.1; small = tt }

-- numbers that were read were written so, or some piece is none
record ReadList (es : List (List ℕ)) : Type 0 where
  list : List ℕ
  reads : each entry_read es ≡ Ok list
  text : es ≡ map decimal list
  small : AllByRecursion (λ x. x < 1000) list

-- one more number before them
one_more : (e : List ℕ) (es : List (List ℕ)) (x : ℕ) → number_value e ≡ Some x → ReadList es → ReadList (e ∷ es)
one_more e es x is rest =
    let told = numbers_laws.only_so e x is in
    record {
      list = x ∷ rest.list;
      reads = ap (λ o. then (ok_or o Form) (λ y. then (each entry_read es) (λ ys. Ok (y ∷ ys)))) is ∙ ap (λ r. then r (λ ys. Ok (x ∷ ys))) rest.reads;
      text = (λ i. told.1 i ∷ rest.text i);
      small = (told.0, rest.small);
    }

-- each piece is a number or not
list_reads : (es : List (List ℕ)) → (each entry_read es ≡ Err Form) ⊎ ReadList es
list_reads [] = inr (record { list = []; reads = refl; text = refl; small = tt })
list_reads (e ∷ es) = first (number_value e) refl (list_reads es)
  where
    first : (o : Option ℕ) → number_value e ≡ o → (each entry_read es ≡ Err Form) ⊎ ReadList es → (each entry_read (e ∷ es) ≡ Err Form) ⊎ ReadList (e ∷ es)
    first None is rest = inl (ap (λ o. then (ok_or o Form) (λ y. then (each entry_read es) (λ ys. Ok (y ∷ ys)))) is)
    first (Some x) is (inl bad) =
        inl (ap (λ o. then (ok_or o Form) (λ y. then (each entry_read es) (λ ys. Ok (y ∷ ys)))) is ∙ ap (λ r. then r (λ ys. Ok (x ∷ ys))) bad)
    first (Some x) is (inr good) = inr (one_more e es x is good)

-- a list field that was read was written so
list_is : (taken : Bool) (bs : List ℕ) (es : List (List ℕ)) (list : List ℕ) → entries taken bs ≡ Some es → es ≡ map decimal list → (bs ≡ list_text list) × (ltb 0 (length list) ≡ taken)
list_is true bs es [] e text =
    let some = (pieces_laws 32 bs).some in
    let none : pieces 32 bs ≡ [] = cc in
    absurd (omega (arith, ap length none))
list_is true bs es (x ∷ xs) e text =
    let same : pieces 32 bs ≡ map decimal (x ∷ xs) = cc in
    (sym (pieces_laws 32 bs).whole ∙ ap (join_with_byte 32) same, lt-ltb 0 (length (x ∷ xs)) (omega arith))
list_is false bs es [] e text = ((bytes_eq-Decides bs dash).0 (cond_some (bytes_eq bs dash) [] es e).0, refl)
list_is false bs es (x ∷ xs) e text =
    let none : ◌≡◌ {A = List (List ℕ)} [] es = (cond_some (bytes_eq bs dash) [] es e).1 in
    absurd (omega (arith, ap length (none ∙ text)))

-- a line is a fault of form, or writes a part
abbrev Told : List ℕ → Type 0
Told line = (part_made line ≡ Err Form) ⊎ ((a : Asked) × IsAsked a × (line ≡ line_text a))

-- with no head it is a fault
no_head : (line : List ℕ) → head_of_line line ≡ None → Told line
no_head line none = inl (ap after_head none)

module _ (line : List ℕ) (f : Fields) (whole : line ≡ join_with_byte 44 (f.kind ∷ f.n ∷ f.t ∷ f.list ∷ [])) where
  -- with a head a line is told by its list
  by_list : (kind : KindName) (n t : ℕ) (es : List (List ℕ)) → kind_named f.kind ≡ Some kind → number_value f.n ≡ Some n → ReadT (takes_t kind) f.t t → entries (takes_list kind && not (eqb n 0)) f.list ≡ Some es →
      head_of_line line ≡ Some (headed kind n t es) → (each entry_read es ≡ Err Form) ⊎ ReadList es → Told line
  by_list kind n t es word digits read listed is (inl bad) = inl (ap after_head is ∙ ap (λ r. then r (head_made (headed kind n t es))) bad)
  by_list kind n t es word digits read listed is (inr good) =
      let told = numbers_laws.only_so f.n n digits in
      let list = list_is (takes_list kind && not (eqb n 0)) f.list es good.list listed good.text in
      inr (
        record { kind = kind; n = n; t = read.t; list = good.list },
        record { has_t = read.has; has_list = list.1; small = told.0; small_t = read.small; small_list = good.small },
        whole ∙ (λ i. join_with_byte 44 (word_is f.kind kind word i ∷ told.1 i ∷ read.text i ∷ list.0 i ∷ [])),
      )

  -- with its t, by the pieces of its list
  by_entries : (kind : KindName) (n t : ℕ) → kind_named f.kind ≡ Some kind → number_value f.n ≡ Some n → ReadT (takes_t kind) f.t t →
      head_of_line line ≡ option_map (headed kind n t) (entries (takes_list kind && not (eqb n 0)) f.list) → (o : Option (List (List ℕ))) → entries (takes_list kind && not (eqb n 0)) f.list ≡ o → Told line
  by_entries kind n t word digits read is None e = no_head line (is ∙ ap (option_map (headed kind n t)) e)
  by_entries kind n t word digits read is (Some es) e = by_list kind n t es word digits read e (is ∙ ap (option_map (headed kind n t)) e) (list_reads es)

  -- with its n, by its t
  by_t : (kind : KindName) (n : ℕ) → kind_named f.kind ≡ Some kind → number_value f.n ≡ Some n → head_of_line line ≡ head_with kind n f → (o : Option ℕ) → t_value (takes_t kind) f.t ≡ o → Told line
  by_t kind n word digits is None e = no_head line (is ∙ ap (λ o. and_then o (λ t. option_map (headed kind n t) (entries (takes_list kind && not (eqb n 0)) f.list))) e)
  by_t kind n word digits is (Some t) e =
      by_entries kind n t word digits (t_is (takes_t kind) f.t t e) (is ∙ ap (λ o. and_then o (λ t. option_map (headed kind n t) (entries (takes_list kind && not (eqb n 0)) f.list))) e) (entries (takes_list kind && not (eqb n 0)) f.list) refl

  -- with its kind, by its n
  by_n : (kind : KindName) → kind_named f.kind ≡ Some kind → head_of_line line ≡ and_then (number_value f.n) (λ n. head_with kind n f) → (o : Option ℕ) → number_value f.n ≡ o → Told line
  by_n kind word is None e = no_head line (is ∙ ap (λ o. and_then o (λ n. head_with kind n f)) e)
  by_n kind word is (Some n) e = by_t kind n word e (is ∙ ap (λ o. and_then o (λ n. head_with kind n f)) e) (t_value (takes_t kind) f.t) refl

  -- with its fields, by its kind
  by_kind : head_of_line line ≡ head_of_fields f → (o : Option KindName) → kind_named f.kind ≡ o → Told line
  by_kind is None e = no_head line (is ∙ ap (λ o. and_then o (λ kind. and_then (number_value f.n) (λ n. head_with kind n f))) e)
  by_kind is (Some kind) e = by_n kind e (is ∙ ap (λ o. and_then o (λ kind. and_then (number_value f.n) (λ n. head_with kind n f))) e) (number_value f.n) refl

-- a line is told by its fields
by_fields : (line : List ℕ) (o : Option Fields) → four_fields (pieces 44 line) ≡ o → Told line
by_fields line None e = no_head line (ap (λ o. and_then o head_of_fields) e)
by_fields line (Some f) e = by_kind line f (line_is line f e) (ap (λ o. and_then o head_of_fields) e) (kind_named f.kind) refl

-- the lines of parts, both ways
pub part_lines_laws : PartLinesLaws
part_lines_laws = record { written = part_written; only_so = λ line. by_fields line (four_fields (pieces 44 line)) refl }
