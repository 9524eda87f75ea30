-- The format of a plan text, over its list of bytes, and the walk that it asks for. Assumes nothing.
--
-- A text has at most 4,096 bytes and two to four lines, each ended by byte 10. The first line is `kind,n,t,list`. Each
-- further line is a part: these four fields, with commas (byte 44) between them. `kind` is a word, and `n` a number. `t`
-- is a number for the kinds that take one, and else `-`. `list` is numbers with one blank (byte 32) between neighbours for
-- the kinds that take them, unless n is 0, and else `-`.
use Rattle.std.specs.Prelude.{ℕ, suc, Bool, true, false, cond, not, ◌&&◌, List, [], ◌∷◌, length, Some, None, Ok, Err, codes, Option, Result, ◌==◌, nat_le, slice_index_or}
use Rattle.std.specs.Option.{option_map, ok_or}
use Rattle.std.specs.Str.{bytes_eq}
use Rattle.walk.specs.Making.{new_walk}
use Rattle.walk.specs.Meaning.{Meaning}
use Rattle.walk.specs.declared.making.MakingFault.{MakingFault}
use Rattle.kinds.specs.Kinds.{digits_made, gray_made, choose_made, door_made, stock_made, words_made, changes_made}
use Rattle.joins.specs.Join.{join_made}
use Rattle.faults.specs.Faults.{fault}
use Rattle.faults.specs.declared.Cause.{Cause}
use Rattle.faults.specs.declared.Cause.TheVariants.{Text, Names, Part as PartCause, Join as JoinCause}
use Rattle.faults.specs.declared.PartFault.{PartFault}
use Rattle.faults.specs.declared.PartFault.TheVariants.{Form, Making}
use Rattle.faults.specs.declared.PlanFault.{PlanFault}
use Rattle.plan.specs.declared.name.KindName.{KindName}
use Rattle.plan.specs.declared.name.KindName.TheVariants.{Digits, Gray, Choose, Door, Stock, Words, Changes}
use Rattle.plan.specs.Numbers.{number_value}
use Rattle.text.specs.Named.{named_among}
use Rattle.text.specs.Pieces.{pieces}

-- what f makes of the value, where there is one
abbrev pub and_then : {X Y : Type 0} → Option X → (X → Option Y) → Option Y
and_then None f = None
and_then (Some x) f = f x

-- o where the test holds
abbrev pub provided : {X : Type 0} → Bool → Option X → Option X
provided test o = cond test o None

-- what f makes of the value, unless there is a fault before
abbrev pub then : {X Y E : Type 0} → Result X E → (X → Result Y E) → Result Y E
then (Ok x) f = f x
then (Err e) f = Err e

-- what f makes of each, or the first fault
abbrev pub each : {X Y E : Type 0} → (X → Result Y E) → List X → Result (List Y) E
each f [] = Ok []
each f (x ∷ xs) = then (f x) (λ y. then (each f xs) (λ ys. Ok (y ∷ ys)))

-- a fault is told with its line
abbrev pub on_line : {X E : Type 0} → (E → Cause) → ℕ → Result X E → Result X PlanFault
on_line cause line (Ok x) = Ok x
on_line cause line (Err e) = Err (fault (cause e) line)

-- Lines

-- the text before the byte that ends it, which is 10
abbrev pub body : List ℕ → Option (List ℕ)
body [] = None
body (b ∷ []) = provided (b == 10) (Some [])
body (b ∷ c ∷ more) = option_map (λ bytes. b ∷ bytes) (body (c ∷ more))

-- the lines of a text, each without the byte that ends it
pub record Lines : Type 0 where
  pub names : List ℕ
  pub parts : List (List ℕ)

-- from one to three
abbrev pub one_to_three : List (List ℕ) → Bool
one_to_three parts = nat_le 1 (length parts) && nat_le (length parts) 3

-- the names line, and one to three parts
abbrev pub plan_lines : List (List ℕ) → Option Lines
plan_lines [] = None
plan_lines (names ∷ parts) = provided (one_to_three parts) (Some (record { names = names; parts = parts }))

-- the lines of a text that is not too long and whose last line is ended
abbrev pub lines_of_text : List ℕ → Option Lines
lines_of_text text = provided (nat_le (length text) 4096) (and_then (body text) (λ bytes. plan_lines (pieces 10 bytes)))

-- Fields

-- the fields of a part, each as its bytes
pub record Fields : Type 0 where
  pub kind : List ℕ
  pub n : List ℕ
  pub t : List ℕ
  pub list : List ℕ

-- just four pieces are the fields
abbrev pub four_fields : List (List ℕ) → Option Fields
four_fields [] = None
four_fields (kind ∷ []) = None
four_fields (kind ∷ n ∷ []) = None
four_fields (kind ∷ n ∷ t ∷ []) = None
four_fields (kind ∷ n ∷ t ∷ list ∷ []) = Some (record { kind = kind; n = n; t = t; list = list })
four_fields (kind ∷ n ∷ t ∷ list ∷ fifth ∷ more) = None

-- Kinds, numbers and dashes

-- the word for a kind
abbrev pub word_of : KindName → List ℕ
word_of Digits = codes "digits"
word_of Gray = codes "gray"
word_of Choose = codes "choose"
word_of Door = codes "door"
word_of Stock = codes "stock"
word_of Words = codes "words"
word_of Changes = codes "changes"

-- the kind that a word names
abbrev pub kind_named : List ℕ → Option KindName
kind_named word = named_among word_of (Digits ∷ Gray ∷ Choose ∷ Door ∷ Stock ∷ Words ∷ Changes ∷ []) word

-- whether t is a number for the kind
abbrev pub takes_t : KindName → Bool
takes_t Digits = false
takes_t Gray = false
takes_t Choose = true
takes_t Door = true
takes_t Stock = true
takes_t Words = false
takes_t Changes = false

-- whether the list is numbers for the kind, where n is not 0
abbrev pub takes_list : KindName → Bool
takes_list Digits = true
takes_list Gray = true
takes_list Choose = false
takes_list Door = false
takes_list Stock = true
takes_list Words = true
takes_list Changes = false

-- what stands where there is no number
abbrev pub dash : List ℕ
dash = codes "-"

-- t, which is 0 where the kind takes none
abbrev pub t_value : Bool → List ℕ → Option ℕ
t_value taken t = cond taken (number_value t) (provided (bytes_eq t dash) (Some 0))

-- the pieces that the list's numbers are written as, none for a dash
abbrev pub entries : Bool → List ℕ → Option (List (List ℕ))
entries taken list = cond taken (Some (pieces 32 list)) (provided (bytes_eq list dash) (Some []))

-- what a part asks for, with its list still as it is written
pub record Head : Type 0 where
  pub kind : KindName
  pub n : ℕ
  pub t : ℕ
  pub entries : List (List ℕ)

-- the list is taken unless n is 0
abbrev pub head_with : KindName → ℕ → Fields → Option Head
head_with kind n fields =
    and_then (t_value (takes_t kind) fields.t) (λ t. option_map (λ list. record { kind = kind; n = n; t = t; entries = list }) (entries (takes_list kind && not (n == 0)) fields.list))

-- what the fields ask for: the kind tells which t and which list there is to be
abbrev pub head_of_fields : Fields → Option Head
head_of_fields fields = and_then (kind_named fields.kind) (λ kind. and_then (number_value fields.n) (λ n. head_with kind n fields))

-- what the line of a part asks for
abbrev pub head_of_line : List ℕ → Option Head
head_of_line line = and_then (four_fields (pieces 44 line)) head_of_fields

-- Making

-- what making the kind with these numbers gives
abbrev pub kind_made : KindName → ℕ → ℕ → List ℕ → Result Meaning MakingFault
kind_made Digits n t list = digits_made n list
kind_made Gray n t list = gray_made n list
kind_made Choose n t list = choose_made n t
kind_made Door n t list = door_made n t
kind_made Stock n t list = stock_made n t list
kind_made Words n t list = words_made n list
kind_made Changes n t list = changes_made n

-- a fault of making as a part tells it
abbrev pub making : {X : Type 0} → Result X MakingFault → Result X PartFault
making (Ok x) = Ok x
making (Err e) = Err (Making e)

-- a number of the list, or a fault of form
abbrev pub entry_read : List ℕ → Result ℕ PartFault
entry_read entry = ok_or (number_value entry) Form

-- what a part gives, once its list is read
abbrev pub head_made : Head → List ℕ → Result Meaning PartFault
head_made head list = making (kind_made head.kind head.n head.t list)

-- what the line of a part gives
abbrev pub part_made : List ℕ → Result Meaning PartFault
part_made line = then (ok_or (head_of_line line) Form) (λ head. then (each entry_read head.entries) (head_made head))

-- a line with its number
pub record Line : Type 0 where
  pub number : ℕ
  pub bytes : List ℕ

-- lines that follow one another, from that number on
abbrev pub numbered : ℕ → List (List ℕ) → List Line
numbered number [] = []
numbered number (line ∷ more) = record { number = number; bytes = line } ∷ numbered (suc number) more

-- what the line of a part gives, its fault with its number
abbrev pub line_made : Line → Result Meaning PlanFault
line_made line = on_line PartCause line.number (part_made line.bytes)

-- the parts stand on line 2 and after
abbrev pub parts_made : List (List ℕ) → Result (List Meaning) PlanFault
parts_made parts = each line_made (numbered 2 parts)

-- Joins

-- a missing part is `gray` with n 0, which has one empty row
abbrev pub blank : Meaning
blank = new_walk ([] ∷ []) 0 true

-- the second with the third, and the first with these
abbrev pub joins : Bool → Meaning → Meaning → Meaning → Result Meaning PlanFault
joins swing a b c = then (on_line JoinCause 3 (join_made swing b c)) (λ below. on_line JoinCause 2 (join_made swing a below))

-- in `swing` where every part is steady, and else in `odometer`
abbrev pub joined_parts : Meaning → Meaning → Meaning → Result Meaning PlanFault
joined_parts a b c = joins (a.steady && (b.steady && c.steady)) a b c

-- the first three of the parts, joined
abbrev pub all_joined : List Meaning → Result Meaning PlanFault
all_joined parts = joined_parts (slice_index_or parts 0 blank) (slice_index_or parts 1 blank) (slice_index_or parts 2 blank)

-- the walk of a plan, or the first fault: of the text as a whole, of the names line, of a part, of a join
abbrev pub plan_of_lines : Lines → Result Meaning PlanFault
plan_of_lines lines = cond (bytes_eq lines.names (codes "kind,n,t,list")) (then (parts_made lines.parts) all_joined) (Err (fault Names 1))

-- the walk of a text, or its first fault
abbrev pub plan_of : List ℕ → Result Meaning PlanFault
plan_of text = then (ok_or (lines_of_text text) (fault Text 0)) plan_of_lines
