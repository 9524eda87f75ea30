-- Plan texts as they are written: a part by what it asks for, its line, and the lines of a text. Assumes nothing.
use Rattle.std.specs.Prelude.{◌≡◌, ℕ, ◌<◌, ◌≤◌, not, ◌&&◌, ◌⊎◌, List, [], ◌∷◌, ◌++◌, map, length, is_some, Some, None, Err, codes, decimal, unwrap_or, option_to_list, Option, ◌==◌, nat_lt}
use Rattle.std.specs.List.{join_with_byte, AllByRecursion}
use Rattle.std.specs.Str.Iter.{LacksByte}
use Rattle.faults.specs.Faults.{fault}
use Rattle.faults.specs.declared.Cause.TheVariants.{Text, Names}
use Rattle.faults.specs.declared.PartFault.TheVariants.{Form}
use Rattle.plan.specs.Format.{word_of, takes_t, takes_list, dash, then, kind_made, making, part_made, parts_made, all_joined, plan_of}
use Rattle.plan.specs.declared.name.KindName.{KindName}

-- a kind, n, a t and a list, either of which may be missing
pub record Asked : Type 0 where
  pub kind : KindName
  pub n : ℕ
  pub t : Option ℕ
  pub list : List ℕ

-- t and the list are there just where the kind takes them, the list only where n is not 0, and all numbers are below 1000
pub record IsAsked (a : Asked) : Type 0 where
  pub has_t : is_some a.t ≡ takes_t a.kind
  pub has_list : nat_lt 0 (length a.list) ≡ (takes_list a.kind && not (a.n == 0))
  pub small : a.n < 1000
  pub small_t : AllByRecursion (λ x. x < 1000) (option_to_list a.t)
  pub small_list : AllByRecursion (λ x. x < 1000) a.list

-- a number in decimal digits, or `-` where there is none
abbrev pub number_text : Option ℕ → List ℕ
number_text None = dash
number_text (Some n) = decimal n

-- the numbers with one blank (byte 32) between, or `-` where there are none
abbrev pub list_text : List ℕ → List ℕ
list_text [] = dash
list_text (x ∷ xs) = join_with_byte 32 (map decimal (x ∷ xs))

-- the four fields with commas (byte 44) between
abbrev pub line_text : Asked → List ℕ
line_text a = join_with_byte 44 (word_of a.kind ∷ number_text (Some a.n) ∷ number_text a.t ∷ list_text a.list ∷ [])

-- A line that writes a part gives what making that gives, and any other line is a fault of form.
pub record PartLinesLaws : Type 0 where
  pub written : (a : Asked) → IsAsked a → part_made (line_text a) ≡ making (kind_made a.kind a.n (unwrap_or a.t 0) a.list)
  pub only_so : (line : List ℕ) → (part_made line ≡ Err Form) ⊎ ((a : Asked) × IsAsked a × (line ≡ line_text a))

-- lines, each ended by byte 10
abbrev pub text_of : List (List ℕ) → List ℕ
text_of lines = join_with_byte 10 lines ++ (10 ∷ [])

-- two to four lines, that have no byte 10 themselves and at most 4,096 bytes together
pub record IsText (lines : List (List ℕ)) : Type 0 where
  pub two : 2 ≤ length lines
  pub four : length lines ≤ 4
  pub ended : AllByRecursion (LacksByte 10) lines
  pub short : length (text_of lines) ≤ 4096

-- the names line
abbrev pub names : List ℕ
names = codes "kind,n,t,list"

-- A text of such lines, of which the first is the names line, gives what its parts give, joined; with another first line it is a
-- fault of names, and any other text is a fault as a whole.
pub record TextsLaws : Type 0 where
  pub written : (parts : List (List ℕ)) → IsText (names ∷ parts) → plan_of (text_of (names ∷ parts)) ≡ then (parts_made parts) all_joined
  pub other_names : (first : List ℕ) (parts : List (List ℕ)) → IsText (first ∷ parts) → (first ≡ names → ⊥) → plan_of (text_of (first ∷ parts)) ≡ Err (fault Names 1)
  pub only_so : (text : List ℕ) → (plan_of text ≡ Err (fault Text 0)) ⊎ ((lines : List (List ℕ)) × IsText lines × (text ≡ text_of lines))
