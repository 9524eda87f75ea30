-- A row that is scanned value by value. Assumes nothing.
use Rattle.std.proofs.Common.{◌≡◌, ℕ, List, [], ◌∷◌, ◌++◌, Some, None, Option, sym, refl, ap, ◌∙◌}
use Rattle.std.proofs.lemmas.List.{append_assoc, append-nil}
use Rattle.std.specs.Option.{option_map}
use Rattle.walk.specs.Rows.{Row}
use Rattle.plan.specs.Format.{and_then}
use Rattle.trial.specs.Calls.{scanned}
use Rattle.trial.specs.Numbers.{value_of}

-- the values so far before those to come
abbrev pub also : Row → Option Row → Option Row
also row rest = option_map (λ values. row ++ values) rest

-- the first value to come may be one of those so far
also_one : (row : Row) (v : ℕ) (rest : Option Row) → also row (option_map (λ values. v ∷ values) rest) ≡ also (row ++ (v ∷ [])) rest
also_one row v None = refl
also_one row v (Some values) = ap Some (sym (append_assoc row (v ∷ []) values))

-- one more value is read
pub scan_more : {given : Option Row} (row after : Row) (fields : List (List ℕ)) (field : List ℕ) (more : List (List ℕ)) (v : ℕ) → given ≡ also row (scanned fields) → fields ≡ field ∷ more → Some v ≡ value_of field → after ≡ row ++ (v ∷ []) → given ≡ also after (scanned more)
scan_more row after fields field more v is comes reads grows =
    is ∙ ap (λ fs. also row (scanned fs)) comes
    ∙ ap (λ o. also row (and_then o (λ value. option_map (λ values. value ∷ values) (scanned more)))) (sym reads)
    ∙ also_one row v (scanned more)
    ∙ ap (λ r. also r (scanned more)) (sym grows)

-- what is no value ends the row
pub scan_stops : {given : Option Row} (row : Row) (fields : List (List ℕ)) (field : List ℕ) (more : List (List ℕ)) → given ≡ also row (scanned fields) → fields ≡ field ∷ more → None ≡ value_of field → given ≡ None
scan_stops row fields field more is comes reads =
    is ∙ ap (λ fs. also row (scanned fs)) comes
    ∙ ap (λ o. also row (and_then o (λ value. option_map (λ values. value ∷ values) (scanned more)))) (sym reads)

-- where nothing is to come the row is whole
pub scan_done : {given : Option Row} (row : Row) (fields : List (List ℕ)) → given ≡ also row (scanned fields) → fields ≡ [] → given ≡ Some row
scan_done row fields is none = is ∙ ap (λ fs. also row (scanned fs)) none ∙ ap Some (append-nil row)
