-- A part as it is made, and the parts made so far. Assumes nothing.
use Rattle.std.proofs.Common.{◌≡◌, ℕ, suc, ◌+◌, List, [], ◌∷◌, ◌++◌, Some, Ok, Result, sym, ap, ◌∙◌, add-one}
use mathlib.Core.List.{map-append}
use Rattle.std.specs.Option.{ok_or}
use Rattle.walk.specs.Meaning.{Meaning}
use Rattle.kinds.specs.Kinds.{kind_meaning}
use Rattle.kinds.specs.declared.kind.Kind.{Kind}
use Rattle.faults.specs.declared.Cause.TheVariants.{Part as PartCause}
use Rattle.faults.specs.declared.PartFault.TheVariants.{Form}
use Rattle.faults.specs.declared.PlanFault.{PlanFault}
use Rattle.plan.specs.Format.{Head, then, each, on_line, entry_read, head_of_line, head_made, part_made, numbered, line_made}
use Rattle.plan.specs.Reading.{meanings}
use Rattle.plan.proofs.Gathers.{also, each_more}

-- once its form and its list are read, a part is what making gives
pub part_read : (bytes : List ℕ) (head : Head) (list : List ℕ) → Some head ≡ head_of_line bytes → each entry_read head.entries ≡ Ok list → part_made bytes ≡ head_made head list
part_read bytes head list is all =
    ap (λ o. then (ok_or o Form) (λ h. then (each entry_read h.entries) (head_made h))) (sym is) ∙ ap (λ r. then r (head_made head)) all

module _ (all : Result (List Meaning) PlanFault) (made : List Kind) (line : ℕ) (lines : List (List ℕ)) (so : all ≡ also (meanings made) (each line_made (numbered line lines))) where
  -- one more part is made
  pub parts_more : (after : List Kind) (kind : Kind) (bytes : List ℕ) (more : List (List ℕ)) → lines ≡ bytes ∷ more → part_made bytes ≡ Ok (kind_meaning kind) → after ≡ made ++ kind ∷ [] → all ≡ also (meanings after) (each line_made (numbered (line + 1) more))
  parts_more after kind bytes more comes is pushed =
      rw add-one
      (each_more line_made all (meanings made) (record { number = line; bytes = bytes }) (numbered (suc line) more) (kind_meaning kind) (meanings after)
      (so ∙ ap (λ ls. also (meanings made) (each line_made (numbered line ls))) comes)
      (ap (on_line PartCause line) is)
      (ap meanings pushed ∙ map-append kind_meaning made (kind ∷ [])))
