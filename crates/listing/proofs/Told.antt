-- A fault with a number is the one that the plan text has. Assumes nothing.
use Rattle.std.proofs.Common.{◌≡◌, ℕ, Bool, true, false, ◌⊎◌, List, is_some, IfOk, Ok, Err, Result, sym, ap, ◌∙◌, ⊎_elim, arith}
use Rattle.walk.specs.Meaning.{Meaning}
use Rattle.faults.specs.Faults.{cause_number}
use Rattle.plan.specs.Reading.{LacksMemory}
use Rattle.faults.specs.declared.PlanFault.{PlanFault}
use Rattle.listing.specs.Texts.{told}

-- want of memory has no number
numberless : (e : PlanFault) → LacksMemory e → is_some (cause_number e.cause) ≡ false
numberless e lacks = ap (λ cause. is_some (cause_number cause)) lacks

-- so a fault with a number is the one that the plan has
fault_of_plan : (given : Result Meaning PlanFault) (e : PlanFault) → (given ≡ Err e) ⊎ LacksMemory e → is_some (cause_number e.cause) ≡ true → given ≡ Err e
fault_of_plan given e says some =
    ⊎_elim (λ is. is) (λ lacks. absurd (let clash : ◌≡◌ {A = Bool} true false = sym some ∙ numberless e lacks in let never : ◌≡◌ {A = ℕ} 0 1 = cc in omega arith)) says

-- what is told of a fault is what f says of the plan, where it says that of a fault
pub told_of_plan :
    {X E : Type 0} (f : Result Meaning PlanFault → List ℕ) (bytes : X → List ℕ) (r : Result X E) (given : Result Meaning PlanFault) (e : PlanFault)
    → f (Err e) ≡ told e (cause_number e.cause) → (given ≡ Err e) ⊎ LacksMemory e
    → IfOk r (λ s. bytes s ≡ told e (cause_number e.cause)) → IfOk r (λ _. is_some (cause_number e.cause) ≡ true)
    → IfOk r (λ s. bytes s ≡ f given)
told_of_plan f bytes (Ok s) given e tells says text some = text ∙ sym (ap f (fault_of_plan given e says some) ∙ tells)
told_of_plan f bytes (Err x) given e tells says text some = tt
