-- What a maker answers keeps the laws of its kind. Assumes nothing.
use Rattle.std.proofs.Common.{ℕ, true, false, List, Result}
use Rattle.std.specs.Prelude.{IfOk}
use Rattle.walk.specs.Making.{Makes}
use Rattle.walk.specs.declared.making.MakingFault.{MakingFault}
use Rattle.kinds.specs.Digits.{digits_laws}
use Rattle.kinds.specs.Door.{door_laws}
use Rattle.kinds.specs.Gray.{gray_laws}
use Rattle.kinds.specs.Kinds.{kind_meaning, radices_fit, choice_fits, digits_made, gray_made, choose_made, door_made}
use Rattle.kinds.specs.Laws.{DigitsLaws, GrayLaws, ChooseLaws, DoorLaws}
use Rattle.kinds.specs.Lists.{digits, gray, choose, door}
use Rattle.kinds.specs.Stock.{choose_laws}
use Rattle.kinds.specs.declared.kind.Kind.{Kind}
use Rattle.kinds.proofs.Made.{made_holds}

-- made `digits` keep their laws
pub digits_hold : (n : ℕ) (list : List ℕ) (r : Result Kind MakingFault) → Makes kind_meaning r (digits_made n list) → IfOk r (λ k. DigitsLaws list (kind_meaning k).rows)
digits_hold n list r made = made_holds (DigitsLaws list) (radices_fit n list) (digits list) n false r made (digits_laws list)

-- made `gray` rows keep theirs
pub gray_hold : (n : ℕ) (list : List ℕ) (r : Result Kind MakingFault) → Makes kind_meaning r (gray_made n list) → IfOk r (λ k. GrayLaws list (kind_meaning k).rows)
gray_hold n list r made = made_holds (GrayLaws list) (radices_fit n list) (gray list) n true r made (gray_laws list)

-- made `choose` rows keep theirs
pub choose_hold : (n t : ℕ) (r : Result Kind MakingFault) → Makes kind_meaning r (choose_made n t) → IfOk r (λ k. ChooseLaws n t (kind_meaning k).rows)
choose_hold n t r made = made_holds (ChooseLaws n t) (choice_fits n t) (choose n t) n false r made (choose_laws n t)

-- made `door` rows keep theirs
pub door_hold : (n t : ℕ) (r : Result Kind MakingFault) → Makes kind_meaning r (door_made n t) → IfOk r (λ k. DoorLaws n t (kind_meaning k).rows)
door_hold n t r made = made_holds (DoorLaws n t) (choice_fits n t) (door n t) n true r made (door_laws n t)
