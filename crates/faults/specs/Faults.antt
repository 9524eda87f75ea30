-- The numbers by which faults of a plan text are told, and the layers that find them. Assumes nothing.
use Rattle.std.specs.Prelude.{ℕ, List, Some, codes, Option}
use Rattle.walk.specs.Making.{making_number}
use Rattle.joins.specs.Fault.{join_number}
use Rattle.faults.specs.declared.PartFault.TheVariants.{Form, Making}
use Rattle.faults.specs.declared.Cause.{Cause}
use Rattle.faults.specs.declared.Cause.TheVariants.{Text, Names, Part, Join}
use Rattle.faults.specs.declared.Layer.{Layer}
use Rattle.faults.specs.declared.Layer.TheVariants.{Text as TextLayer, Part as PartLayer, Join as JoinLayer}
use Rattle.faults.specs.declared.PlanFault.{PlanFault}

-- a fault of form is the text's, and those of making and joining have their own numbers
abbrev pub cause_number : Cause → Option ℕ
cause_number Text = Some 15
cause_number Names = Some 13
cause_number (Part Form) = Some 14
cause_number (Part (Making fault)) = making_number fault
cause_number (Join fault) = join_number fault

-- who found the fault: the reader of the text, the maker of a kind, or that of a join
abbrev pub cause_layer : Cause → Layer
cause_layer Text = TextLayer
cause_layer Names = TextLayer
cause_layer (Part Form) = TextLayer
cause_layer (Part (Making fault)) = PartLayer
cause_layer (Join fault) = JoinLayer

-- the word for a layer
abbrev pub layer_text : Layer → List ℕ
layer_text TextLayer = codes "text"
layer_text PartLayer = codes "part"
layer_text JoinLayer = codes "join"

-- a cause with the line on which it stands
abbrev pub fault : Cause → ℕ → PlanFault
fault cause line = record { cause = cause; line = line }
