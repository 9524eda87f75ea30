-- How what the code holds stands to the format. Assumes nothing.
use Rattle.std.specs.Prelude.{◌≡◌, ℕ, ◌⊎◌, List, map, Ok, Err, Result}
use Rattle.walk.specs.Meaning.{Meaning}
use Rattle.walk.specs.declared.making.MakingFault.TheVariants.{NoMemory}
use Rattle.kinds.specs.Kinds.{kind_meaning}
use Rattle.kinds.specs.declared.kind.Kind.{Kind}
use Rattle.joins.specs.Join.{join_meaning}
use Rattle.joins.specs.declared.join.Join.{Join}
use Rattle.faults.specs.declared.Cause.TheVariants.{Part as PartCause}
use Rattle.faults.specs.declared.PartFault.{PartFault}
use Rattle.faults.specs.declared.PartFault.TheVariants.{Making}
use Rattle.faults.specs.declared.PlanFault.{PlanFault}
use Rattle.plan.specs.declared.field.Fields.{Fields as FieldsHeld}
use Rattle.plan.specs.declared.field.Lines.{Lines as LinesHeld}
use Rattle.plan.specs.declared.part.Head.{Head as HeadHeld}
use Rattle.text.specs.Coming.{coming}
use Rattle.plan.specs.Format.{Fields, Lines, Head}

-- the bytes of the lines
abbrev pub lines_read : LinesHeld → Lines
lines_read l = record { names = l.names.bytes.now; parts = coming l.parts }

-- the bytes of the fields
abbrev pub fields_read : FieldsHeld → Fields
fields_read f = record { kind = f.kind.bytes.now; n = f.n.bytes.now; t = f.t.bytes.now; list = f.list.bytes.now }

-- each field stands on the line
abbrev pub OnLine : ℕ → FieldsHeld → Type 0
OnLine line f = (f.kind.line ≡ line) × (f.n.line ≡ line) × (f.t.line ≡ line) × (f.list.line ≡ line)

-- what a part asks for, its list as it is still to be read
abbrev pub head_read : HeadHeld → Head
head_read h = record { kind = h.kind; n = h.n; t = h.t; entries = coming h.entries }

-- kinds as walks
abbrev pub meanings : List Kind → List Meaning
meanings kinds = map kind_meaning kinds

-- a plan as a walk
abbrev pub plan_meaning : Join Kind (Join Kind Kind) → Meaning
plan_meaning plan = join_meaning kind_meaning (join_meaning kind_meaning kind_meaning) plan

-- r is the kind that making gives, or its fault, or want of memory
abbrev pub MakesPart : {K : Type 0} → (K → Meaning) → Result K PartFault → Result Meaning PartFault → Type 0
MakesPart meaning (Ok k) given = given ≡ Ok (meaning k)
MakesPart meaning (Err e) given = (given ≡ Err e) ⊎ (e ≡ Making NoMemory)

-- want of memory, on whatever line
abbrev pub LacksMemory : PlanFault → Type 0
LacksMemory e = e.cause ≡ PartCause (Making NoMemory)

-- r is what s says, where `value` reads what r holds; or, whatever s says, r tells want of memory
abbrev pub Gives : {X Y : Type 0} → (X → Y) → Result X PlanFault → Result Y PlanFault → Type 0
Gives value (Ok x) s = s ≡ Ok (value x)
Gives value (Err e) s = (s ≡ Err e) ⊎ LacksMemory e
