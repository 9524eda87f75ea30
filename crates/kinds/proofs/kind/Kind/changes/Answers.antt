use Rattle.std.proofs.Common.{refl}
use Rattle.kinds.specs.Changes.{changes_laws}
use Rattle.kinds.specs.Laws.{ChangesLaws}
use Rattle.kinds.proofs.Made.{rows_hold}
use Rattle.kinds.proofs.kind.Kind.changes.Goals as goal

pub returns-clause-laws : goal.returns-clause-laws
returns-clause-laws c = rows_hold (ChangesLaws c.args.n) c.new.result _ _ _ _ c.new.ensures refl (changes_laws c.args.n)
