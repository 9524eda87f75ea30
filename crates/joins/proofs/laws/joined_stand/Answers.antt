use Rattle.joins.proofs.JoinedRows.{joined_laws}
use Rattle.joins.proofs.laws.joined_stand.Goals as goal

pub returns : goal.returns
returns c = joined_laws
