use Rattle.std.proofs.Common.{ap}
use Rattle.kinds.specs.Laws.{WordsLaws}
use Rattle.kinds.specs.Lists.{words}
use Rattle.kinds.specs.Words.{words_laws}
use Rattle.kinds.proofs.Made.{rows_hold}
use Rattle.kinds.proofs.kind.Kind.words.Goals as goal

pub returns-clause-laws : goal.returns-clause-laws
returns-clause-laws c = rows_hold (WordsLaws c.args.list.now) c.new.result _ _ _ _ c.new.ensures (ap words c.in_ok-counts.ensures.2.0) (words_laws c.args.list.now)
