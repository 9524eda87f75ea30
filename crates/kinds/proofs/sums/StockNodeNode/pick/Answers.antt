use Rattle.std.proofs.Common.{◌+◌, ◌-◌, ◌∙◌, ap, sym, subst, arith}
use Rattle.std.proofs.lemmas.Iterator.Adapters.{YieldsList-from_rev_slice}
use Rattle.std.proofs.lemmas.Iterator.Consumers.{YieldsList-at, YieldsList-from_copied}
use Rattle.std.specs.Slice.Iter.{iter_rest}
use Rattle.kinds.specs.Nodes.{Begins}
use Rattle.kinds.proofs.Folds.{runs_of}
use Rattle.kinds.proofs.SumTree.{row_picks}
use Rattle.kinds.proofs.sums.StockNodeNode.pick.Goals as goal

pub returns : goal.returns
returns c =
    let self = c.args.self.now in
    let falls = c.falls_in.ensures _ (runs_of (YieldsList-from_copied (YieldsList-at c.copied.ensures.source (YieldsList-from_rev_slice _ (ap iter_rest c.rev.ensures.source ∙ c.iter.ensures.rest))))) in
    let begins = row_picks self c.requires.inner (c.from.result + 1) (omega (arith, c.from.ensures)) c.args.label _ c.falls_in.result falls c.from-2.ensures c.requires.listed in
    subst (Begins _ c.args.label) (sym c.unwrap_or.ensures) begins
