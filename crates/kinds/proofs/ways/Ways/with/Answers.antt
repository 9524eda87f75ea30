use Rattle.std.proofs.Common.{◌≤◌, sym, subst, rules}
use Rattle.std.specs.List.{All}
use Rattle.kinds.specs.Bins.{count_with, counts_with}
use Rattle.kinds.specs.WayCounts.{with_few}
use Rattle.kinds.proofs.Folds.{given_each}
use Rattle.kinds.proofs.ways.Ways.with.Goals as goal

pub invariant_of-result : goal.invariant_of-result
unfolding counts_with
invariant_of-result c =
    let most = c.args.most in
    let counts = c.args.self.now.counts in
    let all = given_each _ _ (count_with most counts) 33 (λ s y q small call. search rules) c.from_fn.result c.from_fn.ensures.items 0 in
    record { few = subst (All (λ n. n ≤ 4294967296)) (sym all) (with_few most counts) }

pub returns : goal.returns
unfolding counts_with
returns c = given_each _ _ (count_with c.args.most c.args.self.now.counts) 33 (λ s y q small call. search rules) c.from_fn.result c.from_fn.ensures.items 0
