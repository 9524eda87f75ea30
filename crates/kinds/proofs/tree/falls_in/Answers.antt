use Rattle.std.proofs.Common.{◌≡◌, sum, ap, sym, subst, arith}
use Rattle.std.specs.Iterator.{AlwaysYields}
use Rattle.std.specs.Iterator.Adapters.{enumerate_source}
use Rattle.kinds.proofs.Falls.{turn_of, end_of}
use Rattle.kinds.proofs.tree.falls_in.Goals as goal

pub returns-then-rest-count : goal.returns-then-rest-count
returns-then-rest-count g c list gives =
    let source : enumerate_source c.into_iter-value-iterator.result ≡ c.args.counts = cc in
    let counts = subst (λ s. AlwaysYields g.I.Iterator.next_gives (λ x. x) s list) (sym source) gives in
    let turn = turn_of g.I.Iterator.next_gives list _ counts (cc) c.loop-value.yielded _ c.loop-value.yielded_by _ _ c.next.ensures.steps c.in-Some.value c.in-Some.count c.in-Some.is in
    let taken = c.loop-value.invariant.taken list counts in
    (turn.0, omega (arith, taken, turn.1), omega (arith, taken, turn.2, c.if-rest-count.true))

pub loop-value-preserved : goal.loop-value-preserved
loop-value-preserved g c =
    let goes = c.in-Some.ensures.goes.on c.loop-value.invariant.finite in
    record {
      can = goes.0;
      finite = goes.1;
      few = omega (arith, c.loop-value.invariant.few, goes.2, c.in-Some.ensures.steps);
      taken = λ list counts.
          let turn = turn_of g.I.Iterator.next_gives list _ counts (cc) c.loop-value.yielded _ c.loop-value.yielded_by _ _ c.next.ensures.steps c.in-Some.value c.in-Some.count c.in-Some.is in
          omega (arith, c.loop-value.invariant.taken list counts, turn.3, c.if-rest-count.false);
    }

pub returns : goal.returns
returns g c list gives =
    let source : enumerate_source c.into_iter-value-iterator.result ≡ c.args.counts = cc in
    let counts = subst (λ s. AlwaysYields g.I.Iterator.next_gives (λ x. x) s list) (sym source) gives in
    let all = end_of g.I.Iterator.next_gives list _ counts (cc) c.loop-value.yielded _ c.loop-value.yielded_by _ _ c.next.ensures.steps c.in-None.is in
    omega (arith, c.loop-value.invariant.taken list counts, ap sum all)
