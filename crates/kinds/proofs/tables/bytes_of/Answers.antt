use Rattle.std.proofs.Common.{◌<◌, rules, arith}
use Rattle.std.proofs.lemmas.Iterator.{YieldsList-from_slice}
use Rattle.std.proofs.lemmas.Iterator.Adapters.{serves_from_places}
use Rattle.std.proofs.lemmas.List.Sums.{get_or-le-sum_by}
use Rattle.kinds.proofs.tables.bytes_of.Goals as goal

pub collect-requires-clause-can : goal.collect-requires-clause-can
collect-requires-clause-can c =
    let counts = c.args.counts.now in
    (tt, serves_from_places (YieldsList-from_slice counts cc) (λ x q k. search rules) (λ x k lt at. let small : x.now < 256 = omega (arith, at, c.requires, get_or-le-sum_by (λ n. n) counts k x.now lt) in search rules))
