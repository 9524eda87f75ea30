use Rattle.std.proofs.Common.{◌≡◌, suc, ◌+◌, ◌-◌, ◌<◌, min, length, take, drop, sum, ap, ◌∙◌, ap₂, rules, arith}
use Rattle.kinds.specs.WayCounts.{slice_fits, total_slice}
use Rattle.kinds.proofs.ways.Ways.sum_with.Goals as goal

pub sum-requires-clause-fits : goal.sum-requires-clause-fits
sum-requires-clause-fits c =
    let first = c.saturating_sub-first.result in
    let fits : sum c.iter.result.rest.now < 18446744073709551616 = rw c.iter.ensures.rest (slice_fits c.args.self.now.counts first _ c.args.self.now.few (omega arith)) in
    search rules

pub returns : goal.returns
returns c =
    let counts = c.args.self.now.counts in
    let sum_to = c.args.sum in
    let k = suc (min c.args.most sum_to) in
    let long : length counts ≡ 33 = search rules in
    let all : c.sum.result ≡ sum c.iter.result.rest.now = search rules in
    let start : c.saturating_sub-first.result ≡ suc sum_to - k = omega (arith, c.saturating_sub-first.ensures, c.from.ensures) in
    let size : sum_to + 1 - c.saturating_sub-first.result ≡ k = omega (arith, start) in
    c.min.ensures
    ∙ ap (λ n. min n 4294967296) (all ∙ ap sum (c.iter.ensures.rest ∙ ap₂ (λ n a. take n (drop a counts)) size start) ∙ total_slice counts k sum_to (omega arith) (omega (arith, long)))
