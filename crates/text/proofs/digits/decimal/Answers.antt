use Rattle.std.proofs.Common.{rules}
use Rattle.text.proofs.Decimals.{tried}
use Rattle.text.proofs.digits.decimal.Goals as goal

pub returns : goal.returns
returns c = tried (λ i. i.rest.now) _ _ c.args.digits.now _ c.try_fold.result (search rules) (search rules) (search rules) c.iter.ensures.rest c.iter.ensures.runs c.try_fold.ensures.runs
