use Rattle.std.proofs.Common.{rules}
use Rattle.trial.proofs.Decimals.{numbers}
use Rattle.trial.proofs.number.number.Goals as goal

pub returns-in_default-clause-decimal : goal.returns-in_default-clause-decimal
returns-in_default-clause-decimal c = numbers c.args.bytes.now c.decimal.result (search rules)
