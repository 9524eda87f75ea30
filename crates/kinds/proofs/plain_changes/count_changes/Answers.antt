use Rattle.std.proofs.Common.{◌∙◌}
use Rattle.kinds.proofs.Products.{rising_counted}
use Rattle.kinds.proofs.plain_changes.count_changes.Goals as goal

pub returns : goal.returns
returns c = rising_counted c.args.n c.new.result c.count_product.result c.count_product.ensures c.new.ensures.start (c.new.ensures.end ∙ c.from.ensures) c.new.ensures.exhausted
