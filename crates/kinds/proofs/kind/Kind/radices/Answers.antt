use Rattle.std.proofs.Common.{vec_items, refl, ap}
use Rattle.kinds.specs.Kinds.{kind_meaning, radices_fit}
use Rattle.kinds.specs.Lists.{product}
use Rattle.kinds.specs.MixedRadix.{mixed_length}
use Rattle.kinds.specs.Shapes.{reflects, mixed}
use Rattle.kinds.specs.declared.shape.Shape.TheVariants.{Radices}
use Rattle.kinds.proofs.Made.{walk_of_table}
use Rattle.kinds.proofs.MadeTables.{RadixRows, radix_table}
use Rattle.kinds.proofs.kind.Kind.radices.Goals as goal

pub returns : goal.returns
returns c =
    let n = c.args.n in let list = c.args.list.now in let b = reflects c.args.order in
    let told = c.in_ok-levels.ensures in
    let table = radix_table n list (vec_items c.in_ok-levels.levels) told.0 told.2.0 in
    walk_of_table (RadixRows list) kind_meaning (radices_fit n list) (mixed b list) n b (product list) (mixed_length b list) (c.in_ok-levels.levels, c.in_ok-levels.size) c.new.result (Radices c.in_ok-levels.levels c.args.order) told c.new.ensures (ap (mixed b) table.same) table.width refl
