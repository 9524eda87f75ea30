use Rattle.std.proofs.Common.{false, vec_items, refl, ap, ◌∙◌}
use Rattle.kinds.specs.Kinds.{kind_meaning, stocks_fit}
use Rattle.kinds.specs.Laws.{StockLaws}
use Rattle.kinds.specs.Lists.{ways, stock}
use Rattle.kinds.specs.Stock.{stock_length, stock_laws}
use Rattle.kinds.specs.declared.shape.Order.TheVariants.{Rising}
use Rattle.kinds.specs.declared.shape.Shape.TheVariants.{Sums}
use Rattle.kinds.proofs.Made.{walk_of_table, rows_hold}
use Rattle.kinds.proofs.MadeTables.{SumRows, stocks_fitting, stock_table}
use Rattle.kinds.proofs.kind.Kind.stock.Goals as goal

pub returns : goal.returns
returns c =
    let n = c.args.n in let t = c.args.t in let list = c.args.list.now in
    let told = c.in_ok-bins.ensures in
    let table = stock_table n t list (vec_items c.in_ok-bins.bins) told.0 told.2.0 in
    let same = ap (λ s. stock s t) table.same in
    let long = table.wide ∙ (stocks_fitting n t list told.0).long in
    record {
      made = walk_of_table (SumRows list t) kind_meaning (stocks_fit n t list) (stock list t) n false (ways list t) (stock_length list t) (c.in_ok-bins.bins, c.in_ok-bins.size) c.new.result (Sums c.in_ok-bins.bins t Rising) told c.new.ensures same long refl;
      laws = rows_hold (StockLaws list t) c.new.result _ _ _ _ c.new.ensures same (stock_laws list t);
    }
