use Rattle.std.proofs.Common.{replicate, vec_items, sym, refl, ◌∙◌}
use Rattle.std.proofs.lemmas.Result.{err_from_is_err_and}
use Rattle.kinds.specs.Kinds.{kind_meaning, choice_fits}
use Rattle.kinds.specs.Lists.{ways}
use Rattle.kinds.specs.Shapes.{reflects, chosen}
use Rattle.kinds.specs.declared.shape.Shape.TheVariants.{Sums}
use Rattle.kinds.proofs.Made.{fault_goes_on, walk_of_table}
use Rattle.kinds.proofs.MadeTables.{SumRows, choice_table, choice_length}
use Rattle.kinds.proofs.kind.Kind.choices.Goals as goal

pub returns-in_err-bins : goal.returns-in_err-bins
returns-in_err-bins c =
    let n = c.args.n in let t = c.args.t in let b = reflects c.args.order in
    let fault = err_from_is_err_and c.from_residual.result c.from_residual.ensures.1 in
    fault_goes_on (SumRows (replicate n 1) t) kind_meaning (choice_fits n t) (chosen b n t) n b (ways (replicate n 1) t) (choice_length b n t) c.from_residual.result _ fault.0 fault.1 fault.2 c.in_err-bins.ensures

pub new-requires : goal.new-requires
new-requires c =
    let told = c.in_ok-bins.ensures in
    let table = choice_table (reflects c.args.order) c.args.n c.args.t (vec_items c.in_ok-bins.bins) c.in_ok-bins.size told.0 told.2 in
    record { holds = table.holds; counted = table.counted; wide = c.from.ensures ∙ sym table.wide }

pub returns : goal.returns
returns c =
    let n = c.args.n in let t = c.args.t in let b = reflects c.args.order in
    let told = c.in_ok-bins.ensures in
    let table = choice_table b n t (vec_items c.in_ok-bins.bins) c.in_ok-bins.size told.0 told.2 in
    walk_of_table (SumRows (replicate n 1) t) kind_meaning (choice_fits n t) (chosen b n t) n b (ways (replicate n 1) t) (choice_length b n t) (c.in_ok-bins.bins, c.in_ok-bins.size) c.new.result (Sums c.in_ok-bins.bins t c.args.order) told c.new.ensures table.same table.wide refl
