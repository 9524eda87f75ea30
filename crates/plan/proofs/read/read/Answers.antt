use Rattle.std.proofs.cmp.Tests.{ltb_from_iff}
use Rattle.std.proofs.Common.{◌≡◌, Option, Some, IfSome, subst, true, false, map, length, Err, codes, sym, ap, ◌∙◌, inl}
use Rattle.std.proofs.lemmas.Result.{err_from_is_err_and}
use Rattle.kinds.specs.Kinds.{kind_meaning}
use Rattle.faults.specs.Faults.{fault as lined}
use Rattle.faults.specs.declared.Cause.TheVariants.{Names}
use Rattle.std.specs.Option.{option_map}
use Rattle.plan.specs.declared.field.Lines.{Lines as LinesHeld}
use Rattle.plan.specs.Format.{then, lines_of_text, all_joined}
use Rattle.plan.specs.Reading.{lines_read, plan_meaning}
use Rattle.plan.proofs.Plans.{few_parts, plan_other_names, plan_of_parts, plan_part_fault, next_is, three_drawn, joins_given}
use Rattle.plan.proofs.Words.{same_from_ne}
use Rattle.plan.proofs.read.read.Goals as goal
use Rattle.plan.proofs.read.read.Goals.{In_ok-lines}

-- the lines that the text has
had : (c : In_ok-lines) → Some (lines_read c.in_ok-lines.lines) ≡ lines_of_text c.args.text.now
had c = ap (option_map lines_read) (sym c.in_ok-lines.ensures.ok_part) ∙ c.of.ensures.parts

pub make_parts-requires : goal.make_parts-requires
make_parts-requires c = record { few = few_parts c.args.text.now _ (had (goal.at.make_parts-requires c).In_ok-lines) }

pub returns-then-ne : goal.returns-then-ne
returns-then-ne c =
    inl (plan_other_names c.args.text.now _ (had (goal.at.returns-then-ne c).In_ok-lines) (same_from_ne _ _ (codes "kind,n,t,list") c.ne.result false c.ne.ensures c.as_slice.ensures c.if-ne.true)
    ∙ ap Err (sym (c.fault.ensures ∙ ap (λ line. lined Names line) (subst (λ (o : Option LinesHeld). IfSome o (λ l. l.names.line ≡ 1)) c.in_ok-lines.ensures.ok_part c.of.ensures.placed))))

pub returns-in_err-make_parts : goal.returns-in_err-make_parts
returns-in_err-make_parts c =
    let fault = err_from_is_err_and c.from_residual-in_err-make_parts.result c.from_residual-in_err-make_parts.ensures.1 in
    plan_part_fault c.args.text.now _ (had (goal.at.returns-in_err-make_parts c).In_ok-lines) plan_meaning (same_from_ne _ _ (codes "kind,n,t,list") c.ne.result true c.ne.ensures c.as_slice.ensures c.if-ne.false)
    c.from_residual-in_err-make_parts.result _ fault.0 fault.1 fault.2 c.in_err-make_parts.ensures

pub returns : goal.returns
returns c =
    let one = next_is kind_meaning _ _ _ _ c.next.result (c.into_iter-parts.ensures.len ∙ c.in_ok-make_parts.field-0.ok.0 ∙ ap length (sym c.into_iter-parts.ensures.rest)) c.next.ensures.items (ltb_from_iff c.next.ensures.variant) c.next.ensures.len in
    let two = next_is kind_meaning _ _ _ _ c.next-2.result one.long c.next-2.ensures.items (ltb_from_iff c.next-2.ensures.variant) c.next-2.ensures.len in
    let three = next_is kind_meaning _ _ _ _ c.next-3.result two.long c.next-3.ensures.items (ltb_from_iff c.next-3.ensures.variant) c.next-3.ensures.len in
    joins_given plan_meaning c.join_parts.result _
    (c.join_parts.ensures
    ∙ three_drawn kind_meaning c.into_iter-parts.result.rest.items _ _ _ _ _ _ _ _ one.others two.others c.in_ok-first.ensures one.first c.in_ok-second.ensures two.first c.in_ok-third.ensures three.first
    ∙ ap (λ items. all_joined (map kind_meaning items)) c.into_iter-parts.ensures.rest
    ∙ sym (plan_of_parts c.args.text.now _ (had (goal.at.returns c).In_ok-lines) (same_from_ne _ _ (codes "kind,n,t,list") c.ne.result true c.ne.ensures c.as_slice.ensures c.if-ne.false)
    ∙ ap (λ made. then made all_joined) c.in_ok-make_parts.ensures))
