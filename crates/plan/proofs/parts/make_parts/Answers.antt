use Rattle.std.proofs.Common.{◌≡◌, List, ℕ, length, Ok, vec_items, sym, ap, ◌∙◌, arith}
use Rattle.kinds.specs.Kinds.{kind_meaning}
use Rattle.text.specs.Coming.{coming}
use Rattle.plan.specs.Format.{Head, each, entry_read, head_made, part_made, numbered, line_made}
use Rattle.plan.specs.Reading.{head_read, meanings}
use Rattle.plan.proofs.Gathers.{also, each_more, each_done}
use Rattle.plan.proofs.Made.{part_read, parts_more}
use Rattle.plan.proofs.parts.make_parts.Goals as goal

pub loop-piece-preserved : goal.loop-piece-preserved
loop-piece-preserved c =
    let read = c.loop-piece.invariant.2 in (
      tt,
      tt,
      each_more
          entry_read
          _
          (vec_items c.loop-piece.list)
          c.in-Some-piece.piece.now
          (coming c.next-in-loop-piece.new.self)
          c.in-Some-number.x
          _
          (read ∙ ap (λ ps. also (vec_items c.loop-piece.list) (each entry_read ps)) c.in-Some-piece.ensures.steps)
          (let is = sym c.in-Some-number.ensures in simp is)
          c.in_ok-push.ensures.items,
    )

pub loop-line-preserved : goal.loop-line-preserved
loop-line-preserved c =
    let head : Head = head_read c.in-Some-of.head in
    let items : List ℕ = vec_items c.loop-piece.list in
    let steps = c.in-Some.ensures.steps in
    let before = c.loop-line.invariant in
    let read : each entry_read head.entries ≡ Ok items = each_done entry_read _ items (coming c.loop-piece.piece-iterator) c.in-None-piece.ensures.steps.0 c.loop-piece.invariant.2 in
    let held = c.deref.ensures.value in
    let made : head_made head items ≡ Ok (kind_meaning c.in-Ok.kind) = rw held at c.in-Ok.ensures in
    let part : part_made c.in-Some.bytes.now ≡ Ok (kind_meaning c.in-Ok.kind) = part_read c.in-Some.bytes.now head items c.in-Some-of.ensures read ∙ made in
    let more = parts_more _ (vec_items c.loop-line.made) c.loop-line.line-iterator.a.start _ before.4 (vec_items c.push-in-Ok.new.self) c.in-Ok.kind c.in-Some.bytes.now (coming c.next.new.self.b) steps.1 part c.in_ok-push-in-Ok.ensures.items in (
      (tt, tt),
      tt,
      steps.0.0 ∙ before.2,
      omega (arith, ap length steps.1),
      more
          ∙ ap (λ n. also (meanings (vec_items c.push-in-Ok.new.self)) (each line_made (numbered n (coming c.next.new.self.b)))) (sym steps.0.1.2),
    )
