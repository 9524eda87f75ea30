use Rattle.std.proofs.Common.{◌≡◌, length, inl, ap, ◌∙◌, arith}
use Rattle.text.specs.Coming.{coming}
use Rattle.text.specs.Pieces.{pieces}
use Rattle.samples.proofs.Counted.{few_pieces}
use Rattle.samples.proofs.main.Goals as goal

-- there are few enough lines to count them
pub loop-i-init : goal.loop-i-init
loop-i-init c =
    let items = c.into_iter-i-iterator in
    let none : items.result.count ≡ 0 = ap (λ e. e.count) items.ensures.into_iter_gives ∙ c.enumerate-i-items.ensures.count in
    let lines : length (coming items.result.iter) ≡ length (pieces 10 c.deref.result.now) =
    ap (λ s. length (coming s)) (ap (λ e. e.iter) items.ensures.into_iter_gives ∙ c.enumerate-i-items.ensures.source) ∙ ap length c.new.ensures in
    ((tt, tt, inl (omega (arith, none, lines, few_pieces 10 c.deref.result.now, c.deref.ensures.len, c.read_to_end.new.buf.small, c.read_to_end.new.buf.ok))), tt)
