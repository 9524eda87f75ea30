use Rattle.std.proofs.Common.{◌≡◌, ◌++◌, string_bytes, codes}
use Rattle.std.specs.List.{range_with_len, flat_map}
use Rattle.walk.specs.Meaning.{row, standing}
use Rattle.listing.specs.Texts.{line_text}
use Rattle.listing.proofs.listing.Given as goal

abbrev pub invariant-loop-label : goal.invariant-loop-label
invariant-loop-label g l =
    let m = g.W.Walk.meaning l.initial.walk in
    (standing (g.W.Walk.meaning l.walk) 0 ≡ standing m 0)
    × (string_bytes l.out ≡ codes "label,row\n" ++ flat_map (λ label. line_text label (row m label)) (range_with_len 0 l.label))
