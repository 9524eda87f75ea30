use Rattle.std.proofs.Common.{◌≤◌, ◌∙◌, map, refl, ap, rules}
use Rattle.std.proofs.lemmas.Iterator.{YieldsList-from_slice, YieldsList-from_map}
use Rattle.std.proofs.lemmas.List.{map-id}
use Rattle.std.proofs.lemmas.List.Elements.{All-from_get_or}
use Rattle.kinds.specs.Counts.{counted}
use Rattle.kinds.specs.Lists.{product}
use Rattle.kinds.specs.Radices.{between_at}
use Rattle.kinds.proofs.Folds.{runs_of}
use Rattle.kinds.proofs.levels.count_rows.Goals as goal

pub returns : goal.returns
returns c =
    let radices = c.args.radices.now in
    c.count_product.ensures (map (λ x. x) radices) (runs_of (YieldsList-from_map {s = c.map.result} _ (λ x. x) (YieldsList-from_slice radices cc) refl (λ x r q k. search rules)))
    (rw map-id (All-from_get_or (λ x. 1 ≤ x) radices 0 (λ i lt. (between_at 1 255 radices i c.requires lt).0)))
    ∙ ap (λ factors. counted (product factors)) (map-id radices)
