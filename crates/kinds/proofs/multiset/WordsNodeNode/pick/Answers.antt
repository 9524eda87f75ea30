use Rattle.std.proofs.Common.{map, ◌∙◌, refl, sym, subst, rules, arith}
use Rattle.std.proofs.lemmas.Iterator.{YieldsList-from_slice, YieldsList-from_map}
use Rattle.std.proofs.lemmas.Iterator.Consumers.{YieldsList-at}
use Rattle.std.proofs.lemmas.List.{map-id}
use Rattle.kinds.specs.Lists.{words_of}
use Rattle.kinds.specs.Nodes.{Begins}
use Rattle.kinds.proofs.Folds.{runs_of}
use Rattle.kinds.proofs.WordTree.{node_picks}
use Rattle.kinds.proofs.multiset.WordsNodeNode.pick.Goals as goal

pub returns : goal.returns
returns c =
    let self = c.args.self.now in
    let counts = self.counts.items in
    let gives = YieldsList-at c.map-counts.ensures.source (YieldsList-from_slice counts (c.iter.ensures.rest ∙ c.deref.ensures.0)) in
    let falls = c.falls_in.ensures (map (λ x. x) counts) (runs_of (YieldsList-from_map {s = c.map-counts.result} _ (λ x. x) gives refl (λ x r q k. search rules))) in
    let begins = node_picks self c.args.label _ _ c.falls_in.result falls (map-id counts) (cc (c.from.ensures, c.from-2.ensures, c.from-3.ensures)) c.requires.inner (omega (arith, self.known)) in
    subst (Begins (words_of self.left counts) c.args.label) (sym c.unwrap_or.ensures) begins
