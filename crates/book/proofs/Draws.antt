-- Where a printer's next label comes from.
use Rattle.std.proofs.Common.{◌≡◌, ℕ, ◌+◌, ◌-◌, ◌<◌, ◌≤◌, false, eqb, List, [], ◌∷◌, length, get_or, set, is_some, Some, None, Option, sym, refl, ap, ◌∙◌, subst, ⊎_elim, arith}
use Rattle.std.proofs.lemmas.List.{get_or_default, get_or-set_same, get_or-set_other, length-set}
use Rattle.std.proofs.lemmas.List.Sums.{count_by-le-length}
use Rattle.std.proofs.lemmas.Bool.{cond_both, eqb-true, eqb-false, cases_eq, true≢false}
use Rattle.book.specs.Calls.{next_draw, last_of_longest, Drawable, lanes_after, waiting_after}
use Rattle.book.specs.Lanes.{no_lane, lane_at, left, longest, hands, undrawn, without_first, without_last}
use Rattle.book.specs.declared.draw.Draw.{Draw}
use Rattle.book.specs.declared.draw.Source.{Source}
use Rattle.book.specs.declared.draw.Source.TheVariants.{Waiting, Front, Back}
use Rattle.book.specs.declared.lane.Lane.{Lane}
use Rattle.book.specs.declared.ledger.Ledger.{Ledger}
use Rattle.book.proofs.Accounts.{Drawn, Recounted, rehanded, lane_read, first_drawn, last_drawn, filled}
use Rattle.book.proofs.Longest.{longest_within}

-- The three ways to a next label: the oldest waiting one, the first of the own lane, the last of the longest lane.
pub data Drew (waiting : List ℕ) (lanes : List Lane) (i : ℕ) (d : Draw) : Type 0 where
  oldest : (rest : List ℕ) → waiting ≡ d.label ∷ rest → d.from ≡ Waiting → Drew waiting lanes i d
  first : waiting ≡ [] → 0 < left (lane_at lanes i) → d.label ≡ (lane_at lanes i).next → d.from ≡ Front i → Drew waiting lanes i d
  last : waiting ≡ [] → left (lane_at lanes i) ≡ 0 → 0 < left (lane_at lanes (longest lanes)) →
      d.label ≡ (lane_at lanes (longest lanes)).end - 1 → d.from ≡ Back (longest lanes) → Drew waiting lanes i d

-- every next label comes by one of them
pub drew : (waiting : List ℕ) (lanes : List Lane) (i : ℕ) (d : Draw) → next_draw waiting lanes i ≡ Some d → Drew waiting lanes i d
drew (label ∷ rest) lanes i d = λ e.
    let same : record { label = label; from = Waiting } ≡ d = cc in
    oldest rest (ap (λ (z : Draw). z.label ∷ rest) same) (sym (ap (λ (z : Draw). z.from) same))
drew [] lanes i d =
    cond_both (eqb (left (lane_at lanes i)) 0) (last_of_longest lanes) (Some (record { label = (lane_at lanes i).next; from = Front i })) (λ r. r ≡ Some d → Drew [] lanes i d)
    (λ none. by_last (eqb-true (left (lane_at lanes i)) 0 none))
    (λ some e. first refl (omega (arith, eqb-false (left (lane_at lanes i)) 0 some)) (sym (ap (λ (z : Draw). z.label) (unwrap e))) (sym (ap (λ (z : Draw). z.from) (unwrap e))))
  where
    unwrap : {x : Draw} → Some x ≡ Some d → x ≡ d
    unwrap e = cc

    by_last : left (lane_at lanes i) ≡ 0 → last_of_longest lanes ≡ Some d → Drew [] lanes i d
    by_last none =
        cond_both (eqb (left (lane_at lanes (longest lanes))) 0) None (Some (record { label = (lane_at lanes (longest lanes)).end - 1; from = Back (longest lanes) }))
        (λ r. r ≡ Some d → Drew [] lanes i d)
        (λ _ e. absurd (let z : ◌≡◌ {A = ℕ} 0 1 = cc in omega arith))
        (λ some e. last refl none (omega (arith, eqb-false (left (lane_at lanes (longest lanes))) 0 some)) (sym (ap (λ (z : Draw). z.label) (unwrap e)))
        (sym (ap (λ (z : Draw). z.from) (unwrap e))))

-- where it comes from has a label to draw
pub drew_drawable : (waiting : List ℕ) (lanes : List Lane) (i : ℕ) (d : Draw) → i < length lanes → Drew waiting lanes i d → Drawable d.from lanes
drew_drawable waiting lanes i d h (oldest rest e from) = subst (λ s. Drawable s lanes) (sym from) tt
drew_drawable waiting lanes i d h (first e some label from) = subst (λ s. Drawable s lanes) (sym from) (h, some)
drew_drawable waiting lanes i d h (last e none some label from) = subst (λ s. Drawable s lanes) (sym from) (longest_within lanes (omega arith), some)

-- a record with the hand that stood there leaves all hands as they were
pub hand_set : (lanes : List Lane) (i j : ℕ) (y : Lane) → j < length lanes → y.hand ≡ (lane_at lanes j).hand → (lane_at (set lanes j y) i).hand ≡ (lane_at lanes i).hand
hand_set lanes i j y h same =
    ⊎_elim
    (λ e. subst (λ k. (lane_at (set lanes j y) k).hand ≡ (lane_at lanes k).hand) (sym e) (ap (λ (z : Lane). z.hand) (get_or-set_same lanes j y no_lane h) ∙ same))
    (λ other. ap (λ (z : Lane). z.hand) (get_or-set_other lanes j i y no_lane other))
    (cases_eq i j)

-- What is counted once a printer has its next label: one hand more, and one label less among the waiting ones and in lanes.
pub record Given (waiting waiting' : List ℕ) (lanes lanes' : List Lane) : Type 0 where
  pub in_hands : hands lanes' ≡ hands lanes + 1
  pub elsewhere : length waiting' + undrawn lanes' + 1 ≡ length waiting + undrawn lanes
  pub outside : hands lanes + length waiting ≤ length lanes → hands lanes' + length waiting' ≤ length lanes'

-- a label from a lane, where nothing waits
from_lane : (lanes lanes' lanes'' : List Lane) → Drawn lanes lanes' → Recounted lanes' lanes'' 0 1 → Given [] [] lanes lanes''
from_lane lanes lanes' lanes'' less more = record {
  in_hands = omega arith;
  elsewhere = omega arith;
  outside = λ _. omega (arith, count_by-le-length (λ lane. is_some lane.hand) lanes'');
}

-- the hand of a known printer is empty where its record is
empty_read : (lanes : List Lane) (i : ℕ) (x : Lane) → i < length lanes → (lane_at lanes i).hand ≡ None → x ≡ get_or lanes i x → x.hand ≡ None
empty_read lanes i x h empty at = sym (ap (λ (z : Lane). z.hand) (lane_read lanes i x h at)) ∙ empty

-- the oldest waiting label goes into an empty hand
given_oldest : (label : ℕ) (rest : List ℕ) (lanes : List Lane) (i : ℕ) (x : Lane) → i < length lanes → (lane_at lanes i).hand ≡ None → x ≡ get_or lanes i x →
    Given (label ∷ rest) rest lanes (set lanes i (rehanded x (Some label)))
given_oldest label rest lanes i x h empty at =
    let more = filled lanes i label x h at (empty_read lanes i x h empty at) in
    record { in_hands = omega arith; elsewhere = omega arith; outside = λ enough. omega (arith, length-set lanes i (rehanded x (Some label))) }

-- the first label of the own lane goes into an empty hand
given_first : (label : ℕ) (lanes : List Lane) (i : ℕ) (x : Lane) → i < length lanes → 0 < left (lane_at lanes i) → (lane_at lanes i).hand ≡ None →
    x ≡ get_or (without_first i lanes) i x → Given [] [] lanes (set (without_first i lanes) i (rehanded x (Some label)))
given_first label lanes i x h some empty at =
    let long = length-set lanes i (record { next = (lane_at lanes i).next + 1; end = (lane_at lanes i).end; hand = (lane_at lanes i).hand }) in
    let less = first_drawn lanes i (lane_at lanes i) (get_or_default lanes i no_lane (lane_at lanes i) h) (h, some) in
    let same = hand_set lanes i i (record { next = (lane_at lanes i).next + 1; end = (lane_at lanes i).end; hand = (lane_at lanes i).hand }) h refl in
    let within : i < length (without_first i lanes) = omega arith in
    let more = filled (without_first i lanes) i label x within at (empty_read (without_first i lanes) i x within (same ∙ empty) at) in
    from_lane lanes (without_first i lanes) (set (without_first i lanes) i (rehanded x (Some label))) less more

-- the last label of a lane goes into an empty hand
given_last : (label j : ℕ) (lanes : List Lane) (i : ℕ) (x : Lane) → i < length lanes → j < length lanes → 0 < left (lane_at lanes j) → (lane_at lanes i).hand ≡ None →
    x ≡ get_or (without_last j lanes) i x → Given [] [] lanes (set (without_last j lanes) i (rehanded x (Some label)))
given_last label j lanes i x h known some empty at =
    let long = length-set lanes j (record { next = (lane_at lanes j).next; end = (lane_at lanes j).end - 1; hand = (lane_at lanes j).hand }) in
    let less = last_drawn lanes j (lane_at lanes j) (get_or_default lanes j no_lane (lane_at lanes j) known) (known, some) in
    let same = hand_set lanes i j (record { next = (lane_at lanes j).next; end = (lane_at lanes j).end - 1; hand = (lane_at lanes j).hand }) known refl in
    let within : i < length (without_last j lanes) = omega arith in
    let more = filled (without_last j lanes) i label x within at (empty_read (without_last j lanes) i x within (same ∙ empty) at) in
    from_lane lanes (without_last j lanes) (set (without_last j lanes) i (rehanded x (Some label))) less more

-- what is counted once a label has come from a source
abbrev GivenFrom : List ℕ → List Lane → ℕ → ℕ → Lane → Source → Type 0
GivenFrom waiting lanes i label x source =
    x ≡ get_or (lanes_after source lanes) i x → Given waiting (waiting_after source waiting) lanes (set (lanes_after source lanes) i (rehanded x (Some label)))

-- wherever a label comes from, the hand that gets it keeps the counts right
pub given : (waiting : List ℕ) (lanes : List Lane) (i : ℕ) (d : Draw) (x : Lane) → i < length lanes → (lane_at lanes i).hand ≡ None → Drew waiting lanes i d →
    GivenFrom waiting lanes i d.label x d.from
given waiting lanes i d x h empty (oldest rest e from) =
    subst (GivenFrom waiting lanes i d.label x) (sym from) (subst (λ w. GivenFrom w lanes i d.label x Waiting) (sym e) (given_oldest d.label rest lanes i x h empty))
given waiting lanes i d x h empty (first e some label from) =
    subst (GivenFrom waiting lanes i d.label x) (sym from) (subst (λ w. GivenFrom w lanes i d.label x (Front i)) (sym e) (given_first d.label lanes i x h some empty))
given waiting lanes i d x h empty (last e none some label from) =
    subst (GivenFrom waiting lanes i d.label x) (sym from) (subst (λ w. GivenFrom w lanes i d.label x (Back (longest lanes))) (sym e)
    (given_last d.label (longest lanes) lanes i x h (longest_within lanes (omega arith)) some empty))

-- an option that is not some is none
pub none_from : (o : Option ℕ) → is_some o ≡ false → o ≡ None
none_from None e = refl
none_from (Some l) e = absurd (true≢false e)

-- the same with lists that are equal to these
pub given_at : (waiting waiting' : List ℕ) (lanes lanes' : List Lane) (i : ℕ) (d : Draw) (x : Lane) → i < length lanes → is_some (lane_at lanes i).hand ≡ false →
    next_draw waiting lanes i ≡ Some d → lanes' ≡ lanes_after d.from lanes → waiting' ≡ waiting_after d.from waiting → x ≡ get_or lanes' i x →
    Given waiting waiting' lanes (set lanes' i (rehanded x (Some d.label)))
given_at waiting waiting' lanes lanes' i d x h empty e same_lanes same_waiting =
    subst (λ (w : List ℕ). x ≡ get_or lanes' i x → Given waiting w lanes (set lanes' i (rehanded x (Some d.label)))) (sym same_waiting)
    (subst (λ (ls : List Lane). x ≡ get_or ls i x → Given waiting (waiting_after d.from waiting) lanes (set ls i (rehanded x (Some d.label)))) (sym same_lanes)
    (given waiting lanes i d x h (none_from (lane_at lanes i).hand empty) (drew waiting lanes i d e)))

-- what a ledger keeps, once the printer's record has come into the lanes
pub still_kept : (before after : Ledger) (lanes : List Lane) → Given before.waiting.items after.waiting.items before.lanes.items lanes →
    length lanes ≡ length after.lanes.items → after.bench ≡ before.bench →
    (after.bench + hands lanes + after.waiting.len + undrawn lanes ≤ 4294967295) × (hands lanes + after.waiting.len ≤ after.lanes.len)
still_kept before after lanes counts long bench =
    let outside = counts.outside (omega (arith, before.out, before.lanes.ok.0, before.waiting.ok.0)) in
    (omega (arith, before.few, before.waiting.ok.0, after.waiting.ok.0), omega (arith, after.lanes.ok.0, after.waiting.ok.0))
