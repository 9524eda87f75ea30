-- What hands and lanes count when one record changes.
use Rattle.std.proofs.Common.{◌≡◌, ℕ, ◌+◌, ◌-◌, ◌<◌, cond, ltb, List, length, get_or, set, is_some, Some, None, Ok, Err, Option, Result, sym, refl, ap, ◌∙◌, subst, arith}
use Rattle.std.specs.Option.{ok_or}
use Rattle.std.proofs.lemmas.List.{get_or_read}
use Rattle.std.proofs.lemmas.List.Sums.{sum_by-set}
use Rattle.std.proofs.lemmas.Bool.{ltb-true, cond_both}
use Rattle.book.specs.Calls.{held, Drawable}
use Rattle.book.specs.Lanes.{no_lane, lane_at, left, hands, undrawn}
use Rattle.book.specs.declared.draw.Source.TheVariants.{Front, Back}
use Rattle.book.specs.declared.lane.Lane.{Lane}
use Rattle.book.specs.declared.refusal.BookRefusal.{BookRefusal}
use Rattle.book.specs.declared.refusal.BookRefusal.TheVariants.{UnknownPrinter, HandEmpty}

-- one for a hand that holds a label
abbrev pub holding : Option ℕ → ℕ
holding hand = cond (is_some hand) 1 0

-- x stands at i, and y comes into its place
pub hands_set : (lanes : List Lane) (i : ℕ) (x y : Lane) → i < length lanes → x ≡ get_or lanes i x → hands (set lanes i y) + holding x.hand ≡ hands lanes + holding y.hand
hands_set lanes i x y h e = subst (λ (z : Lane). hands (set lanes i y) + holding z.hand ≡ hands lanes + holding y.hand) (sym e) (sum_by-set (λ lane. holding lane.hand) lanes i y x h)

-- one lane in the place of another: what all lanes have left changes as these two do
pub undrawn_set : (lanes : List Lane) (i : ℕ) (x y : Lane) → i < length lanes → x ≡ get_or lanes i x → undrawn (set lanes i y) + left x ≡ undrawn lanes + left y
undrawn_set lanes i x y h e = subst (λ (z : Lane). undrawn (set lanes i y) + left z ≡ undrawn lanes + left y) (sym e) (sum_by-set left lanes i y x h)

-- a hand of which a label is told is that of a known printer, and holds the label
pub held_hand : (lanes : List Lane) (i label : ℕ) → held lanes i ≡ Ok label → (i < length lanes) × ((lane_at lanes i).hand ≡ Some label)
held_hand lanes i label =
    cond_both (ltb i (length lanes)) (ok_or (lane_at lanes i).hand HandEmpty) (Err UnknownPrinter) (λ r. r ≡ Ok label → (i < length lanes) × ((lane_at lanes i).hand ≡ Some label))
    (λ known e. (ltb-true i (length lanes) known, some_from_ok (lane_at lanes i).hand e))
    (λ unknown e. absurd (never_ok e))
  where
    some_from_ok : (hand : Option ℕ) → ok_or hand HandEmpty ≡ Ok label → hand ≡ Some label
    some_from_ok None e = absurd (let z : ◌≡◌ {A = ℕ} 0 1 = cc in omega arith)
    some_from_ok (Some l) e = cc

    never_ok : ◌≡◌ {A = Result ℕ BookRefusal} (Err UnknownPrinter) (Ok label) → ⊥
    never_ok e = let z : ◌≡◌ {A = ℕ} 0 1 = cc in omega arith

-- the record with another hand
abbrev pub rehanded : Lane → Option ℕ → Lane
rehanded x hand = record { next = x.next; end = x.end; hand = hand }

-- what hands and lanes count, once the hand of x is another
pub record Recounted (lanes lanes' : List Lane) (before after : ℕ) : Type 0 where
  pub in_hands : hands lanes' + before ≡ hands lanes + after
  pub in_lanes : undrawn lanes' ≡ undrawn lanes

pub recounted : (lanes : List Lane) (i : ℕ) (x : Lane) (hand : Option ℕ) → i < length lanes → x ≡ get_or lanes i x →
    Recounted lanes (set lanes i (rehanded x hand)) (holding x.hand) (holding hand)
recounted lanes i x hand h at =
    record { in_hands = hands_set lanes i x (rehanded x hand) h at; in_lanes = omega (arith, undrawn_set lanes i x (rehanded x hand) h at) }

-- a hand that held a label is emptied
pub emptied : (lanes : List Lane) (i label : ℕ) (x : Lane) → held lanes i ≡ Ok label → x ≡ get_or lanes i x → Recounted lanes (set lanes i (rehanded x None)) 1 0
emptied lanes i label x e at =
    let told = held_hand lanes i label e in
    let hand : x.hand ≡ Some label = ap (λ (z : Lane). z.hand) (get_or_read lanes i x told.0 at no_lane) ∙ told.1 in
    subst (λ n. Recounted lanes (set lanes i (rehanded x None)) n 0) (ap holding hand) (recounted lanes i x None told.0 at)

-- a hand that was empty is filled
pub filled : (lanes : List Lane) (i label : ℕ) (x : Lane) → i < length lanes → x ≡ get_or lanes i x → x.hand ≡ None →
    Recounted lanes (set lanes i (rehanded x (Some label))) 0 1
filled lanes i label x h at none = subst (λ n. Recounted lanes (set lanes i (rehanded x (Some label))) n 1) (ap holding none) (recounted lanes i x (Some label) h at)

-- what holds of the record that the code read at i holds of the lane of printer i
pub lane_read : (lanes : List Lane) (i : ℕ) (x : Lane) → i < length lanes → x ≡ get_or lanes i x → lane_at lanes i ≡ x
lane_read lanes i x h at = sym (get_or_read lanes i x h at no_lane)

-- y is x with one label less
pub record Drawn (lanes lanes' : List Lane) : Type 0 where
  pub in_hands : hands lanes' ≡ hands lanes
  pub in_lanes : undrawn lanes' + 1 ≡ undrawn lanes

-- one label less in a lane is one label less in all
pub drawn : (lanes : List Lane) (i : ℕ) (x y : Lane) → i < length lanes → x ≡ get_or lanes i x → y.hand ≡ x.hand → left y + 1 ≡ left x → Drawn lanes (set lanes i y)
drawn lanes i x y h at same less =
    let counts = hands_set lanes i x y h at in
    let equal : holding y.hand ≡ holding x.hand = ap holding same in
    record { in_hands = omega arith; in_lanes = omega (arith, undrawn_set lanes i x y h at) }

-- a lane with labels left, as the code read it
pub lane_open : (lanes : List Lane) (i : ℕ) (x : Lane) → (i < length lanes) × (0 < left (lane_at lanes i)) → x ≡ get_or lanes i x → x.next < x.end
lane_open lanes i x some at =
    let here : left (lane_at lanes i) ≡ left x = ap left (lane_read lanes i x some.0 at) in
    omega (arith, some.1)

-- its first or its last label is drawn
pub first_drawn : (lanes : List Lane) (i : ℕ) (x : Lane) → x ≡ get_or lanes i x → Drawable (Front i) lanes → Drawn lanes (set lanes i (record { next = x.next + 1; end = x.end; hand = x.hand }))
first_drawn lanes i x at some =
    drawn lanes i x (record { next = x.next + 1; end = x.end; hand = x.hand }) some.0 at refl (omega (arith, lane_open lanes i x some at))

pub last_drawn : (lanes : List Lane) (i : ℕ) (x : Lane) → x ≡ get_or lanes i x → Drawable (Back i) lanes → Drawn lanes (set lanes i (record { next = x.next; end = x.end - 1; hand = x.hand }))
last_drawn lanes i x at some =
    drawn lanes i x (record { next = x.next; end = x.end - 1; hand = x.hand }) some.0 at refl (omega (arith, lane_open lanes i x some at))
