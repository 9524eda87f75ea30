-- What ties a book's state to its history.
use Rattle.std.proofs.Common.{◌≡◌, ℕ, ◌+◌, ◌<◌, cond, eqb, List, [], ◌∷◌, length, Some, count_by, Option, sym, refl, ap, ◌∙◌, arith}
use Rattle.std.specs.List.{range_with_len, AllByRecursion}
use Rattle.std.proofs.lemmas.List.FromFn.{length-map-range_with_len, get_or-map-range_with_len}
use Rattle.std.proofs.lemmas.Bool.{eq-eqb, ne_eqb, cond-true, cond-false}
use Rattle.walk.specs.Meaning.{Meaning, size, standing}
use Rattle.walk.specs.Rows.{Listed}
use Rattle.book.specs.Lanes.{no_lane, lane_at, left, opened_lane, opened_lanes}
use Rattle.book.specs.Opening.{opened}
use Rattle.book.specs.Places.{Move, nothing, hand, waits, undrawn, bench, queue, lane_labels, lane_left, last_front}
use Rattle.book.specs.State.{State}
use Rattle.book.specs.WholeLife.{one_if, on_bench, holds, in_hands}
use Rattle.book.specs.declared.lane.Lane.{Lane}
use Rattle.book.proofs.Ranges.{kept_all}
use Rattle.book.proofs.Tallies.{sum_by_zeros, all_counting, count_changed}

-- After the moves h, on the walk m with k printers, the book is in the state s.
pub record Kept (m : Meaning) (k : ℕ) (h : List Move) (s : State) : Type 0 where
  -- the walk may stand elsewhere
  pub walk : s.walk ≡ standing m s.walk.place
  pub known : length s.lanes ≡ k
  pub hands : (i : ℕ) → i < k → (lane_at s.lanes i).hand ≡ hand h i
  pub waiting : s.waiting ≡ queue h
  pub lanes : (i : ℕ) → i < k → lane_left (size m) k h i ≡ range_with_len (lane_at s.lanes i).next (left (lane_at s.lanes i))
  pub on_the_bench : s.bench ≡ length (bench h)
  -- every row is in one place
  pub once : (l : ℕ) → l < size m → on_bench m h l + in_hands k h l + one_if (waits h l) + one_if (undrawn h l) ≡ 1
  -- and nothing else is anywhere
  pub listed : AllByRecursion (Listed m.rows) (bench h)
  pub held : (i l : ℕ) → hand h i ≡ Some l → (i < k) × (l < size m)
  pub queued : AllByRecursion (λ l. l < size m) (queue h)
  pub waits_queued : (l : ℕ) → count_by (λ q. eqb q l) (queue h) ≡ one_if (waits h l)
  -- a printer's lane goes on behind the last label that it drew from the front
  pub fronts : (i l : ℕ) → i < k → last_front (size m) k h i ≡ Some l → (lane_at s.lanes i).next ≡ l + 1

-- a freshly opened book
pub kept_opened : (m : Meaning) (k : ℕ) → Kept m k [] (opened m k)
kept_opened m k = record {
  walk = refl;
  known = length-map-range_with_len (opened_lane (size m) k) 0 k;
  hands = λ i h. ap (λ (z : Lane). z.hand) (at i h);
  waiting = refl;
  lanes = λ i h. kept_all (undrawn []) (lane_labels (size m) k i) (all_counting _ _ _ (λ _ _ _. refl)) ∙ sym (ap (λ (z : Lane). range_with_len z.next (left z)) (at i h));
  on_the_bench = refl;
  once = λ l h. omega (arith, sum_by_zeros (range_with_len 0 k));
  listed = tt;
  held = λ i l e. absurd (let z : ◌≡◌ {A = ℕ} 0 1 = cc in omega arith);
  queued = tt;
  waits_queued = λ l. refl;
  fronts = λ i l h e. absurd (let z : ◌≡◌ {A = ℕ} 0 1 = cc in omega arith);
}
  where
    at : (i : ℕ) → i < k → lane_at (opened_lanes (size m) k) i ≡ opened_lane (size m) k i
    at i h = get_or-map-range_with_len (opened_lane (size m) k) 0 k i i no_lane h (omega arith)

-- a call that moves nothing may only move the walk's place
pub kept_nothing : (m : Meaning) (k : ℕ) (h : List Move) (s : State) (p : ℕ) → Kept m k h s →
    Kept m k (nothing ∷ h) (record { walk = standing s.walk p; lanes = s.lanes; waiting = s.waiting; bench = s.bench })
kept_nothing m k h s p kept = record {
  walk = ap (λ (w : Meaning). standing w p) kept.walk;
  known = kept.known;
  hands = kept.hands;
  waiting = kept.waiting;
  lanes = kept.lanes;
  on_the_bench = kept.on_the_bench;
  once = kept.once;
  listed = kept.listed;
  held = kept.held;
  queued = kept.queued;
  waits_queued = kept.waits_queued;
  fronts = kept.fronts;
}

-- one hand holds something else, and the hands that hold x are counted
pub in_hands_set : (hand : ℕ → Option ℕ) (new : Option ℕ) (i k x : ℕ) → i < k →
    count_by (λ j. holds x (cond (eqb i j) new (hand j))) (range_with_len 0 k) + one_if (holds x (hand i)) ≡ count_by (λ j. holds x (hand j)) (range_with_len 0 k) + one_if (holds x new)
in_hands_set hand new i k x h =
    omega (
      arith,
      count_changed (λ j. holds x (hand j)) (λ j. holds x (cond (eqb i j) new (hand j))) i 0 k
          (λ j other. ap (holds x) (sym (cond-false (eqb i j) new (hand j) (ne_eqb i j (λ e. other (sym e)))))) (omega arith) (omega arith),
      ap (λ o. one_if (holds x o)) (cond-true (eqb i i) new (hand i) (eq-eqb i i refl)),
    )
