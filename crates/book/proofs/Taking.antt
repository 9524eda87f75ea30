-- What an accepted take leaves of the ties between a book's state and its history.
use Rattle.std.proofs.Common.{◌≡◌, ℕ, zero, suc, ◌+◌, ◌-◌, ◌<◌, ◌≤◌, true, false, cond, not, ◌&&◌, eqb, ltb, ◌⊎◌, List, [], ◌∷◌, length, set, Some, None, count_by, filter, sym, refl, ap, ◌∙◌, subst, inl, inr, ⊎_elim, le_trans, add-zero, arith}
use Rattle.std.specs.List.{range_with_len, AllByRecursion}
use Rattle.std.proofs.lemmas.List.FromFn.{length-range_with_len, get_or-range_with_len}
use Rattle.std.proofs.ByRecursion.{all_kept_by, kept_by_passes, All-get_or}
use Rattle.std.proofs.lemmas.List.{get_or-set_same, get_or-set_other, length-set}
use Rattle.std.proofs.lemmas.List.Sums.{sum_by-cons}
use Rattle.std.proofs.lemmas.Bool.{eqb-true, eq-eqb, ne_eqb, lt-ltb, le-ltb, cases_eq, cases_order, cond-true, cond-false, cond_both, and_from, and_left, and_right}
use Rattle.walk.specs.Meaning.{Meaning, size, standing}
use Rattle.book.specs.Lanes.{no_lane, lane_at, left, lane_start, with_hand, without_first, without_last}
use Rattle.book.specs.Places.{Move, draws, hand, waits, undrawn, queue, lane_labels, lane_left, waiting_count, at_front, last_front}
use Rattle.book.specs.State.{State}
use Rattle.book.specs.WholeLife.{one_if, on_bench, holds, in_hands}
use Rattle.book.specs.declared.lane.Lane.{Lane}
use Rattle.book.proofs.Draws.{hand_set}
use Rattle.book.proofs.Kept.{Kept, in_hands_set}
use Rattle.book.proofs.Moving.{unhanded, hand_with}
use Rattle.book.proofs.Ranges.{other_than, kept_by_both, without_outside, without_first_number, without_last_number}
use Rattle.book.proofs.Starts.{start_le_next, start_le}
use Rattle.book.proofs.Tallies.{all_counting}
use Rattle.book.proofs.Totals.{queue_total}

-- a list whose first element is l, and one whose first element is another, without l
drops_itself : (l : ℕ) (qs : List ℕ) → filter (other_than l) (l ∷ qs) ≡ filter (other_than l) qs
drops_itself l qs = cond-false (other_than l l) (l ∷ filter (other_than l) qs) (filter (other_than l) qs) (ap not (eq-eqb l l refl))

keeps_other : (l q : ℕ) (qs : List ℕ) → (l ≡ q → ⊥) → filter (other_than l) (q ∷ qs) ≡ q ∷ filter (other_than l) qs
keeps_other l q qs other = cond-true (other_than l q) (q ∷ filter (other_than l) qs) (filter (other_than l) qs) (ap not (ne_eqb l q other))

-- how often x is in a list without l
count_without_itself : (l : ℕ) (xs : List ℕ) → count_by (λ q. eqb q l) (filter (other_than l) xs) ≡ 0
count_without_itself l [] = refl
count_without_itself l (q ∷ qs) =
    ⊎_elim
    (λ e. subst (λ y. count_by (λ q. eqb q l) (filter (other_than l) (y ∷ qs)) ≡ 0) e (ap (count_by (λ q. eqb q l)) (drops_itself l qs) ∙ count_without_itself l qs))
    (λ other. ap (count_by (λ q. eqb q l)) (keeps_other l q qs other) ∙ sum_by-cons (λ q. one_if (eqb q l)) q (filter (other_than l) qs)
    ∙ omega (arith, ap one_if (ne_eqb q l (λ e. other (sym e))), count_without_itself l qs))
    (cases_eq l q)

count_without_other : (l x : ℕ) (xs : List ℕ) → (l ≡ x → ⊥) → count_by (λ q. eqb q x) (filter (other_than l) xs) ≡ count_by (λ q. eqb q x) xs
count_without_other l x [] apart = refl
count_without_other l x (q ∷ qs) apart =
    ⊎_elim
    (λ e. subst (λ y. count_by (λ q. eqb q x) (filter (other_than l) (y ∷ qs)) ≡ count_by (λ q. eqb q x) (y ∷ qs)) e
    (ap (count_by (λ q. eqb q x)) (drops_itself l qs) ∙ omega (arith, sum_by-cons (λ q. one_if (eqb q x)) l qs, ap one_if (ne_eqb l x apart), count_without_other l x qs apart)))
    (λ other. ap (count_by (λ q. eqb q x)) (keeps_other l q qs other)
    ∙ omega (arith, sum_by-cons (λ q. one_if (eqb q x)) q (filter (other_than l) qs), sum_by-cons (λ q. one_if (eqb q x)) q qs, count_without_other l x qs apart))
    (cases_eq l q)

-- a list in which l is not counted is the list without l
pub without_none : (l : ℕ) (xs : List ℕ) → count_by (λ q. eqb q l) xs ≡ 0 → filter (other_than l) xs ≡ xs
without_none l [] none = refl
without_none l (q ∷ qs) none =
    ⊎_elim
    (λ e. absurd (let here : one_if (eqb q l) ≡ 1 = ap one_if (eq-eqb q l (sym e)) in omega (arith, sum_by-cons (λ q. one_if (eqb q l)) q qs)))
    (λ other. keeps_other l q qs other ∙ ap (λ (ys : List ℕ). q ∷ ys) (without_none l qs (omega (arith, sum_by-cons (λ q. one_if (eqb q l)) q qs))))
    (cases_eq l q)

-- lanes begin in the order of their printers
pub start_mono : (n k i j : ℕ) → 0 < k → i ≤ j → lane_start n k i ≤ lane_start n k j
start_mono n k i j some h = subst (λ x. lane_start n k i ≤ lane_start n k x) (omega arith) (up (j - i))
  where
    up : (d : ℕ) → lane_start n k i ≤ lane_start n k (i + d)
    up zero = subst (λ x. lane_start n k i ≤ lane_start n k x) (sym (add-zero i)) (omega arith)
    up (suc d) = subst (λ x. lane_start n k i ≤ lane_start n k x) (omega arith) (le_trans (up d) (start_le_next n k (i + d) some))

module _ {m : Meaning} {k : ℕ} {h : List Move} {s : State} (kept : Kept m k h s) where
  -- a label that is left in a lane lies in that lane as opened, and is undrawn
  pub left_in_lane : (j x : ℕ) → j < k → (lane_at s.lanes j).next ≤ x → x < (lane_at s.lanes j).next + left (lane_at s.lanes j) →
      (lane_start (size m) k j ≤ x) × (x < lane_start (size m) k (j + 1)) × (undrawn h x ≡ true)
  left_in_lane j x known low high =
      let place : (lane_at s.lanes j).next + (x - (lane_at s.lanes j).next) ≡ x = omega arith in
      let below : x - (lane_at s.lanes j).next < left (lane_at s.lanes j) = omega arith in
      subst Here (get_or-range_with_len (lane_at s.lanes j).next (left (lane_at s.lanes j)) (x - (lane_at s.lanes j).next) 0 below ∙ place)
      (All-get_or Here (range_with_len (lane_at s.lanes j).next (left (lane_at s.lanes j))) (x - (lane_at s.lanes j).next) 0
      (omega (arith, length-range_with_len (lane_at s.lanes j).next (left (lane_at s.lanes j)))) (subst (AllByRecursion Here) (kept.lanes j known) all))
    where
      Here : ℕ → Type 0
      Here y = (lane_start (size m) k j ≤ y) × (y < lane_start (size m) k (j + 1)) × (undrawn h y ≡ true)

      both : (ys : List ℕ) → AllByRecursion (λ y. (lane_start (size m) k j ≤ y) × (y < lane_start (size m) k (j + 1))) ys → AllByRecursion (λ y. undrawn h y ≡ true) ys → AllByRecursion Here ys
      both [] a b = tt
      both (y ∷ ys) (a, more) (b, rest) = ((a.0, a.1, b), both ys more rest)

      all : AllByRecursion Here (lane_left (size m) k h j)
      all = both (lane_left (size m) k h j)
          (all_kept_by (undrawn h) _ (lane_labels (size m) k j) (all_counting _ _ _ (λ y low high. (low, omega arith))))
          (kept_by_passes (undrawn h) (lane_labels (size m) k j))

  -- what a draw leaves, given what it leaves of the lanes and of the waiting labels
  pub kept_draws : (i l : ℕ) (lanes' : List Lane) (waiting' : List ℕ) → i < k → hand h i ≡ None → l < size m → one_if (waits h l) + one_if (undrawn h l) ≡ 1 →
      length lanes' ≡ k → ((j : ℕ) → j < k → (lane_at lanes' j).hand ≡ (lane_at s.lanes j).hand) →
      ((j : ℕ) → j < k → filter (other_than l) (range_with_len (lane_at s.lanes j).next (left (lane_at s.lanes j))) ≡ range_with_len (lane_at lanes' j).next (left (lane_at lanes' j))) →
      waiting' ≡ filter (other_than l) (queue h) →
      ((j x : ℕ) → j < k → last_front (size m) k (draws i l ∷ h) j ≡ Some x → (lane_at lanes' j).next ≡ x + 1) →
      Kept m k (draws i l ∷ h) (record { walk = standing s.walk l; lanes = with_hand i (Some l) lanes'; waiting = waiting'; bench = s.bench })
  kept_draws i l lanes' waiting' known empty below free long same_hands same_lanes same_queue same_fronts = record {
    walk = ap (λ (w : Meaning). standing w l) kept.walk;
    known = length-set lanes' i _ ∙ long;
    hands = λ j b. hand_with (Some l) lanes' i j within ∙ ap (cond (eqb i j) (Some l)) (same_hands j b ∙ kept.hands j b);
    waiting = same_queue;
    lanes = λ j b. kept_by_both (undrawn h) (other_than l) (lane_labels (size m) k j) ∙ ap (filter (other_than l)) (kept.lanes j b) ∙ same_lanes j b
        ∙ sym (unhanded (λ (z : Lane). range_with_len z.next (left z)) (Some l) lanes' i j within refl);
    on_the_bench = kept.on_the_bench;
    once = λ x lower. once x lower;
    listed = kept.listed;
    held = λ j x e. held j x e;
    queued = all_kept_by (other_than l) (λ x. x < size m) (queue h) kept.queued;
    waits_queued = λ x. waits_queued x;
    fronts = λ j x b e. unhanded (λ (z : Lane). z.next) (Some l) lanes' i j within refl ∙ same_fronts j x b e;
  }
    where
      within : i < length lanes'
      within = omega arith

      in_hands_then : (x : ℕ) → in_hands k (draws i l ∷ h) x ≡ in_hands k h x + one_if (eqb l x)
      in_hands_then x = omega (arith, in_hands_set (hand h) (Some l) i k x known, ap (λ o. one_if (holds x o)) empty)

      once : (x : ℕ) → x < size m → on_bench m h x + in_hands k (draws i l ∷ h) x + one_if (waits (draws i l ∷ h) x) + one_if (undrawn (draws i l ∷ h) x) ≡ 1
      once x lower =
          ⊎_elim
          (λ e. subst (λ y. on_bench m h y + in_hands k (draws i l ∷ h) y + one_if (waits (draws i l ∷ h) y) + one_if (undrawn (draws i l ∷ h) y) ≡ 1) e
          (omega (
            arith,
            in_hands_then l,
            kept.once l below,
            ap one_if (eq-eqb l l refl),
            ap one_if (cond-true (eqb l l) false (waits h l) (eq-eqb l l refl)),
            ap one_if (and_left (not (eqb l l)) (undrawn h l) (ap not (eq-eqb l l refl))),
          )))
          (λ other. omega (
            arith,
            in_hands_then x,
            kept.once x lower,
            ap one_if (ne_eqb l x other),
            ap one_if (cond-false (eqb l x) false (waits h x) (ne_eqb l x other)),
            ap (λ b. one_if (not b && undrawn h x)) (ne_eqb l x other),
          ))
          (cases_eq l x)

      waits_queued : (x : ℕ) → count_by (λ q. eqb q x) (filter (other_than l) (queue h)) ≡ one_if (waits (draws i l ∷ h) x)
      waits_queued x =
          ⊎_elim
          (λ e. subst (λ y. count_by (λ q. eqb q y) (filter (other_than l) (queue h)) ≡ one_if (waits (draws i l ∷ h) y)) e
          (count_without_itself l (queue h) ∙ sym (ap one_if (cond-true (eqb l l) false (waits h l) (eq-eqb l l refl)))))
          (λ other. count_without_other l x (queue h) other ∙ kept.waits_queued x ∙ sym (ap one_if (cond-false (eqb l x) false (waits h x) (ne_eqb l x other))))
          (cases_eq l x)

      held : (j x : ℕ) → hand (draws i l ∷ h) j ≡ Some x → (j < k) × (x < size m)
      held j x =
          cond_both (eqb i j) (Some l) (hand h j) (λ o. o ≡ Some x → (j < k) × (x < size m))
          (λ at e. let same : l ≡ x = cc in (omega (arith, eqb-true i j at), omega arith))
          (λ _ e. kept.held j x e)

  -- where a take is from the front of the own lane, and where it is not
  pub front_now : (i l j x : ℕ) → at_front (size m) k h i ≡ true → last_front (size m) k (draws i l ∷ h) j ≡ Some x → ((i ≡ j) × (l ≡ x)) ⊎ ((i ≡ j → ⊥) × (last_front (size m) k h j ≡ Some x))
  front_now i l j x front =
      ⊎_elim
      (λ e told. inl (
        e,
        some_same (sym (cond-true (eqb i j && at_front (size m) k h j) (Some l) (last_front (size m) k h j)
            (and_from (eqb i j) (at_front (size m) k h j) (eq-eqb i j e) (subst (λ y. at_front (size m) k h y ≡ true) e front))) ∙ told),
      ))
      (λ other told. inr (other, sym (cond-false (eqb i j && at_front (size m) k h j) (Some l) (last_front (size m) k h j) (and_left (eqb i j) (at_front (size m) k h j) (ne_eqb i j other))) ∙ told))
      (cases_eq i j)
    where
      some_same : {a b : ℕ} → Some a ≡ Some b → a ≡ b
      some_same e = cc

  pub not_front_now : (i l j x : ℕ) → at_front (size m) k h i ≡ false → last_front (size m) k (draws i l ∷ h) j ≡ Some x → last_front (size m) k h j ≡ Some x
  not_front_now i l j x back told =
      sym (cond-false (eqb i j && at_front (size m) k h j) (Some l) (last_front (size m) k h j)
      (⊎_elim (λ e. and_right (eqb i j) (at_front (size m) k h j) (subst (λ y. at_front (size m) k h y ≡ false) e back))
      (λ other. and_left (eqb i j) (at_front (size m) k h j) (ne_eqb i j other)) (cases_eq i j))) ∙ told

  -- how many labels of a lane are undrawn
  pub lane_left_total : (i : ℕ) → i < k → length (lane_left (size m) k h i) ≡ left (lane_at s.lanes i)
  lane_left_total i known = ap length (kept.lanes i known) ∙ length-range_with_len (lane_at s.lanes i).next (left (lane_at s.lanes i))

  -- an undrawn label is nowhere else
  pub undrawn_alone : (l : ℕ) → l < size m → undrawn h l ≡ true → one_if (waits h l) + one_if (undrawn h l) ≡ 1
  undrawn_alone l below still = omega (arith, kept.once l below, ap one_if still)

  -- The oldest waiting label is drawn.
  pub kept_draws_oldest : (i l : ℕ) (rest : List ℕ) → i < k → hand h i ≡ None → s.waiting ≡ l ∷ rest →
      Kept m k (draws i l ∷ h) (record { walk = standing s.walk l; lanes = with_hand i (Some l) s.lanes; waiting = rest; bench = s.bench })
  kept_draws_oldest i l rest known empty e =
      kept_draws i l s.lanes rest known empty below alone kept.known (λ _ _. refl)
      (λ j b. without_outside l (lane_at s.lanes j).next (left (lane_at s.lanes j)) (λ x low high same. absurd (drawn_before j x b low high same)))
      (sym (ap (filter (other_than l)) (sym kept.waiting ∙ e) ∙ drops_itself l rest ∙ without_none l rest (omega (arith, count, alone))))
      (λ j x b told. kept.fronts j x b (not_front_now i l j x (and_left _ _ (ne_eqb (waiting_count (size m) h) 0 (λ none. absurd (omega (arith, queue_total kept, ap length (sym kept.waiting ∙ e)))))) told))
    where
      count : one_if (waits h l) ≡ 1 + count_by (λ q. eqb q l) rest
      count = sym (kept.waits_queued l) ∙ ap (count_by (λ q. eqb q l)) (sym kept.waiting ∙ e) ∙ sum_by-cons (λ q. one_if (eqb q l)) l rest
          ∙ ap (λ n. n + count_by (λ q. eqb q l) rest) (ap one_if (eq-eqb l l refl))

      below : l < size m
      below = (subst (AllByRecursion (λ x. x < size m)) (sym kept.waiting ∙ e) kept.queued).0

      alone : one_if (waits h l) + one_if (undrawn h l) ≡ 1
      alone = omega (arith, kept.once l below, count)

      drawn_before : (j x : ℕ) → j < k → (lane_at s.lanes j).next ≤ x → x < (lane_at s.lanes j).next + left (lane_at s.lanes j) → l ≡ x → ⊥
      drawn_before j x b low high same = omega (arith, alone, count, ap one_if (subst (λ y. undrawn h y ≡ true) (sym same) (left_in_lane j x b low high).2))

  -- a label of one lane is in no other
  pub in_one_lane : (i j l x : ℕ) → i < k → j < k → (lane_at s.lanes i).next ≤ l → l < (lane_at s.lanes i).next + left (lane_at s.lanes i) →
      (lane_at s.lanes j).next ≤ x → x < (lane_at s.lanes j).next + left (lane_at s.lanes j) → l ≡ x → i ≡ j
  in_one_lane i j l x known b low high low' high' same =
      let here = left_in_lane i l known low high in
      let there = left_in_lane j x b low' high' in
      ⊎_elim (λ e. e)
      (⊎_elim (λ less. absurd (omega (arith, here.1, there.0, start_mono (size m) k (i + 1) j (omega arith) (omega arith))))
      (λ more. absurd (omega (arith, here.0, there.1, start_mono (size m) k (j + 1) i (omega arith) (omega arith)))))
      (cases_order i j)

  -- nothing waits where the book has no waiting labels
  pub none_waits : s.waiting ≡ [] → waiting_count (size m) h ≡ 0
  none_waits e = sym (queue_total kept) ∙ ap length (sym kept.waiting ∙ e)

  -- One label of lane j is drawn, at one of its ends; y is the record that is left there.
  kept_draws_end : (i j l : ℕ) (y : Lane) → i < k → j < k → hand h i ≡ None → s.waiting ≡ [] →
      (lane_at s.lanes j).next ≤ l → l < (lane_at s.lanes j).next + left (lane_at s.lanes j) → y.hand ≡ (lane_at s.lanes j).hand →
      filter (other_than l) (range_with_len (lane_at s.lanes j).next (left (lane_at s.lanes j))) ≡ range_with_len y.next (left y) →
      ((j' x : ℕ) → j' < k → last_front (size m) k (draws i l ∷ h) j' ≡ Some x → (lane_at (set s.lanes j y) j').next ≡ x + 1) →
      Kept m k (draws i l ∷ h) (record { walk = standing s.walk l; lanes = with_hand i (Some l) (set s.lanes j y); waiting = []; bench = s.bench })
  kept_draws_end i j l y known b empty e low high same_hand one_less same_fronts =
      let here = left_in_lane j l b low high in
      let below : l < size m = omega (arith, here.1, start_le (size m) k (j + 1) (omega arith) (omega arith)) in
      kept_draws i l (set s.lanes j y) [] known empty below (undrawn_alone l below here.2) (length-set s.lanes j y ∙ kept.known)
      (λ x _. hand_set s.lanes x j y within same_hand)
      (λ x c. ⊎_elim
      (λ at. subst (λ z. filter (other_than l) (range_with_len (lane_at s.lanes z).next (left (lane_at s.lanes z))) ≡ range_with_len (lane_at (set s.lanes j y) z).next (left (lane_at (set s.lanes j y) z))) at
      (one_less ∙ sym (ap (λ (z : Lane). range_with_len z.next (left z)) (get_or-set_same s.lanes j y no_lane within))))
      (λ other. without_outside l (lane_at s.lanes x).next (left (lane_at s.lanes x)) (λ z low' high' same. other (in_one_lane j x l z b c low high low' high' same))
      ∙ sym (ap (λ (z : Lane). range_with_len z.next (left z)) (get_or-set_other s.lanes j x y no_lane (λ at. other (sym at)))))
      (cases_eq j x))
      (ap (filter (other_than l)) (sym e ∙ kept.waiting)) same_fronts
    where
      within : j < length s.lanes
      within = omega (arith, kept.known)

  -- The first label of the own lane is drawn.
  pub kept_draws_first : (i : ℕ) → i < k → hand h i ≡ None → s.waiting ≡ [] → 0 < left (lane_at s.lanes i) →
      Kept m k (draws i (lane_at s.lanes i).next ∷ h)
      (record { walk = standing s.walk (lane_at s.lanes i).next; lanes = with_hand i (Some (lane_at s.lanes i).next) (without_first i s.lanes); waiting = []; bench = s.bench })
  kept_draws_first i known empty e some =
      kept_draws_end i i next y known known empty e (omega arith) (omega arith) refl
      (ap (λ n. filter (other_than next) (range_with_len next n)) (omega arith) ∙ without_first_number next (left (lane_at s.lanes i) - 1) ∙ ap (range_with_len (next + 1)) (omega arith))
      (λ j x b told. ⊎_elim
      (λ now. subst (λ z. (lane_at (set s.lanes i y) z).next ≡ x + 1) now.0 (ap (λ (z : Lane). z.next) (get_or-set_same s.lanes i y no_lane within) ∙ ap (λ l. l + 1) now.1))
      (λ before. ap (λ (z : Lane). z.next) (get_or-set_other s.lanes i j y no_lane (λ at. before.0 (sym at))) ∙ kept.fronts j x b before.1)
      (front_now i next j x front told))
    where
      next : ℕ
      next = (lane_at s.lanes i).next

      y : Lane
      y = record { next = (lane_at s.lanes i).next + 1; end = (lane_at s.lanes i).end; hand = (lane_at s.lanes i).hand }

      within : i < length s.lanes
      within = omega (arith, kept.known)

      front : at_front (size m) k h i ≡ true
      front = and_from (eqb (waiting_count (size m) h) 0) (ltb 0 (length (lane_left (size m) k h i))) (eq-eqb _ 0 (none_waits e)) (lt-ltb 0 _ (omega (arith, lane_left_total i known)))

  -- The last label of another lane is drawn, since the own lane is empty.
  pub kept_draws_last : (i j : ℕ) → i < k → j < k → hand h i ≡ None → s.waiting ≡ [] → left (lane_at s.lanes i) ≡ 0 → 0 < left (lane_at s.lanes j) →
      Kept m k (draws i ((lane_at s.lanes j).end - 1) ∷ h)
      (record { walk = standing s.walk ((lane_at s.lanes j).end - 1); lanes = with_hand i (Some ((lane_at s.lanes j).end - 1)) (without_last j s.lanes); waiting = []; bench = s.bench })
  kept_draws_last i j known b empty e none some =
      kept_draws_end i j ((lane_at s.lanes j).end - 1) y known b empty e (omega arith) (omega arith) refl
      (subst (λ l. filter (other_than l) (range_with_len next (left (lane_at s.lanes j))) ≡ range_with_len next (left y)) (omega arith)
      (ap (λ n. filter (other_than (next + left y)) (range_with_len next n)) (omega arith) ∙ without_last_number next (left y)))
      (λ x l c told. ⊎_elim
      (λ at. subst (λ z. (lane_at (set s.lanes j y) z).next ≡ (lane_at s.lanes z).next) at (ap (λ (z : Lane). z.next) (get_or-set_same s.lanes j y no_lane within)))
      (λ other. ap (λ (z : Lane). z.next) (get_or-set_other s.lanes j x y no_lane (λ at. other (sym at))))
      (cases_eq j x)
      ∙ kept.fronts x l c (not_front_now i ((lane_at s.lanes j).end - 1) x l back told))
    where
      next : ℕ
      next = (lane_at s.lanes j).next

      y : Lane
      y = record { next = (lane_at s.lanes j).next; end = (lane_at s.lanes j).end - 1; hand = (lane_at s.lanes j).hand }

      within : j < length s.lanes
      within = omega (arith, kept.known)

      back : at_front (size m) k h i ≡ false
      back = and_right (eqb (waiting_count (size m) h) 0) (ltb 0 (length (lane_left (size m) k h i))) (le-ltb 0 _ (omega (arith, lane_left_total i known)))
