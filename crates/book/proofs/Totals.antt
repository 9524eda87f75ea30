-- What the places count in all.
use Rattle.std.proofs.Common.{◌≡◌, ℕ, zero, suc, ◌+◌, ◌-◌, ◌<◌, Bool, true, false, eqb, List, [], ◌∷◌, ◌++◌, map, length, is_some, Some, None, sum_by, count_by, filter, Option, sym, refl, ap, ◌∙◌, subst, ⊎_elim, zero-add, add-one, arith}
use Rattle.std.specs.List.{range_with_len}
use Rattle.std.proofs.lemmas.List.FromFn.{length-range_with_len, fill_by_all, sum_by-map-range_with_len_more}
use Rattle.std.proofs.ByRecursion.{All-weaker}
use Rattle.std.proofs.lemmas.List.{map-id}
use Rattle.std.proofs.lemmas.List.Sums.{sum_by-cons, sum_by-append, length-filter}
use Rattle.std.proofs.lemmas.Bool.{eq-eqb, ne_eqb, cases_eq, cases_Bool, cond-true, cond-false, true≢false}
use Rattle.walk.specs.Meaning.{Meaning, Lawful, size}
use Rattle.walk.specs.Meaning as meaning
use Rattle.walk.specs.Rows.{Row, Listed, same_row, Apart}
use Rattle.walk.proofs.Differences.{same_itself, differ_from_unequal}
use Rattle.book.specs.Lanes.{no_lane, lane_at, left, lane_start}
use Rattle.book.specs.Lanes as lanes
use Rattle.book.specs.Places.{Move, hand, waits, undrawn, bench, queue, lane_labels, waiting_count, undrawn_count, hands_count}
use Rattle.book.specs.State.{State}
use Rattle.book.specs.WholeLife.{one_if, on_bench, holds, in_hands, in_lanes}
use Rattle.book.specs.declared.lane.Lane.{Lane}
use Rattle.book.proofs.Kept.{Kept}
use Rattle.book.proofs.Starts.{start_of_first, start_of_all, start_le_next}
use Rattle.book.proofs.Tallies.{sum_by_plus, sum_by_same, sum_by_ones, sum_by_zeros, counted_either_way, all_counting, count_itself, counting_split}

-- a sum over a list is the sum over its places
pub sum_by_at : (f : Lane → ℕ) (lanes : List Lane) → sum_by f lanes ≡ sum_by (λ i. f (lane_at lanes i)) (range_with_len 0 (length lanes))
sum_by_at f lanes = ap (sum_by f) (fill_by_all (lane_at lanes) lanes (length lanes) no_lane refl (λ _ _. refl)) ∙ mapped (range_with_len 0 (length lanes))
  where
    mapped : (is : List ℕ) → sum_by f (map (lane_at lanes) is) ≡ sum_by (λ i. f (lane_at lanes i)) is
    mapped [] = refl
    mapped (i ∷ is) = omega (arith, sum_by-cons f (lane_at lanes i) (map (lane_at lanes) is), sum_by-cons (λ i. f (lane_at lanes i)) i is, mapped is)

-- what is counted in the first j lanes as opened is what is counted below the start of the next one
lanes_below : (n k : ℕ) (p : ℕ → Bool) → 0 < k → (j : ℕ) → count_by p (range_with_len 0 (lane_start n k j)) ≡ sum_by (λ i. count_by p (lane_labels n k i)) (range_with_len 0 j)
lanes_below n k p some zero = ap (λ a. count_by p (range_with_len 0 a)) (start_of_first n k)
lanes_below n k p some (suc j) =
    subst (λ i. count_by p (range_with_len 0 (lane_start n k i)) ≡ sum_by (λ i. count_by p (lane_labels n k i)) (range_with_len 0 i)) (add-one j) (more (lanes_below n k p some j))
  where
    more : count_by p (range_with_len 0 (lane_start n k j)) ≡ sum_by (λ i. count_by p (lane_labels n k i)) (range_with_len 0 j) →
        count_by p (range_with_len 0 (lane_start n k (j + 1))) ≡ sum_by (λ i. count_by p (lane_labels n k i)) (range_with_len 0 (j + 1))
    more so_far =
        let up : lane_start n k j + (lane_start n k (j + 1) - lane_start n k j) ≡ lane_start n k (j + 1) = omega (arith, start_le_next n k j some) in
        let labels : range_with_len 0 (lane_start n k (j + 1)) ≡ range_with_len 0 (lane_start n k j) ++ lane_labels n k j =
        ap (λ a. range_with_len 0 a) (sym up) ∙ counting_split 0 (lane_start n k j) (lane_start n k (j + 1) - lane_start n k j)
        ∙ ap (λ a. range_with_len 0 (lane_start n k j) ++ range_with_len a (lane_start n k (j + 1) - lane_start n k j)) (zero-add (lane_start n k j)) in
        omega (
          arith,
          ap (count_by p) labels,
          sum_by-append (λ l. one_if (p l)) (range_with_len 0 (lane_start n k j)) (lane_labels n k j),
          so_far,
          sum_by-map-range_with_len_more (λ i. count_by p (lane_labels n k i)) (λ i. i) 0 j j (zero-add j),
          ap (sum_by (λ i. count_by p (lane_labels n k i))) (map-id (range_with_len 0 (j + 1))),
          ap (sum_by (λ i. count_by p (lane_labels n k i))) (map-id (range_with_len 0 j)),
        )

-- the lanes as opened have every label once
pub all_lanes : (n k : ℕ) (p : ℕ → Bool) → 0 < k → count_by p (range_with_len 0 n) ≡ sum_by (λ i. count_by p (lane_labels n k i)) (range_with_len 0 k)
all_lanes n k p some = ap (λ a. count_by p (range_with_len 0 a)) (sym (start_of_all n k some)) ∙ lanes_below n k p some k

-- a filter keeps every l that it passes, and none that it does not
pub count_passed : (p : ℕ → Bool) (l : ℕ) (xs : List ℕ) → p l ≡ true → count_by (λ x. eqb x l) (filter p xs) ≡ count_by (λ x. eqb x l) xs
count_passed p l [] passes = refl
count_passed p l (x ∷ xs) passes =
    ⊎_elim
    (λ here. ap (count_by (λ y. eqb y l)) (cond-true (p x) (x ∷ filter p xs) (filter p xs) here)
    ∙ omega (arith, sum_by-cons (λ y. one_if (eqb y l)) x (filter p xs), sum_by-cons (λ y. one_if (eqb y l)) x xs, count_passed p l xs passes))
    (λ not_here. ap (count_by (λ y. eqb y l)) (cond-false (p x) (x ∷ filter p xs) (filter p xs) not_here)
    ∙ omega (
      arith,
      sum_by-cons (λ y. one_if (eqb y l)) x xs,
      count_passed p l xs passes,
      ap one_if (ne_eqb x l (λ same. true≢false (sym passes ∙ ap p (sym same) ∙ not_here))),
    ))
    (cases_Bool (p x))

-- a filter drops every l that it does not pass
pub count_dropped : (p : ℕ → Bool) (l : ℕ) (xs : List ℕ) → p l ≡ false → count_by (λ x. eqb x l) (filter p xs) ≡ 0
count_dropped p l [] fails = refl
count_dropped p l (x ∷ xs) fails =
    ⊎_elim
    (λ here. ap (count_by (λ y. eqb y l)) (cond-true (p x) (x ∷ filter p xs) (filter p xs) here)
    ∙ omega (
      arith,
      sum_by-cons (λ y. one_if (eqb y l)) x (filter p xs),
      count_dropped p l xs fails,
      ap one_if (ne_eqb x l (λ same. true≢false (sym here ∙ ap p same ∙ fails))),
    ))
    (λ not_here. ap (count_by (λ y. eqb y l)) (cond-false (p x) (x ∷ filter p xs) (filter p xs) not_here) ∙ count_dropped p l xs fails)
    (cases_Bool (p x))

-- an undrawn label is left in one lane, and there once; a drawn one is left in none
pub left_in_lanes : (n k : ℕ) (h : List Move) (l : ℕ) → 0 < k → l < n → in_lanes n k h l ≡ one_if (undrawn h l)
left_in_lanes n k h l some below =
    ⊎_elim
    (λ still. sum_by_same _ (λ i. count_by (λ x. eqb x l) (lane_labels n k i)) (range_with_len 0 k) (all_counting _ 0 k (λ i _ _. count_passed (undrawn h) l (lane_labels n k i) still))
    ∙ sym (all_lanes n k (λ x. eqb x l) some)
    ∙ sum_by_same (λ x. one_if (eqb x l)) (λ x. one_if (eqb l x)) (range_with_len 0 n) (all_counting _ 0 n (λ x _ _. ap one_if (eqb_comm x l)))
    ∙ count_itself l 0 n (omega arith) (omega arith)
    ∙ sym (ap one_if still))
    (λ drawn. sum_by_same _ (λ _. 0) (range_with_len 0 k) (all_counting _ 0 k (λ i _ _. count_dropped (undrawn h) l (lane_labels n k i) drawn))
    ∙ sum_by_zeros (range_with_len 0 k) ∙ sym (ap one_if drawn))
    (cases_Bool (undrawn h l))
  where
    eqb_comm : (a b : ℕ) → eqb a b ≡ eqb b a
    eqb_comm a b = ⊎_elim (λ e. eq-eqb a b e ∙ sym (eq-eqb b a (sym e))) (λ other. ne_eqb a b other ∙ sym (ne_eqb b a (λ e. other (sym e)))) (cases_eq a b)

module _ {m : Meaning} {k : ℕ} {h : List Move} {s : State} (kept : Kept m k h s) where
  -- as many labels stand in the queue as wait
  pub queue_total : length (queue h) ≡ waiting_count (size m) h
  queue_total =
      sym (sum_by_ones (queue h))
      ∙ sym (sum_by_same (λ q. count_by (λ l. eqb q l) (range_with_len 0 (size m))) (λ _. 1) (queue h) (All-weaker _ _ (λ q below. count_itself q 0 (size m) (omega arith) (omega arith)) (queue h) kept.queued))
      ∙ sym (counted_either_way (λ l q. eqb q l) (range_with_len 0 (size m)) (queue h))
      ∙ sum_by_same (λ l. count_by (λ q. eqb q l) (queue h)) (λ l. one_if (waits h l)) (range_with_len 0 (size m)) (all_counting _ 0 (size m) (λ l _ _. kept.waits_queued l))

  -- the labels in hands are as many as the hands that hold one
  pub hands_total : sum_by (λ l. in_hands k h l) (range_with_len 0 (size m)) ≡ hands_count k h
  hands_total =
      counted_either_way (λ l i. holds l (hand h i)) (range_with_len 0 (size m)) (range_with_len 0 k)
      ∙ sum_by_same (λ i. count_by (λ l. holds l (hand h i)) (range_with_len 0 (size m))) (λ i. one_if (is_some (hand h i))) (range_with_len 0 k)
      (all_counting _ 0 k (λ i _ _. one (hand h i) (λ l e. (kept.held i l e).1)))
    where
      one : (o : Option ℕ) → ((l : ℕ) → o ≡ Some l → l < size m) → count_by (λ l. holds l o) (range_with_len 0 (size m)) ≡ one_if (is_some o)
      one None below = sum_by_zeros (range_with_len 0 (size m))
      one (Some q) below = count_itself q 0 (size m) (omega arith) (omega (arith, below q refl))

  -- the rows on the bench are counted under the labels of the walk
  pub bench_total : Apart m.rows → sum_by (λ l. on_bench m h l) (range_with_len 0 (size m)) ≡ length (bench h)
  bench_total apart =
      counted_either_way (λ l r. same_row (meaning.row m l) r) (range_with_len 0 (size m)) (bench h)
      ∙ sum_by_same (λ r. count_by (λ l. same_row (meaning.row m l) r) (range_with_len 0 (size m))) (λ _. 1) (bench h) (All-weaker _ _ (λ r at. one r at) (bench h) kept.listed)
      ∙ sum_by_ones (bench h)
    where
      one : (r : Row) → Listed m.rows r → count_by (λ l. same_row (meaning.row m l) r) (range_with_len 0 (size m)) ≡ 1
      one r (i, below, e) =
          sum_by_same (λ l. one_if (same_row (meaning.row m l) r)) (λ l. one_if (eqb i l)) (range_with_len 0 (size m))
          (all_counting _ 0 (size m) (λ l _ high. ap one_if (⊎_elim
          (λ at. subst (λ x. same_row (meaning.row m x) r ≡ eqb i x) at (ap (same_row (meaning.row m i)) (sym e) ∙ same_itself (meaning.row m i) ∙ sym (eq-eqb i i refl)))
          (λ other. differ_from_unequal (meaning.row m l) r (λ same. other (apart i l below (omega arith) (e ∙ sym same))) ∙ sym (ne_eqb i l other))
          (cases_eq i l))))
          ∙ count_itself i 0 (size m) (omega arith) (omega arith)

  -- all places together have as many rows as the walk
  pub all_rows : Apart m.rows → length (bench h) + hands_count k h + waiting_count (size m) h + undrawn_count (size m) h ≡ size m
  all_rows apart =
      let labels = range_with_len 0 (size m) in
      let all = sum_by_same (λ l. on_bench m h l + in_hands k h l + one_if (waits h l) + one_if (undrawn h l)) (λ _. 1) labels (all_counting _ 0 (size m) (λ l _ high. kept.once l (omega arith))) in
      omega (
        arith,
        all,
        sum_by_ones labels,
        length-range_with_len 0 (size m),
        bench_total apart,
        hands_total,
        sum_by_plus (λ l. on_bench m h l + in_hands k h l + one_if (waits h l)) (λ l. one_if (undrawn h l)) labels,
        sum_by_plus (λ l. on_bench m h l + in_hands k h l) (λ l. one_if (waits h l)) labels,
        sum_by_plus (λ l. on_bench m h l) (λ l. in_hands k h l) labels,
      )

  -- the hands that the state counts, and the labels in its lanes
  pub state_hands : lanes.hands s.lanes ≡ hands_count k h
  state_hands =
      sum_by_at (λ lane. one_if (is_some lane.hand)) s.lanes
      ∙ ap (λ n. sum_by (λ i. one_if (is_some (lane_at s.lanes i).hand)) (range_with_len 0 n)) kept.known
      ∙ sum_by_same (λ i. one_if (is_some (lane_at s.lanes i).hand)) (λ i. one_if (is_some (hand h i))) (range_with_len 0 k)
      (all_counting _ 0 k (λ i _ high. ap (λ o. one_if (is_some o)) (kept.hands i (omega arith))))

  pub state_undrawn : 0 < k → lanes.undrawn s.lanes ≡ undrawn_count (size m) h
  state_undrawn some =
      sum_by_at left s.lanes
      ∙ ap (λ n. sum_by (λ i. left (lane_at s.lanes i)) (range_with_len 0 n)) kept.known
      ∙ sum_by_same (λ i. left (lane_at s.lanes i)) (λ i. count_by (undrawn h) (lane_labels (size m) k i)) (range_with_len 0 k)
      (all_counting _ 0 k (λ i _ high. sym (sym (length-filter (undrawn h) (lane_labels (size m) k i)) ∙ ap length (kept.lanes i (omega arith))
      ∙ length-range_with_len (lane_at s.lanes i).next (left (lane_at s.lanes i)))))
      ∙ sym (all_lanes (size m) k (undrawn h) some)
