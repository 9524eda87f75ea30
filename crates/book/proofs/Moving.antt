-- What a move leaves of the ties between a book's state and its history.
use Rattle.std.proofs.Common.{◌≡◌, ℕ, ◌+◌, ◌<◌, true, cond, eqb, List, [], ◌∷◌, ◌++◌, length, Some, None, count_by, Option, sym, refl, ap, ◌∙◌, subst, ⊎_elim, arith}
use Rattle.std.specs.List.{range_with_len}
use Rattle.std.proofs.ByRecursion.{All-push}
use Rattle.std.proofs.lemmas.List.{get_or-set_same, get_or-set_other, length-set}
use Rattle.std.proofs.lemmas.List.Sums.{sum_by-cons, sum_by_push}
use Rattle.std.proofs.lemmas.Bool.{eq-eqb, ne_eqb, cases_eq, cond-true, cond-false, cond_both}
use Rattle.walk.specs.Meaning.{Meaning, size, standing}
use Rattle.walk.specs.Meaning as meaning
use Rattle.walk.specs.Rows.{Row, Apart, same_row, row_at, label_of}
use Rattle.walk.proofs.Differences.{same_itself, differ_from_unequal, label_of_stands}
use Rattle.book.specs.Lanes.{no_lane, lane_at, left, with_hand}
use Rattle.book.specs.Places.{Move, puts, returns, hand, waits, bench, queue}
use Rattle.book.specs.State.{State}
use Rattle.book.specs.WholeLife.{one_if, holds, in_hands}
use Rattle.book.specs.declared.lane.Lane.{Lane}
use Rattle.book.proofs.Kept.{Kept, in_hands_set}
use Rattle.book.proofs.Tallies.{one_le_count}

-- a fact of a record that does not lie in its hand is the same with another hand
pub unhanded : {X : Type 0} (f : Lane → X) (o : Option ℕ) (lanes : List Lane) (i j : ℕ) → i < length lanes →
    f (record { next = (lane_at lanes i).next; end = (lane_at lanes i).end; hand = o }) ≡ f (lane_at lanes i) → f (lane_at (with_hand i o lanes) j) ≡ f (lane_at lanes j)
unhanded f o lanes i j h same =
    ⊎_elim
    (λ e. subst (λ x. f (lane_at (with_hand i o lanes) x) ≡ f (lane_at lanes x)) (sym e) (ap f (get_or-set_same lanes i _ no_lane h) ∙ same))
    (λ other. ap f (get_or-set_other lanes i j _ no_lane other))
    (cases_eq j i)

-- the hand of printer j, once that of printer i holds something else
pub hand_with : (o : Option ℕ) (lanes : List Lane) (i j : ℕ) → i < length lanes → (lane_at (with_hand i o lanes) j).hand ≡ cond (eqb i j) o (lane_at lanes j).hand
hand_with o lanes i j h =
    ⊎_elim
    (λ e. subst (λ x. (lane_at (with_hand i o lanes) x).hand ≡ cond (eqb i x) o (lane_at lanes x).hand) e
    (ap (λ (z : Lane). z.hand) (get_or-set_same lanes i _ no_lane h) ∙ sym (cond-true (eqb i i) o (lane_at lanes i).hand (eq-eqb i i refl))))
    (λ other. ap (λ (z : Lane). z.hand) (get_or-set_other lanes i j _ no_lane (λ e. other (sym e))) ∙ sym (cond-false (eqb i j) o (lane_at lanes j).hand (ne_eqb i j other)))
    (cases_eq i j)

-- a hand that is emptied holds nothing, and the others hold what they held
pub still_held : (hand : ℕ → Option ℕ) (i j l : ℕ) → cond (eqb i j) None (hand j) ≡ Some l → hand j ≡ Some l
still_held hand i j l = cond_both (eqb i j) None (hand j) (λ o. o ≡ Some l → hand j ≡ Some l) (λ _ e. absurd (let z : ◌≡◌ {A = ℕ} 0 1 = cc in omega arith)) (λ _ e. e)

module _ {m : Meaning} {k : ℕ} {h : List Move} {s : State} (kept : Kept m k h s) where
  -- The hand of printer i holds the label l.
  module _ (i l : ℕ) (known : i < k) (holding : hand h i ≡ Some l) where
    within : i < length s.lanes
    within = omega (arith, kept.known)

    -- the hands without it
    pub in_other_hands : (x : ℕ) → count_by (λ j. holds x (cond (eqb i j) None (hand h j))) (range_with_len 0 k) + one_if (eqb l x) ≡ in_hands k h x
    in_other_hands x = omega (arith, in_hands_set (hand h) None i k x known, ap (λ o. one_if (holds x o)) holding)

    -- it is in that hand, and nowhere else
    pub not_waiting : one_if (waits h l) ≡ 0
    not_waiting =
        omega (arith, kept.once l (kept.held i l holding).1, one_le_count (λ j. holds l (hand h j)) k i known, ap (λ o. one_if (holds l o)) holding, ap one_if (eq-eqb l l refl))

    -- The row is put on the bench.
    pub kept_puts : (r : Row) → Apart m.rows → label_of m.rows r ≡ Some l →
        Kept m k (puts i r ∷ h) (record { walk = s.walk; lanes = with_hand i None s.lanes; waiting = s.waiting; bench = s.bench + 1 })
    kept_puts r apart found = record {
      walk = kept.walk;
      known = length-set s.lanes i _ ∙ kept.known;
      hands = λ j h. hand_with None s.lanes i j within ∙ ap (cond (eqb i j) None) (kept.hands j h);
      waiting = kept.waiting;
      lanes = λ j h. kept.lanes j h ∙ sym (unhanded (λ (z : Lane). range_with_len z.next (left z)) None s.lanes i j within refl);
      on_the_bench = ap (λ n. n + 1) kept.on_the_bench ∙ omega arith;
      once = λ x below. omega (arith, sum_by-cons (λ y. one_if (same_row (meaning.row m x) y)) r (bench h), ap one_if (same x below), in_other_hands x, kept.once x below);
      listed = ((l, at.0, at.1), kept.listed);
      held = λ j x e. kept.held j x (still_held (hand h) i j x e);
      queued = kept.queued;
      waits_queued = kept.waits_queued;
      fronts = λ j x h e. unhanded (λ (z : Lane). z.next) None s.lanes i j within refl ∙ kept.fronts j x h e;
    }
      where
        at : (l < length m.rows) × (row_at m.rows l ≡ r)
        at = label_of_stands m.rows r l found

        same : (x : ℕ) → x < size m → same_row (meaning.row m x) r ≡ eqb l x
        same x below =
            ⊎_elim
            (λ e. subst (λ y. same_row (meaning.row m y) r ≡ eqb l y) e (ap (same_row (meaning.row m l)) (sym at.1) ∙ same_itself (meaning.row m l) ∙ sym (eq-eqb l l refl)))
            (λ other. differ_from_unequal (meaning.row m x) r (λ e. other (apart l x at.0 below (at.1 ∙ sym e))) ∙ sym (ne_eqb l x other))
            (cases_eq l x)

    -- The label goes back to wait.
    pub kept_returns : Kept m k (returns i l ∷ h) (record { walk = s.walk; lanes = with_hand i None s.lanes; waiting = s.waiting ++ l ∷ []; bench = s.bench })
    kept_returns = record {
      walk = kept.walk;
      known = length-set s.lanes i _ ∙ kept.known;
      hands = λ j h. hand_with None s.lanes i j within ∙ ap (cond (eqb i j) None) (kept.hands j h);
      waiting = ap (λ (w : List ℕ). w ++ l ∷ []) kept.waiting;
      lanes = λ j h. kept.lanes j h ∙ sym (unhanded (λ (z : Lane). range_with_len z.next (left z)) None s.lanes i j within refl);
      on_the_bench = kept.on_the_bench;
      once = λ x below. omega (arith, in_other_hands x, waits_then x, kept.once x below);
      listed = kept.listed;
      held = λ j x e. kept.held j x (still_held (hand h) i j x e);
      queued = All-push (λ x. x < size m) (queue h) l kept.queued (kept.held i l holding).1;
      waits_queued = λ x. sum_by_push (λ q. one_if (eqb q x)) (queue h) l ∙ omega (arith, kept.waits_queued x, waits_then x);
      fronts = λ j x h e. unhanded (λ (z : Lane). z.next) None s.lanes i j within refl ∙ kept.fronts j x h e;
    }
      where
        waits_then : (x : ℕ) → one_if (waits (returns i l ∷ h) x) ≡ one_if (waits h x) + one_if (eqb l x)
        waits_then x =
            ⊎_elim
            (λ e. subst (λ y. one_if (waits (returns i l ∷ h) y) ≡ one_if (waits h y) + one_if (eqb l y)) e
            (omega (arith, not_waiting, ap one_if (eq-eqb l l refl), ap one_if (cond-true (eqb l l) true (waits h l) (eq-eqb l l refl)))))
            (λ other. omega (arith, ap one_if (ne_eqb l x other), ap one_if (cond-false (eqb l x) true (waits h x) (ne_eqb l x other))))
            (cases_eq l x)
