-- How the calls of a join follow from those of the two walks. Assumes nothing.
use Rattle.std.proofs.Common.{◌≡◌, ℕ, ◌+◌, ◌-◌, ◌*◌, ◌/◌, ◌%◌, ◌<◌, ◌≤◌, Bool, true, false, cond, ◌&&◌, eqb, List, [], ◌++◌, length, take, drop, is_ok, Ok, Err, sym, refl, ap, ◌∙◌, subst, ap₂, ⊎_elim, append_assoc, zero-mul, arith}
use borrow.Rule.Slice.PartMut.{put_mid}
use Rattle.std.specs.Result.{result_unwrap_or}
use Rattle.std.proofs.lemmas.Nat.{mul-add-lt}
use Rattle.std.proofs.lemmas.List.{append-nil, length-append, length-drop, take_at, drop_at, take_all, drop_all, drop-drop}
use Rattle.std.proofs.lemmas.Slice.{put_mid-paste}
use Rattle.std.proofs.lemmas.Bool.{both_ways, cond-true, cond-false, ne_eqb, and_right}
use Rattle.walk.specs.Rows.{Row, odd}
use Rattle.walk.specs.Making.{new_walk}
use Rattle.walk.specs.Meaning.{Meaning, Lawful, size, row, standing}
use Rattle.walk.specs.Answers.{seeks, after_seek, reads, after_read, finds}
use Rattle.walk.specs.declared.answers.Refusal.{Refusal}
use Rattle.walk.specs.declared.answers.Refusal.TheVariants.{NoSuchLabel, NoSuchRow}
use Rattle.joins.specs.Steps.{right_way, steps, after_step}
use Rattle.joins.specs.Join.{mirrored, joined_label, join_size, join_of, join_place, joined, join_made, unless_refused}
use Rattle.joins.specs.declared.fault.JoinFault.{JoinFault}
use Rattle.walk.proofs.Cases.{seek_in, read_row, first_place, found, lost, finds_label, finds_none}
use Rattle.joins.specs.JoinLaws.{Fits, fits_cases, turns_over, join_of_size, join_of_row, join_lawful}
use Rattle.joins.specs.Joined.{pair_divided, pair_at, label_below, factors_some}
use Rattle.joins.specs.Stepping.{StepsTo, AtEnd, step_in, step_out, step_none, step_accepted, step_refused, odd_step, right_steps, right_ends, turned_ends, left_steps, join_ends}

-- a join that has rows
pub record SomeRows (swing : Bool) (a b : Meaning) : Type 0 where
  pub fits : Fits a b
  pub some_left : 0 < size a
  pub some_right : 0 < size b
  pub all : size (joined swing a b) ≡ size a * size b
  pub is : joined swing a b ≡ standing (join_of swing a b) (joined_label swing (size b) a.place b.place)

-- both give the same
cond_same : (t : Bool) (x y : ℕ) → y ≡ x → cond t x y ≡ x
cond_same true x y e = refl
cond_same false x y e = e

-- the label of a pair of rows fits 32 bits
pub label_fits : (a b : Meaning) → is_ok (join_size a b) ≡ true → (i n k : ℕ) → n ≡ size b → i < size a → k < n → i * n + k < 4294967296
label_fits a b ok i n k is hi hk =
    ⊎_elim (λ fits. let few : size a * n ≤ 4294967295 = subst (λ x. size a * x ≤ 4294967295) (sym is) fits.few in omega (arith, mul-add-lt i n k (size a) hi hk))
    (λ refused. absurd (both_ways (is_ok (join_size a b)) (ap is_ok refused.1) ok)) (fits_cases a b)

-- the row at which the right walk starts again
start_below : (down : Bool) (n : ℕ) → 0 < n → cond down (n - 1) 0 < n
start_below true n some = omega arith
start_below false n some = some

module _ (swing : Bool) (a b : Meaning) where
  -- the join of two walks that fit
  join_fits : Fits a b → joined swing a b ≡ standing (join_of swing a b) (join_place swing a b)
  join_fits fits = cond-true _ _ _ (ap is_ok fits.told)

  -- the join of two walks that do not fit has no rows
  join_unfit : (why : JoinFault) → join_size a b ≡ Err why → size (joined swing a b) ≡ 0
  join_unfit why told = ap size (cond-false (is_ok (join_size a b)) (standing (join_of swing a b) (join_place swing a b)) (new_walk [] 0 false) (ap is_ok told))

  -- the number of rows of any join
  pub join_rows : result_unwrap_or (join_size a b) 0 ≡ size (joined swing a b)
  join_rows = ⊎_elim (λ fits. ap (λ r. result_unwrap_or r 0) fits.told ∙ sym (ap size (join_fits fits) ∙ join_of_size swing a b))
      (λ refused. ap (λ r. result_unwrap_or r 0) refused.1 ∙ sym (join_unfit refused.0 refused.1))
      (fits_cases a b)

  -- a join with rows is of two walks that fit and have rows
  pub some_rows : 0 < size (joined swing a b) → SomeRows swing a b
  some_rows some = ⊎_elim fitting (λ refused. absurd (omega (arith, join_unfit refused.0 refused.1))) (fits_cases a b)
    where
      fitting : Fits a b → SomeRows swing a b
      fitting fits =
          let all = ap size (join_fits fits) ∙ join_of_size swing a b in
          let each = factors_some (size a) (size b) (omega arith) in
          record {
            fits = fits;
            some_left = each.0;
            some_right = each.1;
            all = all;
            is = join_fits fits ∙ ap (standing (join_of swing a b)) (cond-false _ _ _ (ne_eqb (size a) 0 (λ e. omega (arith, each.0))));
          }

  -- a join as made stands at 0
  pub join_new : Lawful a → Lawful b → (n : ℕ) → Ok n ≡ join_size a b → join_made swing a b ≡ Ok (joined swing (after_seek a 0) (after_seek b 0))
  join_new lawful_a lawful_b n told =
      let first : joined_label swing (size b) 0 0 ≡ 0 = ap₂ ◌+◌ (zero-mul (size b)) (ap (λ t. mirrored t (size b) 0) (and_right swing (odd 0) refl)) in
      let stands : joined swing (standing a 0) (standing b 0) ≡ join_of swing a b =
      cond-true _ _ _ (sym (ap is_ok told)) ∙ ap (standing (join_of swing a b)) (cond_same (eqb (size a) 0) 0 (joined_label swing (size b) 0 0) first) in
      ap (λ r. unless_refused r (join_of swing a b)) (sym told) ∙ ap Ok (sym (ap₂ (joined swing) (first_place a lawful_a) (first_place b lawful_b) ∙ stands))

  -- the labels of the two rows that stand at a label
  pub pair_of : SomeRows swing a b → (n label j : ℕ) → n ≡ size b → label < size (joined swing a b) → j ≡ mirrored (swing && odd (label / n)) (size b) (label % n) →
      (label / n < size a) × (j < size b) × (joined_label swing (size b) (label / n) j ≡ label)
  pair_of rows n label j is lt at =
      pair_divided swing (size a) (size b) n label j is (omega (arith, rows.all)) (at ∙ ap (λ m. mirrored (swing && odd (label / n)) m (label % n)) (sym is))

  module _ (lawful_a : Lawful a) (lawful_b : Lawful b) (rows : SomeRows swing a b) where
    -- the left walk stands at a label
    pub left_inside : a.place < size a
    left_inside = lawful_a.inside.0 rows.some_left

    -- and so does the right one
    pub right_inside : b.place < size b
    right_inside = lawful_b.inside.0 rows.some_right

    -- the label of a pair of rows is one of the join
    pub pair_below : (i j : ℕ) → i < size a → j < size b → joined_label swing (size b) i j < size (joined swing a b)
    pair_below i j hi hj = omega (arith, rows.all, label_below swing (size a) (size b) i j hi hj)

    -- the row of a pair
    pub pair_row : (i j : ℕ) → i < size a → j < size b → row (joined swing a b) (joined_label swing (size b) i j) ≡ row a i ++ row b j
    pair_row i j hi hj =
        ap (λ m. row m (joined_label swing (size b) i j)) rows.is
        ∙ join_of_row swing a b (joined_label swing (size b) i j) (record { left = i; right = j; left_below = hi; right_below = hj; is = refl })

    -- a join stands where its walks stand
    pub pair_standing : (i j : ℕ) → joined swing (standing a i) (standing b j) ≡ standing (joined swing a b) (joined_label swing (size b) i j)
    pair_standing i j =
        cond-true _ _ _ (ap is_ok rows.fits.told)
        ∙ ap (standing (join_of swing a b)) (cond-false _ _ _ (ne_eqb (size a) 0 (λ e. omega (arith, rows.some_left))))
        ∙ sym (ap (λ m. standing m (joined_label swing (size b) i j)) rows.is)

    -- `seek` goes to the pair of rows at the label
    pub join_seek : (i j label : ℕ) → i < size a → j < size b → joined_label swing (size b) i j ≡ label →
        (seeks b j ≡ seeks (joined swing a b) label) × (joined swing (after_seek a i) (after_seek b j) ≡ after_seek (joined swing a b) label)
    join_seek i j label hi hj at =
        let here = seek_in (joined swing a b) label (subst (λ l. l < size (joined swing a b)) at (pair_below i j hi hj)) in
        let right = seek_in b j hj in
        (right.0 ∙ sym here.0, ap₂ (joined swing) (seek_in a i hi).1 right.1 ∙ pair_standing i j ∙ ap (standing (joined swing a b)) at ∙ sym here.1)

    -- `find` looks each half up
    pub join_found : (r front end : Row) (i j : ℕ) → front ++ end ≡ r → Ok i ≡ finds a front → Ok j ≡ finds b end → finds (joined swing a b) r ≡ Ok (joined_label swing (size b) i j)
    join_found r front end i j parts left right =
        let at_left = found a front i left in
        let at_right = found b end j right in
        finds_label (joined swing a b) r (join_lawful swing a b lawful_a lawful_b).apart (joined_label swing (size b) i j) (pair_below i j at_left.0 at_right.0)
        (pair_row i j at_left.0 at_right.0 ∙ ap₂ ◌++◌ at_left.1 at_right.1 ∙ parts)

    -- what is no pair of rows is not found
    pub join_missing : (r : Row) → ((i j : ℕ) → i < size a → j < size b → row a i ++ row b j ≡ r → ⊥) → finds (joined swing a b) r ≡ Err NoSuchRow
    join_missing r none =
        finds_none (joined swing a b) r (λ label lt e.
        let p = pair_at swing (size a) (size b) label (omega (arith, rows.all)) in
        none p.left p.right p.left_below p.right_below (sym (pair_row p.left p.right p.left_below p.right_below) ∙ ap (row (joined swing a b)) (sym p.is) ∙ e))

    -- `read` writes the left row and then, behind it, the right one
    pub join_reads : (tray front rest back : List ℕ) (w : ℕ) → w ≡ a.width → a.width + b.width ≤ length tray →
        front ≡ after_read a tray → rest ≡ drop w front → back ≡ after_read b rest →
        (reads b rest ≡ reads (joined swing a b) tray) × (put_mid w (length front - w) front back ≡ after_read (joined swing a b) tray)
    join_reads tray front rest back w wide long front_is rest_is back_is =
        let left = row a a.place in
        let right = row b b.place in
        let n = length front - w in
        let wide_left : length left ≡ a.width = lawful_a.wide a.place left_inside in
        let wide_right : length right ≡ b.width = lawful_b.wide b.place right_inside in
        let front_has : front ≡ left ++ drop a.width tray = front_is ∙ (read_row a tray rows.some_left (omega arith)).1 in
        let front_long : length front ≡ length tray = ap length front_has ∙ length-append left (drop a.width tray) ∙ omega (arith, length-drop a.width tray) in
        let rest_has : rest ≡ drop a.width tray = rest_is ∙ ap₂ drop wide front_has ∙ drop_at left (drop a.width tray) a.width wide_left in
        let rest_long : length rest ≡ length tray - a.width = ap length rest_has ∙ length-drop a.width tray in
        let below = read_row b rest rows.some_right (omega arith) in
        let back_has : back ≡ right ++ drop b.width rest = back_is ∙ below.1 in
        let back_long : length back ≡ n = ap length back_has ∙ length-append right (drop b.width rest) ∙ omega (arith, length-drop b.width rest) in
        let width : (joined swing a b).width ≡ a.width + b.width = ap (λ (m : Meaning). m.width) rows.is in
        let here = read_row (joined swing a b) tray (omega (arith, pair_below a.place b.place left_inside right_inside)) (omega arith) in
        let both : row (joined swing a b) (joined swing a b).place ≡ left ++ right = ap (λ (m : Meaning). row (joined swing a b) m.place) rows.is ∙ pair_row a.place b.place left_inside right_inside in
        let kept : take w front ≡ left = ap₂ take wide front_has ∙ take_at left (drop a.width tray) a.width wide_left in
        let written : take n back ≡ back = take_all n back (omega arith) in
        let none : drop (w + n) front ≡ [] = drop_all (w + n) front (omega arith) in
        let end : back ≡ right ++ drop (a.width + b.width) tray = back_has ∙ ap (λ r. right ++ drop b.width r) rest_has ∙ ap (λ d. right ++ d) (drop-drop b.width a.width tray) in (
          below.0 ∙ sym here.0,
          put_mid-paste w n front back back n refl refl (sym back_long) ∙ ap₂ ◌++◌ (ap₂ ◌++◌ kept written) none ∙ append-nil (left ++ back) ∙ ap (λ x. left ++ x) end
              ∙ sym (append_assoc left right (drop (a.width + b.width) tray)) ∙ sym (here.1 ∙ ap₂ (λ r w. r ++ drop w tray) both width),
        )

    -- a row of another length is not in the join
    pub join_lost_width : (r : Row) → (length r ≡ a.width + b.width → ⊥) → finds (joined swing a b) r ≡ Err NoSuchRow
    join_lost_width r other =
        join_missing r (λ i j hi hj e. other (sym (ap length e) ∙ length-append (row a i) (row b j) ∙ ap₂ ◌+◌ (lawful_a.wide i hi) (lawful_b.wide j hj)))

    -- a row whose front is no left row is not in the join
    pub join_lost_left : (r front : Row) (why : Refusal) → front ≡ take a.width r → Err why ≡ finds a front → finds (joined swing a b) r ≡ Err why
    join_lost_left r front why front_is e =
        let gone = lost a front why e in
        join_missing r (λ i j hi hj at. gone.1 i hi (sym (take_at (row a i) (row b j) a.width (lawful_a.wide i hi)) ∙ ap (take a.width) at ∙ sym front_is)) ∙ ap Err (sym gone.0)

    -- nor is one whose end is no right row
    pub join_lost_right : (r end : Row) (why : Refusal) → end ≡ drop a.width r → Err why ≡ finds b end → finds (joined swing a b) r ≡ Err why
    join_lost_right r end why end_is e =
        let gone = lost b end why e in
        join_missing r (λ i j hi hj at. gone.1 j hj (sym (drop_at (row a i) (row b j) a.width (lawful_a.wide i hi)) ∙ ap (drop a.width) at ∙ sym end_is)) ∙ ap Err (sym gone.0)

    -- a step of the join to a pair of rows
    pub join_goes : (down : Bool) (h k : ℕ) → h < size a → k < size b → StepsTo down (joined_label swing (size b) a.place b.place) (joined_label swing (size b) h k) →
        (steps down (joined swing a b) ≡ Ok tt) × (after_step down (joined swing a b) ≡ joined swing (standing a h) (standing b k))
    join_goes down h k hh hk to =
        let goes = step_in down (joined swing a b) (joined_label swing (size b) h k) (subst (λ p. StepsTo down p (joined_label swing (size b) h k)) (sym (ap (λ (m : Meaning). m.place) rows.is)) to) (pair_below h k hh hk) in
        (goes.0, goes.1 ∙ sym (pair_standing h k))

    -- the right walk steps
    pub join_steps_right : (down : Bool) → is_ok (steps (right_way (swing && odd a.place) down) b) ≡ true →
        (steps down (joined swing a b) ≡ Ok tt) × (after_step down (joined swing a b) ≡ joined swing a (after_step (right_way (swing && odd a.place) down) b))
    join_steps_right down ok =
        let back = swing && odd a.place in
        let to = step_accepted (right_way back down) b right_inside ok in
        let goes = join_goes down a.place to.0 left_inside to.1 (right_steps down back (size b) (a.place * size b) b.place to.0 right_inside to.1 to.2) in
        (goes.0, goes.1 ∙ sym (ap (joined swing a) (step_in (right_way back down) b to.0 to.2 to.1).1))

    module _ (down : Bool) (end : AtEnd (right_way (swing && odd a.place) down) (size b) b.place) where
      -- neither walk can step
      pub join_stays : AtEnd down (size a) a.place → (steps down (joined swing a b) ≡ Err NoSuchLabel) × (after_step down (joined swing a b) ≡ joined swing a b)
      join_stays last =
          let back = swing && odd a.place in
          let ends = join_ends down (size a) (size b) a.place (mirrored back (size b) b.place) left_inside rows.some_right last (right_ends down back (size b) b.place right_inside end) in
          step_out down (joined swing a b) (subst (λ n. AtEnd down n (joined swing a b).place) (sym rows.all) (subst (AtEnd down (size a * size b)) (sym (ap (λ (m : Meaning). m.place) rows.is)) ends))

      -- in `swing` only the left walk moves
      pub join_turns : swing ≡ true → (h : ℕ) → h < size a → StepsTo down a.place h →
          (steps down (joined swing a b) ≡ Ok tt) × (after_step down (joined swing a b) ≡ joined swing (standing a h) b)
      join_turns swings h hh to =
          let back = swing && odd a.place in
          let first = ap (λ t. mirrored t (size b) b.place) (turns_over swing a.place h swings (odd_step down a.place h to)) ∙ turned_ends down back (size b) b.place right_inside end in
          join_goes down h b.place hh right_inside
          (left_steps down (size b) a.place h (mirrored back (size b) b.place) (mirrored (swing && odd h) (size b) b.place) rows.some_right to (right_ends down back (size b) b.place right_inside end) first)

      -- in `odometer` the right walk starts again
      pub join_carries : swing ≡ false → (h : ℕ) → h < size a → StepsTo down a.place h →
          (steps down (joined swing a b) ≡ Ok tt) × (after_step down (joined swing a b) ≡ joined swing (standing a h) (standing b (cond down (size b - 1) 0)))
      join_carries plain h hh to =
          let back = swing && odd a.place in
          let start = cond down (size b - 1) 0 in
          let first : mirrored (swing && odd h) (size b) start ≡ start = ap (λ t. mirrored (t && odd h) (size b) start) plain in
          join_goes down h start hh (start_below down (size b) rows.some_right)
          (left_steps down (size b) a.place h (mirrored back (size b) b.place) (mirrored (swing && odd h) (size b) start) rows.some_right to (right_ends down back (size b) b.place right_inside end) first)

-- What `step` of a join computes, as its code goes. A join without rows refuses,
pub step_without_rows : (swing : Bool) (a b : Meaning) (down : Bool) → Lawful a → Lawful b → size (joined swing a b) ≡ 0 →
    (Err NoSuchLabel ≡ steps down (joined swing a b)) × (joined swing a b ≡ after_step down (joined swing a b))
step_without_rows swing a b down lawful_a lawful_b none =
    let stays = step_none down (joined swing a b) (join_lawful swing a b lawful_a lawful_b) none in
    (sym stays.0, sym stays.1)

-- The right walk was told to go its way d, answered, and is b' now.
pub record RightStep (swing : Bool) (a b b' : Meaning) (down ok : Bool) : Type 0 where
  pub some : 0 < size (joined swing a b)
  pub answer : is_ok (steps (right_way (swing && odd a.place) down) b) ≡ ok
  pub after : b' ≡ after_step (right_way (swing && odd a.place) down) b

-- it is one from how the code finds its way
pub right_step : (swing : Bool) (a b b' : Meaning) (down ok : Bool) → 0 < size (joined swing a b) → (p : ℕ) (back d : Bool) → p ≡ a.place → back ≡ (swing && odd p) → d ≡ right_way back down →
    is_ok (steps d b) ≡ ok → b' ≡ after_step d b → RightStep swing a b b' down ok
right_step swing a b b' down ok some p back d p_is back_is d_is answer after =
    let is : d ≡ right_way (swing && odd a.place) down = d_is ∙ ap (λ t. right_way t down) (back_is ∙ ap (λ i. swing && odd i) p_is) in
    record { some = some; answer = sym (ap (λ t. is_ok (steps t b)) is) ∙ answer; after = after ∙ ap (λ t. after_step t b) is }

module _ (swing : Bool) (a b b' : Meaning) (down : Bool) (lawful_a : Lawful a) (lawful_b : Lawful b) where
  -- it is one step with a right walk that can step;
  pub step_of_right : RightStep swing a b b' down true → (Ok tt ≡ steps down (joined swing a b)) × (joined swing a b' ≡ after_step down (joined swing a b))
  step_of_right right =
      let goes = join_steps_right swing a b lawful_a lawful_b (some_rows swing a b right.some) down right.answer in
      (sym goes.0, ap (joined swing a) right.after ∙ sym goes.1)

  module _ (right : RightStep swing a b b' down false) where
    -- a right walk that cannot step stands at its end;
    right_end : AtEnd (right_way (swing && odd a.place) down) (size b) b.place
    right_end = step_refused (right_way (swing && odd a.place) down) b (right_inside swing a b lawful_a lawful_b (some_rows swing a b right.some)) right.answer

    -- it stays,
    pub right_stays : b' ≡ b
    right_stays = right.after ∙ (step_out (right_way (swing && odd a.place) down) b right_end).1

    -- and has rows;
    pub right_some : 0 < size b'
    right_some = omega (arith, ap size right_stays, (some_rows swing a b right.some).some_right)

    -- where the left walk cannot step either, the join refuses;
    pub step_of_none : (a' : Meaning) (why : Refusal) → Err why ≡ steps down a → a' ≡ after_step down a →
        (Err why ≡ steps down (joined swing a b)) × (joined swing a' b' ≡ after_step down (joined swing a b))
    step_of_none a' why told after =
        let rows = some_rows swing a b right.some in
        let last = step_refused down a (left_inside swing a b lawful_a lawful_b rows) (sym (ap is_ok told)) in
        let left = step_out down a last in
        let none = join_stays swing a b lawful_a lawful_b rows down right_end last in
        (told ∙ left.0 ∙ sym none.0, ap₂ (joined swing) (after ∙ left.1) right_stays ∙ sym none.1)

    -- and where the left walk steps, in `odometer` the right one begins again,
    pub step_carried : (a' b'' : Meaning) → swing ≡ false → Ok tt ≡ steps down a → a' ≡ after_step down a → b'' ≡ standing b' (cond down (size b' - 1) 0) →
        (Ok tt ≡ steps down (joined swing a b)) × (joined swing a' b'' ≡ after_step down (joined swing a b))
    step_carried a' b'' plain told after begun =
        let rows = some_rows swing a b right.some in
        let to = step_accepted down a (left_inside swing a b lawful_a lawful_b rows) (sym (ap is_ok told)) in
        let goes = join_carries swing a b lawful_a lawful_b rows down right_end plain to.0 to.1 to.2 in
        (sym goes.0, ap₂ (joined swing) (after ∙ (step_in down a to.0 to.2 to.1).1) (begun ∙ ap (λ m. standing m (cond down (size m - 1) 0)) right_stays) ∙ sym goes.1)

    -- while in `swing` it stays.
    pub step_turned : (a' : Meaning) → swing ≡ true → Ok tt ≡ steps down a → a' ≡ after_step down a →
        (Ok tt ≡ steps down (joined swing a b)) × (joined swing a' b' ≡ after_step down (joined swing a b))
    step_turned a' swings told after =
        let rows = some_rows swing a b right.some in
        let to = step_accepted down a (left_inside swing a b lawful_a lawful_b rows) (sym (ap is_ok told)) in
        let goes = join_turns swing a b lawful_a lawful_b rows down right_end swings to.0 to.1 to.2 in
        (sym goes.0, ap₂ (joined swing) (after ∙ (step_in down a to.0 to.2 to.1).1) right_stays ∙ sym goes.1)
