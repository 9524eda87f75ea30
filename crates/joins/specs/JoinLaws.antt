-- The join of two walks is a walk. Assumes nothing.
use Rattle.std.specs.Prelude.{◌≡◌, ℕ, ◌+◌, ◌-◌, ◌*◌, ◌<◌, ◌≤◌, Bool, true, false, cond, not, ◌&&◌, leb, ◌⊎◌, [], ◌∷◌, ◌++◌, length, is_ok, Ok, Err, ◌==◌, nat_le, slice_index, refl}
use Rattle.std.proofs.Common.{sym, ap, ap₂, subst, ◌∙◌, inl, inr, ⊎_elim, arith, mul-zero}
use Rattle.std.proofs.lemmas.List.{length-append, get_or_append_left, get_or-append_right}
use Rattle.std.proofs.lemmas.Bool.{cases_lt, cases_Bool, cond-true, cond-false, leb-true, eq-eqb, ne_eqb, and_parts, false≢true}
use Rattle.walk.specs.Rows.{Row, Apart, odd, differences}
use Rattle.walk.specs.Making.{new_walk}
use Rattle.walk.specs.Meaning.{Meaning, Lawful, size, row, standing}
use Rattle.walk.specs.declared.making.MakingFault.TheVariants.{TooManyRows}
use Rattle.walk.proofs.Differences.{differences_behind, differences_same, differences_comm}
use Rattle.joins.specs.Join.{joined_rows, mirrored, joined_label, join_size, join_of, join_place, joined}
use Rattle.joins.specs.declared.fault.JoinFault.{JoinFault}
use Rattle.joins.specs.declared.fault.JoinFault.TheVariants.{Making, TooWide}
use Rattle.joins.specs.Joined.{length_joined, joined_at, label_below, Pair, pair_at, parts_same}
use Rattle.joins.specs.Steps.{right_way}
use Rattle.joins.specs.Stepping.{StepsTo, AtEnd, step_cases, odd_step, right_steps, right_ends, turned_ends, left_steps, join_ends}

-- two walks that can be joined
pub record Fits (a b : Meaning) : Type 0 where
  pub wide : a.width + b.width ≤ 64
  pub few : size a * size b ≤ 4294967295
  pub told : join_size a b ≡ Ok (size a * size b)

-- two walks fit, or their join is refused
pub fits_cases : (a b : Meaning) → Fits a b ⊎ ((why : JoinFault) × (join_size a b ≡ Err why))
fits_cases a b = ⊎_elim narrow (λ wide. inr (TooWide, cond-false _ _ _ wide)) (cases_Bool (nat_le (a.width + b.width) 64))
  where
    narrow : leb (a.width + b.width) 64 ≡ true → Fits a b ⊎ ((why : JoinFault) × (join_size a b ≡ Err why))
    narrow n =
        ⊎_elim (λ few. inl (record { wide = leb-true (a.width + b.width) 64 n; few = leb-true (size a * size b) 4294967295 few; told = cond-true _ _ _ n ∙ cond-true _ _ _ few }))
        (λ many. inr (Making TooManyRows, cond-true _ _ _ n ∙ cond-false _ _ _ many)) (cases_Bool (nat_le (size a * size b) 4294967295))

-- the row at a label differs from the next one in at most two places
abbrev Near : Meaning → ℕ → Type 0
Near m label = differences (row m label) (row m (label + 1)) ≤ 2

-- rows with one front differ where what follows does
differences_front : (x y z : Row) → differences (x ++ y) (x ++ z) ≡ differences y z
differences_front [] y z = refl
differences_front (v ∷ x) y z = differences_behind v (x ++ y) (x ++ z) ∙ differences_front x y z

-- rows of one width with one end differ where what precedes does
differences_end : (x y z : Row) → length x ≡ length y → differences (x ++ z) (y ++ z) ≡ differences x y
differences_end [] [] z long = differences_same z
differences_end [] (w ∷ y) z long = absurd (omega arith)
differences_end (v ∷ x) [] z long = absurd (omega arith)
differences_end (v ∷ x) (w ∷ y) z long = ap (λ d. cond (v == w) 0 1 + d) (differences_end x y z (omega arith))

-- neighbours in a steady walk differ in at most two places, in either direction
steady_step : (m : Meaning) → Lawful m → m.steady ≡ true → (down : Bool) (p q : ℕ) → p < size m → q < size m → StepsTo down p q → differences (row m p) (row m q) ≤ 2
steady_step m lawful told true p q hp hq to = rw (to, differences_comm (row m (q + 1)) (row m q)) (lawful.steps told q (omega arith))
steady_step m lawful told false p q hp hq to = rw to (lawful.steps told p (omega arith))

-- in `swing` the right rows turn over from each left row to the next
pub turns_over : (swing : Bool) (i h : ℕ) → swing ≡ true → odd h ≡ not (odd i) → (swing && odd h) ≡ not (swing && odd i)
turns_over true i h told other = other
turns_over false i h told other = absurd (false≢true told)

-- there is one label at most in no rows
mirrored_none : (back : Bool) → mirrored back 0 0 ≡ 0
mirrored_none true = refl
mirrored_none false = refl

-- no rows are a walk
none_lawful : Lawful (new_walk [] 0 false)
none_lawful =
    record {
      narrow = omega arith;
      few = omega arith;
      wide = λ i lt. absurd (omega arith);
      bytes = λ i k lt below. absurd (omega arith);
      apart = λ i j hi hj e. absurd (omega arith);
      inside = (λ some. some, λ none. refl);
      steps = λ told i lt. absurd (omega arith);
    }

module _ (swing : Bool) (a b : Meaning) where
  -- a join has as many rows as pairs
  pub join_of_size : size (join_of swing a b) ≡ size a * size b
  join_of_size = length_joined swing b.rows 0 a.rows

  -- the row at a label of a join
  pub join_of_row : (label : ℕ) (p : Pair swing (size a) (size b) label) → row (join_of swing a b) label ≡ row a p.left ++ row b p.right
  join_of_row label p = ap (row (join_of swing a b)) p.is ∙ joined_at swing b.rows a.rows p.left p.right p.left_below p.right_below

  -- the pair of rows at a label
  pub join_of_pair : (label : ℕ) → label < size (join_of swing a b) → Pair swing (size a) (size b) label
  join_of_pair label lt = pair_at swing (size a) (size b) label (omega (arith, join_of_size))

  module _ (lawful_a : Lawful a) (lawful_b : Lawful b) where
    -- rows are as wide as both
    wide : (label : ℕ) → label < size (join_of swing a b) → length (row (join_of swing a b) label) ≡ a.width + b.width
    wide label lt =
        let p = join_of_pair label lt in
        ap length (join_of_row label p) ∙ length-append (row a p.left) (row b p.right) ∙ ap₂ ◌+◌ (lawful_a.wide p.left p.left_below) (lawful_b.wide p.right p.right_below)

    -- values go up to 255
    bytes : (label k : ℕ) → label < size (join_of swing a b) → k < a.width + b.width → slice_index (row (join_of swing a b) label) k ≤ 255
    bytes label k lt below =
        let p = join_of_pair label lt in
        let long = lawful_a.wide p.left p.left_below in
        rw (join_of_row label p) (⊎_elim
        (λ front. rw (get_or_append_left (row a p.left) (row b p.right) 0 k (omega arith)) (lawful_a.bytes p.left k p.left_below front))
        (λ end. rw (get_or-append_right (row a p.left) (row b p.right) a.width k 0 long end) (lawful_b.bytes p.right (k - a.width) p.right_below (omega arith)))
        (cases_lt k a.width))

    -- no two rows are the same
    apart : Apart (joined_rows swing a.rows b.rows)
    apart i j hi hj e =
        let p = join_of_pair i hi in
        let q = join_of_pair j hj in
        let same = parts_same (row a p.left) (row b p.right) (row a q.left) (row b q.right) (lawful_a.wide p.left p.left_below ∙ sym (lawful_a.wide q.left q.left_below))
        (sym (join_of_row i p) ∙ e ∙ join_of_row j q) in
        p.is ∙ ap₂ (joined_label swing (size b)) (lawful_a.apart p.left q.left p.left_below q.left_below same.0) (lawful_b.apart p.right q.right p.right_below q.right_below same.1) ∙ sym q.is

    -- in `swing` neighbours differ in one half only, as they do there
    swing_steps : swing ≡ true → a.steady ≡ true → b.steady ≡ true → (label : ℕ) → label + 1 < size (join_of swing a b) → Near (join_of swing a b) label
    swing_steps swings steady_a steady_b label lt =
        let p = join_of_pair label (omega arith) in
        ⊎_elim (within p) (across p) (step_cases (right_way (swing && odd p.left) false) (size b) p.right p.right_below)
      where
        next : (p : Pair swing (size a) (size b) label) (h k : ℕ) → h < size a → k < size b → StepsTo false (joined_label swing (size b) p.left p.right) (joined_label swing (size b) h k) →
            row (join_of swing a b) (label + 1) ≡ row a h ++ row b k
        next p h k hh hk to = join_of_row (label + 1) (record { left = h; right = k; left_below = hh; right_below = hk; is = ap (λ x. x + 1) p.is ∙ sym to })

        within : (p : Pair swing (size a) (size b) label) → ((k : ℕ) × (k < size b) × StepsTo (right_way (swing && odd p.left) false) p.right k) → Near (join_of swing a b) label
        within p (k, hk, to) =
            let back = swing && odd p.left in
            let there = next p p.left k p.left_below hk (right_steps false back (size b) (p.left * size b) p.right k p.right_below hk to) in
            rw (join_of_row label p, there, differences_front (row a p.left) (row b p.right) (row b k))
            (steady_step b lawful_b steady_b (right_way back false) p.right k p.right_below hk to)

        turn : (p : Pair swing (size a) (size b) label) → AtEnd (right_way (swing && odd p.left) false) (size b) p.right → ((h : ℕ) × (h < size a) × StepsTo false p.left h) → Near (join_of swing a b) label
        turn p end (h, hh, to) =
            let back = swing && odd p.left in
            let turns = turns_over swing p.left h swings (odd_step false p.left h to) in
            let first = ap (λ t. mirrored t (size b) p.right) turns ∙ turned_ends false back (size b) p.right p.right_below end in
            let last = right_ends false back (size b) p.right p.right_below end in
            let there = next p h p.right hh p.right_below (left_steps false (size b) p.left h (mirrored back (size b) p.right) (mirrored (swing && odd h) (size b) p.right) (omega (arith, p.right_below)) to last first) in
            rw (join_of_row label p, there, differences_end (row a p.left) (row a h) (row b p.right) (lawful_a.wide p.left p.left_below ∙ sym (lawful_a.wide h hh)))
            (steady_step a lawful_a steady_a false p.left h p.left_below hh to)

        past : (p : Pair swing (size a) (size b) label) → AtEnd (right_way (swing && odd p.left) false) (size b) p.right → AtEnd false (size a) p.left → ⊥
        past p end last =
            let back = swing && odd p.left in
            let ends = join_ends false (size a) (size b) p.left (mirrored back (size b) p.right) p.left_below (omega arith) last (right_ends false back (size b) p.right p.right_below end) in
            omega (arith, join_of_size, p.is)

        across : (p : Pair swing (size a) (size b) label) → AtEnd (right_way (swing && odd p.left) false) (size b) p.right → Near (join_of swing a b) label
        across p end = ⊎_elim (turn p end) (λ last. absurd (past p end last)) (step_cases false (size a) p.left p.left_below)

    -- where the place is a label, a join of two walks that fit is a walk
    pub join_of_lawful : Fits a b → (place : ℕ) → place ≤ size a * size b - 1 → Lawful (standing (join_of swing a b) place)
    join_of_lawful fits place most =
        let long = join_of_size in
        record {
          narrow = fits.wide;
          few = omega (arith, fits.few);
          wide = wide;
          bytes = bytes;
          apart = apart;
          inside = (λ some. omega arith, λ none. omega arith);
          steps = λ told. let parts = and_parts swing (a.steady && b.steady) told in let both = and_parts a.steady b.steady parts.1 in swing_steps parts.0 both.0 both.1;
        }

    -- the place of a join is a label
    pub join_place_most : join_place swing a b ≤ size a * size b - 1
    join_place_most = ⊎_elim some none (cases_lt 0 (size a))
      where
        none : size a ≤ 0 → join_place swing a b ≤ size a * size b - 1
        none le = rw (cond-true (size a == 0) 0 (joined_label swing (size b) a.place b.place) (eq-eqb (size a) 0 (omega arith))) (omega arith)

        stands : 0 < size a → 0 < size b → joined_label swing (size b) a.place b.place ≤ size a * size b - 1
        stands some_a some_b = omega (arith, label_below swing (size a) (size b) a.place b.place (lawful_a.inside.0 some_a) (lawful_b.inside.0 some_b))

        at_none : (n j : ℕ) → n ≡ 0 → j ≡ 0 → joined_label swing n a.place j ≡ 0
        at_none n j n_none j_none = rw (n_none, j_none) (ap₂ ◌+◌ (mul-zero a.place) (mirrored_none (swing && odd a.place)))

        some : 0 < size a → join_place swing a b ≤ size a * size b - 1
        some lt =
            rw (cond-false (size a == 0) 0 (joined_label swing (size b) a.place b.place) (ne_eqb (size a) 0 (λ e. omega arith)))
            (⊎_elim (stands lt) (λ le. let e : size b ≡ 0 = omega arith in omega (arith, at_none (size b) b.place e (lawful_b.inside.1 e))) (cases_lt 0 (size b)))

    -- the join of two walks is a walk
    pub join_lawful : Lawful (joined swing a b)
    join_lawful = ⊎_elim
        (λ fits. subst Lawful (sym (cond-true _ _ _ (ap is_ok fits.told))) (join_of_lawful fits (join_place swing a b) join_place_most))
        (λ refused. subst Lawful (sym (cond-false _ _ _ (ap is_ok refused.1))) none_lawful)
        (fits_cases a b)
