-- The laws of `door`. Assumes nothing.
use Rattle.std.specs.Prelude.{◌≡◌, ℕ, zero, suc, ◌+◌, ◌-◌, ◌<◌, ◌≤◌, min, false, List, [], ◌∷◌, ◌++◌, reverse, length, replicate, ◌==◌, refl}
use Rattle.std.proofs.Common.{sym, ap, ◌∙◌, ⊎_elim, arith}
use Rattle.std.proofs.lemmas.List.{append-nil, length-append, length-map, length-reverse, get_or_append_left, get_or-append-add, get_or-map, get_or-reverse}
use Rattle.std.proofs.lemmas.Bool.{cases_lt, ne_eqb}
use Rattle.walk.specs.Rows.{Row, row_at, differences}
use Rattle.kinds.specs.Lists.{led_by, branches, turned, odd, ways, door}
use Rattle.kinds.specs.Laws.{Within, Chosen, Apart, Stepping, DoorLaws}
use Rattle.kinds.specs.Branches.{differences_same, differences_behind, differences_first, apart_branches, stepping_branches, length_turned, apart_turned, stepping_turned, turned_meets}
use Rattle.kinds.specs.Just.{Just, just_same, just_branches, just_turned, stepping_few, length_leaf, length_branches}
use Rattle.kinds.specs.Stock.{stock_length, stock_within, stock_apart, within_more, within_parts, within_ones}

-- the rows of one value less behind the first value v
abbrev pub door_branch : ℕ → ℕ → ℕ → List Row
door_branch n t v = turned (odd v) (door n (t - v))

-- `door` by its branches
pub door_branches : (n t : ℕ) → door (suc n) t ≡ branches (suc (min 1 t)) (door_branch n t)
door_branches n zero = refl
door_branches n (suc t) =
    let two : min 1 (suc t) ≡ 1 = omega arith in
    let all : suc t - 0 ≡ suc t = omega arith in
    let less : suc t - 1 ≡ t = omega arith in
    rw (two, all, less)

-- as many rows as those of `choose`
pub door_length : (n t : ℕ) → length (door n t) ≡ ways (replicate n 1) t
door_length zero t = stock_length [] t
door_length (suc n) t = ap length (door_branches n t) ∙ length_branches (door_branch n t) (λ v. ways (replicate n 1) (t - v)) (suc (min 1 t)) (λ v h. length_turned (odd v) (door n (t - v)) ∙ door_length n (t - v))

-- they are the rows of n stocks of 1 with the sum t
pub door_within : (n t : ℕ) → Just (Within (replicate n 1) t) (door n t)
door_within zero t = stock_within [] t
door_within (suc n) t = rw (door_branches n t) (just_branches (Within (replicate (suc n) 1) t) (suc (min 1 t)) (door_branch n t) (λ v. Within (replicate n 1) (t - v))
    (λ v h. just_turned (Within (replicate n 1) (t - v)) (odd v) (door n (t - v)) (door_within n (t - v)))
    (λ w. omega (arith, w.0))
    (λ v r. within_more 1 v t (replicate n 1) r)
    (λ v r. within_parts 1 v t (replicate n 1) r))

-- that is, of n values of which t are 1
pub door_chosen : (n t : ℕ) → Just (Chosen n t) (door n t)
door_chosen n t = just_same (Within (replicate n 1) t) (Chosen n t) (door n t) (within_ones n t) (door_within n t)

-- no two are the same
pub door_apart : (n t : ℕ) → Apart (door n t)
door_apart zero t = stock_apart [] t
door_apart (suc n) t = rw (door_branches n t) (apart_branches (door_branch n t) (suc (min 1 t)) (λ v h. apart_turned (odd v) (door n (t - v)) (door_apart n (t - v))))

-- none where more are to be chosen than there are
pub door_none : (n t : ℕ) → n < t → door n t ≡ []
door_none zero t h = rw (ne_eqb t 0 (λ e. omega arith))
door_none (suc n) zero h = absurd (omega arith)
door_none (suc n) (suc t) h = rw (door_none n (suc t) (omega arith), door_none n t (omega arith))

-- none chosen
pub door_zeros : (n : ℕ) → door n 0 ≡ replicate n 0 ∷ []
door_zeros zero = refl
door_zeros (suc n) = ap (led_by 0) (door_zeros n)

-- all chosen
pub door_ones : (n : ℕ) → door n n ≡ replicate n 1 ∷ []
door_ones zero = refl
door_ones (suc n) = rw (door_none n (suc n) (omega arith), door_ones n)

-- some where there are enough
pub door_some : (n t : ℕ) → t ≤ n → 0 < length (door n t)
door_some zero zero h = omega arith
door_some zero (suc t) h = absurd (omega arith)
door_some (suc n) zero h = omega (arith, ap length (door_zeros (suc n)))
door_some (suc n) (suc t) h = simp (length-append, length-map, length-reverse) (omega (arith, door_some n t (omega arith)))

-- values 0 and behind them t values 1
abbrev pub zeros_ones : ℕ → ℕ → Row
zeros_ones n t = replicate (n - t) 0 ++ replicate t 1

-- the last row of a list
abbrev pub last_row : List Row → Row
last_row rows = row_at rows (length rows - 1)

-- the first row has its values 1 to the right
pub door_first : (n t : ℕ) → t ≤ n → row_at (door n t) 0 ≡ zeros_ones n t
door_first zero zero h = refl
door_first zero (suc t) h = absurd (omega arith)
door_first (suc n) zero h =
    let all : suc n - 0 ≡ suc n = omega arith in
    rw (door_zeros (suc n), all) (sym (append-nil (replicate (suc n) 0)))
door_first (suc n) (suc t) h = ⊎_elim (λ l. more l (door_some n (suc t) l) (door_first n (suc t) l)) all (cases_lt t n)
  where
    more : t < n → 0 < length (door n (suc t)) → row_at (door n (suc t)) 0 ≡ zeros_ones n (suc t) → row_at (door (suc n) (suc t)) 0 ≡ zeros_ones (suc n) (suc t)
    more l some first =
        let one_more : suc n - suc t ≡ suc (n - suc t) = omega arith in
        get_or_append_left (led_by 0 (door n (suc t))) (led_by 1 (reverse (door n t))) [] 0 (omega (arith, length-map (door n (suc t)) (λ (r : Row). 0 ∷ r)))
        ∙ get_or-map (λ (r : Row). 0 ∷ r) (door n (suc t)) 0 [] [] some
        ∙ rw (first, one_more)

    all : n ≤ t → row_at (door (suc n) (suc t)) 0 ≡ zeros_ones (suc n) (suc t)
    all l =
        let same : t ≡ n = omega arith in
        let none : suc n - suc n ≡ 0 = omega arith in
        rw (same, none) (ap (λ rows. row_at rows 0) (door_ones (suc n)))

-- the last row of some has 1 and then the first row of one less
pub door_last : (n t : ℕ) → t ≤ n → last_row (door (suc n) (suc t)) ≡ 1 ∷ zeros_ones n t
door_last n t h =
    let some = door_some n t h in
    let back = reverse (door n t) in
    let lead = led_by 0 (door n (suc t)) in
    let size : length back ≡ length (door n t) = length-reverse (door n t) in
    let at : length (door (suc n) (suc t)) - 1 ≡ length lead + (length back - 1) = simp (length-append, length-map) (omega arith) in
    let start : length (door n t) - 1 - (length back - 1) ≡ 0 = omega arith in
    ap (row_at (door (suc n) (suc t))) at
    ∙ get_or-append-add lead (led_by 1 back) (length back - 1) []
    ∙ get_or-map (λ (r : Row). 1 ∷ r) back (length back - 1) [] [] (omega arith)
    ∙ ap (λ r. 1 ∷ r) (get_or-reverse (door n t) (length back - 1) [] (omega arith) ∙ ap (row_at (door n t)) start ∙ door_first n t h)

-- one value 1 more to the left
pub one_more : (a t : ℕ) → differences (replicate a 0 ++ replicate (suc t) 1) (replicate (suc a) 0 ++ replicate t 1) ≡ 1
one_more zero t = differences_first 1 0 (replicate t 1) (replicate t 1) (λ e. omega arith) ∙ ap suc (differences_same (replicate t 1))
one_more (suc a) t = differences_behind 0 (replicate a 0 ++ replicate (suc t) 1) (replicate (suc a) 0 ++ replicate t 1) ∙ one_more a t

-- the last row and the last row of one less differ in one place
pub door_seam : (n t : ℕ) → t < n → differences (last_row (door n (suc t))) (last_row (door n t)) ≡ 1
door_seam zero t h = absurd (omega arith)
door_seam (suc n) zero h =
    let all : zeros_ones n 0 ≡ replicate n 0 = append-nil (replicate (n - 0) 0) ∙ ap (λ k. replicate k 0) (omega arith) in
    rw (door_last n 0 (omega arith), all, door_zeros (suc n)) (differences_first 1 0 (replicate n 0) (replicate n 0) (λ e. omega arith) ∙ ap suc (differences_same (replicate n 0)))
door_seam (suc n) (suc t) h =
    let gap : n - t ≡ suc (n - suc t) = omega arith in
    rw (door_last n (suc t) (omega arith), door_last n t (omega arith)) (differences_behind 1 (zeros_ones n (suc t)) (zeros_ones n t) ∙ rw gap (one_more (n - suc t) t))

-- where the first value 0 gives way to 1, one other value changes
pub door_turn : (n t v w : ℕ) → v < w → w < suc (min 1 t) → 0 < length (door_branch n t v)
    → suc (differences (last_row (door_branch n t v)) (row_at (door_branch n t w) 0)) ≡ 2
door_turn n zero v w h l some = absurd (omega arith)
door_turn n (suc t) v w h l some =
    let v_is : v ≡ 0 = omega arith in
    let w_is : w ≡ 1 = omega arith in
    let all : suc t - 0 ≡ suc t = omega arith in
    let less : suc t - 1 ≡ t = omega arith in
    rw (v_is, w_is, all, less) (across (rw (v_is, all) at some))
  where
    across : 0 < length (door n (suc t)) → suc (differences (last_row (door n (suc t))) (row_at (reverse (door n t)) 0)) ≡ 2
    across s =
        let enough : t < n = ⊎_elim (λ l. l) (λ l. absurd (omega (arith, ap length (door_none n (suc t) (omega arith))))) (cases_lt t n) in
        rw (← turned_meets false (door n t) (door_some n t (omega arith))) (ap suc (door_seam n t enough))

-- neighbours differ in two places
pub door_stepping : (n t : ℕ) → Stepping 2 (door n t)
door_stepping zero t = stepping_few 2 (door zero t) (length_leaf (t == 0))
door_stepping (suc n) t = rw (door_branches n t) (stepping_branches (door_branch n t) (suc (min 1 t)) 2
    (λ v h. stepping_turned (odd v) 2 (door n (t - v)) (door_stepping n (t - v)))
    (λ v w h l a b e. door_turn n t v w h l a))

-- the laws together
pub door_laws : (n t : ℕ) → DoorLaws n t (door n t)
door_laws n t = record {
  sound = λ r. (door_chosen n t r).0;
  complete = λ r. (door_chosen n t r).1;
  apart = door_apart n t;
  stepping = door_stepping n t;
  zeros = λ e. rw e (door_zeros n);
  ones = λ e. rw e (door_ones n);
  none = door_none n t;
}
