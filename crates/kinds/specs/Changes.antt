-- The laws of `changes`. Assumes nothing.
use Rattle.std.specs.Prelude.{◌≡◌, ℕ, zero, suc, ◌+◌, ◌-◌, ◌*◌, ◌/◌, ◌%◌, ◌<◌, ◌≤◌, Bool, true, false, cond, not, List, [], ◌∷◌, ◌++◌, length, take, drop, ◌≢◌, nat_lt, slice_index, refl}
use Rattle.std.proofs.Common.{sym, ap, ap₂, subst, ◌∙◌, ⊎_elim, arith, zero-mul, suc-mul, mul_comm, add-one}
use Rattle.std.specs.List.{insert}
use Rattle.std.proofs.lemmas.Nat.{div_below, mod_below, div-add-mod', mul-add-lt, mul-le}
use Rattle.std.proofs.lemmas.List.{nil_from_length, take-append-drop, take_at, drop_at, take_all, drop_all, length-append, length-map, length-take-le, get_or_append_left, get_or-append-add, get_or-map, get_or_at}
use Rattle.std.proofs.lemmas.Bool.{cases_lt}
use Rattle.std.proofs.lemmas.Bool.Decides.{nat_tests}
use Rattle.walk.specs.Rows.{Row, row_at}
use Rattle.kinds.specs.Lists.{led_by, turned, odd, sweep, woven, changes, factorial}
use Rattle.kinds.specs.Laws.{Listed, occurrences, Permutation, Apart, ChangesLaws}
use Rattle.kinds.specs.Branches.{apart_one, length_turned, row_turned}
use Rattle.walk.proofs.Parity.{odd_suc}
use Rattle.kinds.specs.Just.{Just, just_row, just_empty}
use Rattle.kinds.specs.Occurrences.{counts_as, counts_other, occurrences_put, occurrences_take, occurs, found, parted}
use Rattle.kinds.specs.Swaps.{Swap, swap_sym, swap_behind, swap_before, swap_inserted, swap_steps, swap_exchange}

-- as many rows as there are positions
pub sweep_length : (v : ℕ) (r : Row) → length (sweep v r) ≡ suc (length r)
sweep_length v [] = refl
sweep_length v (x ∷ r) = simp (length-append, length-map) (omega (arith, sweep_length v r))

-- v moves to the left
pub sweep_at : (v : ℕ) (r : Row) (j : ℕ) → j ≤ length r → row_at (sweep v r) j ≡ insert r (length r - j) v
sweep_at v [] zero h = refl
sweep_at v [] (suc j) h = absurd (omega arith)
sweep_at v (x ∷ r) j h = ⊎_elim (λ l. more l (sweep_at v r j (omega arith))) last (cases_lt j (suc (length r)))
  where
    lead : length (led_by x (sweep v r)) ≡ suc (length r)
    lead = length-map (sweep v r) (λ (s : Row). x ∷ s) ∙ sweep_length v r

    more : j < suc (length r) → row_at (sweep v r) j ≡ insert r (length r - j) v → row_at (sweep v (x ∷ r)) j ≡ insert (x ∷ r) (length (x ∷ r) - j) v
    more l e =
        let further : suc (length r) - j ≡ suc (length r - j) = omega arith in
        get_or_append_left (led_by x (sweep v r)) ((v ∷ x ∷ r) ∷ []) [] j (omega (arith, lead))
        ∙ get_or-map (λ (s : Row). x ∷ s) (sweep v r) j [] [] (omega (arith, sweep_length v r))
        ∙ rw (e, further)

    last : suc (length r) ≤ j → row_at (sweep v (x ∷ r)) j ≡ insert (x ∷ r) (length (x ∷ r) - j) v
    last l =
        let start : suc (length r) - j ≡ 0 = omega arith in
        rw start (get_or_at (led_by x (sweep v r)) (v ∷ x ∷ r) [] [] j (omega (arith, lead)))

-- a sweep to the left or, backward, to the right
pub turned_sweep : (back : Bool) (v : ℕ) (r : Row) (j : ℕ) → j ≤ length r → row_at (turned back (sweep v r)) j ≡ insert r (cond back j (length r - j)) v
turned_sweep true v r j h =
    let size = sweep_length v r in
    let mirror : length (sweep v r) - 1 - j ≡ length r - j = omega arith in
    let again : length r - (length r - j) ≡ j = omega arith in
    row_turned true (sweep v r) j (omega arith) ∙ ap (row_at (sweep v r)) mirror ∙ sweep_at v r (length r - j) (omega arith) ∙ ap (λ p. insert r p v) again
turned_sweep false v r j h = sweep_at v r j h

-- where the new value stands in the row j of the sweep i
abbrev pub position : ℕ → ℕ → ℕ → ℕ
position n i j = cond (odd i) j (n - j)

-- it stands at one of the n + 1 positions
pub position_below : (n i j : ℕ) → j ≤ n → position n i j ≤ n
position_below n i j h = grind (arith, nat_tests)

-- the position tells the row of the sweep in the same way
pub position_back : (n i j : ℕ) → j ≤ n → position n i (position n i j) ≡ j
position_back n i j h = back (odd i)
  where
    back : (b : Bool) → cond b (cond b j (n - j)) (n - cond b j (n - j)) ≡ j
    back true = refl
    back false = omega arith

-- a label of equal blocks: the block, and the place in it
pub block_of : (m c l : ℕ) → 0 < c → l < m * c → (i : ℕ) × (j : ℕ) × (i < m) × (j < c) × (l ≡ i * c + j)
block_of m c l some h = (l / c, l % c, div_below l c m some h, mod_below l c some, sym (div-add-mod' l c))

-- the rows of sweeps over rows of one width
module _ (v w : ℕ) where
  -- are so many
  pub woven_length : (k : ℕ) (rows : List Row) → ((i : ℕ) → i < length rows → length (row_at rows i) ≡ w) → length (woven v k rows) ≡ length rows * suc w
  woven_length k [] wide = sym (zero-mul (suc w))
  woven_length k (r ∷ rows) wide =
      rw (suc-mul, length-append)
      (omega (arith, length_turned (odd k) (sweep v r), sweep_length v r, wide 0 (omega arith), woven_length (suc k) rows (λ i h. wide (suc i) (omega arith))))

  -- and stand so
  pub woven_at : (k : ℕ) (rows : List Row) → ((i : ℕ) → i < length rows → length (row_at rows i) ≡ w) → (i j : ℕ) → i < length rows → j ≤ w
      → row_at (woven v k rows) (i * suc w + j) ≡ row_at (turned (odd (k + i)) (sweep v (row_at rows i))) j
  woven_at k [] wide i j h l = absurd (omega arith)
  woven_at k (r ∷ rows) wide zero j h l =
      let start : zero * suc w + j ≡ j = omega (arith, zero-mul (suc w)) in
      let here : k + zero ≡ k = omega arith in
      rw (start, here) (get_or_append_left (turned (odd k) (sweep v r)) (woven v (suc k) rows) [] j (omega (arith, length_turned (odd k) (sweep v r), sweep_length v r, wide 0 (omega arith))))
  woven_at k (r ∷ rows) wide (suc i) j h l =
      let block = turned (odd k) (sweep v r) in
      let past : suc i * suc w + j ≡ length block + (i * suc w + j) = rw suc-mul (omega (arith, length_turned (odd k) (sweep v r), sweep_length v r, wide 0 (omega arith))) in
      let next : k + suc i ≡ suc k + i = omega arith in
      rw (past, next) (get_or-append-add block (woven v (suc k) rows) (i * suc w + j) [] ∙ woven_at (suc k) rows (λ x y. wide (suc x) (omega arith)) i j (omega arith) l)

-- one value more, once
pub once_more : (n v : ℕ) → counts_as v n + cond (nat_lt v n) 1 0 ≡ cond (nat_lt v (suc n)) 1 0
once_more n v = grind (arith, nat_tests)

-- n put into an order of the values below it
pub permutation_more : (n : ℕ) (p q : Row) → Permutation n (p ++ q) → Permutation (suc n) (p ++ (n ∷ q))
permutation_more n p q h =
    (omega (arith, length-append p (n ∷ q), length-append p q, h.0), λ v. occurrences_put v n p q ∙ ap (λ x. counts_as v n + x) (h.1 v) ∙ once_more n v)

-- and taken out again
pub permutation_less : (n : ℕ) (p q : Row) → Permutation (suc n) (p ++ (n ∷ q)) → Permutation n (p ++ q)
permutation_less n p q h =
    (omega (arith, length-append p (n ∷ q), length-append p q, h.0), λ v. omega (arith, occurrences_put v n p q, h.1 v, once_more n v))

-- n itself is not among the values below it
pub permutation_new : (n : ℕ) (r : Row) → Permutation n r → occurrences n r ≡ 0
permutation_new n r h = h.1 n ∙ grind (arith, nat_tests)

-- and is among those below the next
pub permutation_last : (n : ℕ) (r : Row) → Permutation (suc n) r → occurrences n r ≡ 1
permutation_last n r h = h.1 n ∙ grind (arith, nat_tests)

-- each value is below n
pub permutation_below : (n : ℕ) (r : Row) → Permutation n r → (k : ℕ) → k < n → slice_index r k < n
permutation_below n r h k l = below (slice_index r k) (h.1 (slice_index r k)) (occurs r k (omega (arith, h.0)))
  where
    below : (v : ℕ) → occurrences v r ≡ cond (nat_lt v n) 1 0 → 0 < occurrences v r → v < n
    below v e some = grind (arith, nat_tests)

-- n values among which each below n occurs
pub permutation_from_all : (n : ℕ) (r : Row) → length r ≡ n → ((v : ℕ) → v < n → 0 < occurrences v r) → Permutation n r
permutation_from_all zero r e all = (e, λ v. ap (occurrences v) (nil_from_length r e) ∙ grind (arith, nat_tests))
permutation_from_all (suc n) r e all =
    let (front, back, at) = found n r (all n (omega arith)) in
    let long : length (front ++ back) ≡ n = omega (arith, ap length at, length-append front (n ∷ back), length-append front back) in
    let others : (v : ℕ) → v < n → 0 < occurrences v (front ++ back) = λ v h. omega (arith, all v (omega arith), ap (occurrences v) at, occurrences_put v n front back, counts_other v n (λ same. omega arith)) in
    subst (Permutation (suc n)) (sym at) (permutation_more n front back (permutation_from_all n (front ++ back) long others))

-- where a new value was put in, and into what
pub inserted_parts : (n p q : ℕ) (r s : Row) → p ≤ length r → q ≤ length s → occurrences n r ≡ 0 → occurrences n s ≡ 0 → insert r p n ≡ insert s q n → (r ≡ s) × (p ≡ q)
inserted_parts n p q r s hp hq nr ns e =
    let halves = parted n (take p r) (take q s) (drop p r) (drop q s) (omega (arith, occurrences_take n p r)) (omega (arith, occurrences_take n q s)) e in (
      sym (take-append-drop p r) ∙ ap₂ ◌++◌ halves.0 halves.1 ∙ take-append-drop q s,
      sym (length-take-le p r hp) ∙ ap length halves.0 ∙ length-take-le q s hq,
    )

-- within a sweep the new value and a neighbour are exchanged
pub swap_within : (b : Bool) (n : ℕ) (r : Row) (j : ℕ) → Permutation n r → j < n → Swap (insert r (cond b j (n - j)) n) (insert r (cond b (j + 1) (n - (j + 1))) n)
swap_within b n r j perm h = either b
  where
    other : (p : ℕ) → p < n → n ≢ slice_index r p
    other p l e = omega (arith, permutation_below n r perm p l)

    either : (b : Bool) → Swap (insert r (cond b j (n - j)) n) (insert r (cond b (j + 1) (n - (j + 1))) n)
    either true = rw add-one (swap_inserted r n j (omega (arith, perm.0)) (other j h))
    either false =
        let left : n - j ≡ suc (n - (j + 1)) = omega arith in
        rw left (swap_sym (swap_inserted r n (n - (j + 1)) (omega (arith, perm.0)) (other (n - (j + 1)) (omega arith))))

-- from a sweep to the next the new value stays
pub swap_across : (b : Bool) (n : ℕ) (r s : Row) → length r ≡ n → length s ≡ n → Swap r s → Swap (insert r (cond b n (n - n)) n) (insert s (cond (not b) 0 (n - 0)) n)
swap_across true n r s hr hs w =
    let all : n - 0 ≡ n = omega arith in
    rw (all, take_all n r (omega arith), drop_all n r (omega arith), take_all n s (omega arith), drop_all n s (omega arith)) (swap_before (n ∷ []) w)
swap_across false n r s hr hs w =
    let none : n - n ≡ 0 = omega arith in
    rw none (swap_behind n w)

-- in each pair of neighbours two neighbouring values are exchanged
abbrev pub Swapping : List Row → Type 0
Swapping rows = (i : ℕ) → i + 1 < length rows → Swap (row_at rows i) (row_at rows (i + 1))

-- n woven into just the orders of the values below it
module _ (n : ℕ) (rows : List Row) (just : Just (Permutation n) rows) where
  wide : (i : ℕ) → i < length rows → length (row_at rows i) ≡ n
  wide i h = (just_row (Permutation n) rows just i h).0

  pub weave_length : length (woven n 0 rows) ≡ length rows * suc n
  weave_length = woven_length n n 0 rows wide

  pub weave_at : (i j : ℕ) → i < length rows → j ≤ n → row_at (woven n 0 rows) (i * suc n + j) ≡ insert (row_at rows i) (position n i j) n
  weave_at i j h l =
      let none : 0 + i ≡ i = omega arith in
      let size = wide i h in
      woven_at n n 0 rows wide i j h l ∙ rw none (turned_sweep (odd i) n (row_at rows i) j (omega arith) ∙ ap (λ k. insert (row_at rows i) (cond (odd i) j (k - j)) n) size)

  -- the sweep of a row, and the row's place in it
  weave_of : (l : ℕ) → l < length (woven n 0 rows) → (i : ℕ) × (j : ℕ) × (i < length rows) × (j < suc n) × (l ≡ i * suc n + j)
  weave_of l h = block_of (length rows) (suc n) l (omega arith) (omega (arith, weave_length))

  -- where a row stands with n put in
  pub weave_put : (i : ℕ) (front back : Row) → i < length rows → row_at rows i ≡ front ++ back
      → (i * suc n + position n i (length front) < length (woven n 0 rows)) × (row_at (woven n 0 rows) (i * suc n + position n i (length front)) ≡ front ++ (n ∷ back))
  weave_put i front back hi e =
      let p = length front in
      let low : p ≤ n = omega (arith, wide i hi, ap length e, length-append front back) in
      let j = position n i p in
      let lj : j ≤ n = position_below n i p low in (
        omega (arith, weave_length, mul-add-lt i (suc n) j (length rows) hi (omega arith)),
        weave_at i j hi lj
            ∙ ap₂ (λ s q. insert s q n) e (position_back n i p low)
            ∙ ap₂ (λ a b. a ++ (n ∷ b)) (take_at front back p refl) (drop_at front back p refl),
      )

  pub weave_just : Just (Permutation (suc n)) (woven n 0 rows)
  weave_just r = (sound, complete)
    where
      sound : Listed (woven n 0 rows) r → Permutation (suc n) r
      sound (l, h, e) =
          let (i, j, hi, hj, at) = weave_of l h in
          let s = row_at rows i in
          let p = position n i j in
          let inner = just_row (Permutation n) rows just i hi in
          subst (Permutation (suc n)) (sym (weave_at i j hi (omega arith)) ∙ ap (row_at (woven n 0 rows)) (sym at) ∙ e)
          (permutation_more n (take p s) (drop p s) (rw (take-append-drop p s) inner))

      complete : Permutation (suc n) r → Listed (woven n 0 rows) r
      complete perm =
          let (front, back, e) = found n r (omega (arith, permutation_last n r perm)) in
          let (i, hi, ei) = (just (front ++ back)).1 (permutation_less n front back (subst (Permutation (suc n)) e perm)) in
          let (low, at) = weave_put i front back hi ei in
          (i * suc n + position n i (length front), low, at ∙ sym e)

  pub weave_apart : Apart rows → Apart (woven n 0 rows)
  weave_apart apart l m hl hm e =
      let (i, j, hi, hj, at) = weave_of l hl in
      let (i', j', hi', hj', at') = weave_of m hm in
      let low : j ≤ n = omega arith in
      let low' : j' ≤ n = omega arith in
      let new : (k : ℕ) → k < length rows → occurrences n (row_at rows k) ≡ 0 = λ k h. permutation_new n (row_at rows k) (just_row (Permutation n) rows just k h) in
      let parts = inserted_parts n (position n i j) (position n i' j') (row_at rows i) (row_at rows i')
      (omega (arith, wide i hi, position_below n i j low)) (omega (arith, wide i' hi', position_below n i' j' low')) (new i hi) (new i' hi')
      (sym (weave_at i j hi low) ∙ ap (row_at (woven n 0 rows)) (sym at) ∙ e ∙ ap (row_at (woven n 0 rows)) at' ∙ weave_at i' j' hi' low') in
      let sweeps : i ≡ i' = apart i i' hi hi' parts.0 in
      let places : j ≡ j' = sym (position_back n i j low) ∙ ap₂ (position n) sweeps parts.1 ∙ position_back n i' j' low' in
      at ∙ ap₂ (λ x y. x * suc n + y) sweeps places ∙ sym at'

  pub weave_swapping : Swapping rows → Swapping (woven n 0 rows)
  weave_swapping swaps l h =
      let (i, j, hi, hj, at) = weave_of l (omega arith) in
      ⊎_elim (λ o. within i j hi o at) (λ o. across i hi (at ∙ ap (λ x. i * suc n + x) (last j hj o))) (cases_lt j n)
    where
      last : (j : ℕ) → j < suc n → n ≤ j → j ≡ n
      last j a b = omega arith

      within : (i j : ℕ) → i < length rows → j < n → l ≡ i * suc n + j → Swap (row_at (woven n 0 rows) l) (row_at (woven n 0 rows) (l + 1))
      within i j hi o at =
          let next : l + 1 ≡ i * suc n + (j + 1) = omega arith in
          rw (next, at, weave_at i j hi (omega arith), weave_at i (j + 1) hi (omega arith)) (swap_within (odd i) n (row_at rows i) j (just_row (Permutation n) rows just i hi) o)

      across : (i : ℕ) → i < length rows → l ≡ i * suc n + n → Swap (row_at (woven n 0 rows) l) (row_at (woven n 0 rows) (l + 1))
      across i hi at =
          let next : l + 1 ≡ suc i * suc n + 0 = rw suc-mul (omega arith) in
          let more : suc i < length rows = ⊎_elim (λ o. o) (λ o. absurd (omega (arith, weave_length, mul-le (length rows) (suc n) (suc i) (suc n) o (omega arith)))) (cases_lt (suc i) (length rows)) in
          rw (next, at, weave_at i n hi (omega arith), weave_at (suc i) 0 more (omega arith), odd_suc i)
          (swap_across (odd i) n (row_at rows i) (row_at rows (suc i)) (wide i hi) (wide (suc i) more) (rw add-one at (swaps i (omega arith))))

-- they are the orders of the values below n
pub changes_permutations : (n : ℕ) → Just (Permutation n) (changes n)
changes_permutations zero = just_empty (Permutation 0) (refl, λ v. grind (arith, nat_tests)) (λ r h. nil_from_length r h.0)
changes_permutations (suc n) = weave_just n (changes n) (changes_permutations n)

-- as many as n has orders
pub changes_length : (n : ℕ) → length (changes n) ≡ factorial n
changes_length zero = refl
changes_length (suc n) = weave_length n (changes n) (changes_permutations n) ∙ mul_comm (length (changes n)) (suc n) ∙ ap (λ m. suc n * m) (changes_length n)

-- the row i of one value less, with the new value put in
pub changes_at : (n i j : ℕ) → i < length (changes n) → j ≤ n → row_at (changes (suc n)) (i * suc n + j) ≡ insert (row_at (changes n) i) (position n i j) n
changes_at n = weave_at n (changes n) (changes_permutations n)

-- no two are the same
pub changes_apart : (n : ℕ) → Apart (changes n)
changes_apart zero = apart_one []
changes_apart (suc n) = weave_apart n (changes n) (changes_permutations n) (changes_apart n)

-- in neighbours two neighbouring values are exchanged
pub changes_swapping : (n : ℕ) → Swapping (changes n)
changes_swapping zero = λ i h. absurd (omega arith)
changes_swapping (suc n) = weave_swapping n (changes n) (changes_permutations n) (changes_swapping n)

module _ (n i : ℕ) (h : i < length (changes n)) where
  -- each row is an order of the values below n
  pub changes_row : Permutation n (row_at (changes n) i)
  changes_row = just_row (Permutation n) (changes n) (changes_permutations n) i h

  -- of n values
  pub changes_width : length (row_at (changes n) i) ≡ n
  changes_width = changes_row.0

  -- of bytes, where n is at most 256
  pub changes_bytes : n ≤ 256 → (k : ℕ) → k < n → slice_index (row_at (changes n) i) k ≤ 255
  changes_bytes small k l = omega (arith, permutation_below n (row_at (changes n) i) changes_row k l)

-- the laws together
pub changes_laws : (n : ℕ) → ChangesLaws n (changes n)
changes_laws n = record {
  sound = λ r. (changes_permutations n r).0;
  complete = λ r. (changes_permutations n r).1;
  apart = changes_apart n;
  stepping = λ i h. swap_steps (changes_swapping n i h);
  exchange = λ i h. swap_exchange n (changes_width n i (omega arith)) (changes_swapping n i h);
}
