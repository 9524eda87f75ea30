-- Where the rows of `branches` stand, and what they take over from the rows of each branch. Assumes nothing.
use Rattle.std.specs.Prelude.{◌≡◌, ℕ, zero, suc, ◌+◌, ◌-◌, ◌*◌, ◌/◌, ◌%◌, ◌<◌, ◌≤◌, ◌⊎◌, List, [], ◌∷◌, length, refl}
use Rattle.std.proofs.Common.{sym, ap, ◌∙◌, inl, inr, ⊎_elim, arith, zero-mul, suc-mul}
use Rattle.std.proofs.lemmas.List.{length-append, length-map, get_or_append_left, get_or-append-add, get_or-map}
use Rattle.std.proofs.lemmas.Nat.{div_below, mod_below, div-add-mod'}
use Rattle.std.proofs.lemmas.Bool.{cases_lt, cases_order}
use Rattle.walk.specs.Rows.{Row, row_at, differences}
pub use Rattle.walk.proofs.Differences.{differences_behind, differences_first, differences_same, differences_comm}
pub use Rattle.walk.proofs.Turned.{apart_one, listed_reverse, apart_reverse, stepping_reverse, length_turned, row_turned, listed_turned, apart_turned, stepping_turned, turned_meets}
use Rattle.kinds.specs.Lists.{led_by, branches}
use Rattle.kinds.specs.Laws.{Listed, Apart, Precedes, Rising, Stepping}

-- how many rows lie before the branch v
abbrev pub before : (ℕ → List Row) → ℕ → ℕ
before f v = length (branches v f)

-- the row i of the branches below m: in which branch it stands, and where in that
pub record Place (f : ℕ → List Row) (m i : ℕ) : Type 0 where
  pub branch : ℕ
  pub inner : ℕ
  pub branch_below : branch < m
  pub inner_below : inner < length (f branch)
  pub is : i ≡ before f branch + inner

module _ (f : ℕ → List Row) where
  -- the branch v follows the rows before it
  pub before_suc : (v : ℕ) → before f (suc v) ≡ before f v + length (f v)
  before_suc v = simp (length-append, length-map)

  -- the rows of a branch lie before every later one
  pub before_later : (v m : ℕ) → v < m → before f v + length (f v) ≤ before f m
  before_later v zero h = omega arith
  before_later v (suc m) h =
      ⊎_elim (λ l. omega (arith, before_later v m l, before_suc m)) (λ l. rw (v_is l) (omega (arith, before_suc m))) (cases_lt v m)
    where
      v_is : m ≤ v → v ≡ m
      v_is l = omega arith

  -- the label of the row k of the branch v
  pub label_below : (m v k : ℕ) → v < m → k < length (f v) → before f v + k < length (branches m f)
  label_below m v k h l = omega (arith, before_later v m h)

  -- the row k of the branch v
  pub branch_at : (m v k : ℕ) → v < m → k < length (f v) → row_at (branches m f) (before f v + k) ≡ v ∷ row_at (f v) k
  branch_at zero v k h l = absurd (omega arith)
  branch_at (suc m) v k h l = ⊎_elim (λ o. earlier o (branch_at m v k o l)) last (cases_lt v m)
    where
      last : m ≤ v → row_at (branches (suc m) f) (before f v + k) ≡ v ∷ row_at (f v) k
      last o =
          let e : v ≡ m = omega arith in
          let l' : k < length (f m) = rw e at l in
          rw (e, get_or-append-add, get_or-map (λ r. m ∷ r) (f m) k [] [] l')

      earlier : v < m → row_at (branches m f) (before f v + k) ≡ v ∷ row_at (f v) k → row_at (branches (suc m) f) (before f v + k) ≡ v ∷ row_at (f v) k
      earlier o e = get_or_append_left (branches m f) (led_by m (f m)) [] (before f v + k) (label_below m v k o l) ∙ e

  -- each row stands in a branch
  pub branch_of : (m i : ℕ) → i < length (branches m f) → Place f m i
  branch_of zero i h = absurd (omega arith)
  branch_of (suc m) i h = ⊎_elim (λ l. earlier (branch_of m i l)) last (cases_lt i (before f m))
    where
      earlier : Place f m i → Place f (suc m) i
      earlier p = record { branch = p.branch; inner = p.inner; branch_below = omega arith; inner_below = p.inner_below; is = p.is }

      last : before f m ≤ i → Place f (suc m) i
      last l = record { branch = m; inner = i - before f m; branch_below = omega arith; inner_below = omega (arith, before_suc m); is = omega arith }

  -- the row of a place
  pub row_of : (m i : ℕ) (p : Place f m i) → row_at (branches m f) i ≡ p.branch ∷ row_at (f p.branch) p.inner
  row_of m i p = ap (row_at (branches m f)) p.is ∙ branch_at m p.branch p.inner p.branch_below p.inner_below

  -- a later row stands in a later branch, or later in the same
  pub place_order : (m i j : ℕ) (p : Place f m i) (q : Place f m j) → i < j → (p.branch < q.branch) ⊎ ((p.branch ≡ q.branch) × (p.inner < q.inner))
  place_order m i j p q h = ⊎_elim (λ e. inr (e, within e)) (⊎_elim inl (λ l. absurd (omega (arith, before_later q.branch p.branch l)))) (cases_order p.branch q.branch)
    where
      within : p.branch ≡ q.branch → p.inner < q.inner
      within e = omega (arith, ap (before f) e)

  -- what holds of each value before each row of its branch holds of each row
  pub each_row : (m : ℕ) (P : Row → Type 0) → ((v k : ℕ) → v < m → k < length (f v) → P (v ∷ row_at (f v) k)) → (i : ℕ) → i < length (branches m f) → P (row_at (branches m f) i)
  each_row m P h i l =
      let p = branch_of m i l in
      rw (row_of m i p) (h p.branch p.inner p.branch_below p.inner_below)

  -- branches of one length
  pub length_uniform : (m c : ℕ) → ((v : ℕ) → v < m → length (f v) ≡ c) → length (branches m f) ≡ m * c
  length_uniform zero c h = sym (zero-mul c)
  length_uniform (suc m) c h = rw suc-mul (omega (arith, before_suc m, h m (omega arith), length_uniform m c (λ v l. h v (omega arith))))

  -- in branches of one length the label is divided by it
  pub place_uniform : (m c i : ℕ) → ((v : ℕ) → v < m → length (f v) ≡ c) → 0 < c → i < m * c → Place f m i
  place_uniform m c i h p l =
      let b : i / c < m = div_below i c m p l in
      record { branch = i / c; inner = i % c; branch_below = b; inner_below = rw (h (i / c) b) (mod_below i c p); is = rw (length_uniform (i / c) c (λ v o. h v (omega arith))) (sym (div-add-mod' i c)) }

  -- so the row i has the quotient first, and behind it the row at the remainder
  pub row_uniform : (m c i : ℕ) → ((v : ℕ) → v < m → length (f v) ≡ c) → 0 < c → i < m * c → row_at (branches m f) i ≡ (i / c) ∷ row_at (f (i / c)) (i % c)
  unfolding place_uniform
  row_uniform m c i h p l = row_of m i (place_uniform m c i h p l)

  -- a row of the branch v stands behind v
  pub listed_branches : (m v : ℕ) (r : Row) → v < m → Listed (f v) r → Listed (branches m f) (v ∷ r)
  listed_branches m v r h (k, l, e) = (before f v + k, label_below m v k h l, branch_at m v k h l ∙ ap (λ s. v ∷ s) e)

  -- and only such rows are there
  pub branches_listed : (m : ℕ) (r : Row) → Listed (branches m f) r → (v : ℕ) × (s : Row) × (v < m) × (r ≡ v ∷ s) × Listed (f v) s
  branches_listed m r h =
      let p = branch_of m h.0 h.1 in
      (p.branch, row_at (f p.branch) p.inner, p.branch_below, sym h.2 ∙ row_of m h.0 p, (p.inner, p.inner_below, refl))

  -- no two rows are the same where none are in a branch
  pub apart_branches : (m : ℕ) → ((v : ℕ) → v < m → Apart (f v)) → Apart (branches m f)
  apart_branches m apart i j hi hj e =
      let p = branch_of m i hi in
      let q = branch_of m j hj in
      let rows : p.branch ∷ row_at (f p.branch) p.inner ≡ q.branch ∷ row_at (f q.branch) q.inner = sym (row_of m i p) ∙ e ∙ row_of m j q in
      p.is ∙ same p.branch q.branch p.inner q.inner p.branch_below p.inner_below q.inner_below (cc rows) (cc rows) ∙ sym q.is
    where
      same : (v w k l : ℕ) → v < m → k < length (f v) → l < length (f w) → v ≡ w → row_at (f v) k ≡ row_at (f w) l → before f v + k ≡ before f w + l
      same v w k l hv hk hl e r = rw e (ap (λ x. before f w + x) (apart w (rw e at hv) k l (rw e at hk) hl (rw e at r)))

  -- rows that rise in each branch rise
  pub rising_branches : (m : ℕ) → ((v : ℕ) → v < m → Rising (f v)) → Rising (branches m f)
  rising_branches m rising i j h l =
      let p = branch_of m i (omega arith) in
      let q = branch_of m j l in
      rw (row_of m i p, row_of m j q) (⊎_elim inl (λ t. inr (t.0, within p.branch q.branch p.inner q.inner q.branch_below q.inner_below t.0 t.1)) (place_order m i j p q h))
    where
      within : (v w k l : ℕ) → w < m → l < length (f w) → v ≡ w → k < l → Precedes (row_at (f v) k) (row_at (f w) l)
      within v w k l hw hl e o = rw e (rising w hw k l o hl)

  -- what ties neighbours in each branch, and the last row of a branch to the first row of the next that has rows, ties all neighbours
  pub neighbours : (m : ℕ) (R : Row → Row → Type 0)
      → ((v k : ℕ) → v < m → k + 1 < length (f v) → R (v ∷ row_at (f v) k) (v ∷ row_at (f v) (k + 1)))
      → ((v w : ℕ) → v < w → w < m → 0 < length (f v) → 0 < length (f w) → before f w ≡ before f (suc v) → R (v ∷ row_at (f v) (length (f v) - 1)) (w ∷ row_at (f w) 0))
      → (i : ℕ) → i + 1 < length (branches m f) → R (row_at (branches m f) i) (row_at (branches m f) (i + 1))
  neighbours m R within seam i h =
      let p = branch_of m i (omega arith) in
      let q = branch_of m (i + 1) h in
      rw (row_of m i p, row_of m (i + 1) q) (⊎_elim (across p q) (λ t. inside p q t.0) (place_order m i (i + 1) p q (omega arith)))
    where
      Tied : Place f m i → Place f m (i + 1) → Type 0
      Tied p q = R (p.branch ∷ row_at (f p.branch) p.inner) (q.branch ∷ row_at (f q.branch) q.inner)

      across : (p : Place f m i) (q : Place f m (i + 1)) → p.branch < q.branch → Tied p q
      across p q l =
          let b = before_later p.branch q.branch l in
          let s = before_suc p.branch in
          let end : p.inner ≡ length (f p.branch) - 1 = omega arith in
          let start : q.inner ≡ 0 = omega arith in
          rw (end, start) (seam p.branch q.branch l q.branch_below (omega arith) (omega arith) (omega arith))

      inside : (p : Place f m i) (q : Place f m (i + 1)) → p.branch ≡ q.branch → Tied p q
      inside p q e =
          let next : q.inner ≡ p.inner + 1 = omega (arith, ap (before f) e) in
          rw (e, next) (within q.branch p.inner q.branch_below (omega arith))

  -- neighbours differ in n places if they do in each branch, and at a seam in n - 1 behind the first
  pub stepping_branches : (m n : ℕ) → ((v : ℕ) → v < m → Stepping n (f v))
      → ((v w : ℕ) → v < w → w < m → 0 < length (f v) → 0 < length (f w) → before f w ≡ before f (suc v) → suc (differences (row_at (f v) (length (f v) - 1)) (row_at (f w) 0)) ≡ n)
      → Stepping n (branches m f)
  stepping_branches m n each seam = neighbours m (λ r s. differences r s ≡ n)
      (λ v k h l. differences_behind v (row_at (f v) k) (row_at (f v) (k + 1)) ∙ each v h k l)
      (λ v w h l a b c. differences_first v w (row_at (f v) (length (f v) - 1)) (row_at (f w) 0) (λ e. omega arith) ∙ seam v w h l a b c)

  -- neighbours differ in one place if they do in each branch, and at a seam the row behind the first value stays
  pub stepping_one : (m : ℕ) → ((v : ℕ) → v < m → Stepping 1 (f v))
      → ((v w : ℕ) → v < w → 0 < length (f v) → before f w ≡ before f (suc v) → row_at (f v) (length (f v) - 1) ≡ row_at (f w) 0)
      → Stepping 1 (branches m f)
  stepping_one m each seam = stepping_branches m 1 each (λ v w h l a b e. ap suc (rw (seam v w h a e) (differences_same (row_at (f w) 0))))

  -- the next branch that has rows, where the very next has some
  pub next_branch : (v w : ℕ) → v < w → 0 < length (f (suc v)) → before f w ≡ before f (suc v) → w ≡ suc v
  next_branch v w h l e = ⊎_elim (λ o. absurd (omega (arith, before_later (suc v) w o))) (λ o. omega arith) (cases_lt (suc v) w)
