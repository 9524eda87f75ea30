-- Where the branches of `stock`, `door` and `words` stand, by their counts. Assumes nothing.
use Rattle.std.specs.Prelude.{◌≡◌, ℕ, suc, ◌+◌, ◌-◌, ◌*◌, ◌/◌, ◌<◌, ◌≤◌, min, Bool, false, List, [], ◌∷◌, length, take, replicate, sum, ◌≢◌, slice_index, slice_index_or, refl}
use Rattle.std.proofs.Common.{sym, ap, subst, subst₂, ◌∙◌, arith}
use Rattle.std.proofs.lemmas.Bool.{eq-eqb}
use Rattle.walk.specs.Rows.{Row, row_at}
use Rattle.kinds.specs.Lists.{branches, odd, total, stock, ways, door, one_less, words_of}
use Rattle.kinds.specs.Tree.{Stands}
use Rattle.kinds.specs.Branches.{before, before_suc, before_later, branch_at, branch_of, row_of, length_turned}
use Rattle.kinds.specs.Door.{door_branch, door_branches, door_length}
use Rattle.kinds.specs.Entering.{branch_stands, branch_outside}
use Rattle.kinds.specs.Just.{length_branches}
use Rattle.kinds.specs.Multinomial.{branch_length, before_length}
use Rattle.kinds.specs.Stock.{stock_branch, stock_length}
use Rattle.kinds.specs.Words.{words_branch, branch_counted, counted_below}

-- no row begins with v
abbrev pub Nowhere : List Row → ℕ → Type 0
Nowhere rows v = (i : ℕ) (r : Row) → i < length rows → row_at rows i ≢ v ∷ r

-- the row at the label begins with v
abbrev pub Begins : List Row → ℕ → ℕ → Type 0
Begins rows label v = (r : Row) × (row_at rows label ≡ v ∷ r)

module _ (f : ℕ → List Row) (m v : ℕ) where
  -- a label between the rows before a branch and its end
  pub branch_picks : (label : ℕ) → v < m → before f v ≤ label → label < before f v + length (f v) → Begins (branches m f) label v
  branch_picks label lt low high =
      let k = label - before f v in
      let at : label ≡ before f v + k = omega arith in
      (row_at (f v) k, ap (row_at (branches m f)) at ∙ branch_at f m v k lt (omega arith))

  -- a branch with no rows
  pub branch_empty : f v ≡ [] → Nowhere (branches m f) v
  branch_empty none i r below has =
      let p = branch_of f m i below in
      let same : p.branch ≡ v = cc (sym (row_of f m i p) ∙ has) in
      let inside : p.inner < length (f v) = subst (λ b. p.inner < length (f b)) same p.inner_below in
      omega (arith, ap length none)

-- a stretch in other words
pub stands_as : (outer : List Row) (front : Row) (back : Bool) (inner : List Row) (from from' count count' : ℕ) → from ≡ from' → count ≡ count'
    → Stands outer front (record { from = from; count = count; backward = back }) inner → Stands outer front (record { from = from'; count = count'; backward = back }) inner
stands_as outer front back inner from from' count count' e c = subst₂ (λ a n. Stands outer front (record { from = a; count = n; backward = back }) inner) e c

-- the rows of a stock before those that begin with v
abbrev pub ways_before : List ℕ → ℕ → ℕ → ℕ
ways_before stocks t v = total v (λ w. ways stocks (t - w))

module _ (most : ℕ) (stocks : List ℕ) (t v : ℕ) where
  pub stock_before : before (stock_branch stocks t) v ≡ ways_before stocks t v
  stock_before = length_branches (stock_branch stocks t) (λ w. ways stocks (t - w)) v (λ w h. stock_length stocks (t - w))

  -- the branch of a value within its stock and the sum
  pub stock_enters : v ≤ min most t → Stands (stock (most ∷ stocks) t) (v ∷ []) (record { from = ways_before stocks t v; count = ways stocks (t - v); backward = false }) (stock stocks (t - v))
  stock_enters h = stands_as (stock (most ∷ stocks) t) (v ∷ []) false (stock stocks (t - v)) (before (stock_branch stocks t) v) (ways_before stocks t v) (length (stock stocks (t - v))) (ways stocks (t - v))
      stock_before (stock_length stocks (t - v)) (branch_stands (stock_branch stocks t) (suc (min most t)) v false (stock stocks (t - v)) (omega arith) refl)

  -- no branch for a larger value
  pub stock_outside : min most t < v → Nowhere (stock (most ∷ stocks) t) v
  stock_outside h = branch_outside (stock_branch stocks t) (suc (min most t)) v h

  -- the first value of the row at a label
  pub stock_picks : (label : ℕ) → v ≤ min most t → ways_before stocks t v ≤ label → label < ways_before stocks t (suc v) → Begins (stock (most ∷ stocks) t) label v
  stock_picks label h low high = branch_picks (stock_branch stocks t) (suc (min most t)) v label (omega arith) (omega (arith, stock_before)) (omega (arith, stock_before, stock_length stocks (t - v)))

  -- the ways of a branch and of those before it are some of all
  pub ways_within : v ≤ min most t → ways_before stocks t (suc v) ≤ ways (most ∷ stocks) t
  ways_within h = omega (arith, stock_before, stock_length stocks (t - v), stock_length (most ∷ stocks) t, before_later (stock_branch stocks t) v (suc (min most t)) (omega arith))

module _ (n t v : ℕ) where
  pub door_before : before (door_branch n t) v ≡ ways_before (replicate n 1) t v
  door_before = length_branches (door_branch n t) (λ w. ways (replicate n 1) (t - w)) v (λ w h. length_turned (odd w) (door n (t - w)) ∙ door_length n (t - w))

  -- the branch of a value 0 or 1
  pub door_enters : v ≤ min 1 t → Stands (door (suc n) t) (v ∷ []) (record { from = ways_before (replicate n 1) t v; count = ways (replicate n 1) (t - v); backward = odd v }) (door n (t - v))
  door_enters h = subst (λ rows. Stands rows (v ∷ []) (record { from = ways_before (replicate n 1) t v; count = ways (replicate n 1) (t - v); backward = odd v }) (door n (t - v))) (sym (door_branches n t))
      (stands_as (branches (suc (min 1 t)) (door_branch n t)) (v ∷ []) (odd v) (door n (t - v)) (before (door_branch n t) v) (ways_before (replicate n 1) t v) (length (door n (t - v))) (ways (replicate n 1) (t - v))
      door_before (door_length n (t - v)) (branch_stands (door_branch n t) (suc (min 1 t)) v (odd v) (door n (t - v)) (omega arith) refl))

  -- no branch for a larger value
  pub door_outside : min 1 t < v → Nowhere (door (suc n) t) v
  door_outside h = subst (λ rows. Nowhere rows v) (sym (door_branches n t)) (branch_outside (door_branch n t) (suc (min 1 t)) v h)

  -- the first value of the row at a label
  pub door_picks : (label : ℕ) → v ≤ min 1 t → ways_before (replicate n 1) t v ≤ label → label < ways_before (replicate n 1) t (suc v) → Begins (door (suc n) t) label v
  door_picks label h low high = subst (λ rows. Begins rows label v) (sym (door_branches n t))
      (branch_picks (door_branch n t) (suc (min 1 t)) v label (omega arith) (omega (arith, door_before)) (omega (arith, door_before, length_turned (odd v) (door n (t - v)), door_length n (t - v))))

-- of m words of counts with the sum n, those before the first value v, and those that begin with it
abbrev pub words_before : ℕ → ℕ → List ℕ → ℕ → ℕ
words_before m n counts v = sum (take v counts) * m / n

abbrev pub words_behind : ℕ → ℕ → List ℕ → ℕ → ℕ
words_behind m n counts v = slice_index counts v * m / n

module _ (n : ℕ) (counts : List ℕ) (e : sum counts ≡ suc n) (v : ℕ) where
  -- the branch of a value that has a count
  pub words_enters : 0 < slice_index counts v → Stands (words_of (suc n) counts) (v ∷ []) (record { from = words_before (length (words_of (suc n) counts)) (suc n) counts v; count = words_behind (length (words_of (suc n) counts)) (suc n) counts v; backward = false }) (words_of n (one_less counts v))
  words_enters some =
      let inside = counted_below counts v some in
      let same = branch_counted n counts v some in
      stands_as (words_of (suc n) counts) (v ∷ []) false (words_of n (one_less counts v)) (before (words_branch n counts) v) (words_before (length (words_of (suc n) counts)) (suc n) counts v)
      (length (words_of n (one_less counts v))) (words_behind (length (words_of (suc n) counts)) (suc n) counts v)
      (before_length n counts e v (omega arith)) (ap length (sym same) ∙ branch_length n counts e v) (branch_stands (words_branch n counts) (length counts) v false (words_of n (one_less counts v)) inside same)

  -- no branch for a value without a count
  pub words_outside : slice_index_or counts v 0 ≡ 0 → Nowhere (words_of (suc n) counts) v
  words_outside none = branch_empty (words_branch n counts) (length counts) v (rw (eq-eqb (slice_index counts v) 0 none))

  -- the first value of the row at a label
  pub words_picks : (label : ℕ) → v < length counts → words_before (length (words_of (suc n) counts)) (suc n) counts v ≤ label → label < words_before (length (words_of (suc n) counts)) (suc n) counts (suc v) → Begins (words_of (suc n) counts) label v
  words_picks label inside low high = branch_picks (words_branch n counts) (length counts) v label inside
      (omega (arith, before_length n counts e v (omega arith)))
      (omega (arith, before_length n counts e v (omega arith), before_length n counts e (suc v) (omega arith), before_suc (words_branch n counts) v))
