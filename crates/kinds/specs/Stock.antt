-- The laws of `stock` and of `choose`. Assumes nothing.
use Rattle.std.specs.Prelude.{◌≡◌, ℕ, suc, ◌+◌, ◌-◌, ◌<◌, ◌≤◌, min, cond, ◌↔◌, List, [], ◌∷◌, length, replicate, sum, ◌==◌, slice_index, slice_index_or, refl}
use Rattle.std.proofs.Common.{sym, ap, ◌∙◌, arith}
use Rattle.std.proofs.lemmas.List.{nil_from_length, length-replicate, get_or-replicate}
use Rattle.std.proofs.lemmas.List.Sums.{sum_by-cons}
use Rattle.std.proofs.lemmas.Bool.Decides.{nat_tests}
use Rattle.walk.specs.Rows.{Row, row_at}
use Rattle.kinds.specs.Lists.{stock, ways, choose}
use Rattle.kinds.specs.Laws.{occurrences, Within, Chosen, Apart, Rising, StockLaws, ChooseLaws}
use Rattle.kinds.specs.Branches.{apart_branches, rising_branches}
use Rattle.kinds.specs.Occurrences.{occurrences_cons}
use Rattle.kinds.specs.Just.{Just, below_suc, just_row, just_same, just_leaf, just_branches, apart_few, rising_few, length_leaf, length_branches}

-- the rows of the other stocks behind the first value v
abbrev pub stock_branch : List ℕ → ℕ → ℕ → List Row
stock_branch stocks t v = stock stocks (t - v)

-- the sum of a row with the value v first
pub sum_cons : (v : ℕ) (r : Row) → sum (v ∷ r) ≡ v + sum r
sum_cons = sum_by-cons (λ x. x)

-- a value within its stock goes before a row
pub within_more : (most v t : ℕ) (stocks : List ℕ) (r : Row) → v < suc (min most t) → Within stocks (t - v) r → Within (most ∷ stocks) t (v ∷ r)
within_more most v t stocks r h w =
    (ap suc w.0, below_suc (length stocks) (λ k. slice_index (v ∷ r) k ≤ slice_index (most ∷ stocks) k) (omega arith) w.1, omega (arith, sum_cons v r, w.2))

-- and parts from it
pub within_parts : (most v t : ℕ) (stocks : List ℕ) (r : Row) → Within (most ∷ stocks) t (v ∷ r) → (v < suc (min most t)) × Within stocks (t - v) r
within_parts most v t stocks r w =
    (omega (arith, w.1 0 (omega arith), w.2, sum_cons v r), (omega (arith, w.0), λ k h. w.1 (suc k) (omega arith), omega (arith, w.2, sum_cons v r)))

-- as many rows as there are ways
pub stock_length : (stocks : List ℕ) (t : ℕ) → length (stock stocks t) ≡ ways stocks t
stock_length [] t = grind (arith, nat_tests)
stock_length (most ∷ stocks) t = length_branches (stock_branch stocks t) (λ v. ways stocks (t - v)) (suc (min most t)) (λ v h. stock_length stocks (t - v))

-- they are the rows within the stocks
pub stock_within : (stocks : List ℕ) (t : ℕ) → Just (Within stocks t) (stock stocks t)
stock_within [] t = just_leaf (Within [] t) t
    (λ e. (refl, (λ k h. absurd (omega arith)), sym e))
    (λ r w. let none = nil_from_length r w.0 in (none, sym w.2 ∙ ap sum none))
stock_within (most ∷ stocks) t = just_branches (Within (most ∷ stocks) t) (suc (min most t)) (stock_branch stocks t) (λ v. Within stocks (t - v))
    (λ v h. stock_within stocks (t - v))
    (λ w. omega (arith, w.0))
    (λ v r. within_more most v t stocks r)
    (λ v r. within_parts most v t stocks r)

-- no two are the same
pub stock_apart : (stocks : List ℕ) (t : ℕ) → Apart (stock stocks t)
stock_apart [] t = apart_few (stock [] t) (length_leaf (t == 0))
stock_apart (most ∷ stocks) t = apart_branches (stock_branch stocks t) (suc (min most t)) (λ v h. stock_apart stocks (t - v))

-- each precedes all later ones
pub stock_rising : (stocks : List ℕ) (t : ℕ) → Rising (stock stocks t)
stock_rising [] t = rising_few (stock [] t) (length_leaf (t == 0))
stock_rising (most ∷ stocks) t = rising_branches (stock_branch stocks t) (suc (min most t)) (λ v h. stock_rising stocks (t - v))

-- the laws together
pub stock_laws : (stocks : List ℕ) (t : ℕ) → StockLaws stocks t (stock stocks t)
stock_laws stocks t = record { sound = λ r. (stock_within stocks t r).0; complete = λ r. (stock_within stocks t r).1; rising = stock_rising stocks t }

module _ (stocks : List ℕ) (t i : ℕ) (h : i < length (stock stocks t)) where
  -- each row is within the stocks
  pub stock_row : Within stocks t (row_at (stock stocks t) i)
  stock_row = just_row (Within stocks t) (stock stocks t) (stock_within stocks t) i h

  -- it is as wide as there are stocks
  pub stock_width : length (row_at (stock stocks t) i) ≡ length stocks
  stock_width = stock_row.0

  -- of bytes, where each stock is at most 255
  pub stock_bytes : ((k : ℕ) → k < length stocks → slice_index stocks k ≤ 255) → (k : ℕ) → k < length stocks → slice_index (row_at (stock stocks t) i) k ≤ 255
  stock_bytes small k l = omega (arith, stock_row.1 k l, small k l)

-- of values 0 and 1, the sum is the number of those that are 1
pub sum_bits : (r : Row) → ((k : ℕ) → k < length r → slice_index r k ≤ 1) → sum r ≡ occurrences 1 r
sum_bits [] small = refl
sum_bits (x ∷ r) small =
    let first : x ≤ 1 = small 0 (omega arith) in
    let one : cond (x == 1) 1 0 ≡ x = grind (arith, nat_tests) in
    omega (arith, sum_cons x r, occurrences_cons 1 x r, sum_bits r (λ k h. small (suc k) (omega arith)))

-- of stocks of 1 each, just t are chosen
pub within_ones : (n t : ℕ) (r : Row) → Within (replicate n 1) t r ↔ Chosen n t r
within_ones n t r = (chosen, within)
  where
    size : length {A = ℕ} (replicate n 1) ≡ n
    size = length-replicate n 1

    one : (k : ℕ) → k < n → slice_index_or {A = ℕ} (replicate n 1) k 0 ≡ 1
    one k h = get_or-replicate n k 1 0 h

    chosen : Within (replicate n 1) t r → Chosen n t r
    chosen w =
        let wide : length r ≡ n = w.0 ∙ size in
        let small : (k : ℕ) → k < n → slice_index r k ≤ 1 = λ k h. omega (arith, w.1 k (omega (arith, size)), one k h) in
        (wide, small, sym (sum_bits r (λ k h. small k (omega arith))) ∙ w.2)

    within : Chosen n t r → Within (replicate n 1) t r
    within c = (
      c.0 ∙ sym size,
      (λ k h. let l : k < n = omega (arith, size) in omega (arith, c.1 k l, one k l)),
      sum_bits r (λ k h. c.1 k (omega (arith, c.0))) ∙ c.2,
    )

-- just the rows of n values of which t are 1: what each row then is
module _ (n t : ℕ) (rows : List Row) (just : Just (Chosen n t) rows) (i : ℕ) (h : i < length rows) where
  -- such a row
  pub row_chosen : Chosen n t (row_at rows i)
  row_chosen = just_row (Chosen n t) rows just i h

  -- of n values
  pub width_chosen : length (row_at rows i) ≡ n
  width_chosen = row_chosen.0

  -- of bytes
  pub bytes_chosen : (k : ℕ) → k < n → slice_index (row_at rows i) k ≤ 255
  bytes_chosen k l = omega (arith, row_chosen.1 k l)

-- the rows of `choose` are those of n values of which t are 1
pub choose_chosen : (n t : ℕ) → Just (Chosen n t) (choose n t)
choose_chosen n t = just_same (Within (replicate n 1) t) (Chosen n t) (choose n t) (within_ones n t) (stock_within (replicate n 1) t)

-- its laws together
pub choose_laws : (n t : ℕ) → ChooseLaws n t (choose n t)
choose_laws n t = record { sound = λ r. (choose_chosen n t r).0; complete = λ r. (choose_chosen n t r).1; rising = stock_rising (replicate n 1) t }
