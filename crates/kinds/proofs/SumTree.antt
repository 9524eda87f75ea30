-- Where the row at a label begins, by the counts of the first bin. Assumes nothing.
use Rattle.std.proofs.Common.{◌≡◌, ℕ, zero, suc, ◌+◌, ◌-◌, ◌<◌, ◌≤◌, min, List, length, get_or, take, reverse, sum, Option, sym, ap, ◌∙◌, refl, ⊎_elim, add-one, arith}
use Rattle.std.proofs.lemmas.List.{length-take, length-reverse, get_or-take, get_or-reverse, take_all}
use Rattle.std.proofs.lemmas.Bool.{cases_lt}
use Rattle.std.proofs.lemmas.List.Sums.{sum_by_more}
use Rattle.std.specs.Option.{unwrap_or}
use Rattle.walk.specs.Rows.{Row}
use Rattle.kinds.specs.Bins.{mosts, filled}
use Rattle.kinds.specs.Lists.{total}
use Rattle.kinds.specs.Nodes.{Begins}
use Rattle.kinds.specs.RowSums.{front, most, count_of, total_more, ways_many, node_picks, node_whole}
use Rattle.kinds.specs.Shapes.{reflects}
use Rattle.kinds.specs.Tree.{FallsIn}
use Rattle.kinds.specs.declared.sums.StockNode.{StockNode}
use Rattle.kinds.proofs.Falls.{falls_found}

-- the front of a list, from its end
abbrev turned_front : List ℕ → ℕ → List ℕ
turned_front xs n = reverse (take n xs)

module _ (xs : List ℕ) (t n : ℕ) (fits : n ≡ t + 1) (in_range : t < length xs) where
  plain_long : length (take n xs) ≡ n
  plain_long = omega (arith, length-take n xs)

  front_long : length (turned_front xs n) ≡ n
  front_long = length-reverse (take n xs) ∙ plain_long

  -- which ends at t
  sum_front : (v : ℕ) → v ≤ n → sum (take v (turned_front xs n)) ≡ total v (λ w. get_or xs (t - w) 0)
  sum_front zero h = refl
  sum_front (suc v) h =
      let part = take n xs in
      let back : length part - 1 - v < n = omega (arith, plain_long) in
      let last : get_or (reverse part) v 0 ≡ get_or xs (t - v) 0 =
      get_or-reverse part v 0 (omega (arith, plain_long))
      ∙ get_or-take n xs (length part - 1 - v) 0 back
      ∙ ap (λ k. get_or xs k 0) (omega (arith, plain_long)) in
      ap (λ k. sum (take k (reverse part))) (sym (add-one v))
      ∙ sum_by_more (λ x. x) (reverse part) v 0 (omega (arith, front_long))
      ∙ omega (arith, sum_front v (omega arith), last)

module _ (self : StockNode) (bin : 0 < length self.bins.now) where
  abbrev ways : List ℕ
  ways = (front self.bins.now).ways

  abbrev last : ℕ
  last = min (most self bin) self.left

  abbrev rows : List Row
  rows = filled (reflects self.order) (mosts self.bins.now) self.left

  module _ (n : ℕ) (many : n ≡ self.left + 1) where
    abbrev counts : List ℕ
    counts = turned_front ways n

    in_range : self.left < length ways
    in_range = omega (arith, ways_many self bin, self.small)

    before : (v : ℕ) → v ≤ n → sum (take v counts) ≡ total v (count_of self bin)
    before = sum_front ways self.left n many in_range

    -- the values up to the stock have all rows
    whole : (v : ℕ) → last < v → length rows ≤ total v (count_of self bin)
    whole v more = omega (arith, node_whole self bin, total_more (count_of self bin) (suc last) v (omega arith))

    all : length rows ≤ sum counts
    all = omega (arith, whole n (omega arith), before n (omega arith), ap sum (take_all n counts (omega (arith, front_long ways self.left n many in_range))))

    -- the first value of the row at a label
    pub row_picks : (label place : ℕ) (v : Option ℕ) → FallsIn counts place v → place ≡ label → label < length rows → Begins rows label (unwrap_or v 0)
    row_picks label place v falls same listed =
        let at = falls_found counts place v falls (omega (arith, all)) in
        let value = unwrap_or v 0 in
        let long = front_long ways self.left n many in_range in
        let inside : value ≤ last = ⊎_elim (λ (more : last < value). absurd (omega (arith, whole value more, at.0, at.1, before value (omega (arith, long))))) (λ h. h) (cases_lt last value) in
        node_picks self bin value label inside
        (omega (arith, at.1, before value (omega (arith, at.0, long))))
        (omega (arith, at.2, before (suc value) (omega (arith, at.0, long)), ap (λ k. sum (take k counts)) (add-one value)))
