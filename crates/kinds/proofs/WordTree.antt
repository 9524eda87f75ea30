-- Where the words of a node's branches stand. Assumes nothing.
use Rattle.std.proofs.Common.{◌≡◌, ℕ, zero, suc, ◌-◌, ◌*◌, ◌/◌, ◌<◌, ◌≤◌, false, ◌⊎◌, List, [], ◌∷◌, length, get_or, take, set, sum, Option, sym, ap, ◌∙◌, subst₂, ⊎_elim, mul-le-mul_right, mul_comm, div-lt_iff_lt-mul, le-div_iff_mul-le, add-one, arith, rules}
use native.Mathlib.Nat.{le_of_mul-le-mul_left, lt_of_mul-lt-mul_left, div-le_of_le-mul}
use Rattle.std.proofs.lemmas.List.{get_or_past}
use Rattle.std.proofs.lemmas.List.Sums.{sum_by-take-le, get_or-le-sum_by}
use Rattle.std.proofs.lemmas.Bool.{cases_lt}
use Rattle.std.specs.Option.{unwrap_or}
use Rattle.walk.specs.Rows.{Row}
use Rattle.kinds.specs.Lists.{one_less, words_of}
use Rattle.kinds.specs.Tree.{Stands, FallsAt, FallsIn}
use Rattle.kinds.proofs.Falls.{falls_found}
use Rattle.kinds.specs.declared.multiset.WordsNode.{WordsNode}
use Rattle.kinds.specs.Branches.{before, before_suc}
use Rattle.kinds.specs.Multinomial.{before_share}
use Rattle.kinds.specs.Nodes.{Begins, Nowhere, branch_picks, words_enters, words_outside}
use Rattle.kinds.specs.Words.{words_branch, one_less_sum}
use Rattle.arrayvec.specs.ArrayVec.{with_items}
use Rattle.arrayvec.proofs.ArrayVecLemmas.{items-with_items}

-- a part of the words is no more than all
pub share_few : (part left rows : ℕ) → part ≤ left → part * rows / left ≤ rows
share_few part left rows h = div-le_of_le-mul left (mul-le-mul_right rows h)

module _ (counts : List ℕ) (v : ℕ) where
  -- it falls among the counts as it does among the words
  words_place : (left rows label : ℕ) → left ≡ sum counts → rows ≡ length (words_of left counts) → 0 < left → label < rows → FallsAt counts (label * left / rows) v → Begins (words_of left counts) label v
  words_place zero rows label e r some l at = absurd (omega arith)
  words_place (suc n) rows label e r some l at =
      let start : suc n * before (words_branch n counts) v ≡ sum (take v counts) * rows = before_share n counts (sym e) v (omega arith) ∙ ap (λ m. sum (take v counts) * m) (sym r) in
      let end : suc n * before (words_branch n counts) (suc v) ≡ sum (take (suc v) counts) * rows = before_share n counts (sym e) (suc v) (omega arith) ∙ ap (λ m. sum (take (suc v) counts) * m) (sym r) in
      let any : 0 < rows = omega arith in
      let low : sum (take v counts) * rows ≤ label * suc n = (le-div_iff_mul-le any).0 at.1 in
      let high : label * suc n < sum (take (suc v) counts) * rows = (div-lt_iff_lt-mul any).0 (omega (arith, at.2, ap (λ k. sum (take k counts)) (add-one v))) in
      branch_picks (words_branch n counts) (length counts) v label at.0
      (le_of_mul-le-mul_left {k = suc n} (omega (arith, mul_comm label (suc n))) (omega arith))
      (omega (arith, before_suc (words_branch n counts) v, lt_of_mul-lt-mul_left (suc n) {m = label} {n = before (words_branch n counts) (suc v)} (omega (arith, mul_comm label (suc n)))))

  -- the branch of a value that has a count
  words_goes : (left rows : ℕ) → left ≡ sum counts → rows ≡ length (words_of left counts) → 0 < left → 0 < get_or counts v 0
      → Stands (words_of left counts) (v ∷ []) (record { from = sum (take v counts) * rows / left; count = get_or counts v 0 * rows / left; backward = false }) (words_of (left - 1) (one_less counts v))
  words_goes zero rows e r some has = absurd (omega arith)
  words_goes (suc n) rows e r some has = let less : suc n - 1 ≡ n = omega arith in rw (r, less) (words_enters n counts (sym e) v has)

  -- no branch for a value without a count
  words_lacks : (left : ℕ) → left ≡ sum counts → 0 < left → get_or counts v 0 ≡ 0 → Nowhere (words_of left counts) v
  words_lacks zero e some none = absurd (omega arith)
  words_lacks (suc n) e some none = words_outside n counts (sym e) v none

-- the words below a node
abbrev node_words : WordsNode → List Row
node_words n = words_of n.left n.counts.items

module _ (n : WordsNode) (v : ℕ) where
  -- the values below v that are to come are some of those that are left
  pub before_within : sum (take v n.counts.items) ≤ n.left
  before_within = omega (arith, n.summed, sum_by-take-le (λ x. x) n.counts.items v)

  -- a value's count is some of what is left
  pub count_within : get_or n.counts.items v 0 ≤ n.left
  count_within = ⊎_elim (λ h. omega (arith, n.summed, get_or-le-sum_by (λ x. x) n.counts.items v 0 h)) (λ h. omega (arith, get_or_past n.counts.items v 0 h)) (cases_lt v (length n.counts.items))

  -- a value past the counts, or with none left, begins no word
  pub node_lacks : 0 < n.left → (length n.counts.items ≤ v) ⊎ (get_or n.counts.items v 0 ≡ 0) → Nowhere (node_words n) v
  node_lacks some why = words_lacks n.counts.items v n.left n.summed some (⊎_elim (get_or_past n.counts.items v 0) (λ none. none) why)

  module _ (shown : List ℕ) (same : shown ≡ n.counts.items) where
    -- the counts after one less is written through the slice that shows them
    abbrev written : List ℕ
    written = (with_items n.counts (set shown v (get_or shown v 0 - 1))).items

    -- these are the counts with one fewer of the value
    written_less : written ≡ one_less n.counts.items v
    written_less = rw same (items-with_items n.counts (one_less n.counts.items v) (search rules))

    module _ (some : 0 < n.left) (has : 0 < get_or n.counts.items v 0) where
      -- where the words stand that begin with the value, by the shares of the counts
      enters : Stands (node_words n) (v ∷ []) (record { from = sum (take v n.counts.items) * n.rows / n.left; count = get_or n.counts.items v 0 * n.rows / n.left; backward = false }) (words_of (n.left - 1) (one_less n.counts.items v))
      enters = words_goes n.counts.items v n.left n.rows n.summed n.known some has

      -- one value fewer is left there
      pub node_less : n.left - 1 ≡ sum written
      node_less = omega (arith, n.summed, one_less_sum n.counts.items v has, ap sum written_less)

      -- how many words begin with the value
      pub node_rows : (count : ℕ) → count ≡ get_or n.counts.items v 0 * n.rows / n.left → count ≡ length (words_of (n.left - 1) written)
      node_rows count all = all ∙ enters.counted ∙ ap (λ counts. length (words_of (n.left - 1) counts)) (sym written_less)

      -- the same as `enters` says, of the numbers and counts that the code has
      pub node_enters : (value from count : ℕ) → v ≡ value → from ≡ sum (take v n.counts.items) * n.rows / n.left → count ≡ get_or n.counts.items v 0 * n.rows / n.left
          → Stands (node_words n) (value ∷ []) (record { from = from; count = count; backward = false }) (words_of (n.left - 1) written)
      node_enters value from count is begin all = rw (sym is, begin, all, written_less) enters

-- the first value of the word at a label
pub node_picks : (n : WordsNode) (label : ℕ) (counts : List ℕ) (place : ℕ) (v : Option ℕ) → FallsIn counts place v → counts ≡ n.counts.items → place ≡ label * n.left / n.rows → 0 < n.left → label < n.rows → Begins (node_words n) label (unwrap_or v 0)
node_picks n label counts place v falls own share some l =
    let any : 0 < n.rows = omega arith in
    let part : label * n.left < n.left * n.rows = omega (arith, mul-le-mul_right n.left l, mul_comm n.left n.rows) in
    let below : place < sum counts = omega (arith, share, n.summed, ap sum own, (div-lt_iff_lt-mul any).1 part) in
    words_place n.counts.items (unwrap_or v 0) n.left n.rows label n.summed n.known some l
    (subst₂ (λ list p. FallsAt list p (unwrap_or v 0)) own share (falls_found counts place v falls below))
