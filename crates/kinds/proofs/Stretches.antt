-- How stretches of lists are followed inward and back. Assumes nothing.
use Rattle.std.proofs.Common.{◌≡◌, ℕ, zero, suc, ◌+◌, ◌-◌, ◌<◌, ◌≤◌, Bool, true, false, cond, not, List, [], ◌∷◌, ◌++◌, length, take, set, Some, None, sym, refl, ap, ◌∙◌, subst, arith}
use Rattle.std.proofs.lemmas.List.{append-nil, append_assoc, append_cancel_left, take_more_set}
use Rattle.walk.specs.Rows.{Row, row_at, label_of}
use Rattle.walk.proofs.Differences.{label_of_first, label_of_missing}
use Rattle.kinds.specs.declared.stretch.Stretch.{Stretch}
use Rattle.kinds.specs.Tree.{label_in, label_within, after_both, Stands}

-- the way in undoes the way out
out_and_in : (b : Bool) (from count i : ℕ) → from ≤ i → i < from + count → (from + cond b (count - 1 - cond b (count - 1 - (i - from)) (i - from)) (cond b (count - 1 - (i - from)) (i - from)) ≡ i) × (cond b (count - 1 - (i - from)) (i - from) < count)
out_and_in true from count i low high = (omega arith, omega arith)
out_and_in false from count i low high = (omega arith, omega arith)

-- the way out of both stretches, one after the other
out_of_both : (sb tb : Bool) (sf sc tf tc k : ℕ) → tf + tc ≤ sc → k < tc → sf + cond sb (sc - 1 - (tf + cond tb (tc - 1 - k) k)) (tf + cond tb (tc - 1 - k) k) ≡ sf + cond sb (sc - tf - tc) tf + cond (cond sb (not tb) tb) (tc - 1 - k) k
out_of_both true true sf sc tf tc k fit lt = omega arith
out_of_both true false sf sc tf tc k fit lt = omega arith
out_of_both false true sf sc tf tc k fit lt = omega arith
out_of_both false false sf sc tf tc k fit lt = omega arith

-- a label of the inner stretch is one of the outer
label_in_below : (b : Bool) (from count k : ℕ) → k < count → (from ≤ from + cond b (count - 1 - k) k) × (from + cond b (count - 1 - k) k < from + count)
label_in_below true from count k lt = (omega arith, omega arith)
label_in_below false from count k lt = (omega arith, omega arith)

-- below a leaf every row is empty
pub leaf_row : {rows : List Row} → rows ≡ [] ∷ [] → (k : ℕ) → row_at rows k ≡ []
leaf_row leaf k = ap (λ rows. row_at rows k) leaf ∙ empty k
  where
    empty : (k : ℕ) → row_at ([] ∷ []) k ≡ []
    empty zero = refl
    empty (suc k) = refl

-- a row of which i values are written, with its next value set
pub one_more : (tray : Row) (i v : ℕ) (row step rest : Row) → i < length tray → row ≡ take i tray ++ step → step ≡ v ∷ rest → row ≡ take (i + 1) (set tray i v) ++ rest
one_more tray i v row step rest lt is goes = is ∙ ap (λ r. take i tray ++ r) goes ∙ sym (append_assoc (take i tray) (v ∷ []) rest) ∙ ap (λ front. front ++ rest) (sym (take_more_set tray i v lt))

module _ {outer : List Row} {front : Row} {s : Stretch} {inner : List Row} (at : Stands outer front s inner) where
  -- a row of the stretch, by its label in the outer list
  pub stands_at : (i : ℕ) → s.from ≤ i → i < s.from + s.count → (label_within s i < length inner) × (row_at outer i ≡ front ++ row_at inner (label_within s i))
  stands_at i low high =
      let way = out_and_in s.backward s.from s.count i low high in
      (subst (λ n. label_within s i < n) at.counted way.1, ap (row_at outer) (sym way.0) ∙ at.rows (label_within s i) way.1)

  -- each row that begins with the front is a row of the stretch, and what is left of it is a row of the inner list
  pub stands_rest : (i : ℕ) (r : Row) → i < length outer → row_at outer i ≡ front ++ r → (label_within s i < length inner) × (row_at inner (label_within s i) ≡ r)
  stands_rest i r lt is =
      let range = at.only i r lt is in
      let found = stands_at i range.0 range.1 in
      (found.0, append_cancel_left front _ _ (sym found.1 ∙ is))

  -- a stretch of the inner list
  pub stands_then : (v : ℕ) (t : Stretch) (rest : List Row) → Stands inner (v ∷ []) t rest → Stands outer (front ++ (v ∷ [])) (after_both s t) rest
  stands_then v t rest sub =
      let within : t.from + t.count ≤ s.count = omega (arith, at.counted, sub.fits) in
      record {
        counted = sub.counted;
        fits = fits_both s.backward within;
        rows = λ k lt.
            let mid = label_in_below t.backward t.from t.count k lt in
            ap (row_at outer) (sym (out_of_both s.backward t.backward s.from s.count t.from t.count k within lt))
            ∙ at.rows (label_in t k) (omega arith)
            ∙ ap (λ r. front ++ r) (sub.rows k lt)
            ∙ sym (append_assoc front (v ∷ []) (row_at rest k));
        only = λ i r lt is.
            let whole = is ∙ append_assoc front (v ∷ []) r in
            let range = at.only i (v ∷ r) lt whole in
            let left = stands_rest i (v ∷ r) lt whole in
            let sub_range = sub.only (label_within s i) r left.0 left.1 in
            only_both s.backward i range sub_range;
      }
    where
      fits_both : (b : Bool) → t.from + t.count ≤ s.count → s.from + cond b (s.count - t.from - t.count) t.from + t.count ≤ length outer
      fits_both true within = omega (arith, at.fits)
      fits_both false within = omega (arith, at.fits)

      only_both : (b : Bool) (i : ℕ) → (s.from ≤ i) × (i < s.from + s.count) → (t.from ≤ cond b (s.count - 1 - (i - s.from)) (i - s.from)) × (cond b (s.count - 1 - (i - s.from)) (i - s.from) < t.from + t.count) → (s.from + cond b (s.count - t.from - t.count) t.from ≤ i) × (i < s.from + cond b (s.count - t.from - t.count) t.from + t.count)
      only_both true i range sub_range = (omega arith, omega arith)
      only_both false i range sub_range = (omega arith, omega arith)

  -- where nothing more is left of the rows, the stretch is the row that was followed
  pub stands_leaf : inner ≡ [] ∷ [] → label_of outer front ≡ Some s.from
  stands_leaf leaf =
      let one : s.count ≡ 1 = at.counted ∙ ap length leaf in
      let found = stands_at s.from (omega arith) (omega arith) in
      let rest : row_at inner (label_within s s.from) ≡ [] = leaf_row leaf (label_within s s.from) in
      label_of_first outer front s.from (omega (arith, at.fits)) (found.1 ∙ ap (λ r. front ++ r) rest ∙ append-nil front)
      (λ j lt is. let range = at.only j [] (omega (arith, at.fits)) (is ∙ sym (append-nil front)) in omega arith)

  -- where no row of the inner list goes on with v, no row of the outer one does
  pub stands_none : (v : ℕ) (r : Row) → ((i : ℕ) (r : Row) → i < length inner → row_at inner i ≡ v ∷ r → ⊥) → label_of outer (front ++ (v ∷ r)) ≡ None
  stands_none v r none = label_of_missing outer (front ++ (v ∷ r)) (λ i lt is. let left = stands_rest i (v ∷ r) lt is in none (label_within s i) r left.0 left.1)
