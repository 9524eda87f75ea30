-- How the text of a row grows. Assumes nothing.
use Rattle.std.proofs.Common.{◌≡◌, ℕ, ◌+◌, ◌<◌, List, [], ◌∷◌, ◌++◌, length, get_or, take, codes, decimal, sym, refl, ap, ◌∙◌, ap₂, arith}
use Rattle.std.specs.List.{range_with_len, flat_map}
use Rattle.std.proofs.lemmas.List.FromFn.{map-range_with_len_more}
use Rattle.std.proofs.lemmas.List.{append_assoc, flat_map_more, map-id, take_more, length-take-le}
use Rattle.walk.specs.Rows.{Row}
use Rattle.walk.specs.Meaning.{Meaning, row, standing}
use Rattle.listing.specs.Texts.{gap_text, row_text, line_text}

-- one value more, behind what stands before it
row_text_push : (r : Row) (v : ℕ) → row_text (r ++ (v ∷ [])) ≡ row_text r ++ (gap_text (length r) ++ decimal v)
row_text_push [] v = refl
row_text_push (w ∷ []) v = refl
row_text_push (w ∷ x ∷ r) v =
    ap (λ t. decimal w ++ (codes " " ++ t)) (row_text_push (x ∷ r) v) ∙ sym (append_assoc (decimal w) (codes " " ++ row_text (x ∷ r)) _)

-- what a row's text grows by at the place i
pub row_text_more : (out now gap before : List ℕ) (r : Row) (i : ℕ) → i < length r → gap ≡ gap_text i → out ≡ before ++ row_text (take i r) → now ≡ out ++ (gap ++ decimal (get_or r i 0)) → now ≡ before ++ row_text (take (i + 1) r)
row_text_more out now gap before r i lt is so more =
    let long : length (take i r) ≡ i = length-take-le i r (omega arith) in
    let last = decimal (get_or r i 0) in
    let grows : row_text (take (i + 1) r) ≡ row_text (take i r) ++ (gap_text (length (take i r)) ++ last) = ap row_text (take_more r i 0 lt) ∙ row_text_push (take i r) (get_or r i 0) in
    more
    ∙ ap₂ (λ t g. t ++ (g ++ last)) so (is ∙ ap gap_text (sym long))
    ∙ append_assoc before _ _
    ∙ ap (λ t. before ++ t) (sym grows)

-- one number more is counted
counting_more : (n : ℕ) → range_with_len 0 (n + 1) ≡ range_with_len 0 n ++ (n ∷ [])
counting_more n = sym (map-id (range_with_len 0 (n + 1))) ∙ map-range_with_len_more (λ (k : ℕ). k) 0 n n (omega arith) ∙ ap (λ ks. ks ++ (n ∷ [])) (map-id (range_with_len 0 n))

-- one line more, of a walk with the same rows
pub lines_more : (m same : Meaning) (out now names : List ℕ) (n : ℕ) → standing same 0 ≡ standing m 0
    → out ≡ names ++ flat_map (λ label. line_text label (row m label)) (range_with_len 0 n) → now ≡ out ++ line_text n (row same n)
    → now ≡ names ++ flat_map (λ label. line_text label (row m label)) (range_with_len 0 (n + 1))
lines_more m same out now names n is so more =
    let line : ℕ → List ℕ = λ label. line_text label (row m label) in
    more
    ∙ ap₂ (λ t (w : Meaning). t ++ line_text n (row w n)) so is
    ∙ flat_map_more line names (range_with_len 0 n) n
    ∙ ap (λ ks. names ++ flat_map line ks) (sym (counting_more n))
