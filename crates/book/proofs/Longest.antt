-- The longest lane.
use Rattle.std.proofs.Common.{◌≡◌, ℕ, zero, suc, ◌<◌, ◌≤◌, max, cond, eqb, leb, ltb, List, [], ◌∷◌, map, length, get_or, Some, None, sym, refl, ap, ◌∙◌, arith}
use Rattle.std.specs.List.{fold, reduce, position, position_or_len}
use Rattle.std.proofs.lemmas.List.{length-map}
use Rattle.std.proofs.lemmas.List.Sums.{position_or_len_is}
use Rattle.std.proofs.lemmas.Bool.{leb-true, leb-false, lt-ltb, eq-eqb, ne_eqb, cond-true, cond_both}
use Rattle.book.specs.Calls.{last_of_longest}
use Rattle.book.specs.LaneLaws.{IsLongest}
use Rattle.book.specs.Lanes.{no_lane, lane_at, left, greatest, first_greatest, longest, longest_of}
use Rattle.book.specs.declared.lane.Lane.{Lane}

-- none is greater than the greatest
pub get_or_le_greatest : (xs : List ℕ) (i : ℕ) → get_or xs i 0 ≤ greatest xs
get_or_le_greatest [] i = omega arith
get_or_le_greatest (x ∷ xs) zero = omega arith
get_or_le_greatest (x ∷ xs) (suc i) = omega (arith, get_or_le_greatest xs i)

-- the greatest stands at its place
pub get_or_first_greatest : (xs : List ℕ) → get_or xs (first_greatest xs) 0 ≡ greatest xs
get_or_first_greatest [] = refl
get_or_first_greatest (x ∷ xs) =
    cond_both (leb (greatest xs) x) 0 (suc (first_greatest xs)) (λ b. get_or (x ∷ xs) b 0 ≡ max x (greatest xs))
    (λ e. omega (arith, leb-true (greatest xs) x e))
    (λ e. omega (arith, leb-false (greatest xs) x e, get_or_first_greatest xs))

-- what stands before it is less
pub get_or_before_greatest : (xs : List ℕ) (i : ℕ) → i < first_greatest xs → get_or xs i 0 < greatest xs
get_or_before_greatest [] i = λ h. omega arith
get_or_before_greatest (x ∷ xs) zero =
    cond_both (leb (greatest xs) x) 0 (suc (first_greatest xs)) (λ b. 0 < b → x < max x (greatest xs))
    (λ e h. omega arith)
    (λ e h. omega (arith, leb-false (greatest xs) x e))
get_or_before_greatest (x ∷ xs) (suc i) =
    cond_both (leb (greatest xs) x) 0 (suc (first_greatest xs)) (λ b. suc i < b → get_or xs i 0 < max x (greatest xs))
    (λ e h. omega arith)
    (λ e h. omega (arith, get_or_before_greatest xs i (omega arith)))

-- its place is among them
pub first_greatest_within : (xs : List ℕ) → 0 < length xs → first_greatest xs < length xs
first_greatest_within [] h = omega arith
first_greatest_within (x ∷ []) h = cond_both (leb 0 x) 0 1 (λ b. b < 1) (λ e. omega arith) (λ e. omega (arith, leb-false 0 x e))
first_greatest_within (x ∷ (y ∷ xs)) h =
    cond_both (leb (greatest (y ∷ xs)) x) 0 (suc (first_greatest (y ∷ xs))) (λ b. b < suc (suc (length xs)))
    (λ e. omega arith)
    (λ e. omega (arith, first_greatest_within (y ∷ xs) (omega arith)))

-- what the lane of printer i has left
pub left_at : (lanes : List Lane) (i : ℕ) → get_or (map left lanes) i 0 ≡ left (lane_at lanes i)
left_at [] i = refl
left_at (lane ∷ lanes) zero = refl
left_at (lane ∷ lanes) (suc i) = left_at lanes i

-- the longest lane is one of them
pub longest_within : (lanes : List Lane) → 0 < length lanes → longest lanes < length lanes
longest_within lanes h = omega (arith, first_greatest_within (map left lanes) (omega (arith, length-map lanes left)), length-map lanes left)

-- no lane has more labels left than the longest
pub left_le_longest : (lanes : List Lane) (i : ℕ) → left (lane_at lanes i) ≤ left (lane_at lanes (longest lanes))
left_le_longest lanes i = omega (arith, left_at lanes i, left_at lanes (longest lanes), get_or_le_greatest (map left lanes) i, get_or_first_greatest (map left lanes))

-- it is the longest, and the first such
pub longest_stands : (lanes : List Lane) → 0 < length lanes → IsLongest lanes (longest lanes)
longest_stands lanes some = record {
  inside = longest_within lanes some;
  most = λ i h. left_le_longest lanes i;
  first = λ i h. omega (arith, left_at lanes i, left_at lanes (longest lanes), get_or_first_greatest (map left lanes), get_or_before_greatest (map left lanes) i h);
}

-- the greatest of some numbers, one after the other
fold_greatest : (x : ℕ) (xs : List ℕ) → fold max x xs ≡ max x (greatest xs)
fold_greatest x [] = omega arith
fold_greatest x (y ∷ ys) = fold_greatest (max x y) ys ∙ omega arith

-- it stands first at its place
greatest_place : (lanes : List Lane) (most : ℕ) → 0 < length lanes → most ≡ greatest (map left lanes) → position_or_len (λ lane. eqb (left lane) most) lanes ≡ longest lanes
greatest_place lanes most some is =
    position_or_len_is (λ lane. eqb (left lane) most) lanes (longest lanes) no_lane (omega (arith, longest_within lanes some))
    (λ k lt. ne_eqb (left (lane_at lanes k)) most (λ same. omega (arith, left_at lanes k, get_or_before_greatest (map left lanes) k lt)))
    (λ lt. eq-eqb (left (lane_at lanes (longest lanes))) most (omega (arith, left_at lanes (longest lanes), get_or_first_greatest (map left lanes))))

-- the first lane with the most labels left is the longest lane
pub longest_found : (lanes : List Lane) (most : ℕ) → reduce max (map left lanes) ≡ Some most → position (λ lane. eqb (left lane) most) lanes ≡ longest_of lanes
longest_found [] most is = refl
longest_found (x ∷ xs) most is =
    let all : most ≡ greatest (map left (x ∷ xs)) = sym (cc (is)) ∙ fold_greatest (left x) (map left xs) in
    let place = greatest_place (x ∷ xs) most (omega arith) all in
    ap (λ n. cond (ltb n (length (x ∷ xs))) (Some n) None) place
    ∙ cond-true (ltb (longest (x ∷ xs)) (length (x ∷ xs))) _ _ (lt-ltb (longest (x ∷ xs)) (length (x ∷ xs)) (longest_within (x ∷ xs) (omega arith)))

-- there is none where there are no lanes
pub longest_missing : (lanes : List Lane) → reduce max (map left lanes) ≡ None → longest_of lanes ≡ None
longest_missing [] is = refl
longest_missing (x ∷ xs) is = absurd (let z : ◌≡◌ {A = ℕ} 0 1 = cc in omega arith)

-- it is one of the lanes
pub longest_is : (lanes : List Lane) (n : ℕ) → longest_of lanes ≡ Some n → (n ≡ longest lanes) × (n < length lanes)
longest_is [] n is = absurd (let z : ◌≡◌ {A = ℕ} 0 1 = cc in omega arith)
longest_is (x ∷ xs) n is =
    let same : n ≡ longest (x ∷ xs) = cc is in
    (same, omega (arith, longest_within (x ∷ xs) (omega arith)))

-- without lanes there is no last label
pub last_of_none : (lanes : List Lane) → longest_of lanes ≡ None → last_of_longest lanes ≡ None
last_of_none [] is = refl
last_of_none (x ∷ xs) is = absurd (let z : ◌≡◌ {A = ℕ} 0 1 = cc in omega arith)
