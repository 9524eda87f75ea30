-- Where lanes begin on opening.
use Rattle.std.proofs.Common.{◌≡◌, ℕ, zero, suc, ◌+◌, ◌*◌, ◌/◌, ◌<◌, ◌≤◌, true, leb, map, sum_by, sym, refl, ap, ◌∙◌, subst, mul-le-mul_right, add-mul, zero-mul, div-mul-le_self, add-one, arith}
use native.Mathlib.Nat.{zero-div, mul-div_right, div-le_of_le-mul}
use Rattle.std.specs.List.{range_with_len}
use Rattle.std.proofs.lemmas.Nat.{le-div}
use Rattle.std.proofs.lemmas.List.FromFn.{sum_by-map-range_with_len_more}
use Rattle.std.proofs.lemmas.Bool.{and_parts, leb-true}
use Rattle.book.specs.Lanes.{left, undrawn, hands, printers_allowed, lane_start, opened_lane, opened_lanes}
use Rattle.book.proofs.Accounts.{holding}

-- a lane begins where the one before ends, or later
pub start_le_next : (n k i : ℕ) → 0 < k → lane_start n k i ≤ lane_start n k (i + 1)
start_le_next n k i some = le-div (lane_start n k i) ((i + 1) * n) k some (omega (arith, div-mul-le_self (i * n) k, add-mul i 1 n))

-- the first one begins at 0, and the last one ends behind the last row
pub start_of_first : (n k : ℕ) → lane_start n k 0 ≡ 0
start_of_first n k = ap (λ m. m / k) (zero-mul n) ∙ zero-div k

pub start_of_all : (n k : ℕ) → 0 < k → lane_start n k k ≡ n
start_of_all n k some = mul-div_right n some

-- and none begins behind it
pub start_le : (n k i : ℕ) → 0 < k → i ≤ k → lane_start n k i ≤ n
start_le n k i some h = div-le_of_le-mul k (mul-le-mul_right n h)

-- the first j lanes have as many labels as lie before the start of the next
undrawn_below : (n k j : ℕ) → 0 < k → sum_by left (map (opened_lane n k) (range_with_len 0 j)) ≡ lane_start n k j
undrawn_below n k zero some = sym (start_of_first n k)
undrawn_below n k (suc j) some =
    subst (λ m. sum_by left (map (opened_lane n k) (range_with_len 0 m)) ≡ lane_start n k m) (add-one j)
    (let more = sum_by-map-range_with_len_more left (opened_lane n k) 0 j j (omega arith) in
    omega (arith, more, undrawn_below n k j some, start_le_next n k j some))

-- On opening every row is undrawn, and no hand holds a label.
pub undrawn_opened : (n k : ℕ) → 0 < k → undrawn (opened_lanes n k) ≡ n
undrawn_opened n k some = undrawn_below n k k some ∙ start_of_all n k some

-- no hand of the first j printers holds a label
hands_below : (n k j : ℕ) → hands (map (opened_lane n k) (range_with_len 0 j)) ≡ 0
hands_below n k zero = refl
hands_below n k (suc j) =
    subst (λ m. hands (map (opened_lane n k) (range_with_len 0 m)) ≡ 0) (add-one j)
    (let more = sum_by-map-range_with_len_more (λ lane. holding lane.hand) (opened_lane n k) 0 j j (omega arith) in
    omega (arith, more, hands_below n k j))

-- no hand holds a label
pub hands_opened : (n k : ℕ) → hands (opened_lanes n k) ≡ 0
hands_opened n k = hands_below n k k

-- a number of printers that a book may have
pub allowed_some : (k : ℕ) → printers_allowed k ≡ true → (1 ≤ k) × (k ≤ 16)
allowed_some k may =
    let both = and_parts (leb 1 k) (leb k 16) may in
    (leb-true 1 k both.0, leb-true k 16 both.1)
