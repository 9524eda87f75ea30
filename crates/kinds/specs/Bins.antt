-- Stocks with the counts of the rows behind them. Assumes nothing.
use Rattle.std.specs.Prelude.{◌≡◌, ℕ, zero, suc, ◌-◌, ◌<◌, min, Bool, true, false, cond, ◌&&◌, List, [], ◌∷◌, map, length, ◌==◌, slice_index, refl}
use Rattle.std.proofs.Common.{◌∙◌, arith}
use Rattle.std.proofs.lemmas.Bool.{ne_eqb, cond-false}
use Rattle.std.proofs.lemmas.List.{length-map}
use Rattle.std.specs.List.{range_with_len}
use Rattle.walk.specs.Rows.{Row, same_row}
use Rattle.kinds.specs.Lists.{stock, door, ways, total}
use Rattle.kinds.specs.declared.shape.Bin.{Bin}

-- the stocks of the bins
abbrev pub mosts : List Bin → List ℕ
mosts bins = map (λ (b : Bin). b.most) bins

-- a count of rows, up to one more than a walk may have
abbrev pub capped : ℕ → ℕ
capped n = min n 4294967296

-- the capped counts of the rows of the stocks with the sums 0 to 32
unfoldable pub capped_ways : List ℕ → List ℕ
capped_ways stocks = map (λ (t : ℕ). capped (ways stocks t)) (range_with_len 0 33)

-- the capped count of the rows with a sum of a stock and those behind it, from the counts of those behind it
abbrev pub count_with : ℕ → List ℕ → ℕ → ℕ
count_with most behind t = capped (total (suc (min most t)) (λ v. slice_index behind (t - v)))

-- such counts for the sums 0 to 32
unfoldable pub counts_with : ℕ → List ℕ → List ℕ
counts_with most behind = map (count_with most behind) (range_with_len 0 33)

-- each stock with the counts of the stocks after it
abbrev pub bins_of : List ℕ → List Bin
bins_of [] = []
bins_of (most ∷ stocks) = record { most = most; ways = capped_ways stocks } ∷ bins_of stocks

-- the bins have the counts of the stocks behind them
abbrev pub bins_hold : List Bin → Bool
bins_hold [] = true
bins_hold (b ∷ bs) = same_row b.ways (capped_ways (mosts bs)) && bins_hold bs

-- the rows with a sum: those of `door` where the rows after an odd value run backward, which is asked of stocks of 1 alone
abbrev pub filled : Bool → List ℕ → ℕ → List Row
filled reflected stocks t = cond reflected (door (length stocks) t) (stock stocks t)

-- no stocks have no rows with a sum above 0
no_ways : (t : ℕ) → 0 < ways [] (suc t) → ⊥
no_ways t some = let none : ways [] (suc t) ≡ 0 = cond-false (suc t == 0) 1 0 (ne_eqb (suc t) 0 (λ e. omega arith)) in omega arith

-- with no stock left, a sum that has a row is 0, and its row is the empty one
pub filled_leaf : (reflected : Bool) (stocks : List ℕ) (t : ℕ) → length stocks ≡ 0 → 0 < ways stocks t → filled reflected stocks t ≡ [] ∷ []
filled_leaf true (s ∷ ss) t none some = absurd (omega arith)
filled_leaf false (s ∷ ss) t none some = absurd (omega arith)
filled_leaf true [] zero none some = refl
filled_leaf false [] zero none some = refl
filled_leaf true [] (suc t) none some = absurd (no_ways t some)
filled_leaf false [] (suc t) none some = absurd (no_ways t some)

pub node_leaf : (reflected : Bool) (bins : List Bin) (t : ℕ) → length bins ≡ 0 → 0 < ways (mosts bins) t → filled reflected (mosts bins) t ≡ [] ∷ []
node_leaf reflected bins t none some = filled_leaf reflected (mosts bins) t (length-map bins (λ b. b.most) ∙ none) some
