-- What is known of the tables from which kinds are made. Assumes nothing.
use Rattle.std.proofs.Common.{◌≡◌, ℕ, zero, suc, ◌<◌, ◌≤◌, Bool, true, false, not, ◌&&◌, ◌||◌, eqb, leb, List, length, take, replicate, vec_items, sum, Vec, sym, refl, ap, ◌∙◌, subst, ⊎_elim, arith}
use lib.ListN.{length-replicate}
use Rattle.std.specs.declared.alloc.Global.{Global}
use Rattle.std.proofs.lemmas.List.{take-replicate}
use Rattle.std.proofs.lemmas.Bool.{and_parts, and_from, cases_lt, leb-true, le-leb, eqb-true}
use Rattle.kinds.specs.Bins.{mosts, bins_of, bins_hold, filled}
use Rattle.kinds.specs.Kinds.{radices_fit, stocks_fit, choice_fits}
use Rattle.kinds.specs.Lists.{product, ways, door, changes}
use Rattle.kinds.specs.Ranges.{all_between}
use Rattle.kinds.specs.Shapes.{chosen, radices, levels_of, levels_hold, sums_hold}
use Rattle.kinds.specs.declared.shape.Bin.{Bin}
use Rattle.kinds.specs.declared.shape.Level.{Level}
use Rattle.kinds.specs.Changes.{changes_length}
use Rattle.kinds.specs.RowSums.{Ones, filled_length}
use Rattle.kinds.proofs.PlainChanges.{factorial_rises}
use Rattle.kinds.specs.Radices.{radices_of_levels, length_levels, levels_of_hold}
use Rattle.kinds.specs.WayCounts.{mosts_of_bins, length_bins, bins_of_hold}

-- equal numbers within a range are within it
pub between_replicate : (low high x n : ℕ) → low ≤ x → x ≤ high → all_between low high (replicate n x) ≡ true
between_replicate low high x zero above below = refl
between_replicate low high x (suc n) above below =
    and_from (leb low x) _ (le-leb low x above) (and_from (leb x high) _ (le-leb x high below) (between_replicate low high x n above below))

-- the first n of 32 ones
pub ones_taken : (n : ℕ) → n ≤ 32 → take {A = ℕ} n (replicate 32 1) ≡ replicate n 1
ones_taken n small = take-replicate n 32 1 small

-- and each is a stock
pub ones_between : (n : ℕ) → n ≤ 32 → all_between 0 32 (take {A = ℕ} n (replicate 32 1)) ≡ true
ones_between n small = rw (ones_taken n small) (between_replicate 0 32 1 n (omega arith) (omega arith))

-- the levels and the count that a table of radices has
abbrev pub RadixRows : List ℕ → Vec Level Global × ℕ → Type 0
RadixRows list x = (vec_items x.0 ≡ levels_of list) × (x.1 ≡ product list)

-- the bins and the count that a table of stocks has
abbrev pub SumRows : List ℕ → ℕ → Vec Bin Global × ℕ → Type 0
SumRows stocks t x = (vec_items x.0 ≡ bins_of stocks) × (x.1 ≡ ways stocks t)

-- the levels of a table of radices
pub record RadixTable (n : ℕ) (list : List ℕ) (levels : List Level) : Type 0 where
  pub holds : (leb (length levels) 32 && levels_hold levels) ≡ true
  pub same : radices levels ≡ list
  pub wide : length list ≡ length levels
  pub width : length levels ≡ n

pub radix_table : (n : ℕ) (list : List ℕ) (levels : List Level) → radices_fit n list ≡ true → levels ≡ levels_of list → RadixTable n list levels
radix_table n list levels fit is =
    let parts = and_parts (leb n 32) _ fit in
    let more = and_parts (eqb (length list) n) _ parts.1 in
    let small = leb-true n 32 parts.0 in
    let long = ap length is ∙ length_levels list in
    let all = eqb-true (length list) n more.0 in
    record {
      holds = and_from (leb (length levels) 32) _ (le-leb (length levels) 32 (omega arith)) (ap levels_hold is ∙ levels_of_hold list more.1);
      same = ap radices is ∙ radices_of_levels list;
      wide = sym long;
      width = long ∙ all;
    }

-- the bins of a table of stocks and a sum
pub record SumTable (stocks : List ℕ) (t : ℕ) (bins : List Bin) : Type 0 where
  pub holds : sums_hold bins t ≡ true
  pub same : mosts bins ≡ stocks
  pub wide : length bins ≡ length stocks

pub sum_table : (stocks : List ℕ) (t : ℕ) (bins : List Bin) → bins ≡ bins_of stocks → length stocks ≤ 32 → all_between 0 32 stocks ≡ true → t ≤ 32 → SumTable stocks t bins
sum_table stocks t bins is short small sum =
    let same = ap mosts is ∙ mosts_of_bins stocks in
    let long = ap length is ∙ length_bins stocks in
    record {
      holds = and_from (bins_hold bins) _ (ap bins_hold is ∙ bins_of_hold stocks)
          (and_from (leb (length bins) 32) _ (le-leb (length bins) 32 (omega arith)) (and_from (all_between 0 32 (mosts bins)) _ (ap (all_between 0 32) same ∙ small) (le-leb t 32 sum)));
      same = same;
      wide = long;
    }

-- what fitting numbers of a stock say
pub record StocksFit (n t : ℕ) (list : List ℕ) : Type 0 where
  pub n_small : n ≤ 32
  pub t_small : t ≤ 32
  pub long : length list ≡ n
  pub all : all_between 0 32 list ≡ true

pub stocks_fitting : (n t : ℕ) (list : List ℕ) → stocks_fit n t list ≡ true → StocksFit n t list
stocks_fitting n t list fit =
    let a = and_parts (leb n 32) _ fit in
    let b = and_parts (leb t 32) _ a.1 in
    let c = and_parts (eqb (length list) n) _ b.1 in
    record { n_small = leb-true n 32 a.0; t_small = leb-true t 32 b.0; long = eqb-true (length list) n c.0; all = c.1 }

-- stocks that fit have one
pub stock_table : (n t : ℕ) (list : List ℕ) (bins : List Bin) → stocks_fit n t list ≡ true → bins ≡ bins_of list → SumTable list t bins
stock_table n t list bins fits is = let fit = stocks_fitting n t list fits in sum_table list t bins is (omega (arith, fit.n_small, fit.long)) fit.all fit.t_small

-- n stocks of 1
pub ones_fitting : (n t : ℕ) → choice_fits n t ≡ true → StocksFit n t (replicate n 1)
ones_fitting n t fit =
    let a = and_parts (leb n 32) _ fit in
    record { n_small = leb-true n 32 a.0; t_small = leb-true t 32 a.1; long = length-replicate n 1; all = between_replicate 0 32 1 n (omega arith) (omega arith) }

-- n stocks of 1 may have their rows in either order
pub ones_either : (reflected : Bool) (n : ℕ) → Ones reflected (replicate n 1)
ones_either true n = between_replicate 1 1 1 n (omega arith) (omega arith)
ones_either false n = refl

-- the rows of n stocks of 1
pub choice_rows : (reflected : Bool) (n t : ℕ) → filled reflected (replicate n 1) t ≡ chosen reflected n t
choice_rows true n t = ap (λ m. door m t) (length-replicate n 1)
choice_rows false n t = refl

-- these are as many as the ways
pub choice_length : (reflected : Bool) (n t : ℕ) → length (chosen reflected n t) ≡ ways (replicate n 1) t
choice_length reflected n t = ap length (sym (choice_rows reflected n t)) ∙ filled_length reflected (replicate n 1) t (ones_either reflected n)

-- the bins of a table of n stocks of 1, with the rows in an order
pub record ChoiceTable (reflected : Bool) (n t : ℕ) (bins : List Bin) (size : ℕ) : Type 0 where
  pub holds : ((not reflected || all_between 1 1 (mosts bins)) && sums_hold bins t) ≡ true
  pub same : filled reflected (mosts bins) t ≡ chosen reflected n t
  pub counted : size ≡ length (filled reflected (mosts bins) t)
  pub wide : length bins ≡ n

pub choice_table : (reflected : Bool) (n t : ℕ) (bins : List Bin) (size : ℕ) → choice_fits n t ≡ true → (bins ≡ bins_of (replicate n 1)) × (size ≡ ways (replicate n 1) t) → ChoiceTable reflected n t bins size
choice_table reflected n t bins size fits told =
    let fit = ones_fitting n t fits in
    let table = sum_table (replicate n 1) t bins told.0 (omega (arith, fit.n_small, fit.long)) fit.all fit.t_small in
    let same = ap (λ s. filled reflected s t) table.same ∙ choice_rows reflected n t in
    record {
      holds = and_from (not reflected || all_between 1 1 (mosts bins)) _ (subst (Ones reflected) (sym table.same) (ones_either reflected n)) table.holds;
      same = same;
      counted = told.1 ∙ sym (choice_length reflected n t) ∙ ap length (sym same);
      wide = table.wide ∙ fit.long;
    }

-- orders that can be counted are of at most 12 values
pub few_changes : (n : ℕ) → length (changes n) ≤ 4294967295 → leb n 12 ≡ true
few_changes n few = ⊎_elim (λ (lt : n < 13). le-leb n 12 (omega arith)) (λ over. absurd (omega (arith, factorial_rises 13 n over, changes_length n))) (cases_lt n 13)
