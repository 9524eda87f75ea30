-- Every shape keeps the laws of a walk. Assumes nothing.
use Rattle.std.specs.Prelude.{◌≡◌, ℕ, zero, suc, ◌+◌, ◌<◌, ◌≤◌, Bool, true, false, ◌&&◌, List, [], ◌∷◌, length, vec_items, sum, None, ◌≢◌, nat_le, slice_index}
use Rattle.std.proofs.Common.{sym, ap, ◌∙◌, arith}
use Rattle.std.proofs.lemmas.List.{length-map}
use Rattle.std.proofs.lemmas.Bool.{and_parts, leb-true, false≢true}
use Rattle.walk.specs.Rows.{Row, row_at, label_of, differences}
use Rattle.walk.specs.Meaning.{Lawful}
use Rattle.walk.proofs.Differences.{label_of_missing}
use Rattle.kinds.specs.Bins.{mosts, bins_hold}
use Rattle.kinds.specs.Lists.{digits, gray, door}
use Rattle.kinds.specs.Ranges.{all_between}
use Rattle.kinds.specs.Laws.{Apart}
use Rattle.kinds.specs.Kinds.{kind_meaning}
use Rattle.kinds.specs.Shapes.{radices, levels_hold, rows_of, width_of, steady_of, sums_hold, shape_holds}
use Rattle.kinds.specs.declared.kind.Kind.{Kind}
use Rattle.kinds.specs.declared.shape.Bin.{Bin}
use Rattle.kinds.specs.declared.shape.Level.{Level}
use Rattle.kinds.specs.declared.shape.Order.TheVariants.{Rising, Reflected}
use Rattle.kinds.specs.declared.shape.Shape.{Shape}
use Rattle.kinds.specs.declared.shape.Shape.TheVariants.{Radices, Sums, Words, Changes}
use Rattle.kinds.specs.Digits.{JustUnder, width_under, bytes_under, digits_under, digits_apart}
use Rattle.kinds.specs.Door.{door_chosen, door_apart, door_stepping}
use Rattle.kinds.specs.Gray.{gray_under, gray_apart, gray_stepping}
use Rattle.kinds.specs.MixedRadix.{first_level}
use Rattle.kinds.specs.Radices.{between_at}
use Rattle.kinds.specs.Words.{words_width, words_bytes, words_apart}
use Rattle.kinds.specs.Changes.{changes_width, changes_bytes, changes_apart, changes_laws}
use Rattle.kinds.specs.Stock.{stock_width, stock_bytes, stock_apart, width_chosen, bytes_chosen}

-- what a list of rows has to keep, the place and the number of rows aside
pub record Kept (rows : List Row) (width : ℕ) (steady : Bool) : Type 0 where
  pub narrow : width ≤ 64
  pub wide : (i : ℕ) → i < length rows → length (row_at rows i) ≡ width
  pub bytes : (i k : ℕ) → i < length rows → k < width → slice_index (row_at rows i) k ≤ 255
  pub apart : Apart rows
  pub steps : steady ≡ true → (i : ℕ) → i + 1 < length rows → differences (row_at rows i) (row_at rows (i + 1)) ≤ 2

-- the radices of levels that hold are bytes
radices_small : (levels : List Level) → levels_hold levels ≡ true → (k : ℕ) → k < length (radices levels) → slice_index (radices levels) k ≤ 256
radices_small [] hold k lt = absurd (omega arith)
radices_small (l ∷ ls) hold zero lt = let byte = (first_level l ls hold).byte in omega arith
radices_small (l ∷ ls) hold (suc k) lt = radices_small ls (first_level l ls hold).rest k (omega arith)

-- any list of just the rows under the radices, no row twice
under_kept : (levels : List Level) (rows : List Row) (steady : Bool) → (nat_le (length levels) 32 && levels_hold levels) ≡ true → JustUnder (radices levels) rows → Apart rows →
    (steady ≡ true → (i : ℕ) → i + 1 < length rows → differences (row_at rows i) (row_at rows (i + 1)) ≤ 2) → Kept rows (length levels) steady
under_kept levels rows steady holds just apart steps =
    let parts = and_parts (nat_le (length levels) 32) (levels_hold levels) holds in
    let few = leb-true (length levels) 32 parts.0 in
    let long : length (radices levels) ≡ length levels = length-map levels (λ l. l.radix) in
    record {
      narrow = omega arith;
      wide = λ i lt. width_under (radices levels) rows just i lt ∙ long;
      bytes = λ i k lt below. bytes_under (radices levels) rows just i lt (radices_small levels parts.1) k (omega arith);
      apart = apart;
      steps = steps;
    }

-- what is known of bins and a sum
pub record SumParts (bins : List Bin) (t : ℕ) : Type 0 where
  pub hold : bins_hold bins ≡ true
  pub short : length bins ≤ 32
  pub small : all_between 0 32 (mosts bins) ≡ true
  pub sum : t ≤ 32

pub sums_parts : (bins : List Bin) (t : ℕ) → sums_hold bins t ≡ true → SumParts bins t
sums_parts bins t holds =
    let a = and_parts (bins_hold bins) _ holds in
    let b = and_parts (nat_le (length bins) 32) _ a.1 in
    let c = and_parts (all_between 0 32 (mosts bins)) _ b.1 in
    record { hold = a.0; short = leb-true (length bins) 32 b.0; small = c.0; sum = leb-true t 32 c.1 }

-- the rows of a shape that holds
pub shape_kept : (s : Shape) → shape_holds s ≡ true → Kept (rows_of s) (width_of s) (steady_of s)
shape_kept (Radices levels Rising) holds =
    let rs = radices (vec_items levels) in
    under_kept (vec_items levels) (digits rs) false holds (digits_under rs) (digits_apart rs) (λ no_yes. absurd (false≢true no_yes))
shape_kept (Radices levels Reflected) holds =
    let rs = radices (vec_items levels) in
    under_kept (vec_items levels) (gray rs) true holds (gray_under rs) (gray_apart rs) (λ yes_yes i lt. omega (arith, gray_stepping rs i lt))
shape_kept (Sums bins t Rising) holds =
    let stocks = mosts (vec_items bins) in
    let sums = sums_parts (vec_items bins) t holds in
    let long : length stocks ≡ length (vec_items bins) = length-map (vec_items bins) (λ b. b.most) in
    record {
      narrow = omega (arith, sums.short);
      wide = λ i lt. stock_width stocks t i lt ∙ long;
      bytes = λ i k lt below. stock_bytes stocks t i lt (λ n l. omega (arith, between_at 0 32 stocks n sums.small l)) k (omega arith);
      apart = stock_apart stocks t;
      steps = λ no_yes. absurd (false≢true no_yes);
    }
shape_kept (Sums bins t Reflected) holds =
    let stocks = mosts (vec_items bins) in
    let sums = sums_parts (vec_items bins) t (and_parts (all_between 1 1 stocks) _ holds).1 in
    let long : length stocks ≡ length (vec_items bins) = length-map (vec_items bins) (λ b. b.most) in
    let chosen = door_chosen (length stocks) t in
    record {
      narrow = omega (arith, sums.short);
      wide = λ i lt. width_chosen (length stocks) t (door (length stocks) t) chosen i lt ∙ long;
      bytes = λ i k lt below. bytes_chosen (length stocks) t (door (length stocks) t) chosen i lt k (omega arith);
      apart = door_apart (length stocks) t;
      steps = λ yes_yes i lt. omega (arith, door_stepping (length stocks) t i lt);
    }
shape_kept (Words counts) holds =
    let items = vec_items counts in
    let parts = and_parts (nat_le (length items) 32) (nat_le (sum items) 32) holds in
    let few = leb-true (length items) 32 parts.0 in
    let short = leb-true (sum items) 32 parts.1 in
    record {
      narrow = omega arith;
      wide = words_width items;
      bytes = λ i k lt. words_bytes items i lt (omega arith) k;
      apart = words_apart (sum items) items;
      steps = λ no_yes. absurd (false≢true no_yes);
    }
shape_kept (Changes n) holds =
    let small = leb-true n 12 holds in
    record {
      narrow = omega arith;
      wide = changes_width n;
      bytes = λ i k lt. changes_bytes n i lt (omega arith) k;
      apart = changes_apart n;
      steps = λ yes_yes i lt. omega (arith, (changes_laws n).stepping i lt);
    }

-- every kind is a walk
pub kind_lawful : (k : Kind) → Lawful (kind_meaning k)
kind_lawful k =
    let kept = shape_kept k.shape k.holds in
    let counted = k.counted in
    let few = k.few in
    let inside = k.inside in
    record {
      narrow = kept.narrow;
      few = omega arith;
      wide = kept.wide;
      bytes = kept.bytes;
      apart = kept.apart;
      inside = (λ some. omega arith, λ none. omega arith);
      steps = kept.steps;
    }

-- no row is in a kind that has none
pub no_rows : (k : Kind) (r : Row) → k.size ≡ 0 → label_of (rows_of k.shape) r ≡ None
no_rows k r none = label_of_missing (rows_of k.shape) r (λ i lt is. omega (arith, k.counted))

-- nor is a row of another width
pub other_width : (k : Kind) (r : Row) → length r ≢ k.width → label_of (rows_of k.shape) r ≡ None
other_width k r other = label_of_missing (rows_of k.shape) r (λ i lt is. other (sym (ap length is) ∙ (kind_lawful k).wide i lt ∙ sym k.wide))
