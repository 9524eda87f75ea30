-- Where the rows of a join stand. Assumes nothing.
use Rattle.std.specs.Prelude.{◌≡◌, ℕ, zero, suc, ◌+◌, ◌*◌, ◌/◌, ◌%◌, ◌<◌, Bool, ◌&&◌, List, [], ◌∷◌, ◌++◌, map, length, refl}
use Rattle.std.proofs.Common.{sym, ap, ap₂, subst, ◌∙◌, ⊎_elim, arith, zero-add, zero-mul, mul-zero, suc-mul}
use Rattle.std.proofs.lemmas.Nat.{div_below, mod_below, div-add-mod', mul-add-lt}
use Rattle.std.proofs.lemmas.List.{length-append, length-map, get_or_append_left, get_or-append-add, get_or-map, take_at, drop_at}
use Rattle.std.proofs.lemmas.Bool.{cases_lt}
use Rattle.walk.specs.Rows.{Row, row_at, odd, turned}
use Rattle.walk.proofs.Turned.{length_turned, row_turned}
use Rattle.joins.specs.Join.{joined_from, joined_rows, mirrored, joined_label}
use Rattle.joins.specs.Stepping.{mirrored_below, mirrored_twice}

module _ (swing : Bool) (rs : List Row) where
  -- there are as many rows as pairs
  pub length_joined : (i : ℕ) (ls : List Row) → length (joined_from swing i ls rs) ≡ length ls * length rs
  length_joined i [] = sym (zero-mul (length rs))
  length_joined i (l ∷ ls) =
      simp (length-append, length-map, length_turned) (omega (arith, suc-mul (length ls) (length rs), length_joined (suc i) ls))

  -- the row j under the left row k, where the left rows have labels from i on
  pub joined_from_at : (i k j : ℕ) (ls : List Row) → k < length ls → j < length rs →
      row_at (joined_from swing i ls rs) (k * length rs + j) ≡ row_at ls k ++ row_at rs (mirrored (swing && odd (i + k)) (length rs) j)
  joined_from_at i k j [] lt below = absurd (omega arith)
  joined_from_at i zero j (l ∷ ls) lt below =
      let back = swing && odd i in
      let long : length (turned back rs) ≡ length rs = length_turned back rs in
      let first : zero * length rs + j ≡ j = omega (arith, zero-mul (length rs)) in
      let here : i ≡ i + zero = omega arith in
      ap (row_at (joined_from swing i (l ∷ ls) rs)) first
      ∙ get_or_append_left (map (λ r. l ++ r) (turned back rs)) (joined_from swing (suc i) ls rs) [] j (simp length-map (omega arith))
      ∙ get_or-map (λ r. l ++ r) (turned back rs) j [] [] (omega arith)
      ∙ ap (λ r. l ++ r) (row_turned back rs j below)
      ∙ ap (λ x. l ++ row_at rs (mirrored (swing && odd x) (length rs) j)) here
  joined_from_at i (suc k) j (l ∷ ls) lt below =
      let front = map (λ r. l ++ r) (turned (swing && odd i) rs) in
      let long : length front ≡ length rs = length-map (turned (swing && odd i) rs) (λ r. l ++ r) ∙ length_turned (swing && odd i) rs in
      let later : suc k * length rs + j ≡ length front + (k * length rs + j) = omega (arith, suc-mul k (length rs)) in
      let label : suc i + k ≡ i + suc k = omega arith in
      ap (row_at (joined_from swing i (l ∷ ls) rs)) later
      ∙ get_or-append-add front (joined_from swing (suc i) ls rs) (k * length rs + j) []
      ∙ joined_from_at (suc i) k j ls (omega arith) below
      ∙ ap (λ x. row_at ls k ++ row_at rs (mirrored (swing && odd x) (length rs) j)) label

  -- the left row i followed by the right row j stands at its label
  pub joined_at : (ls : List Row) (i j : ℕ) → i < length ls → j < length rs →
      row_at (joined_rows swing ls rs) (joined_label swing (length rs) i j) ≡ row_at ls i ++ row_at rs j
  joined_at ls i j lt below =
      let back = swing && odd i in
      joined_from_at 0 i (mirrored back (length rs) j) ls lt (mirrored_below back (length rs) j below)
      ∙ ap (λ x. row_at ls i ++ row_at rs (mirrored (swing && odd x) (length rs) (mirrored back (length rs) j))) (zero-add i)
      ∙ ap (λ x. row_at ls i ++ row_at rs x) (mirrored_twice back (length rs) j below)

-- the label of a pair of rows is a label of the join
pub label_below : (swing : Bool) (m n i j : ℕ) → i < m → j < n → joined_label swing n i j < m * n
label_below swing m n i j lt below =
    omega (arith, mul-add-lt i n (mirrored (swing && odd i) n j) m lt (mirrored_below (swing && odd i) n j below))

-- the pair of rows that stands at a label of a join
pub record Pair (swing : Bool) (m n label : ℕ) : Type 0 where
  pub left : ℕ
  pub right : ℕ
  pub left_below : left < m
  pub right_below : right < n
  pub is : label ≡ joined_label swing n left right

-- a product that is not 0 has no factor 0
pub factors_some : (m n : ℕ) → 0 < m * n → (0 < m) × (0 < n)
factors_some m n lt = (
  ⊎_elim (λ some. some) (λ none. let e : m ≡ 0 = omega arith in absurd (omega (arith, ap (λ x. x * n) e ∙ zero-mul n))) (cases_lt 0 m),
  ⊎_elim (λ some. some) (λ none. let e : n ≡ 0 = omega arith in absurd (omega (arith, ap (λ x. m * x) e ∙ mul-zero m))) (cases_lt 0 n),
)

-- the row under the quotient at the remainder has the label
pub label_divided : (swing : Bool) (n label : ℕ) → 0 < n → joined_label swing n (label / n) (mirrored (swing && odd (label / n)) n (label % n)) ≡ label
label_divided swing n label some =
    ap (λ k. label / n * n + k) (mirrored_twice (swing && odd (label / n)) n (label % n) (mod_below label n some)) ∙ div-add-mod' label n

-- so that label has the pair of the quotient and the mirrored remainder
pub pair_divided : (swing : Bool) (m k n label j : ℕ) → n ≡ k → label < m * k → j ≡ mirrored (swing && odd (label / n)) n (label % n) →
    (label / n < m) × (j < k) × (joined_label swing k (label / n) j ≡ label)
pair_divided swing m k n label j is lt j_is =
    let some : 0 < n = omega (arith, (factors_some m k (omega arith)).1) in (
      div_below label n m some (subst (λ x. label < m * x) (sym is) lt),
      omega (arith, mirrored_below (swing && odd (label / n)) n (label % n) (mod_below label n some)),
      ap₂ (λ x y. joined_label swing x (label / n) y) (sym is) j_is ∙ label_divided swing n label some,
    )

-- at every label a pair of rows stands
pub pair_at : (swing : Bool) (m n label : ℕ) → label < m * n → Pair swing m n label
pair_at swing m n label lt =
    let some = (factors_some m n (omega arith)).1 in
    let back = swing && odd (label / n) in
    record {
      left = label / n;
      right = mirrored back n (label % n);
      left_below = div_below label n m some lt;
      right_below = mirrored_below back n (label % n) (mod_below label n some);
      is = sym (label_divided swing n label some);
    }

-- rows of one width that are followed by others are the same where the whole rows are, and so are those that follow
pub parts_same : (a b c d : Row) → length a ≡ length c → a ++ b ≡ c ++ d → (a ≡ c) × (b ≡ d)
parts_same a b c d long e = (
  sym (take_at a b (length a) refl) ∙ ap (lib.ListN.take (length a)) e ∙ take_at c d (length a) (sym long),
  sym (drop_at a b (length a) refl) ∙ ap (lib.ListN.drop (length a)) e ∙ drop_at c d (length a) (sym long),
)
