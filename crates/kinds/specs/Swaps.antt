-- Rows in which two neighbouring values are exchanged. Assumes nothing.
use Rattle.std.specs.Prelude.{◌≡◌, ℕ, zero, suc, ◌+◌, ◌<◌, [], ◌∷◌, ◌++◌, length, set, ◌≢◌, slice_index, slice_index_or, slice_set, refl}
use Rattle.std.proofs.Common.{sym, ap, ap₂, ◌∙◌, arith}
use Rattle.std.specs.List.{insert, swap}
use Rattle.std.proofs.lemmas.List.{append_assoc, length-append, get_or_at, set_at}
use Rattle.std.proofs.lemmas.List.Edits.{swap_is}
use Rattle.walk.specs.Rows.{Row, differences}
use Rattle.kinds.specs.Laws.{Exchange}
use Rattle.kinds.specs.Branches.{differences_same, differences_behind, differences_first}

-- s is r with two neighbouring values exchanged, which differ
pub record Swap (r s : Row) : Type 0 where
  pub front : Row
  pub left : ℕ
  pub right : ℕ
  pub back : Row
  pub differ : left ≡ right → ⊥
  pub was : r ≡ front ++ (left ∷ right ∷ back)
  pub is : s ≡ front ++ (right ∷ left ∷ back)

-- exchanged back
pub swap_sym : {r s : Row} → Swap r s → Swap s r
swap_sym w = record { front = w.front; left = w.right; right = w.left; back = w.back; differ = λ e. w.differ (sym e); was = w.is; is = w.was }

-- behind one more value
pub swap_behind : (v : ℕ) {r s : Row} → Swap r s → Swap (v ∷ r) (v ∷ s)
swap_behind v w = record { front = v ∷ w.front; left = w.left; right = w.right; back = w.back; differ = w.differ; was = ap (λ t. v ∷ t) w.was; is = ap (λ t. v ∷ t) w.is }

-- before more values
pub swap_before : (more : Row) {r s : Row} → Swap r s → Swap (r ++ more) (s ++ more)
swap_before more w = record {
  front = w.front;
  left = w.left;
  right = w.right;
  back = w.back ++ more;
  differ = w.differ;
  was = ap (λ t. t ++ more) w.was ∙ append_assoc w.front (w.left ∷ w.right ∷ w.back) more;
  is = ap (λ t. t ++ more) w.is ∙ append_assoc w.front (w.right ∷ w.left ∷ w.back) more;
}

-- a value put in at a place or at the next
pub swap_inserted : (r : Row) (v p : ℕ) → p < length r → (v ≢ slice_index r p) → Swap (insert r p v) (insert r (suc p) v)
swap_inserted [] v p h differ = absurd (omega arith)
swap_inserted (x ∷ r) v zero h differ = record { front = []; left = v; right = x; back = r; differ = differ; was = refl; is = refl }
swap_inserted (x ∷ r) v (suc p) h differ = swap_behind x (swap_inserted r v p (omega arith) differ)

-- just two places differ
pub swap_differences : (front back : Row) (a b : ℕ) → (a ≢ b) → differences (front ++ (a ∷ b ∷ back)) (front ++ (b ∷ a ∷ back)) ≡ 2
swap_differences [] back a b differ =
    differences_first a b (b ∷ back) (a ∷ back) differ
    ∙ ap suc (differences_first b a back back (λ e. differ (sym e)) ∙ ap suc (differences_same back))
swap_differences (x ∷ front) back a b differ = differences_behind x (front ++ (a ∷ b ∷ back)) (front ++ (b ∷ a ∷ back)) ∙ swap_differences front back a b differ

pub swap_steps : {r s : Row} → Swap r s → differences r s ≡ 2
swap_steps w = rw (w.was, w.is) (swap_differences w.front w.back w.left w.right w.differ)

-- the exchange by places
pub swap_at : (front back : Row) (a b : ℕ) → swap (front ++ (a ∷ b ∷ back)) (length front) (length front + 1) ≡ front ++ (b ∷ a ∷ back)
swap_at front back a b =
    let whole = front ++ (a ∷ b ∷ back) in
    let more : whole ≡ (front ++ (a ∷ [])) ++ (b ∷ back) = sym (append_assoc front (a ∷ []) (b ∷ back)) in
    let size : length (front ++ (a ∷ [])) ≡ length front + 1 = length-append front (a ∷ []) in
    let size' : length (front ++ (b ∷ [])) ≡ length front + 1 = length-append front (b ∷ []) in
    let all : length whole ≡ length front + (1 + (1 + length back)) = length-append front (a ∷ b ∷ back) ∙ omega arith in
    let first : slice_index_or whole (length front) 0 ≡ a = get_or_at front a (b ∷ back) 0 (length front) refl in
    let second : slice_index_or whole (length front + 1) 0 ≡ b = ap (λ t. slice_index t (length front + 1)) more ∙ get_or_at (front ++ (a ∷ [])) b back 0 (length front + 1) size in
    let put : set whole (length front) b ≡ (front ++ (b ∷ [])) ++ (b ∷ back) = set_at front a (b ∷ back) b (length front) refl ∙ sym (append_assoc front (b ∷ []) (b ∷ back)) in
    sym (swap_is whole (length front) (length front + 1) 0 (omega arith) (omega arith))
    ∙ ap₂ (λ x y. set (slice_set whole (length front) x) (length front + 1) y) second first
    ∙ ap (λ t. set t (length front + 1) a) put
    ∙ set_at (front ++ (b ∷ [])) b back a (length front + 1) size'
    ∙ append_assoc front (b ∷ []) (a ∷ back)

-- rows with two values exchanged side by side are as the laws say it
pub swap_exchange : (n : ℕ) {r s : Row} → length r ≡ n → Swap r s → Exchange n r s
swap_exchange n wide w = (
  length w.front,
  omega (arith, wide, ap length w.was, length-append w.front (w.left ∷ w.right ∷ w.back)),
  w.is ∙ sym (ap (λ t. swap t (length w.front) (length w.front + 1)) w.was ∙ swap_at w.front w.back w.left w.right),
)
