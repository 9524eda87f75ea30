-- Label to row and row to label in `changes`, one value at a time. Assumes nothing.
use Rattle.std.proofs.Common.{◌≡◌, ℕ, zero, suc, ◌+◌, ◌-◌, ◌*◌, ◌/◌, ◌%◌, ◌<◌, ◌≤◌, [], ◌∷◌, ◌++◌, length, get_or, take, drop, set, Some, None, Option, sym, refl, ap, ◌∙◌, subst, ap₂, ⊎_elim, mul_comm, add-one, arith}
use borrow.Rule.Slice.PartMut.{put_mid}
use Rattle.std.specs.List.{insert, remove}
use Rattle.std.proofs.lemmas.Nat.{div_below, mod_below, div-add-mod', mul-add-lt, mul-le}
use Rattle.std.proofs.lemmas.List.Edits.{length-remove}
use Rattle.std.proofs.lemmas.List.{append-nil, append_assoc, take_at, drop_at, take-append-drop, take-append-le, drop-append-le, drop_all, drop_more, set_split, length-append, length-drop, length-take-le, get_or_at}
use Rattle.std.proofs.lemmas.Bool.{cases_lt}
use Rattle.walk.specs.Rows.{Row, row_at, label_of}
use Rattle.walk.proofs.Differences.{label_of_listed, label_of_stands, label_of_missing}
use Rattle.kinds.specs.Laws.{Permutation}
use Rattle.kinds.specs.Lists.{changes, factorial}
use Rattle.kinds.specs.Changes.{position, position_below, position_back, permutation_less, permutation_last, changes_permutations, changes_length, changes_at, changes_apart}
use Rattle.kinds.specs.Occurrences.{found}

-- a list of which all from a on was written anew
pub written_end : (a : ℕ) (xs ys : Row) → put_mid a (length xs - a) xs ys ≡ take a xs ++ ys
written_end a xs ys = ap (λ past. take a xs ++ (ys ++ past)) (drop_all (length xs - a) (drop a xs) (simp length-drop (omega arith))) ∙ ap (λ s. take a xs ++ s) (append-nil ys)

-- a value written to the end and turned to the front of what stands from a on is put in there
pub turned_in : (row : Row) (a v : ℕ) (part after : Row) → a < length row → part ≡ drop a (set row (length row - 1) v) → after ≡ drop (length part - 1) part ++ take (length part - 1) part
    → take a (set row (length row - 1) v) ++ after ≡ insert (take (length row - 1) row) a v
turned_in row a v part after h is so =
    let front = take (length row - 1) row in
    let size : length front ≡ length row - 1 = length-take-le (length row - 1) row (omega arith) in
    let ends : set row (length row - 1) v ≡ front ++ (v ∷ []) = set_split row (length row - 1) v (omega arith) ∙ ap (λ past. front ++ (v ∷ past)) (drop_all (suc (length row - 1)) row (omega arith)) in
    let split : part ≡ drop a front ++ (v ∷ []) = is ∙ ap (drop a) ends ∙ drop-append-le a front (v ∷ []) (omega arith) in
    let place : length (drop a front) ≡ length part - 1 = omega (arith, ap length split, length-append (drop a front) (v ∷ [])) in
    let turned = ap₂ ◌++◌ (drop_at (drop a front) (v ∷ []) (length part - 1) place) (take_at (drop a front) (v ∷ []) (length part - 1) place) in
    let back : after ≡ v ∷ drop a front = so ∙ ap (λ s. drop (length part - 1) s ++ take (length part - 1) s) split ∙ turned in
    ap₂ ◌++◌ (ap (take a) ends ∙ take-append-le a front (v ∷ []) (omega arith)) back

-- the first value of what stands from a on, turned to the end, is taken out
pub turned_out : (row : Row) (a : ℕ) (part after : Row) → a < length row → part ≡ drop a row → after ≡ drop 1 part ++ take 1 part
    → take a row ++ after ≡ remove row a ++ (get_or row a 0 ∷ [])
turned_out row a part after h is so =
    let split : part ≡ get_or row a 0 ∷ drop (suc a) row = is ∙ drop_more row a 0 h ∙ ap (λ k. get_or row a 0 ∷ drop k row) (add-one a) in
    ap (λ s. take a row ++ s) (so ∙ ap (λ s. drop 1 s ++ take 1 s) split) ∙ sym (append_assoc (take a row) (drop (suc a) row) (get_or row a 0 ∷ []))

-- more values have no fewer orders
pub factorial_rises : (m n : ℕ) → m ≤ n → factorial m ≤ factorial n
factorial_rises m zero h = omega (arith, ap factorial (none m h))
  where
    none : (m : ℕ) → m ≤ 0 → m ≡ 0
    none m h = omega arith
factorial_rises m (suc n) h =
    ⊎_elim (λ l. omega (arith, factorial_rises m n (omega arith), mul-le 1 (factorial n) (suc n) (factorial n) (omega arith) (omega arith))) (λ l. omega (arith, ap factorial (same l)))
    (cases_lt m (suc n))
  where
    same : suc n ≤ m → m ≡ suc n
    same l = omega arith

-- a row that is no order of the values below its width has no label
pub label_of_other : (n : ℕ) (r : Row) → length r ≡ n → (Permutation n r → ⊥) → label_of (changes (length r)) r ≡ None
label_of_other n r size other = subst (λ m. label_of (changes m) r ≡ None) (sym size) (label_of_missing (changes n) r (λ l h is. other ((changes_permutations n r).0 (l, h, is))))

-- the label of what is left of a row when a value was taken out to the end
pub rest_label : (r after : Row) (p x k : ℕ) (label : Option ℕ) → p < length r → after ≡ remove r p ++ (x ∷ []) → k ≡ length r - 1
    → label ≡ label_of (changes (length (take k after))) (take k after) → label_of (changes (length r - 1)) (remove r p) ≡ label
rest_label r after p x k label h is at told =
    let size : length (remove r p) ≡ k = omega (arith, length-remove r p h) in
    let left : take k after ≡ remove r p = ap (take k) is ∙ take_at (remove r p) (x ∷ []) k size in
    sym (told ∙ ap (λ s. label_of (changes (length s)) s) left ∙ ap (λ n. label_of (changes n) (remove r p)) (size ∙ at))

-- a label of a sweep and a place in it is a label
pub label_below : (n i j : ℕ) → i < length (changes n) → j ≤ n → i * suc n + j < length (changes (suc n))
label_below n i j h l = omega (arith, changes_length (suc n), ap (λ m. suc n * m) (changes_length n), mul-add-lt i (suc n) j (length (changes n)) h (omega arith))

-- labels of up to 12 values
pub label_small : (m n i j : ℕ) → m ≡ suc n → m ≤ 12 → i < length (changes n) → j ≤ n → i * m + j < 479001600
label_small m n i j next few h l =
    let all : length (changes (suc n)) ≤ 479001600 = omega (arith, changes_length (suc n), factorial_rises (suc n) 12 (omega arith)) in
    omega (arith, ap (λ k. i * k) next, label_below n i j h l)

-- the one row of no values
pub no_values : (r : Row) (l : ℕ) → length r ≡ 0 → l < length (changes (length r)) → r ≡ row_at (changes (length r)) l
no_values [] zero none h = refl
no_values [] (suc l) none h = absurd (omega arith)
no_values (x ∷ r) l none h = absurd (omega arith)

-- the orders of m values, by those of one value less
module _ (m n : ℕ) (next : m ≡ suc n) (l : ℕ) (h : l < length (changes m)) where
  -- a label's sweep
  pub sweep_below : l / m < length (changes n)
  sweep_below =
      div_below l m (length (changes n)) (omega arith)
      (omega (arith, changes_length m, ap factorial next, ap (λ k. suc n * k) (changes_length n), ap (λ k. length (changes n) * k) next, mul_comm (length (changes n)) (suc n)))

  -- and its place there
  pub place_below : l % m ≤ n
  place_below = omega (arith, mod_below l m (omega arith))

  -- the row at the label
  pub row_more : (front : Row) (p : ℕ) → front ≡ row_at (changes n) (l / m) → p ≡ position n (l / m) (l % m) → insert front p n ≡ row_at (changes m) l
  row_more front p is at =
      ap₂ (λ s k. insert s k n) is at
      ∙ sym (changes_at n (l / m) (l % m) sweep_below place_below)
      ∙ ap₂ (λ k a. row_at (changes k) a) (sym next) (ap (λ k. l / m * k + l % m) (sym next) ∙ div-add-mod' l m)

-- a row with the value n, the last, at the position p
module _ (n p : ℕ) (r : Row) (size : length r ≡ suc n) (within : p < length r) (at : get_or r p 0 ≡ n) where
  -- n put into what is left without it
  pub put_back : r ≡ take p r ++ (n ∷ drop (suc p) r)
  put_back = sym (take-append-drop p r) ∙ ap (λ s. take p r ++ s) (drop_more r p 0 within ∙ ap₂ (λ x k. x ∷ drop k r) at (add-one p))

  -- has the label that the sweep and the position tell
  pub label_more : (i : ℕ) → label_of (changes n) (remove r p) ≡ Some i → label_of (changes (length r)) r ≡ Some (i * length r + position n i p)
  label_more i e =
      let stands = label_of_stands (changes n) (remove r p) i e in
      let place : position n i p ≤ n = position_below n i p (omega arith) in
      let front : length (take p r) ≡ p = length-take-le p r (omega arith) in
      subst (λ m. label_of (changes m) r ≡ Some (i * m + position n i p)) (sym size) (
      label_of_listed (changes (suc n)) r (i * suc n + position n i p) (changes_apart (suc n)) (label_below n i (position n i p) stands.0 place) (
      changes_at n i (position n i p) stands.0 place
      ∙ ap₂ (λ s q. insert s q n) stands.1 (position_back n i p (omega arith))
      ∙ ap₂ (λ a b. a ++ (n ∷ b)) (take_at (take p r) (drop (suc p) r) p front) (drop_at (take p r) (drop (suc p) r) p front)
      ∙ sym put_back
      ))

  -- or none, where what is left has none
  pub label_none : label_of (changes n) (remove r p) ≡ None → label_of (changes (length r)) r ≡ None
  label_none e = label_of_other (suc n) r size other
    where
      other : Permutation (suc n) r → ⊥
      other perm =
          let (i, hi, ei) = (changes_permutations n (remove r p)).1 (permutation_less n (take p r) (drop (suc p) r) (subst (Permutation (suc n)) put_back perm)) in
          let no : ◌≡◌ {A = ℕ} 0 1 = cc (e, label_of_listed (changes n) (remove r p) i (changes_apart n) hi ei) in
          omega arith

-- a row without the last value has no label
pub label_without : (n : ℕ) (r : Row) → length r ≡ suc n → ((k : ℕ) → k < length r → get_or r k 0 ≡ n → ⊥) → label_of (changes (length r)) r ≡ None
label_without n r size none = label_of_other (suc n) r size other
  where
    other : Permutation (suc n) r → ⊥
    other perm =
        let (front, back, e) = found n r (omega (arith, permutation_last n r perm)) in
        none (length front) (omega (arith, ap length e, length-append front (n ∷ back))) (ap (λ s. get_or s (length front) 0) e ∙ get_or_at front n back 0 (length front) refl)
