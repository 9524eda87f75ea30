-- Lists of just the rows of which something holds. Assumes nothing.
use Rattle.std.specs.Prelude.{◌≡◌, ℕ, zero, suc, ◌<◌, ◌≤◌, Bool, cond, ◌↔◌, List, [], ◌∷◌, length, ◌==◌, refl}
use Rattle.std.proofs.Common.{sym, subst, arith}
use Rattle.std.proofs.lemmas.Bool.{eqb-true, eqb-false, cond_both}
use Rattle.walk.specs.Rows.{Row, row_at}
use Rattle.kinds.specs.Lists.{branches, turned, total}
use Rattle.kinds.specs.Laws.{Listed, Apart, Rising, Stepping}
use Rattle.kinds.specs.Branches.{before_suc, listed_branches, branches_listed, listed_turned}

-- the rows of the list are just those of which P holds
abbrev pub Just : (Row → Type 0) → List Row → Type 0
Just P rows = (r : Row) → Listed rows r ↔ P r

-- what holds of 0 and of each successor below holds of each number below
pub below_suc : (n : ℕ) (P : ℕ → Type 0) → P 0 → ((k : ℕ) → k < n → P (suc k)) → (k : ℕ) → k < suc n → P k
below_suc n P first others zero h = first
below_suc n P first others (suc k) h = others k (omega arith)

-- each row of the list is such a row
pub just_row : (P : Row → Type 0) (rows : List Row) → Just P rows → (i : ℕ) → i < length rows → P (row_at rows i)
just_row P rows just i h = (just (row_at rows i)).0 (i, h, refl)

-- in other words
pub just_same : (P Q : Row → Type 0) (rows : List Row) → ((r : Row) → P r ↔ Q r) → Just P rows → Just Q rows
just_same P Q rows same just r = (λ h. (same r).0 ((just r).0 h), λ q. (just r).1 ((same r).1 q))

-- turned rows are the same rows
pub just_turned : (P : Row → Type 0) (back : Bool) (rows : List Row) → Just P rows → Just P (turned back rows)
just_turned P back rows just r =
    let same = listed_turned back rows r in
    (λ h. (just r).0 (same.0 h), λ p. same.1 ((just r).1 p))

-- the empty row alone
pub just_empty : (P : Row → Type 0) → P [] → ((r : Row) → P r → r ≡ []) → Just P ([] ∷ [])
just_empty P holds only r = (sound, λ p. (0, omega arith, sym (only r p)))
  where
    sound : Listed ([] ∷ []) r → P r
    sound (zero, h, e) = subst P e holds
    sound (suc i, h, e) = absurd (omega arith)

-- the empty row alone where t is 0, and none elsewhere
pub just_leaf : (P : Row → Type 0) (t : ℕ) → (t ≡ 0 → P []) → ((r : Row) → P r → (r ≡ []) × (t ≡ 0)) → Just P (cond (t == 0) ([] ∷ []) [])
just_leaf P t holds only = cond_both (t == 0) ([] ∷ []) [] (Just P)
    (λ e. just_empty P (holds (eqb-true t 0 e)) (λ r p. (only r p).0))
    (λ e r. (λ h. absurd (omega (arith, h.1)), λ p. absurd (eqb-false t 0 e (only r p).1)))

-- branches of just the rows that go on from the first value
pub just_branches : (P : Row → Type 0) (m : ℕ) (f : ℕ → List Row) (Q : ℕ → Row → Type 0) → ((v : ℕ) → v < m → Just (Q v) (f v)) → (P [] → ⊥)
    → ((v : ℕ) (r : Row) → v < m → Q v r → P (v ∷ r)) → ((v : ℕ) (r : Row) → P (v ∷ r) → (v < m) × Q v r) → Just P (branches m f)
just_branches P m f Q each longer joins parts r = (sound, complete r)
  where
    sound : Listed (branches m f) r → P r
    sound h =
        let b = branches_listed f m r h in
        subst P (sym b.3) (joins b.0 b.1 b.2 ((each b.0 b.2 b.1).0 b.4))

    complete : (s : Row) → P s → Listed (branches m f) s
    complete [] p = absurd (longer p)
    complete (v ∷ s) p =
        let b = parts v s p in
        listed_branches f m v s b.0 ((each v b.0 s).1 b.1)

-- at most one row: not there twice
pub apart_few : (rows : List Row) → length rows ≤ 1 → Apart rows
apart_few rows few i j h l e = omega arith

-- nothing to rise
pub rising_few : (rows : List Row) → length rows ≤ 1 → Rising rows
rising_few rows few i j h l = absurd (omega arith)

-- no neighbours
pub stepping_few : (n : ℕ) (rows : List Row) → length rows ≤ 1 → Stepping n rows
stepping_few n rows few i h = absurd (omega arith)

-- the empty row alone or none
pub length_leaf : (b : Bool) → length {A = Row} (cond b ([] ∷ []) []) ≤ 1
length_leaf b = cond_both b ([] ∷ []) [] (λ (rows : List Row). length rows ≤ 1) (λ e. omega arith) (λ e. omega arith)

-- as many rows as the branches have together
pub length_branches : (f : ℕ → List Row) (g : ℕ → ℕ) (m : ℕ) → ((v : ℕ) → v < m → length (f v) ≡ g v) → length (branches m f) ≡ total m g
length_branches f g zero each = refl
length_branches f g (suc m) each = omega (arith, before_suc f m, each m (omega arith), length_branches f g m (λ v h. each v (omega arith)))
