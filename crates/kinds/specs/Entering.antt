-- Where the branch of a value stands among all branches. Assumes nothing.
use Rattle.std.specs.Prelude.{◌≡◌, ℕ, ◌+◌, ◌-◌, ◌<◌, ◌≤◌, Bool, true, false, cond, List, [], ◌∷◌, length, ◌≢◌, refl}
use Rattle.std.proofs.Common.{sym, ap, subst, ◌∙◌, arith}
use Rattle.walk.specs.Rows.{Row, row_at}
use Rattle.kinds.specs.Lists.{branches, turned}
use Rattle.kinds.specs.Tree.{Stands}
use Rattle.kinds.specs.Branches.{before, before_later, branch_at, branch_of, row_of, length_turned, row_turned}

-- counted from the other end twice is where it was
turned_twice : (back : Bool) (n k : ℕ) → k < n → (cond back (n - 1 - cond back (n - 1 - k) k) (cond back (n - 1 - k) k) ≡ k) × (cond back (n - 1 - k) k < n)
turned_twice true n k lt = (omega arith, omega arith)
turned_twice false n k lt = (refl, lt)

module _ (f : ℕ → List Row) (m v : ℕ) where
  -- the rows of the branch v, which are those of `inner` forward or backward
  pub branch_stands : (back : Bool) (inner : List Row) → v < m → f v ≡ turned back inner → Stands (branches m f) (v ∷ []) (record { from = before f v; count = length inner; backward = back }) inner
  branch_stands back inner lt is =
      let long : length (f v) ≡ length inner = ap length is ∙ length_turned back inner in
      record {
        counted = refl;
        fits = omega (arith, before_later f v m lt);
        rows = λ k below.
            let way = turned_twice back (length inner) k below in
            branch_at f m v _ lt (subst (λ n. cond back (length inner - 1 - k) k < n) (sym long) way.1)
            ∙ ap (λ (rows : List Row). v ∷ row_at rows (cond back (length inner - 1 - k) k)) is
            ∙ ap (λ (r : Row). v ∷ r) (row_turned back inner _ way.1 ∙ ap (row_at inner) way.0);
        only = λ i r below has.
            let p = branch_of f m i below in
            let same : p.branch ≡ v = cc (sym (row_of f m i p) ∙ has) in
            let at = p.is ∙ ap (λ b. before f b + p.inner) same in
            let inside = subst (λ b. p.inner < length (f b)) same p.inner_below in
            (omega arith, omega arith);
      }

  -- no row begins with a value that has no branch
  pub branch_outside : m ≤ v → (i : ℕ) (r : Row) → i < length (branches m f) → row_at (branches m f) i ≢ v ∷ r
  branch_outside out i r below has =
      let p = branch_of f m i below in
      let same : p.branch ≡ v = cc (sym (row_of f m i p) ∙ has) in
      let inside = p.branch_below in
      omega arith
