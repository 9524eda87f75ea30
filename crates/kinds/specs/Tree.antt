-- Where the rows of one list stand in another: the words of the tree machinery. Assumes nothing.
use Rattle.std.specs.Prelude.{◌≡◌, ℕ, ◌+◌, ◌-◌, ◌<◌, ◌≤◌, cond, not, List, [], ◌∷◌, ◌++◌, length, take, sum, Some, None, Option, ◌≢◌}
use Rattle.walk.specs.Rows.{Row, row_at}
use Rattle.kinds.specs.declared.stretch.Stretch.{Stretch}

-- the label in the outer list of the inner list's k-th row
abbrev pub label_in : Stretch → ℕ → ℕ
label_in s k = s.from + cond s.backward (s.count - 1 - k) k

-- the label in the inner list of the outer list's row at a label of the stretch
abbrev pub label_within : Stretch → ℕ → ℕ
label_within s label = cond s.backward (s.count - 1 - (label - s.from)) (label - s.from)

-- where a stretch of a stretch stands in the outermost list
abbrev pub after_both : Stretch → Stretch → Stretch
after_both s t = record {
  from = s.from + cond s.backward (s.count - t.from - t.count) t.from;
  count = t.count;
  backward = cond s.backward (not t.backward) t.backward;
}

-- the rows of `outer` that begin with `front` are those of the stretch, and what is left of them are the rows of `inner`
pub record Stands (outer : List Row) (front : Row) (s : Stretch) (inner : List Row) : Type 0 where
  pub counted : s.count ≡ length inner
  pub fits : s.from + s.count ≤ length outer
  pub rows : (k : ℕ) → k < s.count → row_at outer (label_in s k) ≡ front ++ row_at inner k
  pub only : (i : ℕ) (r : Row) → i < length outer → row_at outer i ≡ front ++ r → (s.from ≤ i) × (i < s.from + s.count)

-- what a node's `enter` answers: where the rows that begin with v stand, or that there are none
abbrev pub Enters : List Row → ℕ → Option Stretch → List Row → Type 0
Enters outer v None inner = (i : ℕ) (r : Row) → i < length outer → row_at outer i ≢ v ∷ r
Enters outer v (Some s) inner = Stands outer (v ∷ []) s inner

-- n things counted off in order end within the count at the place v: it is above what the counts before it leave of n
abbrev pub FallsAt : List ℕ → ℕ → ℕ → Type 0
FallsAt counts n v = (v < length counts) × (sum (take v counts) ≤ n) × (n < sum (take (v + 1) counts))

-- the place of that count, or that all counts together are no more than n
abbrev pub FallsIn : List ℕ → ℕ → Option ℕ → Type 0
FallsIn counts n None = sum counts ≤ n
FallsIn counts n (Some v) = FallsAt counts n v
