-- Counts that a walk may have. Assumes nothing.
use Rattle.std.specs.Prelude.{◌≡◌, ℕ, ◌<◌, ◌≤◌, Some, None, Ok, Err, Result, nat_le}
use Rattle.std.proofs.Common.{sym, ap, ◌∙◌, ⊎_elim, arith}
use Rattle.std.specs.Result.{OkIff, result_ok}
use Rattle.std.proofs.lemmas.Bool.{cases_lt, cond-true, cond-false, le-leb, lt-leb}
use Rattle.kinds.specs.Counts.{counted}

-- a number that a walk may have of rows, and a larger one
pub counted_within : (n : ℕ) → n ≤ 4294967295 → counted n ≡ Some n
counted_within n h = cond-true (nat_le n 4294967295) (Some n) None (le-leb n 4294967295 h)

pub counted_over : (n : ℕ) → 4294967295 < n → counted n ≡ None
counted_over n h = cond-false (nat_le n 4294967295) (Some n) None (lt-leb n 4294967295 h)

-- what is counted as a number of rows, and what is not
pub counted_some : (m n : ℕ) → Some m ≡ counted n → (m ≡ n) × (n ≤ 4294967295)
counted_some m n e = ⊎_elim (λ h. let z : ◌≡◌ {A = ℕ} 0 1 = cc (e ∙ counted_over n h) in absurd (omega arith)) (λ h. (cc (e ∙ counted_within n h), h)) (cases_lt 4294967295 n)

pub counted_none : (n : ℕ) → None ≡ counted n → 4294967295 < n
counted_none n e = ⊎_elim (λ h. h) (λ h. let z : ◌≡◌ {A = ℕ} 0 1 = cc (e ∙ counted_within n h) in absurd (omega arith)) (cases_lt 4294967295 n)

-- a number in 32 bits is a number of rows
pub counted_converted : {E : Type 0} (r : Result ℕ E) (n : ℕ) → OkIff r (n < 4294967296) n → result_ok r ≡ counted n
counted_converted (Ok m) n h = ap Some h.1 ∙ sym (counted_within n (omega (arith, h.0)))
counted_converted (Err e) n h = sym (counted_over n (over h))
  where
    over : (n < 4294967296 → ⊥) → 4294967295 < n
    over h = omega arith
