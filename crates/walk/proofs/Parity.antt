-- Odd and even labels. Assumes nothing.
use Rattle.std.proofs.Common.{◌≡◌, ℕ, suc, not, arith}
use Rattle.std.proofs.lemmas.Bool.Decides.{nat_tests}
use Rattle.walk.specs.Rows.{odd}

-- odd and even alternate
pub odd_suc : (v : ℕ) → odd (suc v) ≡ not (odd v)
odd_suc v = grind (arith, nat_tests)
