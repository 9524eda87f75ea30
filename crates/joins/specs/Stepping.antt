-- One step up or down, in a walk and in the labels of a join. Assumes nothing.
use Rattle.std.specs.Prelude.{◌≡◌, ℕ, suc, ◌+◌, ◌-◌, ◌*◌, ◌<◌, ◌≤◌, Bool, true, false, cond, not, ◌⊎◌, is_ok, Ok, Err, refl}
use Rattle.std.proofs.Common.{sym, ap, ◌∙◌, inl, inr, ⊎_elim, arith, add-one}
use native.Mathlib.Nat.{suc-mul}
use Rattle.std.proofs.lemmas.Bool.{cases_lt, both_ways}
use Rattle.walk.specs.Rows.{odd}
use Rattle.walk.specs.Meaning.{Meaning, Lawful, size, standing}
use Rattle.walk.specs.declared.answers.Refusal.TheVariants.{NoSuchLabel}
use Rattle.walk.proofs.Parity.{odd_suc}
use Rattle.joins.specs.Steps.{right_way, steps, after_step}
use Rattle.joins.specs.Join.{mirrored}
use Rattle.walk.proofs.Cases.{seek_in, seek_out, back_in, back_out}

-- q is the label one below p, or one above
abbrev pub StepsTo : Bool → ℕ → ℕ → Type 0
StepsTo true p q = p ≡ q + 1
StepsTo false p q = q ≡ p + 1

-- from p no step leads to a label below n
abbrev pub AtEnd : Bool → ℕ → ℕ → Type 0
AtEnd true n p = p ≡ 0
AtEnd false n p = n ≤ p + 1

-- from every label a step leads to the next label, or there is none
pub step_cases : (down : Bool) (n p : ℕ) → p < n → ((q : ℕ) × (q < n) × StepsTo down p q) ⊎ AtEnd down n p
step_cases true n p lt = ⊎_elim (λ some. inl (p - 1, omega arith, omega arith)) (λ none. inr (omega arith)) (cases_lt 0 p)
step_cases false n p lt = ⊎_elim (λ some. inl (p + 1, some, refl)) inr (cases_lt (p + 1) n)

-- a step to a label
pub step_in : (down : Bool) (m : Meaning) (q : ℕ) → StepsTo down m.place q → q < size m → (steps down m ≡ Ok tt) × (after_step down m ≡ standing m q)
step_in true m q to lt =
    let goes = back_in m (omega arith) in
    (goes.0, goes.1 ∙ ap (standing m) (omega arith))
step_in false m q to lt =
    let goes = seek_in m (m.place + 1) (omega arith) in
    (goes.0, goes.1 ∙ ap (standing m) (sym to))

-- a step that is refused
pub step_out : (down : Bool) (m : Meaning) → AtEnd down (size m) m.place → (steps down m ≡ Err NoSuchLabel) × (after_step down m ≡ m)
step_out true m end = back_out m end
step_out false m end = seek_out m (m.place + 1) end

-- a step that is accepted leads to a label
pub step_accepted : (down : Bool) (m : Meaning) → m.place < size m → is_ok (steps down m) ≡ true → (q : ℕ) × (q < size m) × StepsTo down m.place q
step_accepted down m inside ok = ⊎_elim (λ to. to) (λ end. absurd (both_ways (is_ok (steps down m)) (ap is_ok (step_out down m end).0) ok)) (step_cases down (size m) m.place inside)

-- a step is refused at the end
pub step_refused : (down : Bool) (m : Meaning) → m.place < size m → is_ok (steps down m) ≡ false → AtEnd down (size m) m.place
step_refused down m inside none = ⊎_elim (λ (q, lt, to). absurd (both_ways (is_ok (steps down m)) none (ap is_ok (step_in down m q to lt).0))) (λ end. end) (step_cases down (size m) m.place inside)

-- no step leads anywhere where there are no rows
pub step_none : (down : Bool) (m : Meaning) → Lawful m → size m ≡ 0 → (steps down m ≡ Err NoSuchLabel) × (after_step down m ≡ m)
step_none true m lawful none = step_out true m (lawful.inside.1 none)
step_none false m lawful none = step_out false m (omega arith)

-- odd and even alternate from step to step
pub odd_step : (down : Bool) (p q : ℕ) → StepsTo down p q → odd q ≡ not (odd p)
odd_step true p q to = sym (ap not (ap odd (to ∙ add-one q) ∙ odd_suc q) ∙ twice (odd q))
  where
    twice : (b : Bool) → not (not b) ≡ b
    twice true = refl
    twice false = refl
odd_step false p q to = ap odd (to ∙ add-one p) ∙ odd_suc p

-- a mirrored label is a label
pub mirrored_below : (back : Bool) (n j : ℕ) → j < n → mirrored back n j < n
mirrored_below true n j lt = omega arith
mirrored_below false n j lt = lt

-- mirrored twice a label is as it was
pub mirrored_twice : (back : Bool) (n j : ℕ) → j < n → mirrored back n (mirrored back n j) ≡ j
mirrored_twice true n j lt = omega arith
mirrored_twice false n j lt = refl

-- a step of the right walk is one of the join
pub right_steps : (down back : Bool) (n from j k : ℕ) → j < n → k < n → StepsTo (right_way back down) j k → StepsTo down (from + mirrored back n j) (from + mirrored back n k)
right_steps true true n from j k hj hk to = omega arith
right_steps true false n from j k hj hk to = omega arith
right_steps false true n from j k hj hk to = omega arith
right_steps false false n from j k hj hk to = omega arith

-- where the right walk can not step, the join stands at the first or the last row under the left row
pub right_ends : (down back : Bool) (n j : ℕ) → j < n → AtEnd (right_way back down) n j → mirrored back n j ≡ cond down 0 (n - 1)
right_ends true true n j lt end = omega arith
right_ends true false n j lt end = end
right_ends false true n j lt end = omega arith
right_ends false false n j lt end = omega arith

-- the other way round: from there on a turn leads to the same right row
pub turned_ends : (down back : Bool) (n j : ℕ) → j < n → AtEnd (right_way back down) n j → mirrored (not back) n j ≡ cond down (n - 1) 0
turned_ends true true n j lt end = omega arith
turned_ends true false n j lt end = omega arith
turned_ends false true n j lt end = end
turned_ends false false n j lt end = omega arith

-- a step of the left walk is one of the join from the last row under a left row to the first one under the next
pub left_steps : (down : Bool) (n i h j k : ℕ) → 0 < n → StepsTo down i h → j ≡ cond down 0 (n - 1) → k ≡ cond down (n - 1) 0 → StepsTo down (i * n + j) (h * n + k)
left_steps true n i h j k some to first last = rw (to ∙ add-one h) (omega (arith, suc-mul h n))
left_steps false n i h j k some to last first = rw (to ∙ add-one i) (omega (arith, suc-mul i n))

-- where neither walk can step, the join can not
pub join_ends : (down : Bool) (m n i j : ℕ) → i < m → 0 < n → AtEnd down m i → j ≡ cond down 0 (n - 1) → AtEnd down (m * n) (i * n + j)
join_ends true m n i j lt some end first = rw (end, first) (omega (arith, native.Mathlib.Nat.zero-mul n))
join_ends false m n i j lt some end last =
    let is : m ≡ suc i = omega arith in
    rw is (omega (arith, suc-mul i n))
