-- What a fold over digits comes to. Assumes nothing.
use Rattle.std.proofs.Common.{◌≡◌, ℕ, zero, suc, ◌+◌, ◌-◌, ◌*◌, ◌<◌, ◌≤◌, Bool, true, false, cond, ◌&&◌, leb, ◌⊎◌, List, [], ◌∷◌, length, get_or, Some, None, Option, Bor, IfSome, sym, refl, ap, ◌∙◌, subst, inl, inr, ⊎_elim, arith}
use Rattle.std.specs.Option.{option_map}
use Rattle.std.specs.List.{fold, HoldsAt}
use Rattle.std.specs.Char.{is_ascii_digit}
use Rattle.std.specs.Str.{all_ascii_digits}
use Rattle.std.specs.Iterator.Runs.{SomeRun, ItemsMapTo, YieldsRefsInOrder, IsTryFoldRun}
use Rattle.std.specs.ControlFlow.{continue_value}
use Rattle.std.specs.declared.ops.ControlFlow.{ControlFlow}
use Rattle.std.specs.Fn.{Called, Mut}
use Rattle.std.proofs.lemmas.Bool.{cases_Bool, MatchBool-at_true, MatchBool-at_false, and_left, and_right, and_from, leb-false, lt-leb, le-leb, cond-true, cond-false}
use Rattle.std.proofs.Math.Bool.{and-false}
use Rattle.text.specs.Digits.{one_behind, digits_value, decimal_value}

-- the value with one digit more behind it
abbrev next : ℕ → ℕ → ℕ
next value b = value * 10 + (b - 48)

-- a byte that is no digit
not_every : (bs : List ℕ) (k : ℕ) → k < length bs → is_ascii_digit (get_or bs k 0) ≡ false → all_ascii_digits bs ≡ false
not_every [] k inside is = absurd (omega arith)
not_every (b ∷ bs) zero inside is = ap (λ t. t && all_ascii_digits bs) is
not_every (b ∷ bs) (suc k) inside is = ap (λ t. is_ascii_digit b && t) (not_every bs k (omega arith) is) ∙ and-false (is_ascii_digit b)

-- only digits
every : (bs : List ℕ) → ((k : ℕ) → k < length bs → is_ascii_digit (get_or bs k 0) ≡ true) → all_ascii_digits bs ≡ true
every [] all = refl
every (b ∷ bs) all = and_from _ _ (all 0 (omega arith)) (every bs (λ k h. all (suc k) (omega arith)))

-- where one more digit goes behind a value, it is one, and the value with it is the next
goes : (value b n : ℕ) → one_behind value b ≡ Some n → (is_ascii_digit b ≡ true) × (n ≡ next value b)
goes value b n is = split (is_ascii_digit b) (leb (next value b) 4294967295) is
  where
    split : (t u : Bool) → cond (t && u) (Some (next value b)) None ≡ Some n → (t ≡ true) × (n ≡ next value b)
    split true true e = (refl, cc)
    split true false e = absurd (let never : ◌≡◌ {A = ℕ} 0 1 = cc in omega arith)
    split false u e = absurd (let never : ◌≡◌ {A = ℕ} 0 1 = cc in omega arith)

-- where none goes, it is none, or the value with it is too large
stops : (value b : ℕ) → one_behind value b ≡ None → (is_ascii_digit b ≡ false) ⊎ (4294967295 < next value b)
stops value b is = split (is_ascii_digit b) refl
  where
    split : (t : Bool) → is_ascii_digit b ≡ t → (is_ascii_digit b ≡ false) ⊎ (4294967295 < next value b)
    split false other = inl other
    split true digit = inr (above (leb (next value b) 4294967295) refl)
      where
        above : (u : Bool) → leb (next value b) 4294967295 ≡ u → 4294967295 < next value b
        above false large = leb-false _ _ large
        above true small =
            absurd (let some : one_behind value b ≡ Some (next value b) = cond-true _ _ _ (and_from _ _ digit small) in let never : ◌≡◌ {A = ℕ} 0 1 = cc in omega arith)

-- what holds of an item holds of the number that it reads
at_number : {P : Bor ℕ → Type 0} (Q : ℕ → Type 0) (o : Option (Bor ℕ)) (n : ℕ) → ((x : Bor ℕ) → P x → Q x.now) → option_map (λ y. y.now) o ≡ Some n → IfSome o P → Q n
at_number Q None n so is holds = absurd (let never : ◌≡◌ {A = ℕ} 0 1 = cc in omega arith)
at_number Q (Some x) n so is holds = subst Q (let e : x.now ≡ n = cc in e) (so x holds)

-- more digits never make the value smaller
grows : (n : ℕ) (bs : List ℕ) → n ≤ fold next n bs
grows n [] = omega arith
grows n (b ∷ bs) = omega (arith, grows (next n b) bs)

-- the calls of the closure
abbrev pub Calls : {F : Type 0} → Mut F (ℕ × (Bor ℕ × Unit {0})) (Option ℕ) → Type 0
Calls {F} g = (f' f'' : F) (b : ℕ) (x : Bor ℕ) (v : Option ℕ) → Called g f' (b, (x, tt)) v f'' → (f'' ≡ f') × (v ≡ one_behind b x.now)

-- a fold by a closure that puts one digit behind the value
pub tried : {S F E : Type 0} {steps : S → Option (Bor ℕ) → S → Type 0} (rest : S → List ℕ) (g : Mut F (ℕ × (Bor ℕ × Unit {0})) (Option ℕ)) (f : F) (bs : List ℕ) (s : S) (r : Option ℕ) → IfSome r (λ a. a ≤ 4294967295) → 0 < length bs → Calls g
    → rest s ≡ bs → YieldsRefsInOrder steps rest
    → SomeRun steps s (λ p. IsTryFoldRun p g f (λ o (c : ControlFlow E ℕ). o ≡ continue_value c) (λ _ o. o ≡ None) 0 r) → r ≡ decimal_value bs
tried {E = E} rest g f bs s r small some calls left all ran = ⊎_elim whole broken (cases_Bool ran.0.whole)
  where
    step : ℕ → Bor ℕ → ℕ
    step value x = next value x.now

    continues : (b : ℕ) (x : Bor ℕ) (v : Option ℕ) (c : ℕ) (f' : _) → Called g f (b, (x, tt)) v f' → v ≡ Some c → (f' ≡ f) × (c ≡ step b x)
    continues b x v c f' called on = let k = calls f f' b x v called in (k.0, (goes b x.now c (sym k.1 ∙ on)).1)

    items : ItemsMapTo ran.0 (λ y. y.now) bs
    items = subst (λ xs. ItemsMapTo ran.0 (λ y. y.now) xs) (ap rest ran.1 ∙ left) (all ran.0 ran.0.seen)

    whole : ran.0.whole ≡ true → r ≡ decimal_value bs
    whole is =
        let h = MatchBool-at_true _ _ is ran.2 in
        let value : h.0 ≡ digits_value bs = h.2 step continues ∙ items.5 next 0 is in
        let fits : h.0 ≤ 4294967295 = subst (λ o. IfSome o (λ a. a ≤ 4294967295)) h.1 small in
        let digits : all_ascii_digits bs ≡ true = every bs (λ k inside. at_number (λ b. is_ascii_digit b ≡ true) (ran.0.at k) (get_or bs k 0) (λ x called. (goes called.0 x.now called.2 (sym (calls f f called.0 x called.1 called.3).1 ∙ called.4)).0) (items.2 k 0 (omega (arith, items.1 is))) (h.3 (λ a v f' called. (calls f f' a.0 a.1.0 v called).0) k)) in
        h.1 ∙ ap Some value ∙ sym (cond-true _ _ _ (and_from _ _ (le-leb 1 (length bs) some) (and_from _ _ digits (le-leb (digits_value bs) _ (omega (arith, value, fits))))))

    broken : ran.0.whole ≡ false → r ≡ decimal_value bs
    broken is =
        let h = MatchBool-at_false _ _ is ran.2 in
        let b = h.3 in
        let total : fold step 0 ran.0.items ≡ step b.1 b.0 = (b.9 step continues).0 in
        let more : fold step 0 ran.0.items ≤ digits_value bs = items.7 next 0 (λ a y. omega arith) in
        let read : b.0.now ≡ get_or bs (ran.0.len - 1) 0 = subst (λ o. IfSome o (λ x. HoldsAt (λ y. x.now ≡ y) bs (ran.0.len - 1))) b.6 (items.3 (ran.0.len - 1)) 0 in
        let none : one_behind b.1 b.0.now ≡ None = sym (calls b.3 b.4 b.1 b.0 b.2 b.7).1 ∙ b.8 in
        h.1
        ∙ sym (cond-false _ _ _ (and_right (leb 1 (length bs)) _ (⊎_elim
        (λ other. and_left _ _ (not_every bs (ran.0.len - 1) (omega (arith, b.5, items.0)) (ap is_ascii_digit (sym read) ∙ other)))
        (λ large. and_right (all_ascii_digits bs) _ (lt-leb (digits_value bs) 4294967295 (omega (arith, total, more, large))))
        (stops b.1 b.0.now none))))
