-- From the lines of a text to its walk. Assumes nothing.
use Rattle.std.proofs.Common.{◌≡◌, ℕ, ◌+◌, ◌≤◌, Bool, true, false, ◌&&◌, ltb, leb, refl, ◌⊎◌, List, [], ◌∷◌, ◌++◌, map, length, get_or, drop, is_some, Some, None, Ok, Err, codes, Option, Result, unwrap_or, sym, ap, ◌∙◌, subst, inl, inr, arith}
use Rattle.std.specs.Option as options
use Rattle.std.specs.Option.{ok_or, option_to_list}
use Rattle.std.specs.Result as results
use Rattle.std.specs.Str.{bytes_eq}
use Rattle.std.proofs.lemmas.List.{nil_from_length}
use Rattle.std.proofs.lemmas.Bool.{cond-true, cond-false, ltb-false, leb-true}
use Rattle.walk.specs.Meaning.{Meaning}
use Rattle.faults.specs.Faults.{fault}
use Rattle.faults.specs.declared.Cause.TheVariants.{Text, Names}
use Rattle.faults.specs.declared.PlanFault.{PlanFault}
use Rattle.plan.specs.Format.{and_then, provided, then, body, Lines, plan_lines, lines_of_text, parts_made, blank, joined_parts, all_joined, plan_of_lines, plan_of}
use Rattle.plan.specs.Reading.{LacksMemory, Gives}
use Rattle.text.specs.Pieces.{pieces}

-- a plan has up to three parts
few_lines : (ps : List (List ℕ)) (lines : Lines) → Some lines ≡ plan_lines ps → length lines.parts ≤ 3
few_lines [] lines is = absurd (let never : ◌≡◌ {A = ℕ} 0 1 = cc in omega arith)
few_lines (names ∷ parts) lines is = go (leb 1 (length parts)) (leb (length parts) 3) refl is
  where
    go : (some few : Bool) → leb (length parts) 3 ≡ few → Some lines ≡ provided (some && few) (Some (record { names = names; parts = parts })) → length lines.parts ≤ 3
    go true true few has = let same : lines.parts ≡ parts = cc in omega (arith, ap length same, leb-true (length parts) 3 few)
    go true false few has = absurd (let never : ◌≡◌ {A = ℕ} 0 1 = cc in omega arith)
    go false b few has = absurd (let never : ◌≡◌ {A = ℕ} 0 1 = cc in omega arith)

-- the lines of a plan are at most four
pub few_parts : (text : List ℕ) (lines : Lines) → Some lines ≡ lines_of_text text → length lines.parts ≤ 3
few_parts text lines is = go (leb (length text) 4096) (body text) is
  where
    go : (short : Bool) (bytes : Option (List ℕ)) → Some lines ≡ provided short (and_then bytes (λ front. plan_lines (pieces 10 front))) → length lines.parts ≤ 3
    go false bytes has = absurd (let never : ◌≡◌ {A = ℕ} 0 1 = cc in omega arith)
    go true None has = absurd (let never : ◌≡◌ {A = ℕ} 0 1 = cc in omega arith)
    go true (Some front) has = few_lines (pieces 10 front) lines has

-- a text that has the lines of a plan
pub plan_at_lines : (text : List ℕ) (lines : Lines) → Some lines ≡ lines_of_text text → plan_of text ≡ plan_of_lines lines
plan_at_lines text lines is = ap (λ o. then (ok_or o (fault Text 0)) plan_of_lines) (sym is)

module _ (text : List ℕ) (lines : Lines) (is : Some lines ≡ lines_of_text text) where
  -- the first line is not the names line
  pub plan_other_names : bytes_eq lines.names (codes "kind,n,t,list") ≡ false → plan_of text ≡ Err (fault Names 1)
  plan_other_names other = plan_at_lines text lines is ∙ cond-false _ _ _ other

  -- it is
  pub plan_of_parts : bytes_eq lines.names (codes "kind,n,t,list") ≡ true → plan_of text ≡ then (parts_made lines.parts) all_joined
  plan_of_parts same = plan_at_lines text lines is ∙ cond-true _ _ _ same

  -- a fault of a part is the fault of the plan
  pub plan_part_fault : {X : Type 0} (value : X → Meaning) → bytes_eq lines.names (codes "kind,n,t,list") ≡ true → (r : Result X PlanFault) (e y : PlanFault) → r ≡ Err y → y ≡ e → (parts_made lines.parts ≡ Err e) ⊎ LacksMemory e → Gives value r (plan_of text)
  plan_part_fault value same r e y err is_e told =
      subst (λ x. Gives value x (plan_of text)) (sym (err ∙ ap Err is_e)) (carried told)
    where
      carried : (parts_made lines.parts ≡ Err e) ⊎ LacksMemory e → (plan_of text ≡ Err e) ⊎ LacksMemory e
      carried (inl first) = inl (plan_of_parts same ∙ ap (λ made. then made all_joined) first)
      carried (inr lack) = inr lack

-- what an iterator gives next is the first of what it has, and leaves the others
pub record Next {X : Type 0} (f : X → Meaning) (items rest : List X) (len' : ℕ) (r : Option X) : Type 0 where
  pub first : unwrap_or (options.option_map f r) blank ≡ get_or (map f items) 0 blank
  pub others : rest ≡ drop 1 items
  pub long : len' ≡ length rest

pub next_is : {X : Type 0} (f : X → Meaning) (items rest : List X) (len len' : ℕ) (r : Option X) → len ≡ length items → items ≡ option_to_list r ++ rest → is_some r ≡ ltb 0 len → len' + length (option_to_list r) ≡ len → Next f items rest len' r
next_is f items rest len len' None long is test less =
    let none : items ≡ [] = nil_from_length items (omega (arith, ltb-false 0 len (sym test))) in
    record { first = sym (ap (λ xs. get_or (map f xs) 0 blank) none); others = sym is ∙ none ∙ sym (ap (drop 1) none); long = omega (arith, ap length is) }
next_is f items rest len len' (Some x) long is test less =
    record { first = sym (ap (λ xs. get_or (map f xs) 0 blank) is); others = sym (ap (drop 1) is); long = omega (arith, ap length is) }

-- the parts that three draws give are the first three, blank where there is none
pub three_drawn : {X : Type 0} (f : X → Meaning) (items r₁ r₂ : List X) (a b c a' b' c' : Meaning) → r₁ ≡ drop 1 items → r₂ ≡ drop 1 r₁ → a ≡ a' → a' ≡ get_or (map f items) 0 blank → b ≡ b' → b' ≡ get_or (map f r₁) 0 blank → c ≡ c' → c' ≡ get_or (map f r₂) 0 blank → joined_parts a b c ≡ all_joined (map f items)
three_drawn f items r₁ r₂ a b c a' b' c' once twice is_a at_a is_b at_b is_c at_c =
    ap (λ x. joined_parts x b c) (is_a ∙ at_a)
    ∙ ap (λ x. joined_parts (get_or (map f items) 0 blank) x c) (is_b ∙ at_b ∙ second r₁ items once)
    ∙ ap (λ x. joined_parts (get_or (map f items) 0 blank) (get_or (map f items) 1 blank) x) (is_c ∙ at_c ∙ third r₂ r₁ items twice once)
  where
    second : (rest all : List _) → rest ≡ drop 1 all → get_or (map f rest) 0 blank ≡ get_or (map f all) 1 blank
    second rest [] is = ap (λ xs. get_or (map f xs) 0 blank) is
    second rest (x ∷ xs) is = ap (λ ys. get_or (map f ys) 0 blank) is

    third : (rest one all : List _) → rest ≡ drop 1 one → one ≡ drop 1 all → get_or (map f rest) 0 blank ≡ get_or (map f all) 2 blank
    third rest one [] is on = ap (λ xs. get_or (map f xs) 0 blank) (is ∙ ap (drop 1) on)
    third rest one (x ∷ xs) is on = second rest one is ∙ ap (λ ys. get_or (map f ys) 1 blank) on

-- what joins give is what the reader answers
pub joins_given : {X : Type 0} (value : X → Meaning) (r : Result X PlanFault) (s : Result Meaning PlanFault) → results.result_map_both value (λ e. e) r ≡ s → Gives value r s
joins_given value (Ok x) s is = sym is
joins_given value (Err e) s is = inl (sym is)
