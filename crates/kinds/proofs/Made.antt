-- What is made of a table of levels. Assumes nothing.
use Rattle.std.proofs.Common.{◌≡◌, ℕ, ◌<◌, ◌≤◌, Bool, true, false, leb, cond, List, length, is_ok, Ok, Err, Result, sym, ap, ◌∙◌, subst, arith}
use Rattle.std.specs.Prelude.{IfOk}
use Rattle.std.proofs.lemmas.Bool.{le-leb, lt-leb, cond-true, cond-false}
use Rattle.walk.specs.Rows.{Row}
use Rattle.walk.specs.Meaning.{Meaning}
use Rattle.kinds.specs.Counts.{Tabled}
use Rattle.walk.specs.Making.{new_walk, Makes}
use Rattle.kinds.specs.Kinds.{making, kind_meaning}
use Rattle.kinds.specs.Shapes.{rows_of, width_of, steady_of}
use Rattle.kinds.specs.declared.kind.Kind.{Kind}
use Rattle.kinds.specs.declared.shape.Shape.{Shape}
use Rattle.walk.specs.declared.making.MakingFault.{MakingFault}
use Rattle.walk.specs.declared.making.MakingFault.TheVariants.{OutOfRange, TooManyRows, NoMemory}

-- making with numbers that fit and few enough rows
pub making_ok : (fit : Bool) (rows : List Row) (width : ℕ) (steady : Bool) → fit ≡ true → length rows ≤ 4294967295 → making fit rows width steady ≡ Ok (new_walk rows width steady)
making_ok fit rows width steady fits few =
    cond-true fit _ _ fits ∙ cond-true (leb (length rows) 4294967295) _ _ (le-leb (length rows) 4294967295 few)

-- making with numbers that do not fit
pub making_unfit : (fit : Bool) (rows : List Row) (width : ℕ) (steady : Bool) → fit ≡ false → making fit rows width steady ≡ Err OutOfRange
making_unfit fit rows width steady unfit = cond-false fit _ _ unfit

-- making with too many rows
pub making_over : (fit : Bool) (rows : List Row) (width : ℕ) (steady : Bool) → fit ≡ true → 4294967295 < length rows → making fit rows width steady ≡ Err TooManyRows
making_over fit rows width steady fits over =
    cond-true fit _ _ fits ∙ cond-false (leb (length rows) 4294967295) _ _ (lt-leb (length rows) 4294967295 over)

module _ {X K : Type 0} (P : X → Type 0) (meaning : K → Meaning) (fit : Bool) (rows : List Row) (width : ℕ) (steady : Bool) (count : ℕ) (long : length rows ≡ count) where
  -- where there is no table, the fault is that of making
  pub fault_of_table : (e : MakingFault) → Tabled fit count P (Err e) → Makes meaning (Err e) (making fit rows width steady)
  fault_of_table OutOfRange unfit = making_unfit fit rows width steady unfit
  fault_of_table TooManyRows over = making_over fit rows width steady over.0 (omega (arith, over.1))
  fault_of_table NoMemory short = ap is_ok (making_ok fit rows width steady short.0 (omega (arith, short.1)))

  -- the fault goes on as it came
  pub fault_goes_on : (r : Result K MakingFault) (e y : MakingFault) → r ≡ Err y → y ≡ e → Tabled fit count P (Err e) → Makes meaning r (making fit rows width steady)
  fault_goes_on r e y is same told = subst (λ x. Makes meaning x (making fit rows width steady)) (sym (is ∙ ap Err same)) (fault_of_table e told)

  -- what a table gives: the walk of a shape with these rows
  pub walk_of_table : (x : X) (k : K) (s : Shape) → Tabled fit count P (Ok x) → meaning k ≡ new_walk (rows_of s) (width_of s) (steady_of s) → rows_of s ≡ rows → width_of s ≡ width → steady_of s ≡ steady → making fit rows width steady ≡ Ok (meaning k)
  walk_of_table x k s told is same_rows same_width_lem same_steady =
      making_ok fit rows width steady told.0 (omega (arith, told.1))
      ∙ ap Ok (sym (is ∙ (λ i. new_walk (same_rows i) (same_width_lem i) (same_steady i))))

-- making answers the rows that it is given
made_rows : (fit few : Bool) (rows : List Row) (width : ℕ) (steady : Bool) (m : Meaning) → cond fit (cond few (Ok (new_walk rows width steady)) (Err TooManyRows)) (Err OutOfRange) ≡ Ok m → rows ≡ m.rows
made_rows true true rows width steady m is = let same : new_walk rows width steady ≡ m = cc in ap (λ x. x.rows) same
made_rows true false rows width steady m is = cc
made_rows false few rows width steady m is = cc

-- what holds of rows holds of a kind with these rows
pub rows_hold : (P : List Row → Type 0) (k : Kind) (given rows : List Row) (width : ℕ) (steady : Bool) → kind_meaning k ≡ new_walk given width steady → given ≡ rows → P rows → P (rows_of k.shape)
rows_hold P k given rows width steady is same holds = subst P (sym (ap (λ m. m.rows) is ∙ same)) holds

-- what holds of these rows holds of what is made
pub made_holds : (P : List Row → Type 0) (fit : Bool) (rows : List Row) (width : ℕ) (steady : Bool) (r : Result Kind MakingFault) → Makes kind_meaning r (making fit rows width steady) → P rows → IfOk r (λ k. P (kind_meaning k).rows)
made_holds P fit rows width steady (Ok k) made holds = subst P (made_rows fit (leb (length rows) 4294967295) rows width steady (kind_meaning k) made) holds
made_holds P fit rows width steady (Err e) made holds = tt
