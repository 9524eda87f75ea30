-- The lists of rows of the kinds, as their rules state them. Assumes nothing.
use Rattle.std.specs.Prelude.{ℕ, zero, suc, ◌+◌, ◌-◌, ◌*◌, min, cond, List, [], ◌∷◌, ◌++◌, map, reverse, length, replicate, sum, ◌==◌, slice_index, slice_set}
use Rattle.walk.specs.Rows.{Row}
pub use Rattle.walk.specs.Rows.{turned, odd}

-- the value v before each of the rows
abbrev pub led_by : ℕ → List Row → List Row
led_by v rows = map (λ (r : Row). v ∷ r) rows

-- for each first value v below m, in order, v before the rows of f v
abbrev pub branches : ℕ → (ℕ → List Row) → List Row
branches zero f = []
branches (suc m) f = branches m f ++ led_by m (f m)

-- the number of rows with each value below its radix
abbrev pub product : List ℕ → ℕ
product [] = 1
product (radix ∷ radices) = radix * product radices

-- `digits`: every row with each value below its radix, the first value slowest
abbrev pub digits : List ℕ → List Row
digits [] = [] ∷ []
digits (radix ∷ radices) = branches radix (λ v. digits radices)

-- `gray`: after an even first value the rows of the remaining radices forward, after an odd one backward
abbrev pub gray : List ℕ → List Row
gray [] = [] ∷ []
gray (radix ∷ radices) = branches radix (λ v. turned (odd v) (gray radices))

-- the sum of g v over all v below m
abbrev pub total : ℕ → (ℕ → ℕ) → ℕ
total zero g = 0
total (suc m) g = total m g + g m

-- `stock`: every row with each value at most its stock, and the sum t, the first value slowest
abbrev pub stock : List ℕ → ℕ → List Row
stock [] t = cond (t == 0) ([] ∷ []) []
stock (most ∷ stocks) t = branches (suc (min most t)) (λ v. stock stocks (t - v))

-- the number of these rows
abbrev pub ways : List ℕ → ℕ → ℕ
ways [] t = cond (t == 0) 1 0
ways (most ∷ stocks) t = total (suc (min most t)) (λ v. ways stocks (t - v))

-- `choose`: every row of n values of which t are 1 and the others 0, the first value slowest
abbrev pub choose : ℕ → ℕ → List Row
choose n t = stock (replicate n 1) t

-- `door`: the same rows; behind a first value 1 they run backward
abbrev pub door : ℕ → ℕ → List Row
door zero t = cond (t == 0) ([] ∷ []) []
door (suc n) zero = led_by 0 (door n zero)
door (suc n) (suc t) = led_by 0 (door n (suc t)) ++ led_by 1 (reverse (door n t))

-- the counts with one fewer of the value v
abbrev pub one_less : List ℕ → ℕ → List ℕ
one_less counts v = slice_set counts v (slice_index counts v - 1)

-- `words`: every row in which each value v occurs as often as the count v says, the first value slowest; n is the sum of
-- the counts
abbrev pub words_of : ℕ → List ℕ → List Row
words_of zero counts = [] ∷ []
words_of (suc n) counts = branches (length counts) (λ v. cond (slice_index counts v == 0) [] (words_of n (one_less counts v)))

-- each word has as many values as the counts say together
abbrev pub words : List ℕ → List Row
words counts = words_of (sum counts) counts

-- the row r with v put into each position, from right to left
abbrev pub sweep : ℕ → Row → List Row
sweep v [] = (v ∷ []) ∷ []
sweep v (x ∷ r) = led_by x (sweep v r) ++ ((v ∷ x ∷ r) ∷ [])

-- v swept through each of the rows, alternately to the left and to the right; k rows came before these
abbrev pub woven : ℕ → ℕ → List Row → List Row
woven v k [] = []
woven v k (r ∷ rows) = turned (odd k) (sweep v r) ++ woven v (suc k) rows

-- `changes`: every order of the values below n, by exchange of neighbouring values
abbrev pub changes : ℕ → List Row
changes zero = [] ∷ []
changes (suc n) = woven n 0 (changes n)

-- the number of orders of n values
abbrev pub factorial : ℕ → ℕ
factorial zero = 1
factorial (suc n) = suc n * factorial n
