-- What the lister writes of a walk. Assumes nothing.
use Rattle.std.specs.Prelude.{ℕ, zero, suc, min, List, [], ◌∷◌, ◌++◌, Some, None, Ok, Err, codes, decimal, Option, Result}
use Rattle.std.specs.List.{range_with_len, flat_map}
use Rattle.walk.specs.Meaning.{Meaning, size, row}
use Rattle.walk.specs.Rows.{Row}
use Rattle.faults.specs.Faults.{cause_number, cause_layer, layer_text}
use Rattle.faults.specs.declared.PlanFault.{PlanFault}

-- the values of a row, with one blank between neighbours
abbrev pub row_text : Row → List ℕ
row_text [] = []
row_text (v ∷ []) = decimal v
row_text (v ∷ w ∷ r) = decimal v ++ (codes " " ++ row_text (w ∷ r))

-- what stands before the value at a place
abbrev pub gap_text : ℕ → List ℕ
gap_text zero = []
gap_text (suc place) = codes " "

-- a label, a comma, the row
abbrev pub line_text : ℕ → Row → List ℕ
line_text label r = decimal label ++ (codes "," ++ (row_text r ++ codes "\n"))

-- the names, and up to 1,000 rows in the order of their labels
abbrev pub listing_text : Meaning → List ℕ
listing_text m = codes "label,row\n" ++ flat_map (λ label. line_text label (row m label)) (range_with_len 0 (min (size m) 1000))

-- a fault: the names, and one line with its number, its line and its layer
abbrev pub fault_text : ℕ → ℕ → List ℕ → List ℕ
fault_text number line layer = codes "number,line,layer\n" ++ (decimal number ++ (codes "," ++ (decimal line ++ (codes "," ++ (layer ++ codes "\n")))))

-- the fault that the numbers tell; want of memory has none, and is no fault of a text
abbrev pub told : PlanFault → Option ℕ → List ℕ
told fault None = []
told fault (Some number) = fault_text number fault.line (layer_text (cause_layer fault.cause))

-- what the lister writes: the rows of a plan, or its fault
abbrev pub report_text : Result Meaning PlanFault → List ℕ
report_text (Ok m) = listing_text m
report_text (Err fault) = told fault (cause_number fault.cause)
