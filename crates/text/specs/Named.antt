-- What words name. Assumes nothing.
use Rattle.std.specs.Prelude.{ℕ, List, Option}
use Rattle.std.specs.List.{find}
use Rattle.std.specs.Str.{bytes_eq}

-- the first of the values whose word the bytes are
abbrev pub named_among : {T : Type 0} → (T → List ℕ) → List T → List ℕ → Option T
named_among word_of values bytes = find (λ value. bytes_eq bytes (word_of value)) values
