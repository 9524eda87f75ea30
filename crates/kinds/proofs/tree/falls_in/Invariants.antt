use Rattle.std.proofs.Common.{◌≡◌, ℕ, ◌+◌, ◌≤◌, List, length, take, sum}
use Rattle.std.specs.Iterator.{AlwaysYields, size}
use Rattle.std.specs.Iterator.Adapters.{enumerate_source, enumerate_count}
use Rattle.kinds.proofs.tree.falls_in.Given as goal

abbrev pub invariant-loop-value : goal.invariant-loop-value
invariant-loop-value g l = record {
  can : (goal.iterator-loop-value g).can_next l.value-iterator;
  finite : (goal.iterator-loop-value g).is_finite l.value-iterator;
  few : enumerate_count l.value-iterator + size (g.I.Iterator.remaining (enumerate_source l.value-iterator)) ≤ 256;
  taken : (list : List ℕ) → AlwaysYields g.I.Iterator.next_gives (λ x. x) (enumerate_source l.initial.value-iterator) list → l.rest + sum (take (length l.yielded) list) ≡ l.initial.rest;
}
