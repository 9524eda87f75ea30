-- What a book is: a walk, lanes and hands, waiting labels, and how many rows the bench has. Assumes nothing.
use Rattle.std.specs.Prelude.{ℕ, List, length, vec_items}
use Rattle.std.specs.VecDeque.{deque_items}
use Rattle.walk.specs.Meaning.{Meaning}
use Rattle.book.specs.declared.book.Book.{Book}
use Rattle.book.specs.declared.lane.Lane.{Lane}

-- Each printer has a lane, the labels put by for it and not yet drawn, and a hand, which is empty or holds one label. Printers
-- count from 0. The waiting labels stand in order of arrival. The bench has the rows that were printed and accepted.
pub record State : Type 0 where
  pub walk : Meaning
  pub lanes : List Lane
  pub waiting : List ℕ
  pub bench : ℕ

-- how many printers the book has
abbrev pub printers : State → ℕ
printers s = length s.lanes

-- a book as the rules see it, given what its walk means
abbrev pub state : {W : Type 0} → (W → Meaning) → Book W → State
state meaning b = record { walk = meaning b.walk; lanes = vec_items b.ledger.lanes; waiting = deque_items b.ledger.waiting; bench = b.ledger.bench }
