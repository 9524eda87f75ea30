-- Opening a book. Assumes nothing.
use Rattle.std.specs.Prelude.{◌≡◌, ℕ, true, false, cond, [], is_ok, Ok, Err, Result, vec_items}
use Rattle.std.specs.VecDeque.{deque_items}
use Rattle.walk.specs.Meaning.{Meaning, size}
use Rattle.walk.specs.declared.making.Refused.{Refused}
use Rattle.book.specs.Lanes.{printers_allowed, opened_lanes}
use Rattle.book.specs.State.{State, state}
use Rattle.book.specs.declared.book.Book.{Book}
use Rattle.book.specs.declared.ledger.Ledger.{Ledger}
use Rattle.book.specs.declared.refusal.OpeningFault.{OpeningFault}
use Rattle.book.specs.declared.refusal.OpeningFault.TheVariants.{NumberOfPrinters, NoMemory}

-- a freshly opened book on a walk, with k printers
abbrev pub opened : Meaning → ℕ → State
opened m k = record { walk = m; lanes = opened_lanes (size m) k; waiting = []; bench = 0 }

-- `open` refuses a number of printers that is not 1 to 16
abbrev pub opens : Meaning → ℕ → Result State OpeningFault
opens m k = cond (printers_allowed k) (Ok (opened m k)) (Err NumberOfPrinters)

-- it wants for memory only where a book is given
abbrev pub Refuses : Result State OpeningFault → OpeningFault → Type 0
Refuses given NumberOfPrinters = given ≡ Err NumberOfPrinters
Refuses given NoMemory = is_ok given ≡ true

-- It answers the book that opening gives, or the fault, and with it the walk as it was.
abbrev pub Opens : {W : Type 0} → (W → Meaning) → W → ℕ → Result (Book W) (Refused OpeningFault W) → Type 0
Opens meaning walk k (Ok b) = opens (meaning walk) k ≡ Ok (state meaning b)
Opens meaning walk k (Err e) = Refuses (opens (meaning walk) k) e.fault × (e.kept ≡ walk)

-- the ledger of that book, where the walk has n rows
abbrev pub OpensLedger : ℕ → ℕ → Ledger → Type 0
OpensLedger n k l = (printers_allowed k ≡ true) × (vec_items l.lanes ≡ opened_lanes n k) × (deque_items l.waiting ≡ []) × (l.bench ≡ 0)

-- why there is none
abbrev pub NoLedger : ℕ → OpeningFault → Type 0
NoLedger k NumberOfPrinters = printers_allowed k ≡ false
NoLedger k NoMemory = printers_allowed k ≡ true
