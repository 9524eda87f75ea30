-- What a call leaves of a session. Assumes nothing.
use Rattle.std.specs.Prelude.{◌≡◌}
use Rattle.walk.specs.Meaning.{Meaning}
use Rattle.book.specs.State.{State, state}
use Rattle.trial.specs.declared.session.Session.{Session}

-- the book is left in that state, and the width as it was
abbrev pub Leaves : {W : Type 0} → (W → Meaning) → Session W → Session W → State → Type 0
Leaves meaning old new s = (state meaning new.book ≡ s) × (new.width ≡ old.width)
