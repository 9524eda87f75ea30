use Rattle.text.proofs.Cuts.{pieces_laws, cuts_again}
use Rattle.text.proofs.laws.pieces_stand.Goals as goal

pub returns : goal.returns
returns c = record { cut = pieces_laws; joined = cuts_again }
