use Rattle.machine_model.proofs.Words.{ℕ, Option, PageInfo}
use Rattle.certifier.proofs.Looked.{AreOpened}
use Rattle.certifier.proofs.visits.first_looks.Given as goal

-- each slot so far has its look
abbrev pub invariant-slots : goal.invariant-slots
invariant-slots g l = (maps : ℕ → ℕ → Option PageInfo) (now : ℕ → Option PageInfo) → AreOpened l.n maps now l.at l.slots l.looks.items
