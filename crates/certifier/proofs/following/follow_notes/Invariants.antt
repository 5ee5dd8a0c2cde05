use Rattle.std.proofs.Common.{map, length}
use Rattle.core_steps.specs.Machine.{state}
use Rattle.seats.specs.Packing.{shown}
use Rattle.certifier.specs.Order.{all_notes}
use Rattle.certifier.proofs.Followed.{Followed}
use Rattle.certifier.proofs.following.follow_notes.Given as goal

-- the notes with tickets so far were followed
abbrev pub invariant-tickets : goal.invariant-tickets
invariant-tickets g l = Followed g.M.SlotMap.parts g.M.SlotMap.can_fold g.M.SlotMap.folds
    (state l.fn.machine) (all_notes (map shown l.seats)) (length l.standings)
    l.histories l.at (state l.machine) l.looks.items l.calls
