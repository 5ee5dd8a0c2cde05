use Rattle.std.proofs.Common.{Bor, List, refl}
use Rattle.std.specs.Prelude.{Vec}
use Rattle.seats.specs.declared.noted.Noted.{Noted}
use Rattle.std.proofs.lemmas.Result.{IfOk-weaker}
use Rattle.seats.specs.Packing.{shown}
use Rattle.seats.specs.declared.note_list.Notes.{Notes}
use Rattle.live_script.proofs.LaneLemmas.{notes_in_ran}
use Rattle.live_script.proofs.ran.RunSpace.notes.Goals as goal

pub returns-clause-are : goal.returns-clause-are
returns-clause-are g c = IfOk-weaker _ _ _ (λ (all : Vec Notes g.row.A.Denot) e.
    notes_in_ran shown c.args.self.now c.self.inside.live c.self.inside.lanes.items _ all.items all.items c.self.view_is
    c.as_slice.ensures.value refl e) c.notes_of.ensures.are
