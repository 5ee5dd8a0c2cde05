use Rattle.machine_model.proofs.Words.{◌≡◌, List, length, map, flat_map, Appends}
use Rattle.seats.specs.declared.noted.Noted.{Noted}
use Rattle.certifier.specs.Order.{all_notes}
use Rattle.seats.specs.Packing.{shown}
use Rattle.notes_text.specs.NotesWritten.{note_text}
use Rattle.notes_text.proofs.MergeLemmas.{IsMerged}
use Rattle.notes_text.proofs.writing.write_merged.Given as goal

-- the lines of those that were taken were written
abbrev pub invariant-notes : goal.invariant-notes
invariant-notes g l = record {
  done : List Noted;
  merged : IsMerged (all_notes (map shown l.initial.lists)) (map shown l.lists) done;
  written : Appends (g.W.Sink.contents l.initial.writer) (g.W.Sink.contents l.writer) (flat_map note_text done);
  kept : g.W.Sink.failed l.writer ≡ g.W.Sink.failed l.initial.writer;
}

abbrev pub decreases-notes : goal.decreases-notes
decreases-notes g l = length (all_notes (map shown l.lists))
