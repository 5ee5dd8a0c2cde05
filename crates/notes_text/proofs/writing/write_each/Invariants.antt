use Rattle.machine_model.proofs.Words.{length, take, ◌-◌, ◌≡◌, ◌≤◌, flat_map, Appends}
use Rattle.notes_text.specs.NotesWritten.{note_text}
use Rattle.notes_text.proofs.writing.write_each.Given as goal

-- the lines of the first notes were written
abbrev pub invariant-notes : goal.invariant-notes
invariant-notes g l = record {
  within : l.at ≤ length l.notes;
  written : Appends (g.W.Sink.contents l.initial.writer) (g.W.Sink.contents l.writer) (flat_map note_text (take l.at l.notes));
  kept : g.W.Sink.failed l.writer ≡ g.W.Sink.failed l.initial.writer;
}

abbrev pub decreases-notes : goal.decreases-notes
decreases-notes g l = length l.notes - l.at
