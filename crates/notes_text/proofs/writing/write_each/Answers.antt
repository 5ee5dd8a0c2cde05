use Rattle.std.proofs.Common.{arith, refl, ◌∙◌}
use Rattle.notes_text.specs.NotesWritten.{note_text}
use Rattle.trace_io.proofs.IoLemmas.{each_front, each_wrote}
use Rattle.trace_words.proofs.FilePieces.{nothing_yet}
use Rattle.notes_text.proofs.writing.write_each.Goals as goal

pub notes-init : goal.notes-init
notes-init g c = record { within = omega arith; written = nothing_yet _; kept = refl }

pub notes-preserved : goal.notes-preserved
notes-preserved g c = record {
  within = omega (arith, c.notes-test.true);
  written = each_wrote note_text _ _ _ _ _ _ c.notes-test.true c.index-notes-at.is c.notes.invariant.written c.in_default.ensures.ok;
  kept = c.in_default.ensures.kept ∙ c.notes.invariant.kept;
}

pub returns-in-Err : goal.returns-in-Err
returns-in-Err g c =
    let front = each_front note_text _ _ _ _ _ _ c.notes-test.true c.index-notes-at.is c.notes.invariant.written c.in-Err.ensures.front in
    record { ok = tt; kept = tt; front = front; err = c.in-Err.ensures.err }
