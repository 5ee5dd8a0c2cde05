use Rattle.machine_model.proofs.Words.{length, take, ◌-◌, ◌≡◌, ◌≤◌, Appends}
use Rattle.trace_words.specs.Written.{files_text}
use Rattle.trace_words.proofs.declaring.write_files.Given as goal

-- the lines of the first files were written
abbrev pub invariant-files : goal.invariant-files
invariant-files g l = record {
  within : l.at ≤ length l.files;
  written : Appends (g.W.Sink.contents l.initial.writer) (g.W.Sink.contents l.writer) (files_text 0 (take l.at l.files));
  kept : g.W.Sink.failed l.writer ≡ g.W.Sink.failed l.initial.writer;
}

abbrev pub decreases-files : goal.decreases-files
decreases-files g l = length l.files - l.at
