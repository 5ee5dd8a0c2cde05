use Rattle.machine_model.proofs.Words.{arith, refl, subst, ◌∙◌, Appends}
use Rattle.trace_io.specs.Sink.{AppendsFront}
use Rattle.trace_words.proofs.FilePieces.{files_front, files_wrote, nothing_yet}
use Rattle.trace_words.proofs.declaring.write_files.Goals as goal

pub files-init : goal.files-init
files-init g c = record { within = omega arith; written = nothing_yet _; kept = refl }

pub files-preserved : goal.files-preserved
files-preserved g c =
    let line = c.as_bytes.ensures.value ∙ c.as_str.ensures.value ∙ c.put_file.ensures in
    record {
      within = omega (arith, c.files-test.true);
      written = files_wrote _ _ _ _ _ _ _ c.files-test.true refl c.files.invariant.written (subst (Appends _ _) line c.in_default.ensures.ok);
      kept = c.in_default.ensures.kept ∙ c.files.invariant.kept;
    }

pub returns-in-Err : goal.returns-in-Err
returns-in-Err g c =
    let line = c.as_bytes.ensures.value ∙ c.as_str.ensures.value ∙ c.put_file.ensures in
    let front = subst (AppendsFront _ _) line c.in-Err.ensures.front in
    let all = files_front _ _ _ _ _ _ _ c.files-test.true refl c.files.invariant.written front in
    record { ok = tt; kept = tt; front = all; err = c.in-Err.ensures.err }
