use Rattle.machine_model.proofs.Words.{ap, ◌∙◌, subst, Appends}
use Rattle.trace_io.proofs.IoLemmas.{front_longer, written_then}
use Rattle.trace_io.specs.Io.{IsWritten}
use Rattle.trace_io.specs.Sink.{AppendsFront}
use Rattle.trace_words.specs.Written.{files_text}
use Rattle.trace_words.proofs.declaring.write_declaration.Goals as goal

pub returns-in-Err : goal.returns-in-Err
returns-in-Err g c =
    let line = c.as_bytes.ensures.value ∙ c.as_str.ensures.value ∙ c.put_space.ensures in
    let front = subst (AppendsFront _ _) line c.in-Err.ensures.front in
    record { ok = tt; kept = tt; front = front_longer _ _ _ _ front; err = c.in-Err.ensures.err }

pub returns : goal.returns
returns g c =
    let line = c.as_bytes.ensures.value ∙ c.as_str.ensures.value ∙ c.put_space.ensures in
    let files = subst (IsWritten _ _) (ap (files_text 0) c.files.ensures) c.write_files.ensures in
    written_then _ _ _ _ _ _ _ _ _ _ (subst (Appends _ _) line c.in_default.ensures.ok) c.in_default.ensures.kept files
