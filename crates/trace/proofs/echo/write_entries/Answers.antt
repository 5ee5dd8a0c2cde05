use Rattle.std.proofs.Common.{◌<◌, arith, refl, subst, sym, ap, ◌∙◌, ◌++◌, codes}
use Rattle.std.proofs.lemmas.Option.{get_or_from_slice_get}
use Rattle.std.specs.Io.KnownBytes.{Appends}
use Rattle.trace_io.proofs.IoLemmas.{each_front, each_wrote}
use Rattle.trace_io.specs.Sink.{AppendsFront}
use Rattle.trace_words.proofs.FilePieces.{nothing_yet}
use Rattle.machine_log.specs.Packing.{listed}
use Rattle.trace_text.specs.Lists.{entry_text}
use Rattle.trace.specs.Echo.{entry_line, unended}
use Rattle.trace.proofs.echo.write_entries.Goals as goal

pub entries-init : goal.entries-init
entries-init g c = record { within = omega arith; written = nothing_yet _; kept = refl }

pub entries-preserved : goal.entries-preserved
entries-preserved g c =
    let line = c.as_bytes.ensures ∙ c.push.ensures ∙ ap (λ l. l ++ entry_text c.get-entry.result) c.clear.ensures.text in
    record {
      within = omega (arith, c.entries-test.true, c.len.ensures);
      written = each_wrote (entry_line c.args.whose.now) _ _ _ _ _ _
          (subst (λ n. c.entries.at < n) c.len.ensures c.entries-test.true)
          (sym (get_or_from_slice_get (listed c.args.entries.now) _ c.get-entry.result c.get-entry.result c.get-entry.ensures))
          c.entries.invariant.written
          (subst (Appends _ _) (ap (λ l. (unended l ++ c.args.whose.now) ++ codes "\n") line) c.in_default.ensures.ok);
      kept = c.in_default.ensures.kept ∙ c.entries.invariant.kept;
    }

pub returns-in-Err : goal.returns-in-Err
returns-in-Err g c =
    let line = c.as_bytes.ensures ∙ c.push.ensures ∙ ap (λ l. l ++ entry_text c.get-entry.result) c.clear.ensures.text in
    let front = each_front (entry_line c.args.whose.now) _ _ _ _ _ _
    (subst (λ n. c.entries.at < n) c.len.ensures c.entries-test.true)
    (sym (get_or_from_slice_get (listed c.args.entries.now) _ c.get-entry.result c.get-entry.result c.get-entry.ensures))
    c.entries.invariant.written
    (subst (AppendsFront _ _) (ap (λ l. (unended l ++ c.args.whose.now) ++ codes "\n") line) c.in-Err.ensures.front) in
    record { ok = tt; kept = tt; front = front; err = c.in-Err.ensures.err }
