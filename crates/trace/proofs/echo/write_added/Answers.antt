use Rattle.std.proofs.Common.{ap, min, subst, ◌∙◌}
use Rattle.std.specs.Io.KnownBytes.{Appends}
use Rattle.std.specs.List.{flat_map}
use Rattle.trace_io.specs.Sink.{AppendsFront}
use Rattle.machine_log.specs.Packing.{listed}
use Rattle.trace.specs.Echo.{entry_line}
use Rattle.trace.proofs.EchoLemmas.{added_is}
use Rattle.trace.proofs.echo.write_added.Goals as goal

pub returns-in-Err-clause-wrote : goal.returns-in-Err-clause-wrote
returns-in-Err-clause-wrote g c =
    let whose = c.as_bytes.ensures.value ∙ c.as_str.ensures.value ∙ c.whose-whose.ensures in
    let is = added_is c.args.replay.now.asks.is_wanted _ _ c.args.first c.min-from.result (listed c.in-Some.log) _ c.if-not-replay.false whose
    c.in-Some.ensures.some (c.min-from.ensures ∙ ap (min c.args.first) c.len.ensures) in
    let all = ap (flat_map (entry_line c.as_bytes.result.now)) c.behind.ensures ∙ is in
    record { ok = tt; kept = tt; front = subst (AppendsFront _ _) all c.in-Err.ensures.front; err = c.in-Err.ensures.err }

pub returns-clause-wrote : goal.returns-clause-wrote
returns-clause-wrote g c =
    let whose = c.as_bytes.ensures.value ∙ c.as_str.ensures.value ∙ c.whose-whose.ensures in
    let is = added_is c.args.replay.now.asks.is_wanted _ _ c.args.first c.min-from.result (listed c.in-Some.log) _ c.if-not-replay.false whose
    c.in-Some.ensures.some (c.min-from.ensures ∙ ap (min c.args.first) c.len.ensures) in
    let all = ap (flat_map (entry_line c.as_bytes.result.now)) c.behind.ensures ∙ is in
    record {
      ok = subst (Appends _ _) all c.in_default-write_entries.ensures.ok;
      kept = c.in_default-write_entries.ensures.kept;
      front = tt;
      err = tt;
    }
