use Rattle.machine_model.proofs.Words.{arith, refl, subst, sym, ◌∙◌, Appends}
use Rattle.std.proofs.lemmas.Option.{get_or_from_slice_get}
use Rattle.machine_log.specs.Packing.{listed}
use Rattle.trace_io.specs.Sink.{AppendsFront}
use Rattle.trace.proofs.ShownLemmas.{handed_all, handed_front, handed_more, handed_none}
use Rattle.trace.proofs.shown.write_log.Goals as goal

pub entries-init : goal.entries-init
entries-init g c = record { within = omega arith; handed = handed_none _ _ c.new-lines.ensures.text; kept = refl }

pub entries-preserved : goal.entries-preserved
entries-preserved g c = record {
  within = omega (arith, c.entries-test.true, c.len.ensures);
  handed = handed_more _ _ _ _ _ _ _ _ _ (omega (arith, c.entries-test.true, c.len.ensures))
      (sym (get_or_from_slice_get (listed c.args.log.now) _ c.get-entry.result c.get-entry.result c.get-entry.ensures))
      c.entries.invariant.handed c.in_default.ensures.ok c.push.ensures;
  kept = c.in_default.ensures.kept ∙ c.entries.invariant.kept;
}

pub returns-in-Err : goal.returns-in-Err
returns-in-Err g c =
    record { ok = tt; kept = tt; front = handed_front _ _ _ _ _ _ c.entries.invariant.handed c.in-Err.ensures.front; err = c.in-Err.ensures.err }

pub returns-in-Err-write_all : goal.returns-in-Err-write_all
returns-in-Err-write_all g c =
    let front = subst (AppendsFront _ _) c.as_bytes.ensures c.in-Err-write_all.ensures.front in
    record { ok = tt; kept = tt; front = handed_front _ _ _ _ _ _ c.entries.invariant.handed front; err = c.in-Err-write_all.ensures.err }

pub returns : goal.returns
returns g c =
    let all = subst (Appends _ _) c.as_bytes.ensures c.in_default-write_all.ensures.ok in
    record {
      ok = handed_all _ _ _ _ _ _ (omega (arith, c.entries-test.false, c.len.ensures)) c.entries.invariant.handed all;
      kept = c.in_default-write_all.ensures.kept ∙ c.entries.invariant.kept;
      front = tt;
      err = tt;
    }
