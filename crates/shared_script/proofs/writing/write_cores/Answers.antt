use Rattle.std.proofs.Common.{arith, ◌∙◌}
use Rattle.shared_script.proofs.TextLemmas.{core_front, core_wrote}
use Rattle.shared_script.proofs.writing.write_cores.Goals as goal

pub returns-in-Err : goal.returns-in-Err
returns-in-Err g c =
    let all = core_front _ _ _ _ _ _ _ c.cores-test.true c.index-told-core.is c.as_slice.ensures.value c.cores.invariant.written c.in-Err.ensures.front in
    record { ok = tt; kept = tt; front = all; err = c.in-Err.ensures.err }

pub cores-preserved : goal.cores-preserved
cores-preserved g c = record {
  within = omega (arith, c.cores-test.true);
  written = core_wrote _ _ _ _ _ _ _ c.cores-test.true c.index-told-core.is c.as_slice.ensures.value c.cores.invariant.written c.in_default.ensures.ok;
  kept = c.in_default.ensures.kept ∙ c.cores.invariant.kept;
}
