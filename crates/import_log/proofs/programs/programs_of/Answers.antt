use Rattle.std.proofs.Common.{arith, map, ap, ◌∙◌}
use Rattle.import_log.specs.Programs.{program_name, program_of}
use Rattle.import_log.proofs.EachLemmas.{told_more}
use Rattle.import_log.proofs.programs.programs_of.Goals as goal

pub processes-preserved : goal.processes-preserved
processes-preserved c =
    let all = c.args.lines.now in
    record {
      within = omega (arith, c.processes-test.true);
      value = ap (map program_name) c.in_ok-push.ensures.items ∙ told_more program_name (λ p. program_of all c.args.owned.now p.number)
          c.args.processes.now c.processes.at _ _ _ c.processes-test.true c.processes.invariant.value c.in_ok-program.ensures;
    }
