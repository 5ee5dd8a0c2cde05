use Rattle.std.proofs.Common.{◌<◌, ◌^◌, arith, map, ap, sym, subst, ◌∙◌}
use Rattle.std.specs.Prelude.{All}
use Rattle.import_steps.specs.Counts.{total}
use Rattle.import_log.specs.Each.{part_all, parted}
use Rattle.import_steps.specs.Taking.{so_far}
use Rattle.import_log.proofs.EachLemmas.{all_push, told_more}
use Rattle.import_log.proofs.each.parts_for.Goals as goal

pub processes-preserved : goal.processes-preserved
processes-preserved g c =
    let all = c.args.lines.now in
    record {
      within = omega (arith, c.processes-test.true);
      value = ap (map parted) c.in_ok-push.ensures.items ∙ told_more parted (part_all c.args.unclear (so_far c.args.start.now) all)
          c.args.processes.now c.processes.at _ _ _ c.processes-test.true c.processes.invariant.value
          c.in_ok-part.ensures.value;
      few = subst (All (λ p. total p.counts < 2 ^ 64)) (sym c.in_ok-push.ensures.items)
          (all_push (λ p. total p.counts < 2 ^ 64) _ _ c.processes.invariant.few c.in_ok-part.ensures.few);
    }
