use Rattle.std.proofs.Common.{◌+◌, refl}
use Rattle.trace_words.proofs.TaskLemmas.{cores_kept, grown}
use Rattle.trace_words.proofs.script.all_tasks.Goals as goal

pub cores-preserved : goal.cores-preserved
cores-preserved g c =
    cores_kept (λ tasks. tasks.items) _ c.in_ok-tasks.tasks _ c.cores.core (c.cores.core + 1) c.args.lines.now c.cores.invariant c.in_ok-tasks.ensures
    (grown _ _ _ _ _ c.push.ensures.items c.in-Ok-push.is) refl
