use Rattle.std.proofs.Common.{arith}
use Rattle.core_steps.specs.Machine.{state}
use Rattle.state_seen.proofs.Entries.{next_page}
use Rattle.state_seen.proofs.reading.page_of_copy.Goals as goal

pub overflow_add-result : goal.overflow_add-result
overflow_add-result g c =
    omega (arith, next_page (state c.args.machine.now) c.kept_log-kept.ensures.legal.reached c.args.core c.args.touch c.args.frame c.requires)
