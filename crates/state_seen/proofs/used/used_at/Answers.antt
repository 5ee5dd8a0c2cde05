use Rattle.std.proofs.Common.{◌∙◌, sym}
use Rattle.core_steps.specs.Machine.{state}
use Rattle.state_seen.proofs.PageReading.{unused_off_page}
use Rattle.state_seen.proofs.used.used_at.Goals as goal

pub returns-then-not-is_valid : goal.returns-then-not-is_valid
returns-then-not-is_valid g c = unused_off_page (state c.args.machine.now) c.kept_log-kept.ensures.legal.reached c.args.page
    (sym c.is_valid.ensures ∙ c.if-not-is_valid.true)
