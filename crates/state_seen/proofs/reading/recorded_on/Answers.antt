use Rattle.std.proofs.Common.{◌∙◌, sym}
use Rattle.core_steps.specs.Machine.{state}
use Rattle.state_seen.proofs.Entries.{read_unrecorded}
use Rattle.state_seen.proofs.reading.recorded_on.Goals as goal

pub returns-then-not-is_valid : goal.returns-then-not-is_valid
returns-then-not-is_valid g c = c.empty.ensures ∙ read_unrecorded (state c.args.machine.now) c.kept_log-kept.ensures.legal.reached c.args.page
    (sym c.is_valid.ensures ∙ c.if-not-is_valid.true)
