use Rattle.std.proofs.Common.{subst}
use Rattle.core_steps.specs.Machine.{state}
use Rattle.trace_words.specs.Declarations.{made_by}
use Rattle.litmus_outcomes.specs.Opening.{IsCalm}
use Rattle.litmus_outcomes.proofs.listing.list_behind.Goals as goal

pub list_on-requires-clause-first : goal.list_on-requires-clause-first
list_on-requires-clause-first g c =
    subst (λ es. IsCalm (made_by c.args.declared.now) es (state c.in-Ok.first.machine)) c.as_slice-events.ensures.value c.in-Ok.ensures
