use Rattle.std.proofs.Common.{subst, sym}
use Rattle.core_steps.specs.Machine.{state}
use Rattle.trace_words.specs.Declarations.{made_by}
use Rattle.litmus_outcomes.specs.Listing.{AreListed, AreSeen}
use Rattle.litmus_outcomes.specs.Opening.{IsCalm}
use Rattle.litmus_outcomes.proofs.Assembled.{are_outcomes}
use Rattle.litmus_outcomes.proofs.listing.list_on.Goals as goal

pub outcomes_of-requires-clause-first : goal.outcomes_of-requires-clause-first
outcomes_of-requires-clause-first g c =
    subst (λ es. IsCalm (made_by c.args.declared.now) es (state c.args.first.now)) (sym c.as_slice-events.ensures.value) c.requires.first

pub returns-clause-outcomes : goal.returns-clause-outcomes
returns-clause-outcomes g c = are_outcomes (made_by c.args.declared.now) c.args.calls.now c.in-Ok-loads_of.loads.items c.args.finals.now c.args.maps
    (record { opening = c.args.opening; list = c.in-Ok-outcomes_of.list; whole = c.in-Ok.explored.whole }) c.in-Ok.explored.ends.items
    (state c.args.first.now) c.finals_are_shown.ensures c.in-Ok-loads_of.ensures c.requires.first
    (subst (λ xs. AreListed xs c.in-Ok-outcomes_of.list.items) c.as_slice-ends.ensures.value c.in-Ok-outcomes_of.ensures.listed)
    c.in-Ok.ensures.once c.in-Ok.ensures.all
    (λ t leads. subst (λ es. AreSeen (made_by c.args.declared.now) es t c.args.calls.now c.in-Ok-loads_of.loads.items c.args.maps c.in-Ok-outcomes_of.list.items)
    c.as_slice-events.ensures.value (subst (λ ls. AreSeen (made_by c.args.declared.now) c.as_slice-events.result.now t c.args.calls.now ls
    c.args.maps c.in-Ok-outcomes_of.list.items) c.as_slice-asked.ensures.value (c.in-Ok-outcomes_of.ensures.reached t leads)))
