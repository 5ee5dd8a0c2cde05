use Rattle.std.proofs.Common.{◌∙◌, ap, subst, sym}
use Rattle.core_steps.specs.Machine.{state}
use Rattle.machine_model.specs.World.{Made}
use Rattle.litmus_merges.specs.Nodes.{AreAll}
use Rattle.litmus_merges.specs.Steps.{AreSound, map_of}
use Rattle.litmus_outcomes.proofs.Assembled.{all_from}
use Rattle.litmus_outcomes.proofs.listing.explore_from.Goals as goal

pub explore-requires-clause-sound : goal.explore-requires-clause-sound
explore-requires-clause-sound g c = subst AreSound (sym c.as_slice.ensures.value) c.in-Ok-steps_of.ensures.sound

pub returns-in-Ok-explore-clause-all : goal.returns-in-Ok-explore-clause-all
returns-in-Ok-explore-clause-all g c = λ whole t leads. all_from c.in-Ok.objects c.in-Ok-steps_of.steps.items (state c.args.machine.now) c.args.calls.now c.args.finals.now c.args.maps
    c.in-Ok-explore.it.ends.items (c.in-Ok.ensures ∙ sym (ap (λ (m : Made). m.file) c.requires.made)) c.in-Ok-steps_of.ensures
    (subst (λ xs. AreAll c.args.calls.now c.args.finals.now c.args.maps (map_of c.in-Ok.objects xs) c.in-Ok-explore.it.ends.items) c.as_slice.ensures.value (c.in-Ok-explore.ensures.all whole))
    t leads
