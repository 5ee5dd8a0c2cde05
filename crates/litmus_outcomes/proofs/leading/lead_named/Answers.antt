use Rattle.litmus_merges.specs.Steps.{map_of}
use Rattle.litmus_outcomes.proofs.Led.{named_one}
use Rattle.litmus_outcomes.proofs.leading.lead_named.Goals as goal

pub returns-clause-one : goal.returns-clause-one
returns-clause-one g c = named_one (map_of c.args.objects.now c.args.steps.now.items) (map_of c.args.objects.now c.lead.new.opening.items) c.args.core c.args.request
    c.args.reply _ c.requires.named c.requires.frame c.requires.memory c.in_ok-_reply.ensures.turns
