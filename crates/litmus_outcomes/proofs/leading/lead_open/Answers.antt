use Rattle.std.proofs.Common.{subst, sym}
use Rattle.litmus_merges.specs.Steps.{map_of}
use Rattle.litmus_outcomes.specs.Leading.{LeavesOne}
use Rattle.litmus_outcomes.proofs.Led.{open_one}
use Rattle.litmus_outcomes.proofs.leading.lead_open.Goals as goal

pub returns-in_default-clause-one : goal.returns-in_default-clause-one
returns-in_default-clause-one g c = λ e. open_one (map_of c.args.objects.now c.args.steps.now.items) c.args.core c.args.request c.args.reply c.requires.placed
    c.in_default.ensures.none c.requires.frame c.requires.memory

pub returns-clause-one : goal.returns-clause-one
returns-clause-one g c = λ e. subst (λ y. LeavesOne (map_of c.args.objects.now c.args.steps.now.items) c.args.core c.args.request y
    (map_of c.args.objects.now c.lead_placed.new.steps.items)) (sym c.in-Some.ensures.some) (c.in_ok-led.ensures.one e)
