use Rattle.std.proofs.Common.{subst, sym}
use Rattle.litmus_merges.specs.Steps.{map_of}
use Rattle.litmus_outcomes.specs.Leading.{LeadsToOne}
use Rattle.litmus_outcomes.proofs.Led.{answer_one, unasked_one}
use Rattle.litmus_outcomes.proofs.leading.lead_reply.Goals as goal

pub returns-in_default-clause-one : goal.returns-in_default-clause-one
returns-in_default-clause-one g c = λ entry step is led.
    subst (λ e. LeadsToOne c.args.requests.now (map_of c.args.objects.now c.args.steps.now.items) e (map_of c.args.objects.now c.args.steps.now.items)) (sym is)
    (unasked_one c.args.requests.now (map_of c.args.objects.now c.args.steps.now.items) (map_of c.args.objects.now c.args.steps.now.items) step c.args.call
    c.args.core c.args.reply (sym c.in_default.ensures))

pub returns-clause-one : goal.returns-clause-one
returns-clause-one g c = λ entry step is led.
    subst (λ e. LeadsToOne c.args.requests.now (map_of c.args.objects.now c.args.steps.now.items) e (map_of c.args.objects.now c.lead_answer.new.steps.items)) (sym is)
    (answer_one c.args.requests.now (map_of c.args.objects.now c.args.steps.now.items) (map_of c.args.objects.now c.lead_answer.new.steps.items) step
    c.args.call c.args.core c.in-Some.request c.args.reply (sym c.in-Some.ensures) (c.in_ok-led.ensures.one led))
