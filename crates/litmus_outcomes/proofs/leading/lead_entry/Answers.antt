use Rattle.std.proofs.Common.{subst, sym}
use Rattle.litmus_merges.specs.Steps.{map_of}
use Rattle.litmus_outcomes.specs.Leading.{LeadsToOne}
use Rattle.litmus_outcomes.proofs.Led.{copied_one}
use Rattle.litmus_outcomes.proofs.leading.lead_entry.Goals as goal

pub returns-in_ok-lead_copy-in-Detach-clause-one : goal.returns-in_ok-lead_copy-in-Detach-clause-one
returns-in_ok-lead_copy-in-Detach-clause-one g c = λ led.
    subst (λ e. LeadsToOne c.args.requests.now (map_of c.args.objects.now c.args.steps.now.items) e (map_of c.args.objects.now c.lead_copy.new.steps.items))
    (sym c.in-Detach.is)
    (copied_one c.args.objects.now c.args.requests.now c.args.steps.now.items c.lead_copy.new.steps.items c.in-Detach.step c.in-Detach.call c.in-Detach.page
    c.in_ok-lead_copy-in-Detach.ensures.items)

pub returns-in-Answer-clause-one : goal.returns-in-Answer-clause-one
returns-in-Answer-clause-one g c = c.lead_reply.ensures.one c.args.entry c.in-Answer.step c.in-Answer.is
