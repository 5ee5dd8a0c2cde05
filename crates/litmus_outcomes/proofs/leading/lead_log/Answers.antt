use Rattle.std.proofs.Common.{rules}
use Rattle.litmus_outcomes.proofs.Led.{leads_end, leads_first, leads_next}
use Rattle.litmus_outcomes.proofs.leading.lead_log.Goals as goal

pub entries-init : goal.entries-init
entries-init g c = record {
  sound = search rules;
  leads = leads_first c.args.objects.now c.args.requests.now c.args.log.now c.new-steps.result.items (search rules);
}

pub entries-preserved : goal.entries-preserved
entries-preserved g c = record {
  sound = c.lead_entry.ensures.sound;
  leads = leads_next c.args.objects.now c.args.requests.now c.args.log.now c.entries.k c.entries.steps.items c.lead_entry.new.steps.items c.index-log-k.result
      c.entries-test.true c.index-log-k.is c.entries.invariant.leads (c.in_ok-led.ensures.one c.if-not-led.false);
}

pub returns : goal.returns
returns g c = leads_end c.args.objects.now c.args.requests.now c.args.log.now c.entries.k c.entries.steps.items c.entries-test.false c.entries.invariant.sound
    c.entries.invariant.leads
