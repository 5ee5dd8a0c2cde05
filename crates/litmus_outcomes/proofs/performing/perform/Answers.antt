use Rattle.std.proofs.Common.{◌∙◌, ap, rules}
use Rattle.litmus_outcomes.proofs.Dues.{all_due}
use Rattle.litmus_outcomes.specs.Dues.{dues_said}
use Rattle.litmus_outcomes.proofs.performing.perform.Goals as goal

pub returns : goal.returns
returns g c = λ e. record {
  each = search rules;
  says = λ core. c.say-yes.ensures e core ∙ (ap (dues_said core) c.in_ok-dues.ensures ∙ all_due core c.args.calls.now c.args.replies.now);
}
