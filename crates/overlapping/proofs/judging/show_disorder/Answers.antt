use Rattle.std.proofs.Common.{refl, subst}
use Rattle.overlapping.specs.Waiting.{NoneWaits}
use Rattle.overlapping.proofs.RuleLemmas.{disorder_there}
use Rattle.overlapping.proofs.judging.show_disorder.Goals as goal

pub returns-in_ok-shown-in-None : goal.returns-in_ok-shown-in-None
returns-in_ok-shown-in-None g c =
    disorder_there c.args.history.now c.args.any_place c.as_slice-files.result.now c.as_slice-calls.result.now c.in_ok-shown-in-None.shown
    (subst NoneWaits c.as_slice.ensures.value c.in-None.ensures) c.as_slice-files.ensures.value c.as_slice-calls.ensures.value c.in_ok-shown-in-None.ensures
