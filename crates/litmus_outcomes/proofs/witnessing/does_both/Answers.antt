use Rattle.std.proofs.Common.{subst, sym}
use Rattle.core_steps.specs.Machine.{state}
use Rattle.litmus_outcomes.specs.Outcomes.{HasMaps}
use Rattle.litmus_outcomes.proofs.witnessing.does_both.Goals as goal

pub returns : goal.returns
returns g c = λ e. (
  state c.does.new.machine,
  rw (sym c.as_slice-replies.ensures.value) (rw (sym c.as_slice-first.ensures.value) (c.in_ok-performs.ensures c.if-not-performs.false)),
  rw (sym c.as_slice-finals.ensures.value) (rw (sym c.as_slice-later.ensures.value) (c.in_ok-shows.ensures c.if-not-shows.false)),
  subst (HasMaps c.args.maps (state c.does-2.new.machine)) c.as_slice-lines.ensures.value (c.in_ok-mapped.ensures e),
)
