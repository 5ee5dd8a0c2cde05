use Rattle.std.proofs.Common.{Some, sym, ap, ◌∙◌}
use Rattle.coded.specs.Holding.{state_in}
use Rattle.coded.proofs.Holdings.{is_none_in}
use Rattle.radixvm_c.proofs.making.open_in.Goals as goal

pub returns : goal.returns
returns c = (
  ap state_in (is_none_in _ (sym c.if-is_open.ensures.value)),
  (_, c.in_ok-held.ensures.ok, ap state_in (c.put.ensures ∙ ap Some c.in-Ok.ensures.ok)),
)
