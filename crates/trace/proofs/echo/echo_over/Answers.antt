use Rattle.std.proofs.Common.{ap, sym, ◌∙◌}
use Rattle.trace.specs.Asking.{nothing_asked}
use Rattle.trace.specs.declared.asking.Asks.{Asks}
use Rattle.trace.proofs.echo.echo_over.Goals as goal

pub echo_lines-requires-clause-keeps : goal.echo_lines-requires-clause-keeps
echo_lines-requires-clause-keeps g c = c.requires.keeps ∙ sym (ap (λ (a : Asks). a.is_wanted) c.new-asks.ensures)

pub echo_lines-requires-clause-none : goal.echo_lines-requires-clause-none
echo_lines-requires-clause-none g c = c.new-asks.ensures ∙ ap nothing_asked (sym (ap (λ (a : Asks). a.is_wanted) c.new-asks.ensures))

pub returns-clause-ends : goal.returns-clause-ends
returns-clause-ends g c =
    rw (ap (λ (a : Asks). a.is_wanted) c.new-asks.ensures) at (c.echo_lines.ensures.ends c.args.limit c.within-replayer.ensures.stage)
