use Rattle.std.proofs.Common.{ap, is_some, ◌∙◌}
use Rattle.orders_text.specs.Steps.{read_of}
use Rattle.orders_text.proofs.EventLemmas.{passes_bad, passes_ok, still_bad, still_ok}
use Rattle.orders_text.proofs.reading.History.take.Goals as goal

pub returns-in-StillWaits-clause-ok : goal.returns-in-StillWaits-clause-ok
returns-in-StillWaits-clause-ok g c = rw c.in-StillWaits.is
    (still_ok c.pass.result c.is_some-may.result c.args.number (read_of c.args.self.now) (read_of c.pass.new.self) _
    (c.is_some-may.ensures ∙ ap is_some c.begun.ensures) c.pass.ensures.ok)

pub returns-in-StillWaits-clause-err : goal.returns-in-StillWaits-clause-err
returns-in-StillWaits-clause-err g c = rw c.in-StillWaits.is
    (still_bad c.pass.result c.is_some-may.result c.args.number (read_of c.args.self.now) _
    (c.is_some-may.ensures ∙ ap is_some c.begun.ensures) c.pass.ensures.err)

pub returns-in-Passes-clause-ok : goal.returns-in-Passes-clause-ok
returns-in-Passes-clause-ok g c = rw c.in-Passes.is
    (passes_ok c.pass-in-Passes.result c.args.number (read_of c.args.self.now) (read_of c.pass-in-Passes.new.self) c.pass-in-Passes.ensures.ok)

pub returns-in-Passes-clause-err : goal.returns-in-Passes-clause-err
returns-in-Passes-clause-err g c = rw c.in-Passes.is
    (passes_bad c.pass-in-Passes.result c.args.number (read_of c.args.self.now) c.pass-in-Passes.ensures.err)
