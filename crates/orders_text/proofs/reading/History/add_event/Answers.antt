use Rattle.std.proofs.Common.{sym, ◌∙◌}
use Rattle.orders_text.specs.Steps.{read_of}
use Rattle.orders_text.proofs.EventLemmas.{event_err, event_late, event_ok}
use Rattle.orders_text.proofs.reading.History.add_event.Goals as goal

pub returns-then-not-may_event-clause-err : goal.returns-then-not-may_event-clause-err
returns-then-not-may_event-clause-err g c =
    event_late c.args.number (read_of c.args.self.now) c.args.said.now c.if-not-self.false
    (sym c.may_event.ensures ∙ c.if-not-may_event.true)

pub returns-clause-ok : goal.returns-clause-ok
returns-clause-ok g c =
    event_ok c.take.result c.args.number (read_of c.args.self.now) (read_of c.take.new.self) c.args.said.now c.if-not-self.false
    (sym c.may_event.ensures ∙ c.if-not-may_event.false) c.take.ensures.ok

pub returns-clause-err : goal.returns-clause-err
returns-clause-err g c =
    event_err c.take.result c.args.number (read_of c.args.self.now) c.args.said.now c.if-not-self.false c.take.ensures.err
