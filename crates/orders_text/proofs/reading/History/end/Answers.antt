use Rattle.std.proofs.Common.{arith, sym, ◌∙◌}
use Rattle.orders_text.specs.Steps.{read_of}
use Rattle.orders_text.proofs.EventLemmas.{ends_bad, ends_ok}
use Rattle.orders_text.proofs.reading.History.end.Goals as goal

pub returns-in_default-clause-err : goal.returns-in_default-clause-err
returns-in_default-clause-err g c = grind (arith, ends_bad)

pub returns-clause-ok : goal.returns-clause-ok
returns-clause-ok g c =
    ends_ok c.args.number (read_of c.args.self.now) (read_of c.put.new.self) (read_of c.push_call.new.self) c.args.core c.args.reply
    c.in-Some.waits c.in-Some-between.timed (sym c.begun.ensures ∙ c.in-Some.is) c.in-Some-between.ensures c.put.ensures.read
    c.in-Ok.ensures.ok
