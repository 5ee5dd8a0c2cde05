use Rattle.machine_model.specs.Holding.{taken_in}
use Rattle.state_text.specs.Texts.{call_text, holds_text, took_text}
use Rattle.state_text.specs.Words.{held_spot}
use Rattle.state_seen.proofs.Lines.{three}
use Rattle.state_text.proofs.texts.put_work.Goals as goal

pub returns : goal.returns
returns c =
    three c.args.out.now.items c.put_call.new.out.items c.put_holds.new.out.items c.put_took.new.out.items
    (call_text c.args.form c.args.core c.args.phase.now) (holds_text c.args.form c.args.core (held_spot c.args.phase.now)) (took_text c.args.form c.args.core (taken_in c.args.phase.now))
    c.in_ok-put_call.ensures (rw c.held_spot-spot.ensures at c.in_ok-put_holds.ensures) (rw c.taken_in-frame.ensures at c.in_ok-put_took.ensures)
