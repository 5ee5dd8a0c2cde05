use Rattle.core_steps.specs.Machine.{state}
use Rattle.trace_words.specs.Declarations.{made_by}
use Rattle.litmus_outcomes.proofs.Assembled.{witnessed}
use Rattle.litmus_outcomes.proofs.witnessing.is_witness.Goals as goal

pub returns-in-Ok-does_both : goal.returns-in-Ok-does_both
returns-in-Ok-does_both g c = λ e t leads. witnessed (made_by c.args.declared.now) c.args.opening.now (state c.args.first.now) (state c.in-Ok.done.machine) _
    c.args.calls.now c.args.loads.now c.args.maps c.args.end.now.replies.items c.args.end.now.finals.items c.args.end.now.maps.items
    c.args.tried.now.calls.items c.args.tried.now.loads.items
    c.requires.first c.in-Ok.ensures (c.are_alike.ensures c.if-not-are_alike.false) (c.in-Ok-does_both.ensures e) t leads
