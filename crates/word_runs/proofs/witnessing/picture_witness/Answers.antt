use Rattle.std.proofs.Common.{ap, refl, Err}
use Rattle.trace_io.specs.Io.{written_to}
use Rattle.word_runs.proofs.WitnessLemmas.{pictured_of, unpictured_of}
use Rattle.word_runs.proofs.witnessing.picture_witness.Goals as goal

pub returns-in-Ok-clause-does : goal.returns-in-Ok-clause-does
returns-in-Ok-clause-does g c = pictured_of _ _ (written_to g.W.Sink c.args.out.now c.draw_witness.new.out) _ c.as_slice.result.now
    (rw c.as_slice.ensures.value c.in-Ok.ensures.text) c.draw_witness.ensures.ends

pub returns-in-Err-clause-does : goal.returns-in-Err-clause-does
returns-in-Err-clause-does g c = unpictured_of _ _ (written_to g.W.Sink c.args.out.now c.args.out.now) _ c.in-Err.fault
    c.in-Err.ensures.kept (λ e. c.in-Err.ensures.read (ap Err e)) (λ e. c.in-Err.ensures.write (ap Err e)) refl c.refuse.ensures.status
