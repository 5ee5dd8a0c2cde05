use Rattle.litmus_text.specs.Scripts.{calls_of}
use Rattle.litmus_text.proofs.PlaceLemmas.{cores_more}
use Rattle.litmus_text.proofs.places.by_core.Goals as goal

pub cores-preserved : goal.cores-preserved
cores-preserved g c = cores_more (calls_of c.args.calls.now) c.cores.core _ _ c.cores.invariant c.in_ok-add_calls.ensures
