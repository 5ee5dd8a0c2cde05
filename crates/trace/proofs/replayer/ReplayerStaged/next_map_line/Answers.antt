use Rattle.std.proofs.Common.{option_map, subst, sym, IfSome}
use Rattle.core_steps.specs.Machine.{state}
use Rattle.trace.specs.Shown.{IsNextAt}
use Rattle.trace.specs.Stage.{stage_of}
use Rattle.trace.proofs.MapsLemmas.{next_at}
use Rattle.trace.proofs.replayer.ReplayerStaged.next_map_line.Goals as goal

pub returns-in-Some-clause-some : goal.returns-in-Some-clause-some
returns-in-Some-clause-some g c =
    subst (λ m. IfSome c.next_map_line.result (IsNextAt (stage_of c.args.self.now.limit c.args.self.now.declaration (option_map state m)) c.args.from))
    (sym c.in-Some.is)
    (next_at _ c.next_map_line.ensures.legal c.args.from c.next_map_line.result c.next_map_line.ensures.some)
