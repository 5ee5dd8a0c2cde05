use Rattle.machine_model.proofs.Words.{ap, refl, Slots}
use Rattle.core_steps.specs.State.{world}
use Rattle.core_steps.proofs.at_once.AtOnce.{stands}
use Rattle.core_steps.proofs.at_once.FaultAtOnce.{can_try, tries}
use Rattle.core_steps.proofs.engine.Engine.try_page.Goals as goal

pub try_touch-requires : goal.try_touch-requires
try_touch-requires g c =
    can_try _ c.args.core c.args.touch _ _ (stands (world g.M.SlotRead.slots c.args.self.now) c.args.core _ c.requires.here c.requires.reached)

pub returns : goal.returns
returns g c =
    let w = world g.M.SlotRead.slots c.args.self.now in
    record {
      steps = (_, refl, tries w _ c.args.core c.args.touch c.requires.room c.requires.here c.try_touch.ensures.tried);
      cores = c.try_touch.ensures.cores;
      phases = c.try_touch.ensures.phases;
      events = c.try_touch.ensures.events;
      edges = ap (λ (s : Slots). s.edge) c.try_touch.ensures.slots;
    }
