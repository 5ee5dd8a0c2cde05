use Rattle.machine_model.proofs.Words.{subst, IfSome}
use Rattle.std.specs.Prelude.{◌<◌, ◌≡◌, false}
use Rattle.frames.specs.Parts.{free_frames}
use Rattle.core_steps.proofs.rows.filling.give_back.Goals as goal

pub give-requires-clause-taken : goal.give-requires-clause-taken
give-requires-clause-taken g c =
    (subst (λ o. IfSome o (λ f. (f < c.args.frames.now.count) × (free_frames c.args.frames.now f ≡ false))) c.in-Some.is c.requires).1

pub give-requires-clause-in_range : goal.give-requires-clause-in_range
give-requires-clause-in_range g c =
    (subst (λ o. IfSome o (λ f. (f < c.args.frames.now.count) × (free_frames c.args.frames.now f ≡ false))) c.in-Some.is c.requires).0
