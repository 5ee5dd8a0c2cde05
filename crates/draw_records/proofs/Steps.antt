-- What is recorded of a step, from what was looked at
use Rattle.std.proofs.Common.{◌≡◌, ℕ, List, ap, ◌∙◌}
use Rattle.machine_model.specs.World.{World}
use Rattle.machine_model.specs.declared.event.Event.{Event}
use Rattle.machine_model.specs.declared.event.Outcome.{Outcome}
use Rattle.draw_records.specs.Looking.{came, looked, recorded}
use Rattle.draw_records.specs.Recording.{Recording, advanced}
use Rattle.draw_records.specs.declared.looking.Before.{Before}

pub step_recorded : (r mid other : Recording) (before : Before) (told : List ℕ) (cores : ℕ) (w v : World) (e : Event) (o : Outcome) → told ≡ r.told
    → before ≡ looked told w e → cores ≡ v.made.cores → mid ≡ advanced r cores → other ≡ came mid before e o v → other ≡ recorded r w e o v
step_recorded r mid other before told cores w v e o same saw all next is =
    is ∙ (ap (λ m. came m before e o v) (next ∙ ap (advanced r) all) ∙ ap (λ b. came (advanced r v.made.cores) b e o v) (saw ∙ ap (λ t. looked t w e) same))
