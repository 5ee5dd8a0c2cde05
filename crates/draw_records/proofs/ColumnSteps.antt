-- What is recorded of a step, from its parts
use Rattle.std.proofs.Common.{◌≡◌, ℕ, List, ap, ◌∙◌}
use Rattle.machine_model.specs.World.{World}
use Rattle.machine_model.specs.declared.event.Event.{Event}
use Rattle.machine_model.specs.declared.event.Outcome.{Outcome}
use Rattle.draw_records.specs.Looking.{looked}
use Rattle.draw_records.specs.declared.looking.Before.{Before}
use Rattle.draw_records.specs.Columns.{Columned, column_begun, columned, line_begun, noted, step_ended}

pub step_columned : (r a b n other : Columned) (before : Before) (told : List ℕ) (cores : ℕ) (w v : World) (e : Event) (o : Outcome)
    → told ≡ r.recording.told → before ≡ looked told w e → cores ≡ v.made.cores → a ≡ line_begun r → b ≡ column_begun a e cores
    → n ≡ noted b before e o v → other ≡ step_ended n e o → other ≡ columned r w e o v
step_columned r a b n other before told cores w v e o same saw all line column note is =
    let begun = column ∙ (ap (λ x. column_begun x e cores) line ∙ ap (λ k. column_begun (line_begun r) e k) all) in
    is ∙ ap (λ x. step_ended x e o) (note ∙ (ap (λ x. noted x before e o v) begun
    ∙ ap (λ x. noted (column_begun (line_begun r) e v.made.cores) x e o v) (saw ∙ ap (λ t. looked t w e) same)))
