use Rattle.std.proofs.Common.{false, map, ap, ◌∙◌}
use Rattle.import_log.specs.Each.{part_all}
use Rattle.import_log.specs.Imported.{processes_all}
use Rattle.import_log.specs.Owned.{is_unclear, owned}
use Rattle.import_steps.specs.Taking.{nothing_taken}
use Rattle.import_log.proofs.each.parts_in.Goals as goal

pub returns-in-Ok-clause-value : goal.returns-in-Ok-clause-value
returns-in-Ok-clause-value g c = λ input h.
    c.in-Ok.ensures.value
    ∙ ap (λ l. map (part_all (is_unclear l) nothing_taken (owned l)) (processes_all false (owned l))) h.said
