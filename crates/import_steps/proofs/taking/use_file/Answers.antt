use Rattle.std.proofs.Common.{rules, map, ap, ◌∙◌}
use Rattle.import_steps.specs.Taking.{place_named, use_of}
use Rattle.import_steps.proofs.TakingLemmas.{files_set}
use Rattle.import_steps.proofs.taking.use_file.Goals as goal

pub returns-clause-files : goal.returns-clause-files
returns-clause-files c =
    files_set c.args.files.now.items c.place_named-place.result c.args.name.now c.args.reach c.index_mut.result.now c.widen.new.file
    (c.place_named-place.ensures.value ∙ ap (λ l. place_named c.args.name.now (map use_of l)) c.as_slice.ensures.value)
    (search rules) (search rules) (search rules) c.widen.ensures
