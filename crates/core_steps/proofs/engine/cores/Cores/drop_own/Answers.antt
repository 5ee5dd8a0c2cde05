use Rattle.machine_model.proofs.Words.{ap, ◌∙◌, tlb_invalidated}
use Rattle.core_steps.proofs.engine.cores.Cores.drop_own.Goals as goal

pub returns-clause-after : goal.returns-clause-after
returns-clause-after g c = c.invalidate.ensures.after ∙ ap (λ h. tlb_invalidated h c.args.core c.args.range) c.clear_tables.ensures.after
