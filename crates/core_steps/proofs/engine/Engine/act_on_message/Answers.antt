use Rattle.machine_model.proofs.Words.{refl, sym, ap, ◌∙◌, tables_cleared, tlb_invalidated}
use Rattle.core_steps.specs.State.{world}
use Rattle.core_steps.proofs.rows.Known.{message_pages}
use Rattle.core_steps.proofs.rows.Rows.{none_left}
use Rattle.core_steps.proofs.engine.Engine.act_on_message.Goals as goal

pub clear_tables-requires-clause-pages : goal.clear_tables-requires-clause-pages
clear_tables-requires-clause-pages g c = message_pages (world g.M.SlotRead.slots c.args.self.now) c.args.core c.requires.well _ c.in-Clear.ensures.took

pub returns-in-Clear-clause-acts : goal.returns-in-Clear-clause-acts
returns-in-Clear-clause-acts g c = (
  refl,
  ap (λ h. record (world g.M.SlotRead.slots c.args.self.now) { hardware = h })
      (c.clear_tables.ensures.after ∙ ap (λ h. tables_cleared h c.args.core c.in-Clear.range) c.take.ensures.after),
)

pub returns-in-Invalidate-clause-acts : goal.returns-in-Invalidate-clause-acts
returns-in-Invalidate-clause-acts g c = (
  refl,
  ap (λ h. record (world g.M.SlotRead.slots c.args.self.now) { hardware = h })
      (c.invalidate.ensures.after ∙ ap (λ h. tlb_invalidated h c.args.core c.in-Invalidate.range) c.take.ensures.after),
)

pub returns-in-Idle-clause-acts : goal.returns-in-Idle-clause-acts
returns-in-Idle-clause-acts g c =
    (refl, rw (c.take.ensures.after, none_left (world g.M.SlotRead.slots c.args.self.now).hardware c.args.core (sym c.in-Idle.ensures.took)) refl)
