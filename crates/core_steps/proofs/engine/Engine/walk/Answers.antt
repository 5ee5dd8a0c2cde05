use Rattle.std.proofs.Common.{refl, sym, ◌∙◌}
use Rattle.core_steps.specs.State.{world}
use Rattle.core_steps.proofs.rows.Known.{no_page_entry}
use Rattle.core_steps.proofs.rows.Rows.{no_entry, not_walked, walk_none}
use Rattle.core_steps.proofs.engine.Engine.walk.Goals as goal
use Rattle.core_steps.proofs.engine.Engine.walk.Goals.{else-is_valid-via-then-is_valid+else-walk, else-is_valid-via-else-is_valid}

pub returns : goal.returns
returns g c = elim c.else-is_valid.branch [
  | else-is_valid-via-then-is_valid+else-walk w ↦
      let none = sym w.walk.ensures.value ∙ w.if-walk.false in
      not_walked (world g.M.SlotRead.slots c.args.self.now) _ c.args.core c.args.page none
      (rw (w.self-is, w.walk.ensures.after, walk_none (world g.M.SlotRead.slots c.args.self.now).hardware c.args.core c.args.page none) refl)
  | else-is_valid-via-else-is_valid w ↦
      not_walked (world g.M.SlotRead.slots c.args.self.now) _ c.args.core c.args.page
      (no_entry (world g.M.SlotRead.slots c.args.self.now).hardware c.args.core c.args.page
      (no_page_entry (world g.M.SlotRead.slots c.args.self.now) c.args.core c.args.page c.requires.well (sym c.is_valid.ensures ∙ w.if-is_valid.false)))
      (rw w.self-is refl)
]
