use Rattle.machine_model.proofs.Words.{refl, ap, ◌∙◌, to}
use Rattle.machine_model.specs.declared.phase.Phase.TheVariants.{Install}
use Rattle.core_steps.specs.State.{world}
use Rattle.core_steps.proofs.rows.Framing.{cached_anew, fill_within, filled_bytes}
use Rattle.core_steps.proofs.engine.Engine.cache.Goals as goal

pub fill-requires-clause-page : goal.fill-requires-clause-page
fill-requires-clause-page g c =
    fill_within (world g.M.SlotRead.slots c.args.self.now) c.args.core c.args.touch _ c.args.file c.args.page c.requires.at c.requires.backed

pub set_cached-requires-clause-page : goal.set_cached-requires-clause-page
set_cached-requires-clause-page g c =
    fill_within (world g.M.SlotRead.slots c.args.self.now) c.args.core c.args.touch _ c.args.file c.args.page c.requires.at c.requires.backed

pub returns : goal.returns
returns g c =
    let w = world g.M.SlotRead.slots c.args.self.now in
    let there = fill_within w c.args.core c.args.touch _ c.args.file c.args.page c.requires.at c.requires.backed in
    cached_anew w _ c.args.core c.args.touch c.args.frame c.args.file c.args.page _ c.requires.backed c.begin.ensures.step
    (c.go_to.ensures ∙ ap (to c.args.core (Install c.args.touch)) (rw (
      c.set_frame.ensures,
      c.set_cached.ensures.files,
      c.set_cached.ensures.cached,
      filled_bytes w.memory c.args.file c.args.page c.args.frame _ _ there c.fill.ensures.bytes,
      c.fill.ensures.free,
      c.fill.ensures.count,
    ) refl))
