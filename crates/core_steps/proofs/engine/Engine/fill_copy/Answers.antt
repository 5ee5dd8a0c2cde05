use Rattle.machine_model.proofs.Words.{refl, sym, subst, ap, inr, ◌<◌, ◌∙◌, IfSome, after_first_copy, to}
use Rattle.machine_model.specs.declared.event.Outcome.TheVariants.{Stepped}
use Rattle.machine_model.specs.declared.phase.Phase.TheVariants.{Install}
use Rattle.machine_model.specs.Filling.{FillsOwn}
use Rattle.core_steps.specs.Moving.{IsTaken}
use Rattle.core_steps.specs.State.{world}
use Rattle.core_steps.proofs.rows.Framing.{cached_below, fill_within, first_copied, filled_bytes}
use Rattle.core_steps.proofs.engine.Engine.fill_copy.Goals as goal

pub fill-requires-clause-page : goal.fill-requires-clause-page
fill-requires-clause-page g c =
    fill_within (world g.M.SlotRead.slots c.args.self.now) c.args.core c.args.touch c.args.frame c.args.file c.args.page c.requires.at (inr c.requires.backed)

pub fill-requires-clause-cached : goal.fill-requires-clause-cached
fill-requires-clause-cached g c = cached_below (world g.M.SlotRead.slots c.args.self.now) c.requires.at.well c.args.file c.args.page

pub log_detach-requires : goal.log_detach-requires
log_detach-requires g c = c.requires.at.here

pub fill-requires-clause-frame : goal.fill-requires-clause-frame
fill-requires-clause-frame g c = (subst (λ o. IfSome o (IsTaken (world g.M.SlotRead.slots c.args.self.now))) c.in-Some.is c.requires.at.taken).here

pub begin-requires-clause-object : goal.begin-requires-clause-object
begin-requires-clause-object g c = (subst (λ o. IfSome o (IsTaken (world g.M.SlotRead.slots c.args.self.now))) c.in-Some.is c.requires.at.taken).object

pub begin-requires-clause-unused : goal.begin-requires-clause-unused
begin-requires-clause-unused g c = (subst (λ o. IfSome o (IsTaken (world g.M.SlotRead.slots c.args.self.now))) c.in-Some.is c.requires.at.taken).unused

pub set_frame-requires : goal.set_frame-requires
set_frame-requires g c = c.requires.at.page

pub go_to-requires : goal.go_to-requires
go_to-requires g c = subst (λ n. c.args.core < n) (sym c.in_ok-log_detach.ensures.cores) c.requires.at.here

pub returns : goal.returns
returns g c =
    let w = world g.M.SlotRead.slots c.args.self.now in
    let v = world g.M.SlotRead.slots c.go_to.new.self in
    subst (λ o. FillsOwn w (λ f counts. after_first_copy c.args.core c.args.touch f counts w) o Stepped v) (sym c.in-Some.is)
    (first_copied w _ c.args.core c.args.touch c.in-Some.frame c.args.file c.args.page _ c.requires.backed c.begin.ensures.step
    (c.go_to.ensures ∙ ap (to c.args.core (Install c.args.touch)) (rw (
      c.set_frame.ensures,
      c.in_ok-log_detach.ensures.ok,
      c.in_ok-log_detach.ensures.cores,
      c.in_ok-log_detach.ensures.limit,
      filled_bytes w.memory c.args.file c.args.page c.in-Some.frame _ _
          (fill_within w c.args.core c.args.touch c.args.frame c.args.file c.args.page c.requires.at (inr c.requires.backed)) c.fill.ensures.bytes,
      c.fill.ensures.free,
      c.fill.ensures.count,
    ) refl)))
