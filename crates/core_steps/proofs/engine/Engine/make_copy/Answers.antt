use Rattle.machine_model.proofs.Words.{refl, ap, inl, props, subst, sym, ◌<◌, ◌∙◌, ∥∥₁_elim, frame_of, to}
use Rattle.machine_model.specs.declared.phase.Phase.TheVariants.{Install}
use Rattle.slot_lock.specs.Slots.{HasMeta}
use Rattle.core_steps.specs.State.{world}
use Rattle.core_steps.proofs.rows.Framing.{copied_page, page_frame_used}
use Rattle.core_steps.proofs.rows.Known.{order}
use Rattle.core_steps.proofs.engine.Engine.make_copy.Goals as goal

pub log_detach-requires : goal.log_detach-requires
log_detach-requires g c = c.requires.at.here

pub copy-requires-clause-from : goal.copy-requires-clause-from
copy-requires-clause-from g c =
    ∥∥₁_elim (order c.requires.at) (hlevel props) (λ o. (o.pages c.args.touch.page).frame c.args.shown (ap frame_of c.requires.page ∙ c.requires.shown))

pub copy-requires-clause-to : goal.copy-requires-clause-to
copy-requires-clause-to g c = c.requires.at.taken.here

pub begin-requires-clause-object : goal.begin-requires-clause-object
begin-requires-clause-object g c = c.requires.at.taken.object

pub begin-requires-clause-unused : goal.begin-requires-clause-unused
begin-requires-clause-unused g c = c.requires.at.taken.unused

pub dec-requires-clause-used : goal.dec-requires-clause-used
dec-requires-clause-used g c =
    page_frame_used (world g.M.SlotRead.slots c.args.self.now) c.args.touch.page c.args.frame c.args.shown _ c.requires.at.well
    (ap frame_of c.requires.page ∙ c.requires.shown) c.begin.ensures.step

pub set_leaf-requires-clause-valid : goal.set_leaf-requires-clause-valid
set_leaf-requires-clause-valid g c = c.requires.at.page.valid

pub set_leaf-requires-clause-held : goal.set_leaf-requires-clause-held
set_leaf-requires-clause-held g c = inl c.requires.at.page.held

pub set_leaf-requires-clause-alone : goal.set_leaf-requires-clause-alone
set_leaf-requires-clause-alone g c = c.requires.at.page.alone

pub set_leaf-requires-clause-meta : goal.set_leaf-requires-clause-meta
set_leaf-requires-clause-meta g c = subst (λ o. HasMeta o c.args.info.meta) (sym c.requires.page) refl

pub go_to-requires : goal.go_to-requires
go_to-requires g c = subst (λ n. c.args.core < n) (sym c.in_ok-log_detach.ensures.cores) c.requires.at.here

pub returns-clause-err : goal.returns-clause-err
returns-clause-err g c = tt

pub returns-clause-err_only : goal.returns-clause-err_only
returns-clause-err_only g c = tt

pub returns-clause-ok : goal.returns-clause-ok
returns-clause-ok g c =
    let w = world g.M.SlotRead.slots c.args.self.now in (
      _,
      (_, c.begin.ensures.step, c.dec.ensures.step),
      copied_page w _ c.args.core c.args.touch c.args.frame c.args.shown _ c.args.info c.requires.page
          (c.go_to.ensures ∙ ap (to c.args.core (Install c.args.touch)) (rw (
            c.set_leaf.ensures,
            c.empty-cores.ensures,
            c.in_ok-log_detach.ensures.ok,
            c.in_ok-log_detach.ensures.cores,
            c.in_ok-log_detach.ensures.limit,
            c.copy.ensures.bytes,
            c.copy.ensures.free,
            c.copy.ensures.count,
          ) refl)),
    )
