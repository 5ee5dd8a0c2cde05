use Rattle.machine_model.proofs.Words.{PageInfo, Some, ap, arith, event_limit, file_frame, inr, length, subst, sym, translation_of, World, ◌+◌, ◌<◌, ◌∙◌}
use Rattle.slot_lock.specs.Slots.{HasMeta}
use Rattle.core_steps.specs.OnePage.{CanTake, HasRoom, cached_from}
use Rattle.core_steps.specs.State.{world}
use Rattle.core_steps.proofs.at_once.AtOnce.{passes_reached, stands}
use Rattle.core_steps.proofs.at_once.FaultAtOnce.{can_take, ends, gets, reads_backing}
use Rattle.core_steps.proofs.engine.Engine.show_at_once.Goals as goal

pub cached_from-requires : goal.cached_from-requires
cached_from-requires g c = reads_backing c.args.touch.access _ _ _ c.args.source c.requires.source

pub show_with-requires-clause-here : goal.show_with-requires-clause-here
show_with-requires-clause-here g c = c.requires.fault.here

pub show_with-requires-clause-held : goal.show_with-requires-clause-held
show_with-requires-clause-held g c = inr c.requires.fault.alone.free

pub show_with-requires-clause-alone : goal.show_with-requires-clause-alone
show_with-requires-clause-alone g c = c.requires.fault.alone.slot

pub show_with-requires-clause-meta : goal.show_with-requires-clause-meta
show_with-requires-clause-meta g c =
    subst (λ o. HasMeta o c.shown-shown.result.meta) (sym c.requires.info) (ap (λ (i : PageInfo). i.meta) (sym c.shown-shown.ensures))

pub show_with-requires-clause-page : goal.show_with-requires-clause-page
show_with-requires-clause-page g c =
    (stands (world g.M.SlotRead.slots c.args.self.now) c.args.core _ c.requires.fault.here c.requires.fault.reached).goal.plan.page

pub take_from-requires-clause-here : goal.take_from-requires-clause-here
take_from-requires-clause-here g c = subst (λ calls. c.args.core < length calls.phases.items) (sym c.in-Ok.ensures.calls) c.requires.fault.here

pub take_from-requires-clause-room : goal.take_from-requires-clause-room
take_from-requires-clause-room g c =
    subst (λ calls. HasRoom c.args.source (g.L.Ledger.limit calls.ledger) (g.L.Ledger.fits calls.ledger)) (sym c.in-Ok.ensures.calls) c.requires.log

pub take_from-requires-clause-events : goal.take_from-requires-clause-events
take_from-requires-clause-events g c =
    let room = c.requires.fault.room in subst (λ calls. calls.events + 5 < event_limit) (sym c.in-Ok.ensures.calls) (omega (arith, room))

pub take_from-requires-clause-page : goal.take_from-requires-clause-page
take_from-requires-clause-page g c =
    (stands (world g.M.SlotRead.slots c.args.self.now) c.args.core _ c.requires.fault.here c.requires.fault.reached).goal.plan.page

pub take_from-requires-clause-can : goal.take_from-requires-clause-can
take_from-requires-clause-can g c =
    subst (λ (x : World). CanTake x c.args.core c.args.source) (sym c.in-Ok.ensures.ok)
    (can_take (world g.M.SlotRead.slots c.args.self.now) c.args.core c.args.touch c.requires.fault c.args.info c.requires.info c.args.source c.requires.source)

pub try_page-requires-clause-reached : goal.try_page-requires-clause-reached
try_page-requires-clause-reached g c =
    let w = world g.M.SlotRead.slots c.args.self.now in
    rw c.steps.ensures.value (passes_reached (gets w c.args.core c.args.touch c.requires.fault c.args.info c.requires.info c.args.source c.requires.source
    c.requires.untold _ (world g.M.SlotRead.slots c.take_from.new.self) _
    (rw (c.frame-frame.ensures, c.shown-shown.ensures) at (ap (λ p. Some (translation_of c.frame-frame.result p))
    (c.prot_with-prot.ensures (cached_from w.memory.cached c.args.source)
    (ap (λ (i : PageInfo). file_frame (cached_from w.memory.cached c.args.source) i.meta.back) c.shown-shown.ensures ∙ sym c.cached_from.ensures))))
    (rw (c.frame-frame.ensures, c.shown-shown.ensures) at c.in-Ok.ensures.ok) c.take_from.ensures) c.requires.fault.reached)

pub returns : goal.returns
returns g c =
    let w = world g.M.SlotRead.slots c.args.self.now in
    ends w c.args.core c.args.touch c.requires.fault c.args.info c.requires.info c.args.source c.requires.source
    c.requires.untold _ (world g.M.SlotRead.slots c.take_from.new.self) _
    (rw (c.frame-frame.ensures, c.shown-shown.ensures) at (ap (λ p. Some (translation_of c.frame-frame.result p))
    (c.prot_with-prot.ensures (cached_from w.memory.cached c.args.source)
    (ap (λ (i : PageInfo). file_frame (cached_from w.memory.cached c.args.source) i.meta.back) c.shown-shown.ensures ∙ sym c.cached_from.ensures))))
    (rw (c.frame-frame.ensures, c.shown-shown.ensures) at c.in-Ok.ensures.ok) c.take_from.ensures c.try_page.result _
    (rw c.steps.ensures.value at c.try_page.ensures)
