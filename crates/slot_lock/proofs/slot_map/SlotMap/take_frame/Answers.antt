use Rattle.slot_lock.proofs.Words.{Option, PageInfo, inl, refl, sym, ◌∙◌, ap, subst, arith}
use Rattle.slot_lock.specs.Slots.{HasMeta, with_info}
use Rattle.vm_base.specs.Info.{info_without_frame}
use Rattle.slot_lock.proofs.Listing.{first_framed, framed_mapped, framed_slot, none_framed}
use Rattle.slot_lock.proofs.slot_map.SlotMap.take_frame.Goals as goal

pub returns-in_err-first-clause-some : goal.returns-in_err-first-clause-some
returns-in_err-first-clause-some g c = rw c.from_residual.ensures tt

pub returns-in_err-first-clause-none : goal.returns-in_err-first-clause-none
returns-in_err-first-clause-none g c =
    let none = none_framed (g.Self.SlotRead.slots c.args.self.now) c.args.from c.list_frames.result c.args.end c.new-list.result.items
    c.list_frames.new.list.items c.deref.result.now _ c.new-list.ensures c.list_frames.ensures.added c.list_frames.ensures.high
    c.list_frames.ensures.full c.deref.ensures.0 c.first.ensures.value (sym c.copied.ensures ∙ c.in_err-first.was {u = tt}) in
    rw c.from_residual.ensures (none, refl)

pub page-requires : goal.page-requires
page-requires g c =
    let s = g.Self.SlotRead.slots c.args.self.now in
    let first = first_framed s c.args.from c.list_frames.result c.args.end c.new-list.result.items c.list_frames.new.list.items c.deref.result.now _
    c.in_ok-first.first c.new-list.ensures c.list_frames.ensures.added c.list_frames.ensures.high c.deref.ensures.0 c.first.ensures.value
    (c.in_ok-first.ensures {u = tt}) in
    g.met.Self.SlotMap.reads_all c.args.self.now c.in_ok-first.first.page
    (omega (arith, c.requires.pages.0, first.low), omega (arith, c.requires.pages.2, first.high))

pub returns-in_err-info-clause-some : goal.returns-in_err-info-clause-some
returns-in_err-info-clause-some g c = rw c.from_residual-in_err-info.ensures tt

pub returns-in_err-info-clause-none : goal.returns-in_err-info-clause-none
returns-in_err-info-clause-none g c =
    let s = g.Self.SlotRead.slots c.args.self.now in
    let first = first_framed s c.args.from c.list_frames.result c.args.end c.new-list.result.items c.list_frames.new.list.items c.deref.result.now _
    c.in_ok-first.first c.new-list.ensures c.list_frames.ensures.added c.list_frames.ensures.high c.deref.ensures.0 c.first.ensures.value
    (c.in_ok-first.ensures {u = tt}) in
    absurd (framed_mapped s c.args.from c.args.end c.in_ok-first.first first (sym c.page.ensures ∙ c.in_err-info.was {u = tt}))

pub set_leaf-requires-clause-valid : goal.set_leaf-requires-clause-valid
set_leaf-requires-clause-valid g c =
    let s = g.Self.SlotRead.slots c.args.self.now in
    let first = first_framed s c.args.from c.list_frames.result c.args.end c.new-list.result.items c.list_frames.new.list.items c.deref.result.now _
    c.in_ok-first.first c.new-list.ensures c.list_frames.ensures.added c.list_frames.ensures.high c.deref.ensures.0 c.first.ensures.value
    (c.in_ok-first.ensures {u = tt}) in
    (omega (arith, c.requires.pages.0, first.low), omega (arith, c.requires.pages.2, first.high))

pub set_leaf-requires-clause-held : goal.set_leaf-requires-clause-held
set_leaf-requires-clause-held g c =
    let s = g.Self.SlotRead.slots c.args.self.now in
    let first = first_framed s c.args.from c.list_frames.result c.args.end c.new-list.result.items c.list_frames.new.list.items c.deref.result.now _
    c.in_ok-first.first c.new-list.ensures c.list_frames.ensures.added c.list_frames.ensures.high c.deref.ensures.0 c.first.ensures.value
    (c.in_ok-first.ensures {u = tt}) in
    inl (c.requires.held.held c.in_ok-first.first.page first.low first.high)

pub set_leaf-requires-clause-alone : goal.set_leaf-requires-clause-alone
set_leaf-requires-clause-alone g c =
    let s = g.Self.SlotRead.slots c.args.self.now in
    let first = first_framed s c.args.from c.list_frames.result c.args.end c.new-list.result.items c.list_frames.new.list.items c.deref.result.now _
    c.in_ok-first.first c.new-list.ensures c.list_frames.ensures.added c.list_frames.ensures.high c.deref.ensures.0 c.first.ensures.value
    (c.in_ok-first.ensures {u = tt}) in
    framed_slot s (g.met.Self.SlotMap.is_slot_map c.args.self.now) c.args.from c.args.end c.in_ok-first.first first

pub set_leaf-requires-clause-meta : goal.set_leaf-requires-clause-meta
set_leaf-requires-clause-meta g c = subst (λ (o : Option PageInfo). HasMeta o c.in_ok-info.info.meta) (c.in_ok-info.ensures {u = tt}) refl

pub returns-clause-some : goal.returns-clause-some
returns-clause-some g c =
    let s = g.Self.SlotRead.slots c.args.self.now in
    let first = first_framed s c.args.from c.list_frames.result c.args.end c.new-list.result.items c.list_frames.new.list.items c.deref.result.now _
    c.in_ok-first.first c.new-list.ensures c.list_frames.ensures.added c.list_frames.ensures.high c.deref.ensures.0 c.first.ensures.value
    (c.in_ok-first.ensures {u = tt}) in
    record {
      low = first.low;
      high = first.high;
      before = first.before;
      had = first.had;
      now = c.set_leaf.ensures
          ∙ ap (λ (o : Option PageInfo). with_info s c.in_ok-first.first.page (info_without_frame o)) (c.in_ok-info.ensures {u = tt});
    }
