use Rattle.std.proofs.Common.{◌≡◌, ℕ, Option, Some, rules, arith, ap, sym, subst, ◌∙◌}
use Rattle.vm_base.specs.Info.{is_recorded}
use Rattle.vm_base.specs.declared.info.PageInfo.{PageInfo}
use Rattle.vm_base.specs.Pages.{pages_from}
use Rattle.seats.specs.Notes.{SeatView}
use Rattle.live_tree.specs.Held.{HeldView}
use Rattle.live_tree.specs.Shown.{shown}
use Rattle.live_space.specs.Spending.{Spends, UsesCopy}
use Rattle.live_space.proofs.Few.{few_targets}
use Rattle.live_space.proofs.Telling.{posted_as, recorded_others}
use Rattle.live_space.proofs.in_call.InCall.copy.Goals as goal

pub copy_told-requires : goal.copy_told-requires
copy_told-requires g c =
    let room = ap (λ (s : SeatView). s.room) c.tell_others-posted.ensures.step.1 in
    let posted = posted_as c.tell_others-posted.result _ _ c.without-targets.result _ (pages_from c.args.touch.page 1)
    (ap (λ (s : SeatView). s.core) c.tell_others-posted.ensures.step.1) (sym c.page_of_touch-range.ensures) c.tell_others-posted.ensures.posted in
    let told = ap (λ (s : SeatView). s.core) c.tell_others-posted.ensures.step.1 in
    let same = c.core-core.ensures ∙ (sym c.has_room.ensures.goes.grew.same.core ∙ sym told) in
    let page : c.page.result ≡ (shown c.has_room.new.self.held.slots).info c.args.touch.page =
    c.page.ensures ∙ sym (ap (λ (h : HeldView). (shown h.slots).info c.args.touch.page) c.has_room.ensures.held) in
    let others = recorded_others ((shown c.has_room.new.self.held.slots).info c.args.touch.page) c.tell_others-posted.new.seat.core c.core-core.result
    c.recorded_cores.result c.without-targets.result same
    (λ d. c.recorded_cores.ensures.recorded d ∙ ap (λ (o : Option PageInfo). is_recorded o d) page) c.without-targets.ensures in
    (omega arith, (others, (posted, (c.requires, omega (arith, room, c.count_of.ensures, c.if-not-has_room.ensures.room (search rules))))))

pub returns-in-Some-clause-own : goal.returns-in-Some-clause-own
returns-in-Some-clause-own g c =
    subst (λ (h : HeldView). Spends (Some c.args.frames.own) (UsesCopy c.args.frames.own h) c.copy_told.result) c.has_room.ensures.held c.copy_told.ensures.own

pub overflow_mul-most : goal.overflow_mul-most
overflow_mul-most g c = omega (arith, few_targets c.without-targets.result, c.count_of.ensures)

pub overflow_add-most : goal.overflow_add-most
overflow_add-most g c = omega (arith, few_targets c.without-targets.result, c.count_of.ensures)
