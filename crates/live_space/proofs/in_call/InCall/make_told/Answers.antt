use Rattle.std.proofs.Common.{◌≡◌, ℕ, refl, rules, arith, ap, sym, subst, ◌∙◌}
use Rattle.vm_base.specs.Cores.{with_member}
use Rattle.vm_base.specs.declared.page.PageRange.{PageRange}
use Rattle.live_tree.specs.Held.{HeldView}
use Rattle.live_tree.specs.Shown.{shown}
use Rattle.seats.specs.Notes.{SeatView}
use Rattle.slot_lock.specs.Plan.{range_of}
use Rattle.live_tree.specs.Deciding.{Loses}
use Rattle.live_space.specs.Changing.{Made}
use Rattle.live_space.proofs.Few.{few_targets}
use Rattle.live_space.proofs.Lost.{others_kept}
use Rattle.live_space.proofs.Telling.{posted_as}
use Rattle.seats.proofs.Growing.{grew_steps, grew_trans}
use Rattle.live_space.proofs.Noted.{goes_before, goes_trans, grew_once}
use Rattle.live_space.proofs.in_call.InCall.make_told.Goals as goal

pub returns-in-Some-of-clause-goes : goal.returns-in-Some-of-clause-goes
returns-in-Some-of-clause-goes g c = goes_trans _ _ _ c.has_room.ensures.goes (goes_before _ _ _ c.take_and_commit.ensures.goes refl
    (grew_trans _ _ _ (grew_steps _ _ _ c.step-decided.ensures) (grew_once _ _ c.tell_others-posted.ensures.step)))

pub returns-in-Some-of-clause-made : goal.returns-in-Some-of-clause-made
returns-in-Some-of-clause-made g c = λ t.
    subst (λ (h : HeldView). Made c.args.change h c.take_and_commit.new.self.seat.now c.take_and_commit.new.self.held) c.has_room.ensures.held
    (c.take_and_commit.ensures.made t)

pub take_and_commit-requires : goal.take_and_commit-requires
take_and_commit-requires g c =
    let told = ap (λ (s : SeatView). s.core) c.tell_others-posted.ensures.step.1 in
    let decided = ap (λ (s : SeatView). s.core) c.step-decided.ensures in
    let own = c.in-Some.ensures.own ∙ (c.core-core.ensures ∙ (sym decided ∙ sym told)) in
    let posted = posted_as c.tell_others-posted.result _ _ c.args.targets _ (range_of c.args.change) told (sym c.range-in-Some-of.ensures)
    c.tell_others-posted.ensures.posted in
    let others = others_kept _ _ (range_of c.args.change) _ _ c.args.targets c.has_room.ensures.held
    (told ∙ (decided ∙ c.has_room.ensures.goes.grew.same.core)) c.requires.others in
    let lost = subst (λ (h : HeldView). Loses (shown h.slots) c.args.change c.in-Some.counting.lost.items) (sym c.has_room.ensures.held)
    (subst (Loses (shown c.args.self.now.held.slots) c.args.change) (sym c.in-Some.ensures.lost) c.requires.lost) in
    let room_one = ap (λ (s : SeatView). s.room) c.step-decided.ensures in
    let room_two = ap (λ (s : SeatView). s.room) c.tell_others-posted.ensures.step.1 in (
      omega arith,
      (
        omega arith,
        (
          own,
          (
            posted,
            (
              search rules,
              (
                others,
                (
                  lost,
                  omega (arith, room_one, room_two, few_targets c.args.targets, c.count_of.ensures, c.if-not-has_room.ensures.room (search rules)),
                ),
              ),
            ),
          ),
        ),
      ),
    )

pub overflow_mul-most : goal.overflow_mul-most
overflow_mul-most g c = omega (arith, few_targets c.args.targets, c.count_of.ensures)

pub overflow_add-most : goal.overflow_add-most
overflow_add-most g c = omega (arith, few_targets c.args.targets, c.count_of.ensures)

pub tell_others-posted-requires : goal.tell_others-posted-requires
tell_others-posted-requires g c =
    let step = ap (λ (s : SeatView). s.room) c.step-decided.ensures in
    let core : c.core-core.result ≡ c.step-decided.new.self.core = c.core-core.ensures ∙ sym (ap (λ (s : SeatView). s.core) c.step-decided.ensures) in
    let range : c.range.result ≡ c.range-in-Some-of.result = c.range.ensures ∙ sym c.range-in-Some-of.ensures in (
      omega arith,
      (
        omega (arith, step, c.if-not-has_room.ensures.room (search rules)),
        subst (λ (r : PageRange). c.in-Some-of.telling ≡ record {
          core = c.step-decided.new.self.core;
          set = with_member c.args.targets c.step-decided.new.self.core;
          range = r;
        }) range
            (subst (λ (n : ℕ). c.in-Some-of.telling ≡ record { core = n; set = with_member c.args.targets n; range = c.range.result }) core
            c.in-Some-of.ensures),
      ),
    )
