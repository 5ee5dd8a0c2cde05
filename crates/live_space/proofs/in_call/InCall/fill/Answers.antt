use Rattle.std.proofs.Common.{◌∙◌, ap, refl, subst}
use Rattle.live_tree.specs.Held.{HeldView}
use Rattle.seats.specs.Notes.{SeatView}
use Rattle.live_space.specs.Faulting.{GetsFrame, GivesUpOr}
use Rattle.live_space.specs.Spending.{UsesFrame}
use Rattle.live_space.proofs.Faulted.{got_frame}
use Rattle.live_space.proofs.Noted.{goes_then, goes_trans, one_with}
use Rattle.live_space.proofs.Spent.{used_frame, was_used}
use Rattle.live_space.proofs.in_call.InCall.fill.Goals as goal

pub returns-in-Some-clause-goes : goal.returns-in-Some-clause-goes
returns-in-Some-clause-goes g c = goes_trans _ _ _ (goes_then _ _ _ c.has_room.ensures.goes refl (one_with _ _ _ _ _ c.in-Some.ensures.some).grew)
    c.install.ensures.goes

pub returns-in-Some-clause-page : goal.returns-in-Some-clause-page
returns-in-Some-clause-page g c =
    let w = c.in-Some.ensures.some in
    let same = ap (λ (s : SeatView). s.core) w.step ∙ c.has_room.ensures.goes.grew.same.core in
    subst (λ (h : HeldView). GivesUpOr (GetsFrame c.args.self.now.seat.now.core h) c.install.result c.install.new.self.held) c.has_room.ensures.held
    (subst (λ n. GivesUpOr (GetsFrame n c.has_room.new.self.held) c.install.result c.install.new.self.held) same
    (got_frame c.in-Some.field-0 _ _ _ _ _ _ c.install.result w c.install.ensures.page))

pub returns-in-Some-clause-own : goal.returns-in-Some-clause-own
returns-in-Some-clause-own g c =
    let used : UsesFrame c.args.own c.args.touch c.has_room.new.self.held
    = used_frame c.args.own c.args.touch c.in-Some.field-0 _ _ _ _ c.in-Some.ensures.own c.in-Some.ensures.some in
    was_used c.args.own _ c.install.result (subst (λ (h : HeldView). UsesFrame c.args.own c.args.touch h) c.has_room.ensures.held used) c.install.ensures.none
