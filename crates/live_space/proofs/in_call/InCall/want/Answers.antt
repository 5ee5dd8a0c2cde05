use Rattle.std.proofs.Common.{◌∙◌, refl, rules, subst}
use Rattle.live_tree.specs.Held.{HeldView}
use Rattle.live_space.specs.Faulting.{GetsTaken}
use Rattle.live_space.proofs.Faulted.{got_taken}
use Rattle.live_space.proofs.Noted.{goes_then, goes_trans, left_after, one_wants}
use Rattle.live_space.proofs.in_call.InCall.want.Goals as goal

pub invariant_of-self : goal.invariant_of-self
invariant_of-self g c =
    let held = c.has_room.new.self.held in
    record { room = left_after 0 _ _ held held (c.if-not-has_room.ensures.room (search rules)) (one_wants _ _ held _ c.want.ensures) }

pub returns-in-Taken-clause-goes : goal.returns-in-Taken-clause-goes
returns-in-Taken-clause-goes g c =
    let held = c.has_room.new.self.held in
    goes_trans _ _ _ (goes_then _ _ _ c.has_room.ensures.goes refl (one_wants _ _ held _ c.want.ensures).grew) c.use_frame.ensures.goes

pub returns-in-Taken-clause-taken : goal.returns-in-Taken-clause-taken
returns-in-Taken-clause-taken g c =
    let held = c.has_room.new.self.held in
    let same = (one_wants _ _ held _ c.want.ensures).grew.same.core ∙ c.has_room.ensures.goes.grew.same.core in
    subst (λ (h : HeldView). GetsTaken c.args.shown c.args.self.now.seat.now.core h c.use_frame.result c.use_frame.new.self.held) c.has_room.ensures.held
    (subst (λ n. GetsTaken c.args.shown n c.has_room.new.self.held c.use_frame.result c.use_frame.new.self.held) same
    (got_taken _ _ _ _ _ c.use_frame.ensures.page))
