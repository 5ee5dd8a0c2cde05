use Rattle.std.proofs.Common.{refl, rules, subst}
use Rattle.live_levels.specs.declared.act.Act.TheVariants.{Record}
use Rattle.live_tree.specs.Held.{HeldView}
use Rattle.live_space.specs.Faulting.{Gets}
use Rattle.live_space.proofs.Faulted.{gets}
use Rattle.live_space.proofs.Noted.{goes_then, left_after, one_if}
use Rattle.live_space.proofs.in_call.InCall.install.Goals as goal

pub invariant_of-self : goal.invariant_of-self
invariant_of-self g c = record {
  room = left_after 0 _ _ _ _ (c.if-not-has_room.ensures.room (search rules)) (one_if _ _ _ _ _ _ c.install.ensures.done c.install.ensures.not);
}

pub returns-then-install-clause-goes : goal.returns-then-install-clause-goes
returns-then-install-clause-goes g c =
    goes_then _ _ _ c.has_room.ensures.goes refl (one_if _ _ _ _ _ _ c.install.ensures.done c.install.ensures.not).grew

pub returns-else-install-clause-goes : goal.returns-else-install-clause-goes
returns-else-install-clause-goes g c =
    goes_then _ _ _ c.has_room.ensures.goes refl (one_if _ _ _ _ _ _ c.install.ensures.done c.install.ensures.not).grew

pub returns-then-install-clause-page : goal.returns-then-install-clause-page
returns-then-install-clause-page g c =
    subst (λ n. Gets (Record n) c.args.self.now.held c.install.new.held) c.has_room.ensures.goes.grew.same.core
    (subst (λ (h : HeldView). Gets (Record c.has_room.new.self.seat.now.core) h c.install.new.held) c.has_room.ensures.held
    (gets _ _ _ _ _ (c.install.ensures.done c.if-install.true)))
