use Rattle.std.proofs.Common.{subst}
use Rattle.live_tree.specs.Held.{HeldView}
use Rattle.live_space.specs.Changing.{Made}
use Rattle.live_space.proofs.Noted.{goes_trans}
use Rattle.live_space.proofs.in_call.InCall.make_alone.Goals as goal

pub returns-in-Some-clause-goes : goal.returns-in-Some-clause-goes
returns-in-Some-clause-goes g c = goes_trans _ _ _ c.has_room.ensures.goes c.decide_and_commit.ensures.goes

pub returns-in-Some-clause-made : goal.returns-in-Some-clause-made
returns-in-Some-clause-made g c = λ t.
    subst (λ (h : HeldView). Made c.args.change h c.decide_and_commit.new.self.seat.now c.decide_and_commit.new.self.held) c.has_room.ensures.held
    c.decide_and_commit.ensures.made
