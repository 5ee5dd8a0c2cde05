use Rattle.std.proofs.Common.{inr}
use Rattle.vm_calls.specs.Decisions.{DecidesPlace}
use Rattle.live_tree.specs.Held.{HeldView}
use Rattle.live_tree.specs.Shown.{shown}
use Rattle.live_space.specs.Placing.{Puts}
use Rattle.live_space.proofs.Ended.{ends_both}
use Rattle.std.proofs.Common.{sym, subst}
use Rattle.vm_calls.specs.declared.decision.Decision.TheVariants.{Act}
use Rattle.live_space.specs.Planned.{AnswersPlace, PlacesAt}
use Rattle.live_space.proofs.Ended.{ends_map}
use Rattle.live_space.proofs.in_call.InCall.find.Goals as goal

pub returns-in-Act-clause-answers : goal.returns-in-Act-clause-answers
returns-in-Act-clause-answers g c =
    let at : PlacesAt c.args.place (Act c.in-Act.range c.in-Act.shoot) = subst (PlacesAt c.args.place) c.in-Act.is c.in-Some.ensures.places in
    ends_map _ _ _ (λ reply is. subst (AnswersPlace c.args.place) (sym is) at) c.put.ensures.answers

pub returns-in-Act-clause-made : goal.returns-in-Act-clause-made
returns-in-Act-clause-made g c =
    let slots = shown c.args.self.now.held.slots in
    let decides : DecidesPlace slots c.args.place c.args.target (Act c.in-Act.range c.in-Act.shoot)
    = subst (DecidesPlace slots c.args.place c.args.target) c.in-Act.is c.in-Some.ensures.decides in
    ends_both _ _ _ _ (λ reply is puts. inr (
      c.in-Act.range,
      c.in-Act.shoot,
      decides,
      is,
      subst (λ (h : HeldView). Puts c.in-Act.range c.args.place.meta h c.put.new.self.seat.now c.put.new.self.held) c.step.ensures.held puts,
    )) c.put.ensures.answers c.put.ensures.made
