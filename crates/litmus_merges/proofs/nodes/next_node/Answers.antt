use Rattle.std.proofs.Common.{◌∙◌, ap, refl, set, subst}
use Rattle.litmus_merges.specs.Merging.{IsNext as IsNextCall}
use Rattle.litmus_merges.specs.OneTurn.{TurnsTo}
use Rattle.litmus_merges.specs.Steps.{StepsAfter, after_any, map_of}
use Rattle.litmus_merges.proofs.Grown.{next_is}
use Rattle.litmus_merges.proofs.nodes.next_node.Goals as goal

pub returns : goal.returns
returns g c =
    let o = c.args.objects.now in
    let told = c.as_slice-told.ensures.value in
    let steps = c.as_slice-steps.ensures.value in
    next_is o c.args.calls.now c.args.node.now _ c.args.from c.args.at c.in-Some.call c.turn_of-turn.result.reply c.turn_of-turn.result.step c.requires.named
    c.requires.node (subst (λ xs. IsNextCall c.args.calls.now xs c.args.at c.in-Some.call) told c.in-Some.ensures.some)
    (subst (λ xs. TurnsTo (map_of o xs) c.in-Some.call.core c.in-Some.call.request c.turn_of-turn.result.reply (after_any (map_of o xs) c.turn_of-turn.result.step))
    steps c.turn_of-turn.ensures.turns)
    (c.in_ok-told.ensures ∙ ap (λ xs. set xs c.args.at c.turn_of-turn.result.reply) told)
    (subst (λ xs. StepsAfter xs c.turn_of-turn.result.step c.in_ok-steps.steps.items) steps c.in_ok-steps.ensures.map) c.in_ok-steps.ensures.sound refl refl
