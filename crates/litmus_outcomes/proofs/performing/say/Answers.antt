use Rattle.std.proofs.Common.{◌≡◌, [], arith, subst}
use Rattle.litmus_outcomes.specs.Dues.{dues_said}
use Rattle.litmus_outcomes.proofs.Dues.{said_end, said_more}
use Rattle.litmus_outcomes.proofs.performing.say.Goals as goal

pub events-preserved : goal.events-preserved
events-preserved g c =
    let both = c.requires in
    let lt = c.events-test.true in
    λ n. said_more n c.args.events.now c.args.outcomes.now c.events.k c.index-events-k.result c.index-outcomes-k.result c.events.dues.items c.take.new.dues.items
    _ c.events-test.true (omega (arith, lt, both)) c.index-events-k.is c.index-outcomes-k.is (c.take.ensures c.if-not-take.false n) (c.events.invariant n)

pub returns : goal.returns
returns g c = λ e n. said_end n c.args.events.now c.args.outcomes.now c.events.k c.events.dues.items _ c.events-test.false (subst (λ xs. dues_said n xs ≡ []) c.as_slice.ensures.value (c.are_over.ensures e n)) (c.events.invariant n)
