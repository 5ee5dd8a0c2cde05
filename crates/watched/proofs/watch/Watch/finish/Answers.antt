use Rattle.machine_model.proofs.Words.{◌≡◌, ◌^◌, arith, refl, rules}
use Rattle.machine_model.specs.declared.event.Outcome.TheVariants.{Stepped}
use Rattle.std.specs.Prelude.{◌≢◌}
use Rattle.core_steps.proofs.Reached.{refused_at, steps_end, steps_more}
use Rattle.watched.proofs.Watched.{steps_watched_end, steps_watched_more, steps_watched_part, steps_watched_stuck}
use Rattle.watched.proofs.watch.Watch.finish.Goals as goal

pub steps-init : goal.steps-init
steps-init g c = record { few = omega arith; made = refl; watched = (refl, refl) }

pub returns-in-Err-clause-err : goal.returns-in-Err-clause-err
returns-in-Err-clause-err g c =
    refused_at g.L.Ledger.keeps _ _ _ c.args.core c.steps.n c.steps-test.true c.steps.invariant.made c.in-Err.ensures.step

pub returns-then-ne-clause-ends : goal.returns-then-ne-clause-ends
returns-then-ne-clause-ends g c =
    let other : c.in-Ok.outcome ≢ Stepped = search rules in
    steps_end _ _ _ c.args.core c.steps.n _ c.steps-test.true other c.steps.invariant.made c.in-Ok.ensures.step

pub returns-then-ne-clause-watched : goal.returns-then-ne-clause-watched
returns-then-ne-clause-watched g c =
    let other : c.in-Ok.outcome ≢ Stepped = search rules in
    steps_watched_end g.Self.Watch.after c.args.core c.steps.n _ _ _ _ _ _ _ c.steps-test.true other c.steps.invariant.watched c.in-Ok.ensures.step
    c.in-Ok.ensures.watched

pub steps-preserved : goal.steps-preserved
steps-preserved g c =
    let plain : c.in-Ok.outcome ≡ Stepped = search rules in
    record {
      few = omega (arith, c.steps-test.true);
      made = steps_more _ _ _ c.args.core c.steps.n _ plain c.steps.invariant.made c.in-Ok.ensures.step;
      watched = steps_watched_more g.Self.Watch.after c.args.core c.steps.n _ _ _ _ _ _ _ plain c.steps.invariant.watched c.in-Ok.ensures.step
          c.in-Ok.ensures.watched;
    }

pub returns-clause-ends : goal.returns-clause-ends
returns-clause-ends g c =
    let few = c.steps.invariant.few in
    let all : c.steps.n ≡ 2 ^ 40 = omega (arith, c.steps-test.false, few) in (c.steps.n, (all, c.steps.invariant.made))

pub returns-clause-watched : goal.returns-clause-watched
returns-clause-watched g c =
    let few = c.steps.invariant.few in
    let all : c.steps.n ≡ 2 ^ 40 = omega (arith, c.steps-test.false, few) in
    steps_watched_stuck g.Self.Watch.after c.args.core c.steps.n _ _ _ _ all c.steps.invariant.watched

pub returns-in-Err-clause-part : goal.returns-in-Err-clause-part
returns-in-Err-clause-part g c =
    steps_watched_part g.Self.Watch.after c.args.core c.steps.n _ _ _ _ _ _ c.in-Err.ensures.step.0 c.in-Err.ensures.unseen c.steps.invariant.watched
