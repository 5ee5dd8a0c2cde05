use Rattle.std.proofs.Common.{◌≡◌, ◌<◌, [], ◌∷◌, ap, ◌∙◌, subst, sym}
use Rattle.machine_model.specs.declared.event.Outcome.TheVariants.{Full}
use Rattle.shared.specs.declared.space.Known.{Known}
use Rattle.shared.specs.declared.space.Passed.TheVariants as By
use Rattle.shared.specs.Cores.{Passes, CoreView, IsBeside}
use Rattle.shared.specs.Rules.{after, holding, view_of}
use Rattle.shared.proofs.CallTurns.{aside_gives, aside_passes, full_passes, idle_still, is_idle, same_view, took_busy, took_home}
use Rattle.shared.proofs.space.SharedMachine.aside.Goals as goal

pub returns-then-found-eq-OUT-clause-passes : goal.returns-then-found-eq-OUT-clause-passes
returns-then-found-eq-OUT-clause-passes g c = (
  same_view g.S.Whole.state [] c.core.inside.seat.table_id c.take-found.new.seat.table_id c.take-found.result c.core.inside.seat.me c.take-found.new.seat.me
      c.if-found-eq-OUT.true c.take-found.ensures.took c.take-found.ensures.same.0 ∙ c.core.view_is,
  subst (IsBeside g.S.Whole.state) c.core.view_is ((took_busy g.S.Whole.state [] c.take-found.result c.core.inside.seat.me c.take-found.new.seat.me
      c.if-found-eq-OUT.true c.take-found.ensures.took).1 c.core.invariant.1 c.core.inside.seat.table_id),
)

pub returns-then-found-ne-HOME-clause-passes : goal.returns-then-found-ne-HOME-clause-passes
returns-then-found-ne-HOME-clause-passes g c =
    subst (λ x. Passes g.S.Whole.state x c.args.aside (By.Came Full) (view_of c.take-found.new.seat.table_id c.take-found.new.seat.me.0)) c.core.view_is
    (full_passes g.S.Whole.state [] c.core.inside.seat.table_id c.take-found.new.seat.table_id c.take-found.result c.core.inside.seat.me
    c.take-found.new.seat.me c.args.aside c.if-found-ne-HOME.true c.if-found-eq-OUT.false c.take-found.ensures.took c.take-found.ensures.same.0)

pub pass-outcome-requires-clause-has : goal.pass-outcome-requires-clause-has
pass-outcome-requires-clause-has g c =
    let v = c.core.inside.seat.me in
    let t = took_home g.S.Whole.state [] c.take-found.result v c.take-found.new.seat.me c.if-found-ne-HOME.false c.take-found.ensures.took in (
      t.0,
      ap (λ m. m.1) t.2 ∙ ap (λ l. (0, t.0) ∷ l) c.core.invariant.0,
      t.4,
    )

pub give-requires-clause-can : goal.give-requires-clause-can
give-requires-clause-can g c =
    let v = c.core.inside.seat.me in
    let t = took_home g.S.Whole.state [] c.take-found.result v c.take-found.new.seat.me c.if-found-ne-HOME.false c.take-found.ensures.took in
    let has = ap (λ m. m.1) t.2 ∙ ap (λ l. (0, t.0) ∷ l) c.core.invariant.0 in
    aside_gives g.S.Whole.state [] v.0 _ t.1 t.0 _ _ _ c.core.invariant.2 t.3 (c.pass-outcome.ensures.made t.0 has)
    (c.pass-outcome.ensures.same.1 ∙ ap (λ m. m.0) t.2)

pub invariant_of-core-2 : goal.invariant_of-core-2
invariant_of-core-2 g c =
    let v = c.core.inside.seat.me in
    let t = took_home g.S.Whole.state [] c.take-found.result v c.take-found.new.seat.me c.if-found-ne-HOME.false c.take-found.ensures.took in
    let has = ap (λ m. m.1) t.2 ∙ ap (λ l. (0, t.0) ∷ l) c.core.invariant.0 in
    let makes = c.pass-outcome.ensures.made t.0 has in
    is_idle g.S.Whole.state [] c.core.inside.number c.core.inside.left v c.pass-outcome.new.seat.me c.give.new.seat.me t.1 makes.machine c.core.invariant
    (c.pass-outcome.ensures.same.1 ∙ ap (λ m. m.0) t.2) (c.give.ensures.gave makes.machine makes.has)

pub invariant_of-core-then-found-ne-HOME : goal.invariant_of-core-then-found-ne-HOME
invariant_of-core-then-found-ne-HOME g c =
    idle_still g.S.Whole.state [] c.core.inside.number c.core.inside.left c.take-found.result c.core.inside.seat.me c.take-found.new.seat.me c.core.invariant
    c.if-found-ne-HOME.true c.if-found-eq-OUT.false c.take-found.ensures.took

pub returns-clause-passes : goal.returns-clause-passes
returns-clause-passes g c =
    let v = c.core.inside.seat.me in
    let t = took_home g.S.Whole.state [] c.take-found.result v c.take-found.new.seat.me c.if-found-ne-HOME.false c.take-found.ensures.took in
    let has = ap (λ m. m.1) t.2 ∙ ap (λ l. (0, t.0) ∷ l) c.core.invariant.0 in
    let makes = c.pass-outcome.ensures.made t.0 has in
    let me0 : c.pass-outcome.new.seat.me.0 ≡ holding v.0 t.1 = c.pass-outcome.ensures.same.1 ∙ ap (λ m. m.0) t.2 in
    let gave = c.give.ensures.gave makes.machine makes.has in
    let same = ap (λ m. m.0) gave ∙ ap (λ (k : Known g.row.S.Denot). after g.S.Whole.state k makes.machine) me0 in
    let space = c.give.ensures.same ∙ (c.pass-outcome.ensures.same.0 ∙ c.take-found.ensures.same.0) in
    subst (λ x. Passes g.S.Whole.state x c.args.aside (By.Came c.pass-outcome.result) (view_of c.give.new.seat.table_id c.give.new.seat.me.0)) c.core.view_is
    (aside_passes g.S.Whole.state [] c.core.inside.seat.table_id c.give.new.seat.table_id v.0 _ t.1 t.0 _ _ _ _ space c.core.invariant.3 t.3 makes same)

pub returns-clause-here : goal.returns-clause-here
returns-clause-here g c =
    c.give.ensures.same ∙ (c.pass-outcome.ensures.same.0 ∙ c.take-found.ensures.same.0) ∙ ap (λ (x : CoreView g.row.S.Denot). x.space) c.core.view_is
