use Rattle.std.proofs.Common.{◌≡◌, ◌<◌, [], ◌∷◌, ap, ◌∙◌, refl, subst, sym, map}
use Rattle.shared.specs.declared.space.Calls.TheVariants as Lists
use Rattle.shared.specs.declared.series.Series.{Series}
use Rattle.shared.specs.declared.series.SeriesEnd.TheVariants as For
use Rattle.shared.specs.declared.space.Known.{Known}
use Rattle.shared.specs.Cores.{AnswersAll, CoreView, IsBeside}
use Rattle.shared.specs.Rules.{after, holding, view_of}
use Rattle.shared.proofs.CallTurns.{all_answers, all_gives, full_all, idle_still, is_idle, same_view, took_busy, took_home}
use Rattle.shared.proofs.space.SharedMachine.call_all.Goals as goal

pub returns-then-found-eq-OUT-clause-answers : goal.returns-then-found-eq-OUT-clause-answers
returns-then-found-eq-OUT-clause-answers g c = (
  refl,
  same_view g.S.Whole.state [] c.core.inside.seat.table_id c.take-found.new.seat.table_id c.take-found.result c.core.inside.seat.me c.take-found.new.seat.me
      c.if-found-eq-OUT.true c.take-found.ensures.took c.take-found.ensures.same.0 ∙ c.core.view_is,
  subst (IsBeside g.S.Whole.state) c.core.view_is ((took_busy g.S.Whole.state [] c.take-found.result c.core.inside.seat.me c.take-found.new.seat.me
      c.if-found-eq-OUT.true c.take-found.ensures.took).1 c.core.invariant.1 c.core.inside.seat.table_id),
)

pub returns-then-found-ne-HOME-clause-answers : goal.returns-then-found-ne-HOME-clause-answers
returns-then-found-ne-HOME-clause-answers g c =
    let asked = map g.Q.Ask.request c.args.asks.now in
    let series : Series = record { made = 0; stop = For.Refused } in
    subst (λ x. AnswersAll g.S.Whole.state x asked g.T.Tell.told c.args.told.now (Lists.Made series) c.args.told.now (view_of c.take-found.new.seat.table_id c.take-found.new.seat.me.0)) c.core.view_is
    (full_all g.S.Whole.state [] c.core.inside.seat.table_id c.take-found.new.seat.table_id c.take-found.result c.core.inside.seat.me
    c.take-found.new.seat.me asked g.T.Tell.told c.args.told.now series c.if-found-ne-HOME.true c.if-found-eq-OUT.false c.take-found.ensures.took c.take-found.ensures.same.0 refl)

pub make_each-series-requires-clause-has : goal.make_each-series-requires-clause-has
make_each-series-requires-clause-has g c =
    let v = c.core.inside.seat.me in
    let t = took_home g.S.Whole.state [] c.take-found.result v c.take-found.new.seat.me c.if-found-ne-HOME.false c.take-found.ensures.took in (
      t.0,
      ap (λ m. m.1) t.2 ∙ ap (λ l. (0, t.0) ∷ l) c.core.invariant.0,
      subst (λ n. n < (g.S.Whole.state t.0).made.cores) (sym c.core.invariant.3) t.3.here,
      t.4,
      t.3.legal,
    )

pub give-requires-clause-can : goal.give-requires-clause-can
give-requires-clause-can g c =
    let v = c.core.inside.seat.me in
    let t = took_home g.S.Whole.state [] c.take-found.result v c.take-found.new.seat.me c.if-found-ne-HOME.false c.take-found.ensures.took in
    let has = ap (λ m. m.1) t.2 ∙ ap (λ l. (0, t.0) ∷ l) c.core.invariant.0 in
    all_gives g.S.Whole.state [] v.0 _ t.1 t.0 _ _ _ _ _ _ _ _ c.core.invariant.2 c.core.invariant.3 t.3 (c.make_each-series.ensures.made t.0 has)
    (c.make_each-series.ensures.same.1 ∙ ap (λ m. m.0) t.2) c.word_after.ensures

pub invariant_of-core-2 : goal.invariant_of-core-2
invariant_of-core-2 g c =
    let v = c.core.inside.seat.me in
    let t = took_home g.S.Whole.state [] c.take-found.result v c.take-found.new.seat.me c.if-found-ne-HOME.false c.take-found.ensures.took in
    let has = ap (λ m. m.1) t.2 ∙ ap (λ l. (0, t.0) ∷ l) c.core.invariant.0 in
    let makes = c.make_each-series.ensures.made t.0 has in
    is_idle g.S.Whole.state [] c.core.inside.number c.core.inside.left v c.make_each-series.new.seat.me c.give.new.seat.me t.1 makes.machine c.core.invariant
    (c.make_each-series.ensures.same.1 ∙ ap (λ m. m.0) t.2) (c.give.ensures.gave makes.machine makes.has)

pub invariant_of-core-then-found-ne-HOME : goal.invariant_of-core-then-found-ne-HOME
invariant_of-core-then-found-ne-HOME g c =
    idle_still g.S.Whole.state [] c.core.inside.number c.core.inside.left c.take-found.result c.core.inside.seat.me c.take-found.new.seat.me c.core.invariant
    c.if-found-ne-HOME.true c.if-found-eq-OUT.false c.take-found.ensures.took

pub returns-clause-answers : goal.returns-clause-answers
returns-clause-answers g c =
    let v = c.core.inside.seat.me in
    let t = took_home g.S.Whole.state [] c.take-found.result v c.take-found.new.seat.me c.if-found-ne-HOME.false c.take-found.ensures.took in
    let has = ap (λ m. m.1) t.2 ∙ ap (λ l. (0, t.0) ∷ l) c.core.invariant.0 in
    let makes = c.make_each-series.ensures.made t.0 has in
    let me0 : c.make_each-series.new.seat.me.0 ≡ holding v.0 t.1 = c.make_each-series.ensures.same.1 ∙ ap (λ m. m.0) t.2 in
    let gave = c.give.ensures.gave makes.machine makes.has in
    let same = ap (λ m. m.0) gave ∙ ap (λ (k : Known g.row.S.Denot). after g.S.Whole.state k makes.machine) me0 in
    let space = c.give.ensures.same ∙ (c.make_each-series.ensures.same.0 ∙ c.take-found.ensures.same.0) in
    subst (λ x. AnswersAll g.S.Whole.state x (map g.Q.Ask.request c.args.asks.now) g.T.Tell.told c.args.told.now (Lists.Made c.make_each-series.result)
    c.make_each-series.new.told (view_of c.give.new.seat.table_id c.give.new.seat.me.0))
    c.core.view_is
    (all_answers g.S.Whole.state [] c.core.inside.seat.table_id c.give.new.seat.table_id v.0 _ t.1 t.0 _ (map g.Q.Ask.request c.args.asks.now) g.T.Tell.told
    c.args.told.now c.make_each-series.new.told c.make_each-series.result _ space c.core.invariant.3 t.3 makes same)

pub returns-clause-here : goal.returns-clause-here
returns-clause-here g c =
    c.give.ensures.same ∙ (c.make_each-series.ensures.same.0 ∙ c.take-found.ensures.same.0) ∙ ap (λ (x : CoreView g.row.S.Denot). x.space) c.core.view_is
