use Rattle.std.proofs.Common.{◌≡◌, ◌<◌, [], ◌∷◌, ap, ◌∙◌, subst, sym}
use Rattle.shared.specs.declared.space.Answer.TheVariants as Tells
use Rattle.shared.specs.declared.space.Known.{Known}
use Rattle.shared.specs.Cores.{Answers, CoreView, IsBeside}
use Rattle.shared.specs.Rules.{after, holding, view_of}
use Rattle.shared.proofs.CallTurns.{call_answers, call_gives, full_answers, idle_still, is_idle, same_view, took_busy, took_home}
use Rattle.shared.proofs.space.SharedMachine.call.Goals as goal

pub returns-then-found-eq-OUT-clause-answers : goal.returns-then-found-eq-OUT-clause-answers
returns-then-found-eq-OUT-clause-answers g c = (
  same_view g.S.Whole.state [] c.core.inside.seat.table_id c.take-found.new.seat.table_id c.take-found.result c.core.inside.seat.me c.take-found.new.seat.me
      c.if-found-eq-OUT.true c.take-found.ensures.took c.take-found.ensures.same.0 ∙ c.core.view_is,
  subst (IsBeside g.S.Whole.state) c.core.view_is ((took_busy g.S.Whole.state [] c.take-found.result c.core.inside.seat.me c.take-found.new.seat.me
      c.if-found-eq-OUT.true c.take-found.ensures.took).1 c.core.invariant.1 c.core.inside.seat.table_id),
)

pub returns-then-found-ne-HOME-clause-answers : goal.returns-then-found-ne-HOME-clause-answers
returns-then-found-ne-HOME-clause-answers g c =
    subst (λ x. Answers g.S.Whole.state x c.args.request Tells.Full (view_of c.take-found.new.seat.table_id c.take-found.new.seat.me.0)) c.core.view_is
    (full_answers g.S.Whole.state [] c.core.inside.seat.table_id c.take-found.new.seat.table_id c.take-found.result c.core.inside.seat.me
    c.take-found.new.seat.me c.args.request c.if-found-ne-HOME.true c.if-found-eq-OUT.false c.take-found.ensures.took c.take-found.ensures.same.0)

pub make-ended-requires-clause-has : goal.make-ended-requires-clause-has
make-ended-requires-clause-has g c =
    let v = c.core.inside.seat.me in
    let t = took_home g.S.Whole.state [] c.take-found.result v c.take-found.new.seat.me c.if-found-ne-HOME.false c.take-found.ensures.took in (
      t.0,
      ap (λ m. m.1) t.2 ∙ ap (λ l. (0, t.0) ∷ l) c.core.invariant.0,
      subst (λ n. n < (g.S.Whole.state t.0).made.cores) (sym c.core.invariant.3) t.3.here,
      t.4,
    )

pub give-requires-clause-can : goal.give-requires-clause-can
give-requires-clause-can g c =
    let v = c.core.inside.seat.me in
    let t = took_home g.S.Whole.state [] c.take-found.result v c.take-found.new.seat.me c.if-found-ne-HOME.false c.take-found.ensures.took in
    let has = ap (λ m. m.1) t.2 ∙ ap (λ l. (0, t.0) ∷ l) c.core.invariant.0 in
    call_gives g.S.Whole.state [] v.0 _ t.1 t.0 _ _ _ _ _ c.core.invariant.2 c.core.invariant.3 t.3 (c.make-ended.ensures.made t.0 has)
    (c.make-ended.ensures.same.1 ∙ ap (λ m. m.0) t.2) c.word_of.ensures

pub invariant_of-core-2 : goal.invariant_of-core-2
invariant_of-core-2 g c =
    let v = c.core.inside.seat.me in
    let t = took_home g.S.Whole.state [] c.take-found.result v c.take-found.new.seat.me c.if-found-ne-HOME.false c.take-found.ensures.took in
    let has = ap (λ m. m.1) t.2 ∙ ap (λ l. (0, t.0) ∷ l) c.core.invariant.0 in
    let makes = c.make-ended.ensures.made t.0 has in
    is_idle g.S.Whole.state [] c.core.inside.number c.core.inside.left v c.make-ended.new.seat.me c.give.new.seat.me t.1 makes.machine c.core.invariant
    (c.make-ended.ensures.same.1 ∙ ap (λ m. m.0) t.2) (c.give.ensures.gave makes.machine makes.has)

pub invariant_of-core-then-found-ne-HOME : goal.invariant_of-core-then-found-ne-HOME
invariant_of-core-then-found-ne-HOME g c =
    idle_still g.S.Whole.state [] c.core.inside.number c.core.inside.left c.take-found.result c.core.inside.seat.me c.take-found.new.seat.me c.core.invariant
    c.if-found-ne-HOME.true c.if-found-eq-OUT.false c.take-found.ensures.took

pub returns-clause-answers : goal.returns-clause-answers
returns-clause-answers g c =
    let v = c.core.inside.seat.me in
    let t = took_home g.S.Whole.state [] c.take-found.result v c.take-found.new.seat.me c.if-found-ne-HOME.false c.take-found.ensures.took in
    let has = ap (λ m. m.1) t.2 ∙ ap (λ l. (0, t.0) ∷ l) c.core.invariant.0 in
    let makes = c.make-ended.ensures.made t.0 has in
    let me0 : c.make-ended.new.seat.me.0 ≡ holding v.0 t.1 = c.make-ended.ensures.same.1 ∙ ap (λ m. m.0) t.2 in
    let gave = c.give.ensures.gave makes.machine makes.has in
    let same = ap (λ m. m.0) gave ∙ ap (λ (k : Known g.row.S.Denot). after g.S.Whole.state k makes.machine) me0 in
    let space = c.give.ensures.same ∙ (c.make-ended.ensures.same.0 ∙ c.take-found.ensures.same.0) in
    subst (λ x. Answers g.S.Whole.state x c.args.request c.answer_of.result (view_of c.give.new.seat.table_id c.give.new.seat.me.0)) c.core.view_is
    (call_answers g.S.Whole.state [] c.core.inside.seat.table_id c.give.new.seat.table_id v.0 _ t.1 t.0 _ _ _ _ _ space c.core.invariant.3 t.3 makes same
    c.answer_of.ensures)

pub returns-clause-here : goal.returns-clause-here
returns-clause-here g c =
    c.give.ensures.same ∙ (c.make-ended.ensures.same.0 ∙ c.take-found.ensures.same.0) ∙ ap (λ (x : CoreView g.row.S.Denot). x.space) c.core.view_is
