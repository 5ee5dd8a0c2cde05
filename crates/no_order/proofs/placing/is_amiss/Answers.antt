use Rattle.std.proofs.Common.{◌≡◌, refl, true, false}
use Rattle.no_order.proofs.AmissLemmas.{amiss_copy, amiss_early, amiss_twice, amiss_unknown, known_amiss}
use Rattle.no_order.proofs.placing.is_amiss.Goals as goal

pub returns-in_default : goal.returns-in_default
returns-in_default c = (
  λ h. amiss_unknown c.args.history.now c.args.items.now c.args.item c.call-call.result c.call-call.ensures c.in_default.ensures,
  λ a. refl,
)

pub returns-then-is_replied : goal.returns-then-is_replied
returns-then-is_replied c = (
  λ h. amiss_twice c.args.history.now c.args.items.now c.args.item c.call-call.result c.in-Some.timed c.call-call.ensures c.in-Some.ensures
      (c.is_replied.ensures.0 c.if-is_replied.true),
  λ a. refl,
)

pub returns-then-awaits : goal.returns-then-awaits
returns-then-awaits c = (
  λ h. amiss_early c.args.history.now c.args.items.now c.args.item c.call-call.result c.in-Some.timed c.call-call.ensures c.in-Some.ensures
      (c.awaits.ensures.0 c.if-awaits.true),
  λ a. refl,
)

pub returns : goal.returns
returns c = (
  λ h. amiss_copy c.args.history.now c.args.items.now c.args.item c.call-call.result c.in-Some.timed c.call-call.ensures c.in-Some.ensures
      (let copy : c.is_copy_of_none.result ≡ true = h in cc),
  λ a. let copy = known_amiss c.args.history.now c.args.items.now c.args.item c.call-call.result c.in-Some.timed c.call-call.ensures c.in-Some.ensures
      (λ s. let wrong : false ≡ true = (c.if-is_replied.ensures {u = tt}).1 s in absurd cc)
      (λ w. let wrong : false ≡ true = (c.if-awaits.ensures {u = tt}).1 w in absurd cc) a in cc,
)
