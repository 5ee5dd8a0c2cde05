use Rattle.machine_model.proofs.Words.{◌≡◌, ◌<◌, ◌∙◌, refl, rules, sym, ap, subst, Some, Made}
use Rattle.machine_model.specs.declared.phase.Phase.TheVariants.{Free}
use Rattle.core_steps.specs.State.{world}
use Rattle.driven.specs.Driving.{filled_of}
use Rattle.driven.proofs.Served.{accesses, in_range, made_kept}
use Rattle.driven.proofs.driving.touch.Goals as goal

pub touch_telling-ended-requires-clause-access : goal.touch_telling-ended-requires-clause-access
touch_telling-ended-requires-clause-access g c =
    accesses c.args.kind c.args.at c.in-Some-touch_request.request (sym c.in-Some-touch_request.ensures)

pub filled_of-requires : goal.filled_of-requires
filled_of-requires g c =
    let w = world g.M.SlotRead.slots c.args.machine.now.engine in
    let v = world g.M.SlotRead.slots c.touch_telling-ended.new.machine.engine in
    let here : c.in-Some.core < w.made.cores = in_range w c.args.core c.in-Some.core (sym c.in-Some.ensures) in
    subst (λ (m : Made). c.in-Some.core < m.cores)
    (sym (made_kept g.L.Ledger.keeps w v c.args.at c.in-Some.core c.in-Some-touch_request.request c.touch_telling-ended.new.told
    c.touch_telling-ended.result c.touch_telling-ended.ensures))
    here

pub returns-in_default-ended : goal.returns-in_default-ended
returns-in_default-ended g c =
    let w = world g.M.SlotRead.slots c.args.machine.now.engine in
    let v = world g.M.SlotRead.slots c.touch_telling-ended.new.machine.engine in
    let did = c.in_default-ended.ensures in
    let free : w.calls.phase c.in-Some.core ≡ Free = search rules in (
      c.in-Some.core,
      c.in-Some-touch_request.request,
      c.in_default-ended.field-0,
      record { here = sym c.in-Some.ensures; wants = sym c.in-Some-touch_request.ensures; free = free },
      (
        did.0,
        did.1,
        c.touch_telling-ended.new.told,
        did.2,
        did.3,
        c.filled_of.ensures ∙ ap (λ p. filled_of v c.in-Some.core (Some p) c.touch_telling-ended.new.told.fill) c.page_of.ensures.value,
      ),
      refl,
    )

pub returns : goal.returns
returns g c =
    let w = world g.M.SlotRead.slots c.args.machine.now.engine in
    let v = world g.M.SlotRead.slots c.touch_telling-ended.new.machine.engine in
    let did = c.in-Ok.ensures in
    let free : w.calls.phase c.in-Some.core ≡ Free = search rules in (
      c.in-Some.core,
      c.in-Some-touch_request.request,
      c.in-Ok.outcome,
      record { here = sym c.in-Some.ensures; wants = sym c.in-Some-touch_request.ensures; free = free },
      (
        did.0,
        did.1,
        c.touch_telling-ended.new.told,
        did.2,
        did.3,
        c.filled_of.ensures ∙ ap (λ p. filled_of v c.in-Some.core (Some p) c.touch_telling-ended.new.told.fill) c.page_of.ensures.value,
      ),
      c.outcome_code.ensures,
    )
