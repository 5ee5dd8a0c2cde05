use Rattle.machine_model.proofs.Words.{rules, ◌≡◌, arith, ap, refl, length, sym, subst, ◌↔◌}
use Rattle.std.specs.Prelude.{IsTrue}
use Rattle.live_levels.specs.declared.close.SlotHistory.{SlotHistory}
use Rattle.certifier.specs.Histories.{AreDated}
use Rattle.certifier.proofs.Looked.{opened, opened_more, opened_one}
use Rattle.certifier.proofs.visits.first_looks.Goals as goal

pub slots-preserved : goal.slots-preserved
slots-preserved g c = λ maps now.
    rw c.in_ok-push.ensures.items (opened_more c.args.n maps now c.slots.at c.args.slots.now c.slots.looks.items c.index-slots-at.result _ c.slots-test.true
    c.index-slots-at.is
    (opened_one c.args.n maps now c.index-slots-at.result _ refl refl refl c.are_dated.result refl
    (subst (λ (x : SlotHistory g.row.A.Denot). IsTrue c.are_dated.result ↔ AreDated c.args.n x.changes.items) (sym c.index-slots-at.is)
    (subst (λ cs. IsTrue c.are_dated.result ↔ AreDated c.args.n cs) c.as_slice.ensures.value c.are_dated.ensures)))
    (c.slots.invariant maps now))

pub returns : goal.returns
returns g c = λ maps now. let end = c.slots-test.false in let at_end = c.slots.auto.at-end in
    opened c.args.n maps now c.slots.at c.args.slots.now c.slots.looks.items (omega (arith, end, at_end)) (c.slots.invariant maps now)
