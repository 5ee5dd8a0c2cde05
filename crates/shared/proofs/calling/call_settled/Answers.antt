use Rattle.std.proofs.Common.{rules, ◌≡◌, ◌≢◌, sym, ◌∙◌}
use Rattle.machine_model.specs.declared.phase.Phase.TheVariants.{Free}
use Rattle.shared.proofs.Halting.{settled_answered, settled_free, settled_waits}
use Rattle.shared.proofs.calling.call_settled.Goals as goal

pub returns-then-is_answered-clause-ends : goal.returns-then-is_answered-clause-ends
returns-then-is_answered-clause-ends g c =
    settled_answered _ c.args.core c.args.finished _ (sym c.is_answered.ensures ∙ c.if-is_answered.true) c.ended_by.ensures

pub returns-then-is_free-clause-ends : goal.returns-then-is_free-clause-ends
returns-then-is_free-clause-ends g c =
    let free : c.phase.result ≡ Free = search rules in
    settled_free _ c.args.core c.args.finished (sym c.is_answered.ensures ∙ c.if-is_answered.false) (sym c.phase.ensures ∙ free)

pub returns-clause-ends : goal.returns-clause-ends
returns-clause-ends g c =
    let runs : c.phase.result ≢ Free = search rules in
    settled_waits _ c.args.core c.args.finished _ _ (sym c.is_answered.ensures ∙ c.if-is_answered.false)
    (λ e. runs (c.phase.ensures ∙ e)) c.call_waited.ensures.ends
