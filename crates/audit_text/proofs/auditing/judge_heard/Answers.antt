use Rattle.std.proofs.Common.{ap, ◌∙◌}
use Rattle.slot_lock.specs.MapWalks.{slot_metas}
use Rattle.audit.specs.Auditor.{plain_of}
use Rattle.audit_text.specs.Steps.{terms_of}
use Rattle.audit_text.proofs.AroundLemmas.{metas_kept, verdict_shown}
use Rattle.audit_text.proofs.auditing.judge_heard.Goals as goal

pub returns-in-Ok-around_verdict-clause-ok : goal.returns-in-Ok-around_verdict-clause-ok
returns-in-Ok-around_verdict-clause-ok g c = λ lines d begins.
    let u = plain_of c.hear_lines.new.hearing.auditor in
    verdict_shown (terms_of c.args.hearing.now) lines c.in-Ok.verdict u (slot_metas (g.M.SlotRead.slots c.map.result.now))
    c.in-Ok-around_verdict.around.items
    (ap (λ m. slot_metas (g.M.SlotRead.slots m)) c.map.ensures
    ∙ metas_kept (g.M.SlotRead.slots c.hear_lines.new.hearing.auditor.map) c.hear_lines.new.hearing.auditor.objects
    c.hear_lines.new.hearing.auditor.frames) (c.in-Ok.ensures.ok lines d begins) c.in-Ok-around_verdict.ensures.ok
