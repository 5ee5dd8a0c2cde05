use Rattle.slot_lock.proofs.Words.{◌≡◌, false, subst, true}
use Rattle.audit.specs.Auditor.{plain_of}
use Rattle.audit.specs.Judging.{Judges}
use Rattle.audit.specs.Placing.{rule_of}
use Rattle.audit.specs.declared.judging.ReplyVerdict.{ReplyVerdict}
use Rattle.orders.proofs.LeadLemmas.{answers_reply, no_frame_reply, no_memory_reply}
use Rattle.loose_orders.proofs.leading.is_plain.Goals as goal

pub returns-then-wants_memory-clause-yes : goal.returns-then-wants_memory-clause-yes
returns-then-wants_memory-clause-yes g c = λ e.
    no_memory_reply (rule_of c.args.auditor.now.any_place) (plain_of c.args.auditor.now) c.args.call.core c.args.call.request c.args.call.reply
    (c.wants_memory.ensures.0 c.if-wants_memory.true)

pub returns-then-wants_frame-clause-yes : goal.returns-then-wants_frame-clause-yes
returns-then-wants_frame-clause-yes g c = λ e.
    let served : c.would_serve.result ≡ true = cc in
    no_frame_reply (rule_of c.args.auditor.now.any_place) (plain_of c.args.auditor.now) c.args.call.core c.args.call.request c.args.call.reply
    (c.wants_frame.ensures.0 c.if-wants_frame.true) (c.would_serve.ensures.0 served)

pub returns-in-Legal-clause-yes : goal.returns-in-Legal-clause-yes
returns-in-Legal-clause-yes g c = λ e.
    let rule = rule_of c.args.auditor.now.any_place in
    let t = plain_of c.args.auditor.now in
    let u = plain_of c.judge.new.self in
    let call = c.args.call in
    let judged = subst (λ (v : ReplyVerdict). Judges rule t call.core call.request call.reply v u) c.in-Legal.is c.in_ok-judge.ensures.judged in
    answers_reply rule t u call.core call.request call.reply
    (λ m. let wrong : false ≡ true = (c.if-wants_memory.ensures {u = tt}).1 m in absurd cc)
    (λ f. let wrong : false ≡ true = (c.if-wants_frame.ensures {u = tt}).1 f in absurd cc) judged
