use Rattle.slot_lock.proofs.Words.{◌∙◌, Bool, List, subst, take_all, Answers}
use Rattle.slot_lock.proofs.Facts.{on_err}
use Rattle.audit.specs.declared.auditor.Call.{Call}
use Rattle.audit.specs.declared.judging.ReplyVerdict.{ReplyVerdict}
use Rattle.audit.specs.declared.judging.ReplyVerdict.TheVariants.{Illegal}
use Rattle.audit.specs.Auditor.{plain_of}
use Rattle.audit.specs.Judging.{AreReplies, IsGiven, Judges}
use Rattle.audit.specs.Placing.{rule_of}
use Rattle.audit.proofs.Sequences.{replies_more, wants_next, wrong_next}
use Rattle.audit.proofs.auditor.Auditor.judge_all.Goals as goal

pub loop-at-preserved : goal.loop-at-preserved
loop-at-preserved g c =
    let call = c.index-calls-at.result in
    let m = plain_of c.loop-at.self in
    let u = plain_of c.judge.new.self in
    let first = c.loop-at.invariant.any_place in
    let judged = subst (λ (v : ReplyVerdict). Judges (rule_of c.loop-at.self.any_place) m call.core call.request call.reply v u) c.in-Legal.is
    c.in_ok-judge.ensures.judged in
    let legal = subst (λ (b : Bool). Answers (rule_of b) m call.core call.request call.reply u) first judged in
    record {
      any_place = c.in_ok-judge.ensures.any_place ∙ first;
      legal = replies_more (rule_of c.args.self.now.any_place) (plain_of c.args.self.now) m u c.args.calls.now c.loop-at.at call c.loop-at-test.true
          c.index-calls-at.is c.loop-at.invariant.legal legal;
    }

pub returns-in_err-judge-clause-err : goal.returns-in_err-judge-clause-err
returns-in_err-judge-clause-err g c =
    let call = c.index-calls-at.result in
    let m = plain_of c.loop-at.self in
    let wanted = c.in_err-judge.ensures {u = tt} in
    on_err _ (wants_next (rule_of c.args.self.now.any_place) (plain_of c.args.self.now) m (plain_of c.judge.new.self) c.args.calls.now c.loop-at.at call
    c.loop-at-test.true c.index-calls-at.is wanted.err c.loop-at.invariant.legal
    (subst (λ (b : Bool). IsGiven (rule_of b) m call.core call.request call.reply) c.loop-at.invariant.any_place wanted.legal))

pub returns-in-Illegal-clause-wrong : goal.returns-in-Illegal-clause-wrong
returns-in-Illegal-clause-wrong g c =
    let call = c.index-calls-at.result in
    let due = c.in-Illegal.due in
    let m = plain_of c.loop-at.self in
    let u = plain_of c.judge.new.self in
    let judged = subst (λ (v : ReplyVerdict). Judges (rule_of c.loop-at.self.any_place) m call.core call.request call.reply v u) c.in-Illegal.is
    c.in_ok-judge.ensures.judged in
    wrong_next (rule_of c.args.self.now.any_place) (plain_of c.args.self.now) m u c.args.calls.now c.loop-at.at call due c.loop-at-test.true
    c.index-calls-at.is c.loop-at.invariant.legal
    (subst (λ (b : Bool). Judges (rule_of b) m call.core call.request call.reply (Illegal due) u) c.loop-at.invariant.any_place judged)

pub returns-clause-legal : goal.returns-clause-legal
returns-clause-legal g c =
    subst (λ (cs : List Call). AreReplies (rule_of c.args.self.now.any_place) (plain_of c.args.self.now) cs (plain_of c.loop-at.self))
    (take_all c.loop-at.at c.args.calls.now c.loop-at-test.false) c.loop-at.invariant.legal
