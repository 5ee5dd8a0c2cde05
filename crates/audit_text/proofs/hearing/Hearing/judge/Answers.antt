use Rattle.std.proofs.Common.{◌≡◌, Bool, ap, false, not, refl, sym, true, ◌∙◌, subst}
use Rattle.std.specs.Prelude.{◌&&◌}
use Rattle.vm_base.specs.Plain.{Plain}
use Rattle.audit.specs.Auditor.{plain_of}
use Rattle.audit_text.specs.Steps.{JudgesCall, heard_of, terms_of}
use Rattle.audit_text.specs.declared.hearing.Turn.TheVariants.{Legal}
use Rattle.audit_text.specs.Allowed.{is_lack}
use Rattle.audit_text.specs.declared.allowing.Terms.{Terms}
use Rattle.audit_text.proofs.HeardLemmas.{judged_illegal, judged_legal, judged_let}
use Rattle.audit_text.proofs.hearing.Hearing.judge.Goals as goal

pub returns-then-is_let-clause-judged : goal.returns-then-is_let-clause-judged
returns-then-is_let-clause-judged g c =
    let e : plain_of c.note_answer-then-is_let.new.self.auditor ≡ plain_of c.judge.new.self = ap plain_of c.note_answer-then-is_let.ensures.same in
    subst (λ (p : Plain). JudgesCall (terms_of c.args.self.now) (heard_of c.args.self.now) (plain_of c.args.self.now.auditor) c.args.certain
    c.args.call Legal (heard_of c.note_answer-then-is_let.new.self) p) (sym e)
    (judged_let (terms_of c.args.self.now) (heard_of c.args.self.now) (heard_of c.note_answer-then-is_let.new.self)
    (plain_of c.args.self.now.auditor) (plain_of c.judge.new.self) c.args.certain c.args.call _ c.in-Illegal.due c.in_ok-judge.ensures.judged
    c.in-Illegal.is (subst (λ (x : Terms). (not x.is_strict && is_lack x.any_place c.args.call.request c.in-Illegal.due c.args.call.reply) ≡ true)
    c.terms-terms.ensures (sym c.is_let.ensures ∙ c.if-is_let.true)) c.note_answer-then-is_let.ensures.heard)

pub returns-else-is_let-clause-judged : goal.returns-else-is_let-clause-judged
returns-else-is_let-clause-judged g c =
    judged_illegal (terms_of c.args.self.now) (heard_of c.args.self.now) (heard_of c.args.self.now)
    (plain_of c.args.self.now.auditor) (plain_of c.judge.new.self) c.args.certain c.args.call _ c.in-Illegal.due c.in_ok-judge.ensures.judged
    c.in-Illegal.is (subst (λ (x : Terms). (not x.is_strict && is_lack x.any_place c.args.call.request c.in-Illegal.due c.args.call.reply) ≡ false)
    c.terms-terms.ensures (sym c.is_let.ensures ∙ c.if-is_let.false)) refl

pub returns-in-Legal-clause-judged : goal.returns-in-Legal-clause-judged
returns-in-Legal-clause-judged g c =
    let e : plain_of c.note_answer.new.self.auditor ≡ plain_of c.judge.new.self = ap plain_of c.note_answer.ensures.same in
    subst (λ (p : Plain). JudgesCall (terms_of c.args.self.now) (heard_of c.args.self.now) (plain_of c.args.self.now.auditor) c.args.certain
    c.args.call Legal (heard_of c.note_answer.new.self) p) (sym e)
    (judged_legal (terms_of c.args.self.now) (heard_of c.args.self.now) (heard_of c.note_answer.new.self)
    (plain_of c.args.self.now.auditor) (plain_of c.judge.new.self) c.args.certain c.args.call _ c.in_ok-judge.ensures.judged
    c.in-Legal.is c.note_answer.ensures.heard)
