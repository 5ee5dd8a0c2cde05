-- How an audit ends.
use Rattle.std.proofs.Common.{◌≡◌, ℕ, List, Option, Ok, Err, refl, sym, subst}
use Rattle.std.specs.Io.KnownBytes.{Appends}
use Rattle.trace_io.specs.Lines.{lines_of}
use Rattle.trace_io.specs.Sink.{AppendsFront}
use Rattle.trace_io.specs.Source.{Stream, Reads}
use Rattle.trace_io.specs.declared.fault.IoFault.{IoFault}
use Rattle.trace_io.specs.declared.fault.IoFault.TheVariants.{ReadFailed, NoMemory, WriteFailed}
use Rattle.trace_io.proofs.IoLemmas.{keeps_same}
use Rattle.trace_io.proofs.LineLemmas.{reads_map, reads_none}
use Rattle.slot_lock.specs.declared.map_list.MapLine.{MapLine}
use Rattle.audit_text.specs.Ends.{IsAtFault, verdict_text}
use Rattle.audit_text.specs.declared.allowing.Terms.{Terms}
use Rattle.audit_text.specs.declared.input.AuditFault.{AuditFault}
use Rattle.audit_text.specs.declared.input.AuditFault.TheVariants.{Io}
use Rattle.audit_text.specs.declared.judging.Verdict.{Verdict}
use Rattle.overlapping.specs.Replies.{AuditEnds, IsJudgement, verdict_of}
use Rattle.overlapping.specs.declared.replies.Judgement.{Judgement}

pub judges_all : (terms : Terms) (input text : List ℕ) (old new : Option (List ℕ)) (judgement : Judgement) (verdict : Verdict) (around : List MapLine)
    → IsJudgement terms (lines_of input) judgement around → verdict ≡ verdict_of judgement → text ≡ verdict_text verdict around
    → Appends old new text → AuditEnds terms input old new (Ok judgement)
judges_all terms input text old new judgement verdict around v is e w = record {
  around = around;
  is = v;
  written = subst (λ (x : Verdict). Appends old new (verdict_text x around)) is (subst (Appends old new) e w);
}

pub breaks_off : (terms : Terms) (input text : List ℕ) (old new : Option (List ℕ)) (judgement : Judgement) (verdict : Verdict) (around : List MapLine)
    (f : AuditFault) → f ≡ Io WriteFailed → IsJudgement terms (lines_of input) judgement around → verdict ≡ verdict_of judgement
    → text ≡ verdict_text verdict around → AppendsFront old new text → AuditEnds terms input old new (Err f)
breaks_off terms input text old new judgement verdict around f failed v is e w =
    subst (λ x. AuditEnds terms input old new (Err x)) (sym failed) (record {
      judgement = judgement;
      around = around;
      is = v;
      written = subst (λ (x : Verdict). AppendsFront old new (verdict_text x around)) is (subst (AppendsFront old new) e w);
    })

pub fails_so : (terms : Terms) (input : List ℕ) (o : Option (List ℕ)) (f : AuditFault) → IsAtFault terms (lines_of input) f
    → AuditEnds terms input o o (Err f)
fails_so terms input o (Io ReadFailed) h = absurd h
fails_so terms input o (Io WriteFailed) h = absurd h
fails_so terms input o f h = (h, keeps_same o)

unread_fails : (terms : Terms) (input : List ℕ) (o : Option (List ℕ)) (f : IoFault) → (f ≡ WriteFailed → ⊥) → AuditEnds terms input o o (Err (Io f))
unread_fails terms input o NoMemory n = (tt, keeps_same o)
unread_fails terms input o ReadFailed n = keeps_same o
unread_fails terms input o WriteFailed n = absurd (n refl)

pub stopped : (a b : Stream) (terms : Terms) (o : Option (List ℕ)) (f : IoFault) → (f ≡ WriteFailed → ⊥) → Reads a b (λ xs ys. xs ≡ xs)
    → Reads a b (λ input unread. AuditEnds terms input o o (Err (Io f)))
stopped a b terms o f n r = reads_map a b _ _ r (λ xs ys k e. unread_fails terms xs o f n)

pub unmade : (a : Stream) (terms : Terms) (o : Option (List ℕ)) → Reads a a (λ input unread. AuditEnds terms input o o (Err (Io NoMemory)))
unmade a terms o = reads_none a _ (λ xs. (tt, keeps_same o))
