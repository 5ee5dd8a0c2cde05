-- How an audit of all replies ends.
use Rattle.std.proofs.Common.{◌≡◌, ℕ, List, Option, Some, None, Result, Ok, Err, refl, sym, ap, ◌∙◌, subst}
use Rattle.std.specs.Io.KnownBytes.{Appends}
use Rattle.trace_io.specs.Lines.{lines_of}
use Rattle.trace_io.specs.Sink.{AppendsFront}
use Rattle.trace_io.specs.Source.{Stream, Reads}
use Rattle.trace_io.specs.declared.fault.IoFault.{IoFault}
use Rattle.trace_io.specs.declared.fault.IoFault.TheVariants.{ReadFailed, NoMemory, WriteFailed}
use Rattle.trace_io.proofs.IoLemmas.{keeps_same}
use Rattle.trace_io.proofs.LineLemmas.{reads_map, reads_none}
use Rattle.audit_text.specs.Reviewed.{IsReviewed, IsTextAtFault, ReviewEnds, first_found, review_text}
use Rattle.audit_text.specs.declared.allowing.Terms.{Terms}
use Rattle.audit_text.specs.declared.input.AuditFault.{AuditFault}
use Rattle.audit_text.specs.declared.input.AuditFault.TheVariants.{Io}
use Rattle.audit_text.specs.declared.judging.Verdict.{Verdict}

pub reviews_all : (terms : Terms) (input text : List ℕ) (old new : Option (List ℕ)) (found : List Verdict) (calls lacking : ℕ) (first : Option Verdict)
    → IsReviewed terms (lines_of input) found calls lacking → text ≡ review_text found calls lacking → first ≡ first_found found
    → Appends old new text → ReviewEnds terms input old new (Ok first)
reviews_all terms input text old new found calls lacking first is e same w = record {
  found = found;
  calls = calls;
  lacking = lacking;
  is = is;
  first_is = same;
  written = subst (Appends old new) e w;
}

pub breaks_review : (terms : Terms) (input text : List ℕ) (old new : Option (List ℕ)) (found : List Verdict) (calls lacking : ℕ) (f : AuditFault)
    → f ≡ Io WriteFailed → IsReviewed terms (lines_of input) found calls lacking → text ≡ review_text found calls lacking
    → AppendsFront old new text → ReviewEnds terms input old new (Err f)
breaks_review terms input text old new found calls lacking f failed is e w =
    subst (λ x. ReviewEnds terms input old new (Err x)) (sym failed)
    (record { found = found; calls = calls; lacking = lacking; is = is; written = subst (AppendsFront old new) e w })

pub review_fails_so : (terms : Terms) (input : List ℕ) (o : Option (List ℕ)) (f : AuditFault) → IsTextAtFault (lines_of input) f
    → ReviewEnds terms input o o (Err f)
review_fails_so terms input o (Io ReadFailed) h = absurd h
review_fails_so terms input o (Io WriteFailed) h = absurd h
review_fails_so terms input o f h = (h, keeps_same o)

unread_fails : (terms : Terms) (input : List ℕ) (o : Option (List ℕ)) (f : IoFault) → (f ≡ WriteFailed → ⊥) → ReviewEnds terms input o o (Err (Io f))
unread_fails terms input o NoMemory n = (tt, keeps_same o)
unread_fails terms input o ReadFailed n = keeps_same o
unread_fails terms input o WriteFailed n = absurd (n refl)

pub review_stopped : (a b : Stream) (terms : Terms) (o : Option (List ℕ)) (f : IoFault) → (f ≡ WriteFailed → ⊥) → Reads a b (λ xs ys. xs ≡ xs)
    → Reads a b (λ input unread. ReviewEnds terms input o o (Err (Io f)))
review_stopped a b terms o f n r = reads_map a b _ _ r (λ xs ys k e. unread_fails terms xs o f n)

pub review_unmade : (a : Stream) (terms : Terms) (o : Option (List ℕ)) → Reads a a (λ input unread. ReviewEnds terms input o o (Err (Io NoMemory)))
review_unmade a terms o = reads_none a _ (λ xs. (tt, keeps_same o))
