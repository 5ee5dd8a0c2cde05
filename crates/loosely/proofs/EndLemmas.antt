-- How a judgement ends
use Rattle.std.proofs.Common.{◌≡◌, Bool, ℕ, List, ◌++◌, Option, Ok, Err, refl, subst, sym}
use Rattle.std.specs.Io.KnownBytes.{Appends}
use Rattle.trace_io.specs.Lines.{lines_of}
use Rattle.trace_io.specs.Sink.{AppendsFront}
use Rattle.trace_io.specs.Source.{Stream, Reads}
use Rattle.trace_io.specs.declared.fault.IoFault.{IoFault}
use Rattle.trace_io.specs.declared.fault.IoFault.TheVariants.{ReadFailed, NoMemory, WriteFailed}
use Rattle.trace_io.proofs.IoLemmas.{keeps_same}
use Rattle.trace_io.proofs.LineLemmas.{reads_map, reads_none}
use Rattle.orders_text.specs.Faults.{IsAtFault}
use Rattle.orders_text.specs.declared.faults.HistoryFault.{HistoryFault}
use Rattle.orders_text.specs.declared.faults.HistoryFault.TheVariants.{Io}
use Rattle.overlapping.specs.Ends.{ruling_text}
use Rattle.loosely.specs.Ends.{ExplanationRule, Fails, JudgementEnds}
use Rattle.loosely.specs.Rulings.{IsRuling, OrderRule}
use Rattle.overlapping.specs.declared.judging.Ruled.{Ruled}

pub judges_all : {A : Type 0} (has : OrderRule) (explains : ExplanationRule) (input text : List ℕ) (old new : Option (List ℕ)) (ruled : Ruled A)
    → IsRuling has (lines_of input) ruled.ruling → explains (lines_of input) ruled.ruling ruled.explanation.items
    → text ≡ ruling_text ruled.ruling ++ ruled.explanation.items → Appends old new text → JudgementEnds has explains input old new (Ok ruled)
judges_all has explains input text old new ruled v x e w =
    record { is = v; explanation = ruled.explanation.items; explained = x; written = subst (Appends old new) e w }

pub breaks_off : {A : Type 0} (has : OrderRule) (explains : ExplanationRule) (input text : List ℕ) (old new : Option (List ℕ)) (ruled : Ruled A)
    (f : HistoryFault) → f ≡ Io WriteFailed → IsRuling has (lines_of input) ruled.ruling → explains (lines_of input) ruled.ruling ruled.explanation.items
    → text ≡ ruling_text ruled.ruling ++ ruled.explanation.items → AppendsFront old new text
    → JudgementEnds {A = A} has explains input old new (Err f)
breaks_off {A} has explains input text old new ruled f is v x e w =
    subst (λ y. JudgementEnds {A = A} has explains input old new (Err y)) (sym is) (record {
      ruling = ruled.ruling;
      is = v;
      explanation = ruled.explanation.items;
      explained = x;
      written = subst (AppendsFront old new) e w;
    })

pub fails_so : (has : OrderRule) (explains : ExplanationRule) (input : List ℕ) (o : Option (List ℕ)) (f : HistoryFault)
    → IsAtFault (lines_of input) f → Fails has explains input o o f
fails_so has explains input o (Io ReadFailed) h = absurd h
fails_so has explains input o (Io WriteFailed) h = absurd h
fails_so has explains input o f h = (h, keeps_same o)

pub not_read : (lines : List (List ℕ)) → IsAtFault lines (Io ReadFailed) → ⊥
not_read lines h = h

unread_fails : (has : OrderRule) (explains : ExplanationRule) (input : List ℕ) (o : Option (List ℕ)) (f : IoFault) → (f ≡ WriteFailed → ⊥)
    → Fails has explains input o o (Io f)
unread_fails has explains input o NoMemory n = (tt, keeps_same o)
unread_fails has explains input o ReadFailed n = keeps_same o
unread_fails has explains input o WriteFailed n = absurd (n refl)

pub stopped : (a b : Stream) (has : OrderRule) (explains : ExplanationRule) (o : Option (List ℕ)) (f : IoFault) → (f ≡ WriteFailed → ⊥)
    → Reads a b (λ xs ys. xs ≡ xs) → Reads a b (λ input unread. Fails has explains input o o (Io f))
stopped a b has explains o f n r = reads_map a b _ _ r (λ xs ys k e. unread_fails has explains xs o f n)

pub unmade : (a : Stream) (has : OrderRule) (explains : ExplanationRule) (o : Option (List ℕ))
    → Reads a a (λ input unread. Fails has explains input o o (Io NoMemory))
unmade a has explains o = reads_none a _ (λ xs. (tt, keeps_same o))
