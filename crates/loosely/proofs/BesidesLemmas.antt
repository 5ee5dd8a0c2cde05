-- What is said besides of calls that have no order at one moment, and how their judgement ends
use Rattle.std.proofs.Common.{◌≡◌, ◌∙◌, Bool, true, false, ℕ, List, ◌++◌, Option, Ok, Err, ap, length, refl, subst, sym}
use Rattle.std.specs.Io.KnownBytes.{Appends}
use Rattle.trace_io.specs.Lines.{lines_of}
use Rattle.trace_io.specs.Sink.{AppendsFront}
use Rattle.trace_io.specs.Source.{Stream, Reads}
use Rattle.trace_io.specs.declared.fault.IoFault.{IoFault}
use Rattle.trace_io.specs.declared.fault.IoFault.TheVariants.{ReadFailed, NoMemory, WriteFailed}
use Rattle.trace_io.proofs.IoLemmas.{keeps_same}
use Rattle.trace_io.proofs.LineLemmas.{reads_map, reads_none}
use Rattle.vm_base.specs.Plain.{nothing_mapped}
use Rattle.vm_base.specs.declared.replies.Reply.{Reply}
use Rattle.frames.specs.declared.file_spec.FileSpec.{FileSpec}
use Rattle.frames.specs.Given.{given_files}
use Rattle.audit.specs.Placing.{rule_of}
use Rattle.orders.specs.declared.history.Timed.{Timed}
use Rattle.orders_text.specs.Faults.{IsAtFault}
use Rattle.orders_text.specs.History.{IsHistory, Read, completed, replies_in}
use Rattle.orders_text.specs.Steps.{read_of}
use Rattle.orders_text.specs.declared.reading.History.{History}
use Rattle.orders_text.specs.declared.faults.HistoryFault.{HistoryFault}
use Rattle.orders_text.specs.declared.faults.HistoryFault.TheVariants.{Io}
use Rattle.loose_orders.specs.Kernel.{HasKernelOrder}
use Rattle.overlapping.specs.Ends.{ruling_text}
use Rattle.overlapping.specs.Explained.{IsExplained}
use Rattle.overlapping.specs.Rulings.{IsRuling}
use Rattle.overlapping.specs.declared.judging.Ruling.{Ruling}
use Rattle.loosely.specs.Besides.{CallsEnd, Fails, Holds, IsBesides, IsFound, besides_text, is_no_order, is_told}
use Rattle.loosely.specs.Rulings.{IsLegal}
use Rattle.loosely.specs.declared.besides.Besides.{Besides}
use Rattle.loosely.specs.declared.besides.Besides.TheVariants.{Nothing, Kernel, Moving}
use Rattle.loosely.specs.declared.telling.Judged.{Judged}
use Rattle.loosely.proofs.KernelLemmas.{legal_by_kernel}

-- ---- what is found

found_so : {A : Type 0} (any_place moving : Bool) (lines : List (List ℕ)) (history : History A) (replies : List Reply) (calls all : List Timed)
    (files : List (FileSpec A)) → files ≡ history.declaration.files.items → calls ≡ all → all ≡ completed (replies_in replies) (read_of history)
    → HasKernelOrder (rule_of any_place) moving (nothing_mapped (given_files files)) calls → IsHistory lines (read_of history)
    → (n : ℕ) × IsLegal (HasKernelOrder (rule_of any_place) moving) lines n
found_so any_place moving lines history replies calls all files f same e o h =
    (length history.calls.items, legal_by_kernel any_place moving lines history replies calls all files (length history.calls.items) refl f same e o h)

pub kernel_found : {A : Type 0} (any_place : Bool) (history : History A) (replies : List Reply) (calls all : List Timed) (files : List (FileSpec A))
    → files ≡ history.declaration.files.items → calls ≡ all → all ≡ completed (replies_in replies) (read_of history)
    → HasKernelOrder (rule_of any_place) false (nothing_mapped (given_files files)) calls → IsFound any_place (read_of history) Kernel
kernel_found any_place history replies calls all files f same e o =
    record { holds = λ lines h. found_so any_place false lines history replies calls all files f same e o h }

pub moving_found : {A : Type 0} (any_place : Bool) (history : History A) (replies : List Reply) (calls all : List Timed) (files : List (FileSpec A))
    → files ≡ history.declaration.files.items → calls ≡ all → all ≡ completed (replies_in replies) (read_of history)
    → HasKernelOrder (rule_of any_place) true (nothing_mapped (given_files files)) calls → IsFound any_place (read_of history) Moving
moving_found any_place history replies calls all files f same e o =
    record { holds = λ lines h. found_so any_place true lines history replies calls all files f same e o h }

pub nothing_found : (any_place : Bool) (r : Read) → IsFound any_place r Nothing
nothing_found any_place r = record { holds = λ lines h. tt }

pub holds_there : (any_place : Bool) (lines : List (List ℕ)) (r : Read) (besides : Besides) → IsFound any_place r besides → IsHistory lines r
    → Holds any_place lines besides
holds_there any_place lines r besides found h = found.holds lines h

-- ---- what is said

pub besides_so : (is_alone any_place : Bool) (lines : List (List ℕ)) (ruling : Ruling) (besides : Besides) → is_alone ≡ false
    → is_no_order ruling ≡ true → Holds any_place lines besides → IsBesides is_alone any_place lines ruling besides
besides_so is_alone any_place lines ruling besides a n h = record { holds = h; unordered = λ e. n; asked = λ e. a }

pub nothing_besides : (is_alone any_place : Bool) (lines : List (List ℕ)) (ruling : Ruling) → IsBesides is_alone any_place lines ruling Nothing
nothing_besides is_alone any_place lines ruling =
    record { holds = tt; unordered = λ e. absurd (cc); asked = λ e. absurd (cc) }

pub told_so : (a b c x y z : List ℕ) → a ≡ x ++ y → c ≡ a ++ b → b ≡ z → c ≡ (x ++ y) ++ z
told_so a b c x y z e f g = f ∙ (ap (λ (l : List ℕ). l ++ b) e ∙ ap (λ (l : List ℕ). (x ++ y) ++ l) g)

-- ---- how the judgement ends

pub judges_all : {A : Type 0} (is_alone any_place : Bool) (input text : List ℕ) (old new : Option (List ℕ)) (judged : Judged A)
    → IsRuling any_place (lines_of input) judged.ruled.ruling
    → IsExplained any_place (lines_of input) judged.ruled.ruling judged.ruled.explanation.items
    → IsBesides is_alone any_place (lines_of input) judged.ruled.ruling judged.besides
    → text ≡ (ruling_text judged.ruled.ruling ++ judged.ruled.explanation.items) ++ besides_text judged.besides
    → Appends old new text → CallsEnd is_alone any_place input old new (Ok judged)
judges_all is_alone any_place input text old new judged v x b e w =
    record { is = v; explanation = judged.ruled.explanation.items; explained = x; also = b; written = subst (Appends old new) e w }

pub breaks_off : {A : Type 0} (is_alone any_place : Bool) (input text : List ℕ) (old new : Option (List ℕ)) (judged : Judged A)
    (f : HistoryFault) → f ≡ Io WriteFailed → IsRuling any_place (lines_of input) judged.ruled.ruling
    → IsExplained any_place (lines_of input) judged.ruled.ruling judged.ruled.explanation.items
    → IsBesides is_alone any_place (lines_of input) judged.ruled.ruling judged.besides
    → text ≡ (ruling_text judged.ruled.ruling ++ judged.ruled.explanation.items) ++ besides_text judged.besides
    → AppendsFront old new text → CallsEnd {A = A} is_alone any_place input old new (Err f)
breaks_off {A} is_alone any_place input text old new judged f is v x b e w =
    subst (λ y. CallsEnd {A = A} is_alone any_place input old new (Err y)) (sym is) (record {
      ruling = judged.ruled.ruling;
      besides = judged.besides;
      is = v;
      explanation = judged.ruled.explanation.items;
      explained = x;
      also = b;
      written = subst (AppendsFront old new) e w;
    })

pub fails_so : (is_alone any_place : Bool) (input : List ℕ) (o : Option (List ℕ)) (f : HistoryFault) → IsAtFault (lines_of input) f
    → Fails is_alone any_place input o o f
fails_so is_alone any_place input o (Io ReadFailed) h = absurd h
fails_so is_alone any_place input o (Io WriteFailed) h = absurd h
fails_so is_alone any_place input o f h = (h, keeps_same o)

unread_fails : (is_alone any_place : Bool) (input : List ℕ) (o : Option (List ℕ)) (f : IoFault) → (f ≡ WriteFailed → ⊥)
    → Fails is_alone any_place input o o (Io f)
unread_fails is_alone any_place input o NoMemory n = (tt, keeps_same o)
unread_fails is_alone any_place input o ReadFailed n = keeps_same o
unread_fails is_alone any_place input o WriteFailed n = absurd (n refl)

pub stopped : (a b : Stream) (is_alone any_place : Bool) (o : Option (List ℕ)) (f : IoFault) → (f ≡ WriteFailed → ⊥)
    → Reads a b (λ xs ys. xs ≡ xs) → Reads a b (λ input unread. Fails is_alone any_place input o o (Io f))
stopped a b is_alone any_place o f n r = reads_map a b _ _ r (λ xs ys k e. unread_fails is_alone any_place xs o f n)

pub unmade : (a : Stream) (is_alone any_place : Bool) (o : Option (List ℕ))
    → Reads a a (λ input unread. Fails is_alone any_place input o o (Io NoMemory))
unmade a is_alone any_place o = reads_none a _ (λ xs. (tt, keeps_same o))
