-- What is written of a verdict, and what a verdict says.
use Rattle.machine_model.proofs.Words.{◌≡◌, inl, inr, true, ℕ, Bool, List, [], ◌∷◌, ◌++◌, Option, Some, None, Result, Ok, Err, refl, sym, ap, ◌∙◌, subst}
use Rattle.machine_model.proofs.Words.{append-nil, option_map, Appends-kept, IsSomeAnd, Keeps, Appends, PageRange, Slots}
use Rattle.machine_model.specs.declared.event.Outcome.{Outcome}
use Rattle.std.proofs.Common.{IfOk, IfErr}
use Rattle.std.proofs.KnownBytes.{Keeps-trans}
use Rattle.trace_io.specs.Sink.{AppendsFront}
use Rattle.trace_io.proofs.IoLemmas.{front_kept, whole_front}
use Rattle.machine_model.specs.declared.setup.Setup.{Setup}
use Rattle.machine_model.specs.Setups.{made_of}
use Rattle.seats.specs.declared.noted.Noted.{Noted}
use Rattle.certifier.specs.Order.{all_notes, AreNumbered, IsFirstAmiss}
use Rattle.certifier.specs.Following.{IsCertified, DiffersAt}
use Rattle.trace_words.specs.Declarations.{DeclarationView, made_by, asked_fault}
use Rattle.trace_words.specs.declared.fault.TraceFault.{TraceFault}
use Rattle.trace_words.specs.declared.fault.TraceFault.TheVariants.{NoMemory, WriteFailed}
use Rattle.notes_text.specs.Grammar.{NamesNote}
use Rattle.trace_words.specs.Collected.{Collected}
use Rattle.trace_words.specs.Ends.{Collects}
use Rattle.notes_text.specs.Verdicts.{Made, Judges, verdict_text}
use Rattle.notes_text.specs.CertifyEnds.{Judged, Unjudged, unread_text, unmade, wanting, FindsVerdict, Certifies}
use Rattle.notes_text.specs.declared.verdict.NotesVerdict.{NotesVerdict}
use Rattle.notes_text.specs.declared.verdict.NotesVerdict.TheVariants.{Certified, Ticket, Differs}
use Rattle.trace_words.proofs.CollectLemmas.{stops_own}

-- ---- what certifying says

one_seat : (notes : List Noted) → all_notes (notes ∷ []) ≡ notes
one_seat notes = append-nil notes

pub judged_certified : {A : Type 0} (parts : PageRange → ℕ → ℕ → Bool) (CanFold : Slots → ℕ → Type 0) (Folds : Slots → Slots → ℕ → Type 0)
    (asked : DeclarationView) (notes : List Noted) (setup : Setup A) (calls : ℕ) → made_of setup ≡ made_by asked
    → IsCertified parts CanFold Folds setup (all_notes (notes ∷ [])) [] calls → Judges A parts CanFold Folds asked notes (Certified calls)
judged_certified {A} parts CanFold Folds asked notes setup calls m h =
    (record { setup = setup; made = m }, subst (λ l. IsCertified parts CanFold Folds setup l [] calls) (one_seat notes) h)

pub judged_differs : {A : Type 0} (parts : PageRange → ℕ → ℕ → Bool) (CanFold : Slots → ℕ → Type 0) (Folds : Slots → Slots → ℕ → Type 0)
    (asked : DeclarationView) (notes : List Noted) (setup : Setup A) (t : ℕ) (noted expected : Outcome) → made_of setup ≡ made_by asked
    → AreNumbered (all_notes (notes ∷ [])) → DiffersAt parts CanFold Folds setup (all_notes (notes ∷ [])) t noted expected
    → Judges A parts CanFold Folds asked notes (Differs t noted expected)
judged_differs {A} parts CanFold Folds asked notes setup t noted expected m n h = (
  record { setup = setup; made = m },
  subst AreNumbered (one_seat notes) n,
  subst (λ l. DiffersAt parts CanFold Folds setup l t noted expected) (one_seat notes) h,
)

-- ---- faults

pub unjudged_own : {X : Type 0} (input unread : List ℕ) (f : TraceFault) → Unjudged input unread f → f ≡ WriteFailed → X
unjudged_own input unread f (unread_text s) w = stops_own _ _ input unread f s w
unjudged_own input unread f (unmade e u) w = let clash : NoMemory ≡ WriteFailed = sym e ∙ w in absurd (cc)
unjudged_own input unread f (wanting e a n c) w = let clash : NoMemory ≡ WriteFailed = sym e ∙ w in absurd (cc)

-- what holds of what was asked for holds of the declaration
pub sound_asked : {X : Type 0} (g : X → DeclarationView) (o : Option X) (x : X) (asked : Option DeclarationView) → option_map g o ≡ asked → o ≡ Some x
    → IsSomeAnd asked (λ a. asked_fault a ≡ None) → asked_fault (g x) ≡ None
sound_asked g o x asked e i h = subst (λ a. IsSomeAnd a (λ a. asked_fault a ≡ None)) (sym e ∙ ap (option_map g) i) h

-- ---- a flush

pub certifies_kept : (A : Type 0) (parts : PageRange → ℕ → ℕ → Bool) (CanFold : Slots → ℕ → Type 0) (Folds : Slots → Slots → ℕ → Type 0)
    (input unread : List ℕ) (a b c : Option (List ℕ)) (r : Result Bool TraceFault) → Certifies A parts CanFold Folds input unread a b r → Keeps b c
    → Certifies A parts CanFold Folds input unread a c r
certifies_kept A parts CanFold Folds input unread a b c (Ok told) h k =
    record { verdict = h.verdict; judged = h.judged; says = h.says; appends = Appends-kept _ _ _ _ h.appends k }
certifies_kept A parts CanFold Folds input unread a b c (Err f) (inl h) k = inl (h.0, Keeps-trans a b c h.1 k)
certifies_kept A parts CanFold Folds input unread a b c (Err f) (inr (e, inl (v, j, p))) k = inr (e, inl (v, j, front_kept a b c _ p k))
certifies_kept A parts CanFold Folds input unread a b c (Err f) (inr (e, inr p)) k = inr (e, inr (Keeps-trans a b c p k))

pub certifies_lost : (A : Type 0) (parts : PageRange → ℕ → ℕ → Bool) (CanFold : Slots → ℕ → Type 0) (Folds : Slots → Slots → ℕ → Type 0)
    (input unread : List ℕ) (a b c : Option (List ℕ)) (r : Result Bool TraceFault) → Certifies A parts CanFold Folds input unread a b r → Keeps b c
    → Certifies A parts CanFold Folds input unread a c (Err WriteFailed)
certifies_lost A parts CanFold Folds input unread a b c (Ok told) h k =
    inr (refl, inl (h.verdict, h.judged, whole_front a c _ (Appends-kept _ _ _ _ h.appends k)))
certifies_lost A parts CanFold Folds input unread a b c (Err f) (inl h) k = inr (refl, inr (Keeps-trans a b c h.1 k))
certifies_lost A parts CanFold Folds input unread a b c (Err f) (inr (e, inl (v, j, p))) k = inr (refl, inl (v, j, front_kept a b c _ p k))
certifies_lost A parts CanFold Folds input unread a b c (Err f) (inr (e, inr p)) k = inr (refl, inr (Keeps-trans a b c p k))

-- ---- the verdict of a text

pub judged_asked : {X : Type 0} (A : Type 0) (parts : PageRange → ℕ → ℕ → Bool) (CanFold : Slots → ℕ → Type 0) (Folds : Slots → Slots → ℕ → Type 0)
    (g : X → DeclarationView) (o : Option X) (x : X) (asked : Option DeclarationView) (notes items : List Noted) (v : NotesVerdict) → option_map g o ≡ asked → o ≡ Some x
    → notes ≡ items → Judges A parts CanFold Folds (g x) notes v → IsSomeAnd asked (λ a. Judges A parts CanFold Folds a items v)
judged_asked A parts CanFold Folds g o x asked notes items v e i n h =
    subst (λ a. IsSomeAnd a (λ a. Judges A parts CanFold Folds a items v)) (ap (option_map g) (sym i) ∙ e)
    (subst (λ l. Judges A parts CanFold Folds (g x) l v) n h)

pub found_verdict : (A : Type 0) (parts : PageRange → ℕ → ℕ → Bool) (CanFold : Slots → ℕ → Type 0) (Folds : Slots → Slots → ℕ → Type 0)
    (input unread : List ℕ) (collected : Collected Noted) (r : Result NotesVerdict TraceFault)
    → ((asked : DeclarationView) × (collected.asked ≡ Some asked) × Collects true (λ cores note words. NamesNote note words) input asked collected.items)
    → IfOk r (λ v. IsSomeAnd collected.asked (λ asked. Judges A parts CanFold Folds asked collected.items v)) → IfErr r (λ f. f ≡ NoMemory)
    → FindsVerdict A parts CanFold Folds input unread r
found_verdict A parts CanFold Folds input unread collected (Ok v) p h n = record {
  asked = p.0;
  notes = collected.items;
  collects = p.2;
  judges = subst (λ o. IsSomeAnd o (λ asked. Judges A parts CanFold Folds asked collected.items v)) p.1 h;
}
found_verdict A parts CanFold Folds input unread collected (Err f) p h n = wanting n p.0 collected.items p.2
