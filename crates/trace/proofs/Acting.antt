-- Why a line isn't acted on, by what a replayer has.
use Rattle.machine_model.proofs.Words.{◌≡◌, ℕ, Bool, true, false, List, [], ◌∷◌, Option, None, Some, ◌⊎◌, inl, inr, Result, Ok, Err, refl, sym, ap, subst}
use Rattle.machine_model.proofs.Words.{IfErr, IfSome, IsSomeAnd, if◌then◌else◌, World}
use Rattle.std.proofs.Common.{is_some}
use Rattle.std.specs.Prelude.{codes, is_none, option_map}
use Rattle.std.specs.Str.{bytes_eq}
use Rattle.std.proofs.lemmas.Slice.Eq.{bytes_eq-Decides}
use Rattle.trace_text.specs.Words.{Word, words_of}
use Rattle.trace_text.specs.Line.{are_printable, begins_with_file, begins_with_vm, line_of}
use Rattle.trace_text.specs.declared.line.Line.{Line}
use Rattle.trace_text.specs.declared.line.Line.TheVariants.{Blank, Space, File, Act, Fold, Finish, Now}
use Rattle.machine_model.specs.declared.setup.CallLimit.{CallLimit}
use Rattle.trace_words.specs.declared.fault.TraceFault.{TraceFault}
use Rattle.trace_words.specs.declared.fault.TraceFault.TheVariants.{BadLine, NoMemory, NoVmLine}
use Rattle.trace_words.specs.Declarations.{DeclarationView, asks_for}
use Rattle.trace.specs.Gives.{is_event}
use Rattle.trace.specs.Stage.{Stage, stage_of, Acts, EventActs, Opens, OpenFails, LateFails, BadFails}
use Rattle.trace_words.specs.Kinds.{FirstWord, OfSpace, OfFile, OfEvents, kind_of}
use Rattle.trace.specs.Stage.{BytesFail, EventFails, EventWants, LineActs, LineFails, LineWants, SaidFails, SpaceFails}

-- ---- at which a machine is to be made

pub late_ok : (limit : CallLimit) (d : Option DeclarationView) (w : World) (n : ℕ) → Opens (stage_of limit d None) w → IfSome d (λ a. LateFails limit a n (BadLine n))
late_ok limit None w n o = tt
late_ok limit (Some a) w n o = inr (o.0, refl)

pub late_err : (limit : CallLimit) (d : Option DeclarationView) (n : ℕ) (f : TraceFault) → OpenFails (stage_of limit d None) f → IfSome d (λ a. LateFails limit a n f)
late_err limit None n f h = tt
late_err limit (Some a) n f h = inl h

-- ---- the vm line

pub space_running : {X : Type 0} (g : X → World) (limit : CallLimit) (d : Option DeclarationView) (m : Option X) (n : ℕ) → is_some m ≡ true
    → SpaceFails (stage_of limit d (option_map g m)) n (BadLine n)
space_running g limit d None n e = absurd cc
space_running g limit d (Some x) n e = refl

pub space_late : {X : Type 0} (g : X → World) (limit : CallLimit) (d : Option DeclarationView) (m : Option X) (n : ℕ) (f : TraceFault) → is_some m ≡ false
    → is_some d ≡ true → IfSome d (λ a. LateFails limit a n f) → SpaceFails (stage_of limit d (option_map g m)) n f
space_late g limit d (Some x) n f e i h = absurd cc
space_late g limit None None n f e i h = absurd cc
space_late g limit (Some a) None n f e i h = h

pub space_taken : {X : Type 0} (g : X → World) (limit : CallLimit) (d : Option DeclarationView) (m : Option X) (cores frames calls : ℕ) → is_some m ≡ false
    → is_some d ≡ false → LineActs (stage_of limit d (option_map g m)) (Space cores frames calls)
    (stage_of limit (Some (asks_for cores frames calls)) (option_map g m)) []
space_taken g limit d (Some x) cores frames calls e i = absurd cc
space_taken g limit (Some a) None cores frames calls e i = absurd cc
space_taken g limit None None cores frames calls e i = (limit, refl, refl, refl)

-- ---- a bad line

-- its first word isn't both
no_both : (words : List Word) → begins_with_file words ≡ true → begins_with_vm words ≡ false
no_both [] h = refl
no_both (name ∷ args) h =
    let same : name ≡ codes "file" = (bytes_eq-Decides name (codes "file")).0 h in
    ap (λ w. bytes_eq w (codes "vm")) same

pub bad_running : {X : Type 0} (g : X → World) (limit : CallLimit) (d : Option DeclarationView) (m : Option X) (n : ℕ) (k : FirstWord) → is_some m ≡ true
    → BadFails (stage_of limit d (option_map g m)) n k (BadLine n)
bad_running g limit d None n k e = absurd cc
bad_running g limit d (Some x) n k e = refl

pub bad_space : {X : Type 0} (g : X → World) (limit : CallLimit) (d : Option DeclarationView) (m : Option X) (n : ℕ) (words : List Word) → is_some m ≡ false
    → is_none d ≡ true → begins_with_vm words ≡ true → BadFails (stage_of limit d (option_map g m)) n (kind_of words) (BadLine n)
bad_space g limit d (Some x) n words e i h = absurd cc
bad_space g limit (Some a) None n words e i h = absurd cc
bad_space g limit None None n words e i h =
    subst (λ b. BadFails (stage_of limit None None) n (if b then OfSpace else if begins_with_file words then OfFile else OfEvents) (BadLine n)) (sym h) refl

pub bad_other : {X : Type 0} (g : X → World) (limit : CallLimit) (d : Option DeclarationView) (m : Option X) (n : ℕ) (words : List Word) → is_some m ≡ false
    → is_none d ≡ true → begins_with_vm words ≡ false → BadFails (stage_of limit d (option_map g m)) n (kind_of words) NoVmLine
bad_other g limit d (Some x) n words e i h = absurd cc
bad_other g limit (Some a) None n words e i h = absurd cc
bad_other g limit None None n words e i h =
    subst (λ b. BadFails (stage_of limit None None) n (if b then OfSpace else if begins_with_file words then OfFile else OfEvents) NoVmLine) (sym h)
    (go (begins_with_file words))
  where
    go : (b : Bool) → BadFails (stage_of limit None None) n (if b then OfFile else OfEvents) NoVmLine
    go true = refl
    go false = refl

pub bad_file : {X : Type 0} (g : X → World) (limit : CallLimit) (d : Option DeclarationView) (m : Option X) (n : ℕ) (words : List Word) → is_some m ≡ false
    → is_none d ≡ false → begins_with_file words ≡ true → BadFails (stage_of limit d (option_map g m)) n (kind_of words) (BadLine n)
bad_file g limit d (Some x) n words e i h = absurd cc
bad_file g limit None None n words e i h = absurd cc
bad_file g limit (Some a) None n words e i h =
    subst (λ b. BadFails (stage_of limit (Some a) None) n (if b then OfSpace else if begins_with_file words then OfFile else OfEvents) (BadLine n))
    (sym (no_both words h))
    (subst (λ b. BadFails (stage_of limit (Some a) None) n (if b then OfFile else OfEvents) (BadLine n)) (sym h) refl)

pub bad_late : {X : Type 0} (g : X → World) (limit : CallLimit) (d : Option DeclarationView) (m : Option X) (n : ℕ) (words : List Word) (f : TraceFault)
    → is_some m ≡ false → is_none d ≡ false → begins_with_file words ≡ false → IfSome d (λ a. LateFails limit a n f)
    → BadFails (stage_of limit d (option_map g m)) n (kind_of words) f
bad_late g limit d (Some x) n words f e i h l = absurd cc
bad_late g limit None None n words f e i h l = absurd cc
bad_late g limit (Some a) None n words f e i h l = go (begins_with_vm words)
  where
    go : (b : Bool) → BadFails (stage_of limit (Some a) None) n (if b then OfSpace else if begins_with_file words then OfFile else OfEvents) f
    go true = l
    go false = subst (λ b. BadFails (stage_of limit (Some a) None) n (if b then OfFile else OfEvents) f) (sym h) l

-- ---- the line of an event

said_failed : (s : Stage) (n : ℕ) (kind : FirstWord) (line : Option Line) (f : TraceFault) → is_event line ≡ true → EventFails s n line f
    → SaidFails s n kind line f
said_failed s n kind None f e h = absurd cc
said_failed s n kind (Some Blank) f e h = absurd cc
said_failed s n kind (Some (Space cores frames calls)) f e h = absurd cc
said_failed s n kind (Some (File next mode len seed)) f e h = absurd cc
said_failed s n kind (Some (Act core action)) f e (inl h) = h
said_failed s n kind (Some (Fold page)) f e (inl h) = h
said_failed s n kind (Some (Finish core)) f e (inl h) = h
said_failed s n kind (Some (Now core request)) f e (inl h) = h
said_failed s n kind (Some (Act core action)) f e (inr h) = absurd (let k = h.1 in cc)
said_failed s n kind (Some (Fold page)) f e (inr h) = absurd (let k = h.1 in cc)
said_failed s n kind (Some (Finish core)) f e (inr h) = absurd (let k = h.1 in cc)
said_failed s n kind (Some (Now core request)) f e (inr h) = absurd (let k = h.1 in cc)

pub event_failed : {U : Type 0} (keeps : Bool) (r : Result U TraceFault) (s : Stage) (n : ℕ) (bytes : List ℕ) (line : Option Line) → are_printable bytes ≡ true
    → line ≡ line_of bytes → is_event line ≡ true
    → IfErr r (λ f. ((f ≡ NoMemory) × IsSomeAnd line (λ l. EventWants keeps s l)) ⊎ EventFails s n line f)
    → IfErr r (λ f. ((f ≡ NoMemory) × LineWants keeps s bytes) ⊎ LineFails s n bytes f)
event_failed keeps (Ok u) s n bytes line p e i h = tt
event_failed keeps (Err f) s n bytes line p e i (inl h) =
    inl (h.0, record { printable = p; wants = subst (λ o. IsSomeAnd o (λ l. EventWants keeps s l)) e h.1 })
event_failed keeps (Err f) s n bytes line p e i (inr h) = inr (record {
  because = subst (λ b. BytesFail b s n bytes f) (sym p)
      (subst (λ o. SaidFails s n (kind_of (words_of bytes)) o f) e (said_failed s n (kind_of (words_of bytes)) line f i h));
})

said_acts : (line : Option Line) (old new : Stage) (text : List ℕ) → is_event line ≡ true → IsSomeAnd line (λ l. EventActs old l new text)
    → IsSomeAnd line (λ l. LineActs old l new text)
said_acts None old new text i h = h
said_acts (Some Blank) old new text i h = absurd cc
said_acts (Some (Space cores frames calls)) old new text i h = absurd cc
said_acts (Some (File n mode len seed)) old new text i h = absurd cc
said_acts (Some (Act core action)) old new text i h = h
said_acts (Some (Fold page)) old new text i h = h
said_acts (Some (Finish core)) old new text i h = h
said_acts (Some (Now core request)) old new text i h = h

pub event_acts : (old new : Stage) (bytes text : List ℕ) (line : Option Line) → are_printable bytes ≡ true → line ≡ line_of bytes → is_event line ≡ true
    → IsSomeAnd line (λ l. EventActs old l new text) → Acts old bytes new text
event_acts old new bytes text line p e i h =
    record { printable = p; acts = subst (λ o. IsSomeAnd o (λ l. LineActs old l new text)) e (said_acts line old new text i h) }
