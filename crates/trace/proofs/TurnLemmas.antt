-- Whose fault a fault is, and what a line comes to in a turn.
use Rattle.machine_model.proofs.Words.{◌≡◌, ℕ, ◌+◌, ◌≤◌, Bool, true, false, List, ◌++◌, Option, None, Some, ◌⊎◌, inl, inr, refl, sym, ap, ◌∙◌, subst, length}
use Rattle.machine_model.proofs.Words.{Keeps, Appends}
use Rattle.trace_io.specs.Sink.{AppendsFront}
use Rattle.trace_io.specs.Lines.{TakesLine}
use Rattle.trace_io.proofs.IoLemmas.{appends_after, front_after}
use Rattle.trace_text.specs.Words.{words_of}
use Rattle.trace_text.specs.Line.{are_printable, line_of}
use Rattle.trace_text.specs.declared.line.Line.{Line}
use Rattle.trace_text.specs.declared.line.Line.TheVariants.{Blank, Space, File, Act, Fold, Finish, Now}
use Rattle.machine_model.specs.declared.setup.SetupFault.{SetupFault}
use Rattle.trace_words.specs.declared.fault.TraceFault.{TraceFault}
use Rattle.trace_words.specs.declared.fault.TraceFault.TheVariants.{BadLine, TooLong, ReadFailed, NoVmLine, NoMemory, Setup, WriteFailed}
use Rattle.trace.specs.Stage.{Stage, Start, Declared, Running, SetupFails, OpenFails, LineWants}
use Rattle.trace_words.specs.Kinds.{FirstWord, OfSpace, OfFile, OfEvents, kind_of}
use Rattle.trace.specs.Stage.{LateFails, BadFails, SpaceFails, FileFails, SaidFails, BytesFail, LineFails, Acts}
use Rattle.machine_model.specs.declared.setup.CallLimit.{CallLimit}
use Rattle.trace_words.specs.Declarations.{DeclarationView, asked_fault_within}
use Rattle.trace.specs.Turns.{Scene, Advances, IsHeld, Fails, no_memory, refused, unwritten}
use Rattle.trace_words.proofs.OwnFaults.{is_own}

own_setup : (a : DeclarationView) (o : Option SetupFault) (f : TraceFault) → SetupFails a o f → is_own f ≡ true
unfolding is_own
own_setup a None f (inl e) = ap is_own e.1
own_setup a None f (inr e) = ap is_own e
own_setup a (Some s) f e = ap is_own e

pub own_open : (s : Stage) (f : TraceFault) → OpenFails s f → is_own f ≡ true
unfolding is_own
own_open (Start limit) f e = ap is_own e
own_open (Declared limit a) f e = own_setup a (asked_fault_within limit a) f e
own_open (Running w) f e = absurd e

own_late : (limit : CallLimit) (a : DeclarationView) (n : ℕ) (f : TraceFault) → LateFails limit a n f → is_own f ≡ true
unfolding is_own
own_late limit a n f (inl e) = own_setup a (asked_fault_within limit a) f e
own_late limit a n f (inr e) = ap is_own e.1

own_bad : (s : Stage) (n : ℕ) (k : FirstWord) (f : TraceFault) → BadFails s n k f → is_own f ≡ true
unfolding is_own
own_bad (Start limit) n OfSpace f e = ap is_own e
own_bad (Start limit) n OfFile f e = ap is_own e
own_bad (Start limit) n OfEvents f e = ap is_own e
own_bad (Declared limit a) n OfSpace f e = own_late limit a n f e
own_bad (Declared limit a) n OfFile f e = ap is_own e
own_bad (Declared limit a) n OfEvents f e = own_late limit a n f e
own_bad (Running w) n k f e = ap is_own e

own_space : (s : Stage) (n : ℕ) (f : TraceFault) → SpaceFails s n f → is_own f ≡ true
unfolding is_own
own_space (Start limit) n f e = absurd e
own_space (Declared limit a) n f e = own_late limit a n f e
own_space (Running w) n f e = ap is_own e

own_file : (s : Stage) (n next : ℕ) (f : TraceFault) → FileFails s n next f → is_own f ≡ true
unfolding is_own
own_file (Start limit) n next f e = ap is_own e
own_file (Declared limit a) n next f e = ap is_own e.1
own_file (Running w) n next f e = ap is_own e

own_said : (s : Stage) (n : ℕ) (k : FirstWord) (l : Option Line) (f : TraceFault) → SaidFails s n k l f → is_own f ≡ true
own_said s n k None f e = own_bad s n k f e
own_said s n k (Some Blank) f e = absurd e
own_said s n k (Some (Space x y z)) f e = own_space s n f e
own_said s n k (Some (File next mode len seed)) f e = own_file s n next f e
own_said s n k (Some (Act x y)) f e = own_open s f e
own_said s n k (Some (Fold x)) f e = own_open s f e
own_said s n k (Some (Finish x)) f e = own_open s f e
own_said s n k (Some (Now x y)) f e = own_open s f e

own_bytes : (p : Bool) (s : Stage) (n : ℕ) (line : List ℕ) (f : TraceFault) → BytesFail p s n line f → is_own f ≡ true
unfolding is_own
own_bytes false s n line f e = ap is_own e
own_bytes true s n line f e = own_said s n (kind_of (words_of line)) (line_of line) f e

own_act : (keeps : Bool) (s : Stage) (n : ℕ) (line : List ℕ) (f : TraceFault) → ((f ≡ NoMemory) × LineWants keeps s line) ⊎ LineFails s n line f
    → is_own f ≡ true
unfolding is_own
own_act keeps s n line f (inl e) = ap is_own e.0
own_act keeps s n line f (inr h) = own_bytes (are_printable line) s n line f h.because

pub not_read : {X : Type 0} (keeps : Bool) (s : Stage) (n : ℕ) (line : List ℕ) (f : TraceFault) → ((f ≡ NoMemory) × LineWants keeps s line)
    ⊎ LineFails s n line f → f ≡ ReadFailed → X
unfolding is_own
not_read keeps s n line f h e = let clash : false ≡ true = sym (ap is_own e) ∙ own_act keeps s n line f h in cc

pub not_write : {X : Type 0} (keeps : Bool) (s : Stage) (n : ℕ) (line : List ℕ) (f : TraceFault) → ((f ≡ NoMemory) × LineWants keeps s line)
    ⊎ LineFails s n line f → f ≡ WriteFailed → X
unfolding is_own
not_write keeps s n line f h e = let clash : false ≡ true = sym (ap is_own e) ∙ own_act keeps s n line f h in cc

-- the end is neither the reader's fault nor the writer's
pub end_not_read : {X : Type 0} (s : Stage) (f : TraceFault) → OpenFails s f → f ≡ ReadFailed → X
unfolding is_own
end_not_read s f h e = let clash : false ≡ true = sym (ap is_own e) ∙ own_open s f h in cc

pub end_not_write : {X : Type 0} (s : Stage) (f : TraceFault) → OpenFails s f → f ≡ WriteFailed → X
unfolding is_own
end_not_write s f h e = let clash : false ≡ true = sym (ap is_own e) ∙ own_open s f h in cc

-- a line that wasn't acted on fails the turn
pub act_fails : (keeps : Bool) (shown : List ℕ → List ℕ → List ℕ) (old new : Scene) (n : ℕ) (line held seen : List ℕ) (f : TraceFault)
    → Keeps old.written new.written → TakesLine old.left line new.left → IsHeld held new → seen ≡ line
    → ((f ≡ NoMemory) × LineWants keeps old.stage seen) ⊎ LineFails old.stage (n + 1) seen f → Fails keeps shown old new n f
act_fails keeps shown old new n line held seen f stays takes holds same (inl e) =
    no_memory e.0 line held takes holds (subst (LineWants keeps old.stage) same e.1) stays
act_fails keeps shown old new n line held seen f stays takes holds same (inr h) =
    refused line takes (subst (λ l. LineFails old.stage (n + 1) l f) same h) stays

-- a line that wasn't shown whole fails the turn
pub text_lost : (keeps : Bool) (shown : List ℕ → List ℕ → List ℕ) (old new : Scene) (mid : Option (List ℕ)) (n : ℕ) (line seen text : List ℕ)
    → TakesLine old.left line new.left → seen ≡ line → Acts old.stage seen new.stage text → Keeps old.written mid
    → AppendsFront mid new.written (shown seen text) → Fails keeps shown old new n WriteFailed
text_lost keeps shown old new mid n line seen text takes same acts stays front =
    unwritten refl line text takes (subst (λ l. Acts old.stage l new.stage text) same acts)
    (subst (λ l. AppendsFront old.written new.written (shown l text)) same (front_after _ _ _ _ stays front))

-- a line that was shown
unfoldable pub line_told : (shown : List ℕ → List ℕ → List ℕ) (old new : Scene) (mid : Option (List ℕ)) (line seen text : List ℕ)
    → TakesLine old.left line new.left → seen ≡ line → Acts old.stage seen new.stage text → Keeps old.written mid
    → Appends mid new.written (shown seen text) → Advances shown old new
line_told shown old new mid line seen text takes same acts stays wrote = record {
  line = line;
  text = text;
  takes = takes;
  acts = subst (λ l. Acts old.stage l new.stage text) same acts;
  appends = subst (λ l. Appends old.written new.written (shown l text)) same (appends_after _ _ _ _ stays wrote);
}
