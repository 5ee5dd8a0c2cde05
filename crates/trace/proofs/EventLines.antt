-- What the steps of a line of an event give
use Rattle.machine_model.proofs.Words.{◌≡◌, ℕ, Bool, List, Option, Some, None, false, true, inl, inr, Result, Ok, Err, refl, sym, ap, ◌∙◌, subst}
use Rattle.machine_model.proofs.Words.{IsSomeAnd, IfErr, if◌then◌else◌}
use Rattle.machine_model.proofs.Words.{World, Made, new_world, Slots, IsNew, Request}
use Rattle.machine_model.specs.declared.event.Outcome.{Outcome}
use Rattle.machine_model.specs.declared.event.Outcome.TheVariants.{Stepped, Wait, Idle, Answered, Full}
use Rattle.std.specs.Prelude.{OnOk, OnErr, ◌⊎◌}
use Rattle.vm_base.specs.declared.memory.NoMemory.{NoMemory}
use Rattle.radix_range.specs.Folds.{CanFold, FoldsNode}
use Rattle.radix_range.specs.Tree.{root_edges, new_tree}
use Rattle.radix_range.proofs.New.{is_new_tree}
use Rattle.machine_model.specs.declared.setup.CallLimit.{CallLimit}
use Rattle.trace_words.specs.Declarations.{DeclarationView, asked_fault_within, made_by}
use Rattle.trace_words.specs.declared.fault.TraceFault.{TraceFault}
use Rattle.trace_words.specs.declared.fault.TraceFault.TheVariants as By
use Rattle.trace.specs.Stage.{Stage, Start, Declared, Running, CanOpen, EventActs, EventFails, EventWants, Opens, stage_of}
use Rattle.trace_text.specs.declared.line.Line.{Line}
use Rattle.trace_text.specs.declared.line.Line.TheVariants.{Now}
use Rattle.trace_text.specs.Front.{access_asked}
use Rattle.trace_text.specs.declared.access_line.AskedAccess.{AskedAccess}
use Rattle.vm_base.specs.declared.requests.Request.TheVariants.{Load, Store}
use Rattle.core_steps.specs.declared.machine.Finished.{Finished}
use Rattle.core_steps.specs.Finishing.{Calls, FinishesAfter as CallGoesOn}
use Rattle.trace.specs.FinishedText.{finished_text}
use Rattle.trace.specs.Gives.{Gives, Wants, is_event, TellsCall}

pub on_err : {U : Type 0} (r : Result U NoMemory) (P : Type 0) → P → OnErr r P
on_err (Ok u) P h = tt
on_err (Err x) P h = h

-- a call, and the text of what it came to
goes_on : (o : Outcome) (m v : World) (core : ℕ) (f : Finished) (text : List ℕ) → CallGoesOn m core o f v → text ≡ finished_text f
    → TellsCall m core o v text
goes_on Stepped m v core f text g t = (f, g, t)
goes_on (Wait blocker) m v core f text g t = (g.0, t ∙ ap finished_text g.1)
goes_on Idle m v core f text g t = (g.0, t ∙ ap finished_text g.1)
goes_on (Answered reply) m v core f text g t = (g.0, t ∙ ap finished_text g.1)
goes_on Full m v core f text g t = (g.0, t ∙ ap finished_text g.1)

pub called : (CanFold : Slots → ℕ → Type 0) (Folds : Slots → Slots → ℕ → Type 0) (w v : World) (core : ℕ) (request : Request) (f : Finished) (text : List ℕ)
    → Calls w core request f v → text ≡ finished_text f → Gives CanFold Folds w (Now core request) v text
called CanFold Folds w v core request f text c t = (c.0, c.1, c.2, goes_on c.0 c.1 v core f text c.3 t)

-- an access is asked for by one of two requests
pub store_asked : (access : AskedAccess) → access.is_store ≡ true → Store access.addr access.byte ≡ access_asked access
store_asked access is = subst (λ b. Store access.addr access.byte ≡ (if b then Store access.addr access.byte else Load access.addr)) (sym is) refl

pub load_asked : (access : AskedAccess) → access.is_store ≡ false → Load access.addr ≡ access_asked access
load_asked access is = subst (λ b. Load access.addr ≡ (if b then Store access.addr access.byte else Load access.addr)) (sym is) refl

-- the line is this one, and what it asks for is done
pub line_gives : {U : Type 0} (line : Option Line) (l : Line) (r : Result U NoMemory) (u : U) (P : Line → Type 0) → line ≡ Some l → r ≡ Ok u → OnOk r (P l)
    → IsSomeAnd line P
line_gives line l r u P e k h = subst (λ o. IsSomeAnd o P) (sym e) (subst (λ r. OnOk r (P l)) k h)

-- a machine is made of what is asked for
pub opened : (limit : CallLimit) (asked : Option DeclarationView) (a : DeclarationView) (made : Made) (slots : Slots) (w : World) → asked ≡ Some a
    → asked_fault_within limit a ≡ None → IsNew slots
    → slots.edge ≡ root_edges → made ≡ made_by a → w ≡ new_world made slots → Opens (stage_of limit asked None) w
opened limit asked a made slots w e none new edges same is =
    let here : slots ≡ new_tree = is_new_tree slots new edges in
    subst (λ o. Opens (stage_of limit o None) w) (sym e) (none, is ∙ ap (λ m. new_world m slots) same ∙ ap (new_world (made_by a)) here)

pub can_open : (s : Stage) (w : World) → Opens s w → CanOpen s
can_open (Start limit) w h = h
can_open (Declared limit s) w h = h.0
can_open (Running v) w h = tt

-- a line was acted on, by the machine that it found
pub acted : {U : Type 0} (r : Result U TraceFault) (line : Option Line) (old : Stage) (w v : World) (text : List ℕ) → Opens old w
    → OnOk r (IsSomeAnd line (λ l. Gives CanFold FoldsNode w l v text)) → OnOk r (IsSomeAnd line (λ l. EventActs old l (Running v) text))
acted (Ok u) (Some l) old w v text o h = (w, v, o, h, refl)
acted (Ok u) None old w v text o h = h
acted (Err f) line old w v text o h = tt

-- or not
pub not_acted : {U : Type 0} (keeps : Bool) (r : Result U TraceFault) (line : Option Line) (old : Stage) (w : World) (number : ℕ) → Opens old w
    → IfErr r (λ f. ((f ≡ By.NoMemory) × IsSomeAnd line (λ l. Wants keeps w l)) ⊎ ((is_event line ≡ false) × (f ≡ By.BadLine number)))
    → IfErr r (λ f. ((f ≡ By.NoMemory) × IsSomeAnd line (λ l. EventWants keeps old l)) ⊎ EventFails old number line f)
not_acted keeps (Ok u) line old w number o h = tt
not_acted keeps (Err f) (Some l) old w number o (inl h) = inl (h.0, (w, o, h.1))
not_acted keeps (Err f) None old w number o (inl h) = inl h
not_acted keeps (Err f) line old w number o (inr h) = inr (inr (can_open old w o, h.0, h.1))
