-- What the definition of a plain page map's text refuses: other replies, a step of a core that isn't there, `stuck`, a log without a reply,
-- and mappings that aren't.
use Rattle.machine_model.proofs.Words.{◌≡◌, ◌≢◌, ℕ, ◌==◌, ◌⊎◌, inl, inr, Bool, true, false, cond, List, [], ◌∷◌, Option, None, Some, length, refl, ap, ◌∙◌}
use Rattle.machine_model.proofs.Words.{arith, nat_lt, Entry, Entry, Reply, Mapped, Done, Byte, Refused, Segv, Bus, NoFrame, NoMemory, MapErr, Request, Load}
use Rattle.machine_model.proofs.Words.{Plain, MapLine, IsMapList, plain_metas, RepliesBy, IsFirstPlace}
use Rattle.machine_model.specs.declared.event.Outcome.{Outcome}
use Rattle.machine_model.specs.declared.event.Outcome.TheVariants.{Stepped, Wait, Idle, Answered, Full}
use Rattle.std.specs.Prelude.{codes}
use Rattle.machine_model.specs.declared.event.Blocker.TheVariants.{Acks}
use Rattle.trace_text.specs.declared.action.Action.{Action}
use Rattle.trace_text.specs.declared.action.Action.TheVariants as By
use Rattle.trace_text.specs.declared.line.Line.{Line}
use Rattle.trace_text.specs.declared.line.Line.TheVariants.{Blank, Space, File, Act, Fold, Finish, Now}
use Rattle.trace_words.specs.declared.show.Show.TheVariants.{Maps}
use Rattle.trace_words.specs.OutcomeText.{outcome_text}
use Rattle.trace_text.specs.Listing.{maps_text}
use Rattle.trace.specs.PlainText.{Open, Reached, nothing_reached, one_more, Idles, AnswersAtOnce, IsHeldUp, OpenAnswers, FinishAnswers}
use Rattle.trace.specs.PlainText.{TakeAnswers, MayStep, CoreMayStep, ActAnswers, LineAnswers, IsLogOf, IsPlainBehind}

-- one core, and nothing is mapped
abbrev one_core : Reached
one_core = record nothing_reached { cores = 1; frames = 4; calls = 8 }

-- ---- replies

faults : (after : Plain) (y : Reply) → RepliesBy IsFirstPlace one_core.plain 0 (Load 65540) y after → y ≢ NoMemory → y ≡ Segv MapErr
faults after (Mapped a) h given = let e = h.0 in cc
faults after Done h given = let e = h.0 in cc
faults after (Byte b) h given = let e = h.0 in cc
faults after (Refused r) h given = let e = h.0 in cc
faults after (Segv s) h given = let e = h.0 in cc
faults after Bus h given = let e = h.0 in cc
faults after NoFrame h given = absurd h.0
faults after NoMemory h given = absurd (given refl)

-- a load where nothing is mapped is answered SIGSEGV at once, and nothing else
load_faults : (r : Reached) (text : List ℕ) → LineAnswers one_core (Now 0 (Load 65540)) r text
    → (text ≡ outcome_text (Answered (Segv MapErr))) × (r.replies ≡ Segv MapErr ∷ [])
load_faults r text (inl (reply, a, none)) =
    let same : reply ≡ Segv MapErr = faults a.after reply a.replies a.given in
    (a.tells ∙ ap (λ y. outcome_text (Answered y)) same, ap (λ (r : Reached). r.replies) a.next ∙ ap (λ y. y ∷ []) same)
load_faults r text (inr h) = absurd (let d = h.some.0 in let u = ((h.exact d).0 h.some.1).1.1 in cc)

its_text : outcome_text (Answered (Segv MapErr)) ≡ codes "segv maperr\n"
its_text = refl

-- ---- cores

-- a core that isn't there walks no table
no_walk : (r : Reached) (text : List ℕ) → LineAnswers one_core (Act 1 (By.Walk 16)) r text → text ≡ codes "idle\n"
no_walk r text h = h.1

-- ---- each line

-- no text, or that of an outcome; `stuck` is none
abbrev IsTold : List ℕ → Type 0
IsTold text = (text ≡ []) ⊎ ((o : Outcome) × (text ≡ outcome_text o))

either : {A B : Type 0} (b : Bool) (text : List ℕ) → (A → IsTold text) → (B → IsTold text) → cond b A B → IsTold text
either true text one other h = one h
either false text one other h = other h

idle_told : (s r : Reached) (text : List ℕ) → Idles s r text → IsTold text
idle_told s r text h = inr (Idle, h.1)

may_told : (s r : Reached) (text : List ℕ) → MayStep s r text → IsTold text
may_told s r text (e, inl t) = inr (Stepped, t)
may_told s r text (e, inr t) = inr (Idle, t)

core_told : (s r : Reached) (core : ℕ) (text : List ℕ) → CoreMayStep s core r text → IsTold text
core_told s r core text = either (nat_lt core s.cores) text (may_told s r text) (idle_told s r text)

take_told : (s r : Reached) (o : Option Open) (core : ℕ) (text : List ℕ) → TakeAnswers s o core r text → IsTold text
take_told s r None core text h = idle_told s r text h
take_told s r (Some o) core text h = either (nat_lt 0 (o.takes core)) text (λ k. inr (Stepped, k.1)) (idle_told s r text) h

act_told : (s r : Reached) (core : ℕ) (action : Action) (text : List ℕ) → ActAnswers s core action r text → IsTold text
act_told s r core (By.Call request) text h = absurd h
act_told s r core By.Go text h = absurd h
act_told s r core By.Take text h = take_told s r s.waiting core text h
act_told s r core (By.Frame f) text h = idle_told s r text h
act_told s r core By.GiveUp text h = idle_told s r text h
act_told s r core By.Flush text h = core_told s r core text h
act_told s r core By.Review text h = core_told s r core text h
act_told s r core (By.Guess p) text h = idle_told s r text h
act_told s r core By.Whole text h = idle_told s r text h
act_told s r core (By.Walk p) text h = core_told s r core text h
act_told s r core (By.Evict p) text h = core_told s r core text h

open_told : (s r : Reached) (o : Open) (text : List ℕ) → OpenAnswers s o r text → IsTold text
open_told s r o text (inl h) = inr (Answered h.0, h.1.tells)
open_told s r o text (inr h) = inr (Wait (Acks h.set), h.tells)

finish_told : (s r : Reached) (o : Option Open) (core : ℕ) (text : List ℕ) → FinishAnswers s o core r text → IsTold text
finish_told s r None core text h = idle_told s r text h
finish_told s r (Some o) core text h = either (core == o.core) text (open_told s r o text) (idle_told s r text) h

call_told : (s r : Reached) (core : ℕ) (request : Request) (text : List ℕ)
    → AnswersAtOnce s core request r text ⊎ IsHeldUp s core request r text → IsTold text
call_told s r core request text (inl h) = inr (Answered h.0, h.1.tells)
call_told s r core request text (inr h) = inr (Wait (Acks h.set), h.tells)

line_told : (s r : Reached) (line : Line) (text : List ℕ) → LineAnswers s line r text → IsTold text
line_told s r Blank text h = inl h.1
line_told s r (Space cores frames calls) text h = inl h.1
line_told s r (File n mode len seed) text h = inl h.1
line_told s r (Finish core) text h = finish_told s r s.waiting core text h
line_told s r (Act core action) text h = act_told s r core action text h
line_told s r (Fold page) text h = may_told s r text h
line_told s r (Now core request) text h =
    either (nat_lt core s.cores) text
    (either (nat_lt (length s.requests) s.calls) text (call_told (one_more s request) r core request text) (λ k. inr (Full, k.1))) (idle_told s r text) h

-- ---- what comes behind

-- where a line gave a reply, the log isn't empty
has_entry : (r : Reached) → r.replies ≡ Segv MapErr ∷ [] → IsLogOf r [] → ⊥
has_entry r e l = let none = l.replies in cc

no_lines : (lines : List MapLine) → IsMapList (plain_metas one_core.plain) lines → lines ≡ []
no_lines [] h = refl
no_lines (line ∷ lines) h = absurd (
    let pages = h.0.is.pages.some in
    let mapped = h.0.is.mapped line.range.first (omega arith) (omega (arith, pages)) in
    cc)

-- where nothing is mapped no mapping is told
no_mappings : (log : List Entry) (behind : List ℕ) → IsPlainBehind Maps log behind one_core → behind ≡ maps_text []
no_mappings log behind h = h.2 ∙ ap maps_text (no_lines h.0 h.1)
