-- What events say, and that the reply which a call has is the one that is handed out
use Rattle.machine_model.proofs.Words.{◌≡◌, ◌≢◌, ℕ, ◌==◌, ◌++◌, ◌∷◌, [], Bool, true, false, cond, List, refl, sym, ◌∙◌, ap, subst}
use Rattle.machine_model.proofs.Words.{Reply, Request, World, Run, put_other}
use Rattle.machine_model.specs.declared.event.Event.{Event}
use Rattle.machine_model.specs.declared.event.Event.TheVariants.{Call, Go}
use Rattle.machine_model.specs.declared.event.Outcome.{Outcome}
use Rattle.machine_model.specs.declared.event.Outcome.TheVariants.{Stepped, Answered}
use Rattle.machine_model.specs.declared.phase.Phase.{Phase}
use Rattle.machine_model.specs.declared.phase.Phase.TheVariants.{Free, Check}
use Rattle.machine_model.specs.Step.{with_event}
use Rattle.vm_base.proofs.Functions.{eq_true, eq_false}
use Rattle.machine_model.specs.declared.event.Event.TheVariants as EventOf
use Rattle.machine_model.specs.declared.event.Outcome.TheVariants as OutcomeOf
use Rattle.machine_model.proofs.Effects.{Status, Closed, Asked, Told, status, statuses, Effect, keeps, tells, detaches, opens, closes, effect_of}
use Rattle.machine_model.proofs.Shapes.{Comes, IsInner, acts, comes, stopped}
use Rattle.machine_model.specs.Invariant.{IsWellFormed}
use Rattle.machine_model.proofs.SoundKept.{fine_step}
use Rattle.litmus_outcomes.specs.Performed.{Said, said, said_by}
use Rattle.litmus_outcomes.specs.Performed.Said.{Asks, Tells}

-- ---- what events say

inner_silent : (core : ℕ) (e : Event) (o : Outcome) → IsInner e o → said_by core e o ≡ []
inner_silent core (Call c request) Stepped i = let none = i.0 0 in absurd cc
inner_silent core (EventOf.Go c) Stepped i = refl
inner_silent core (EventOf.Frame c f) Stepped i = refl
inner_silent core (EventOf.Guess c p) Stepped i = refl
inner_silent core (EventOf.Whole c) Stepped i = refl
inner_silent core (EventOf.Take c) Stepped i = refl
inner_silent core (EventOf.Walk c p) Stepped i = refl
inner_silent core (EventOf.Evict c p) Stepped i = refl
inner_silent core (EventOf.Flush c) Stepped i = refl
inner_silent core (EventOf.Review c) Stepped i = refl
inner_silent core (EventOf.Fold p) Stepped i = refl
inner_silent core (EventOf.GiveUp c) Stepped i = refl
inner_silent core e (Answered reply) i = let none = i.1 in absurd cc
inner_silent core e (OutcomeOf.Wait b) i = refl
inner_silent core e OutcomeOf.Idle i = refl
inner_silent core e OutcomeOf.Full i = refl

pub inner_more : (core : ℕ) (e : Event) (o : Outcome) (es : List Event) (os : List Outcome) → IsInner e o → said core (e ∷ es) (o ∷ os) ≡ said core es os
inner_more core e o es os i = ap (λ (l : List Said). l ++ said core es os) (inner_silent core e o i)

pub call_says : (core c : ℕ) (q : Request) (es : List Event) (os : List Outcome) → c ≡ core → said core (Call c q ∷ es) (Stepped ∷ os) ≡ Asks q ∷ said core es os
call_says core c q es os same = go (c == core) refl
  where
    go : (b : Bool) → (c == core) ≡ b → cond b (Asks q ∷ []) [] ++ said core es os ≡ Asks q ∷ said core es os
    go true e = refl
    go false e = absurd (eq_false c core e same)

pub call_silent : (core c : ℕ) (q : Request) (es : List Event) (os : List Outcome) → c ≢ core → said core (Call c q ∷ es) (Stepped ∷ os) ≡ said core es os
call_silent core c q es os other = go (c == core) refl
  where
    go : (b : Bool) → (c == core) ≡ b → cond b (Asks q ∷ []) [] ++ said core es os ≡ said core es os
    go true e = absurd (other (eq_true c core e))
    go false e = refl

pub reply_says : (core c : ℕ) (y : Reply) (es : List Event) (os : List Outcome) → c ≡ core → said core (Go c ∷ es) (Answered y ∷ os) ≡ Tells y ∷ said core es os
reply_says core c y es os same = go (c == core) refl
  where
    go : (b : Bool) → (c == core) ≡ b → cond b (Tells y ∷ []) [] ++ said core es os ≡ Tells y ∷ said core es os
    go true e = refl
    go false e = absurd (eq_false c core e same)

pub reply_silent : (core c : ℕ) (y : Reply) (es : List Event) (os : List Outcome) → c ≢ core → said core (Go c ∷ es) (Answered y ∷ os) ≡ said core es os
reply_silent core c y es os other = go (c == core) refl
  where
    go : (b : Bool) → (c == core) ≡ b → cond b (Tells y ∷ []) [] ++ said core es os ≡ said core es os
    go true e = absurd (other (eq_true c core e))
    go false e = refl

-- ---- the reply that a call has is the one that is handed out

pub handed : (es : List Event) (os : List Outcome) (w v : World) (core : ℕ) (y z : Reply) (rest : List Said) → IsWellFormed w → Run w es os v
    → statuses w core ≡ Told y → said core es os ≡ Tells z ∷ rest → y ≡ z
handed [] os w v core y z rest f r s says = absurd cc
handed (e ∷ es) [] w v core y z rest f r s says = absurd r
handed (e ∷ es) (o ∷ os) w v core y z rest f r s says =
    go (λ s' says'. handed es os r.0 v core y z rest (fine_step w r.0 e o f r.1).0 r.2 s' says') (comes w e o r.0 r.1)
  where
    m : World
    m = r.0

    other-status : (c : ℕ) (x : Status) → statuses w c ≡ x → x ≢ Told y → core ≢ c
    other-status c x is ne same = ne (sym is ∙ (ap (statuses w) (sym same) ∙ s))

    by : (statuses r.0 core ≡ Told y → said core es os ≡ Tells z ∷ rest → y ≡ z) → Effect (with_event w) e o m → y ≡ z
    by on (keeps i k l st) = on (st core ∙ s) (sym (inner_more core e o es os i) ∙ says)
    by on (tells c reply i k asked l st) =
        let ne : core ≢ c = other-status c Asked asked (λ e. absurd cc) in
        on (st core ∙ (put_other (statuses w) c (Told reply) core ne ∙ s)) (sym (inner_more core e o es os i) ∙ says)
    by on (detaches c page request i k asked number store l st) = on (st core ∙ s) (sym (inner_more core e o es os i) ∙ says)
    by on (opens c request is-call stepped closed after) =
        let ne : core ≢ c = other-status c Closed closed (λ e. absurd cc) in
        let says' : said core (Call c request ∷ es) (Stepped ∷ os) ≡ Tells z ∷ rest =
        subst (λ (x : Event). said core (x ∷ es) (Stepped ∷ os) ≡ Tells z ∷ rest) is-call
        (subst (λ (x : Outcome). said core (e ∷ es) (x ∷ os) ≡ Tells z ∷ rest) stepped says) in
        on (ap (λ (x : World). statuses x core) after ∙ (ap status (put_other w.calls.phase c (Check request) core ne) ∙ s))
        (sym (call_silent core c request es os (λ e. ne (sym e))) ∙ says')
    by on (closes c reply is-go answered told after) = choose (c == core) refl
      where
        says' : said core (Go c ∷ es) (Answered reply ∷ os) ≡ Tells z ∷ rest
        says' = subst (λ (x : Event). said core (x ∷ es) (Answered reply ∷ os) ≡ Tells z ∷ rest) is-go
            (subst (λ (x : Outcome). said core (e ∷ es) (x ∷ os) ≡ Tells z ∷ rest) answered says)

        choose : (b : Bool) → (c == core) ≡ b → y ≡ z
        choose true b =
            let same : c ≡ core = eq_true c core b in
            let mine : Tells reply ∷ said core es os ≡ Tells z ∷ rest = sym (reply_says core c reply es os same) ∙ says' in
            let status-is : Told y ≡ Told reply = sym s ∙ (ap (statuses w) (sym same) ∙ told) in
            let first : reply ≡ z = cc in
            let second : y ≡ reply = cc in
            second ∙ first
        choose false b =
            let ne : c ≢ core = eq_false c core b in
            on (ap (λ (x : World). statuses x core) after ∙ (ap status (put_other w.calls.phase c Free core (λ e. ne (sym e))) ∙ s))
            (sym (reply_silent core c reply es os ne) ∙ says')

    go : (statuses r.0 core ≡ Told y → said core es os ≡ Tells z ∷ rest → y ≡ z) → Comes w e o m → y ≡ z
    go on (stopped n i h) = on (ap (λ (x : World). statuses x core) h ∙ s) (sym (inner_more core e o es os i) ∙ says)
    go on (acts n shape) = by on (effect_of (with_event w) e o m f.order shape)
