-- The page of a touch is the only one of which its call drops its own core's translations
use Rattle.machine_model.proofs.Words.{◌≡◌, ℕ, ◌==◌, refl, sym, ap, subst, ◌∙◌, Bool, true, false, cond, if◌then◌else◌, Some, None, Option}
use Rattle.machine_model.proofs.Words.{◌<◌, arith, nat_tests, zero, suc, length, nat_lt, put_same, Result, Ok, Err, PageRange, World, Step, nth}
use Rattle.machine_model.proofs.Words.{Request, is_page, page_of, pages_from}
use Rattle.machine_model.proofs.Words.{Plan, Reply, Mode, Put, Prot, Flags, meta_of, pages_of, place_of, refusal, checked, plan_of, mode_of}
use Rattle.machine_model.proofs.Words.{with_event, Begins, Becomes}
use Rattle.machine_model.proofs.Words.{after_call, event_limit, is_here}
use Rattle.vm_base.specs.declared.memory.NoMemory.{NoMemory as MemoryFault}
use Rattle.vm_base.specs.declared.rights.Access.{Access}
use Rattle.vm_base.specs.declared.rights.Access.TheVariants.{Load, Store, Fetch}
use Rattle.vm_base.specs.declared.replies.Reply.TheVariants.{Segv}
use Rattle.vm_base.specs.declared.replies.SegvCode.TheVariants.{MapErr}
use Rattle.vm_base.specs.declared.requests.Request.TheVariants as Asks
use Rattle.slot_lock.specs.declared.plan.Plan.TheVariants as PlanOf
use Rattle.vm_calls.specs.Checks.{touched, touch_of}
use Rattle.vm_calls.proofs.Passed.{passed}
use Rattle.machine_model.specs.declared.event.Event.TheVariants.{Call, Go}
use Rattle.machine_model.specs.declared.event.Outcome.{Outcome}
use Rattle.machine_model.specs.declared.event.Outcome.TheVariants.{Stepped, Wait, Idle, Answered, Full}
use Rattle.machine_model.specs.declared.phase.Phase.{Phase}
use Rattle.machine_model.specs.declared.phase.Phase.TheVariants.{Free, Check, Post, Fill, CopyPost, CopyAcks}
use Rattle.machine_model.specs.Sound.{IsReached}
use Rattle.machine_model.proofs.Moves.{call_at}
use Rattle.machine_model.proofs.SoundKept.{reached_fine, reached_step}
use Rattle.machine_model.proofs.Shapes.{Comes, comes, stopped, acts}
use Rattle.machine_model.proofs.Effects.{Effect, effect_of, keeps as log_stays, tells, detaches, opens, closes}
use Rattle.coded.specs.declared.codes.RawEvent.{RawEvent}
use Rattle.coded.specs.Asked.{asked_at, asked_of}
use Rattle.coded.specs.Bits.{prot_of, flags_of}
use Rattle.coded.specs.Codes.{kind_of, mmap_with, mprotect_with}
use Rattle.real_mmu.specs.Fills.{due_in}
use Rattle.real_mmu.specs.Remembered.{own_range}
use Rattle.real_mmu.proofs.Due.{fills_are_due}
use Rattle.driven.specs.declared.telling.FrameFill.{FrameFill}
use Rattle.driven.specs.declared.telling.Told.{Told}
use Rattle.driven.specs.Driving.{touch_request, change_request}
use Rattle.driven.specs.Telling.{TellsFill, StepTells, nothing_told, Joins, StepsTell, LastTells, GoesTelling, GoesAfter, CallsTelling}
use Rattle.driven.proofs.Leading.{one_has, told_fill}

-- ---- an access

-- the request is an access at this address
abbrev IsAt : ℕ → Request → Type 0
IsAt at (Asks.Load a) = a ≡ at
IsAt at (Asks.Store a b) = a ≡ at
IsAt at (Asks.Fetch a) = a ≡ at
IsAt at _ = ⊥

abbrev SomeIsAt : ℕ → Option Request → Type 0
SomeIsAt at None = Unit {0}
SomeIsAt at (Some request) = IsAt at request

access_at : (kind at : ℕ) (request : Request) → touch_request kind at ≡ Some request → IsAt at request
access_at kind at request h = subst (SomeIsAt at) h (by (kind == 4) (kind == 5) (kind == 6))
  where
    by : (a b c : Bool) → SomeIsAt at (if a then Some (Asks.Load at) else if b then Some (Asks.Store at 0) else if c then Some (Asks.Fetch at) else None)
    by true b c = refl
    by false true c = refl
    by false false true = refl
    by false false false = tt

-- what it is to do is a touch of the address's page
abbrev IsTouchAt : ℕ → Result Plan Reply → Type 0
IsTouchAt at (Ok (PlanOf.Touch touch)) = touch.page ≡ page_of at
IsTouchAt at (Ok _) = ⊥
IsTouchAt at (Err reply) = Unit {0}

touched_at : (at a : ℕ) (access : Access) (byte : ℕ) → a ≡ at → IsTouchAt at (touched a access byte)
touched_at at a access byte is = by (is_page (page_of a))
  where
    by : (b : Bool) → IsTouchAt at (if b then Ok (PlanOf.Touch (touch_of a access byte)) else Err (Segv MapErr))
    by true = ap page_of is
    by false = tt

planned_at : (at core : ℕ) (request : Request) → IsAt at request → IsTouchAt at (plan_of core request)
planned_at at core (Asks.Load a) is = touched_at at a Load 0 is
planned_at at core (Asks.Store a b) is = touched_at at a Store b is
planned_at at core (Asks.Fetch a) is = touched_at at a Fetch 0 is
planned_at at core _ is = absurd is

checked_at : (at core : ℕ) (modes : ℕ → Option Mode) (request : Request) (plan : Plan) → IsAt at request → checked modes core request ≡ Ok plan
    → IsTouchAt at (Ok plan)
checked_at at core modes request plan is h = subst (IsTouchAt at) (passed (refusal modes request) (plan_of core request) plan h).1
    (planned_at at core request is)

-- ---- what its call drops of its own core's

-- nothing, or the page
abbrev pub IsOwnAt : ℕ → Option PageRange → Type 0
IsOwnAt at None = Unit {0}
IsOwnAt at (Some r) = r ≡ pages_from (page_of at) 1

-- core's call has a request of which P holds
record Asked (P : Request → Type 0) (w : World) (core : ℕ) : Type 0 where
  request : Request
  is : P request
  number : nth w.calls.requests (w.calls.number core) ≡ Some request

-- ---- the call stays it

went_calls : (w v : World) (core : ℕ) (o : Outcome) → IsReached w → Step w (Go core) o v
    → (v.calls.requests ≡ w.calls.requests) × (v.calls.number ≡ w.calls.number)
went_calls w v core o r s = by (comes w (Go core) o v s)
  where
    effect : Effect (with_event w) (Go core) o v → (v.calls.requests ≡ w.calls.requests) × (v.calls.number ≡ w.calls.number)
    effect (log_stays i same l d) = (same.requests, same.number)
    effect (tells c reply i same a l d) = (same.requests, same.number)
    effect (detaches c page request i same a n t l d) = (same.requests, same.number)
    effect (opens c request e i a h) = absurd cc
    effect (closes c reply e i a h) = (ap (λ (x : World). x.calls.requests) h, ap (λ (x : World). x.calls.number) h)

    by : Comes w (Go core) o v → (v.calls.requests ≡ w.calls.requests) × (v.calls.number ≡ w.calls.number)
    by (stopped n i h) = (ap (λ (x : World). x.calls.requests) h, ap (λ (x : World). x.calls.number) h)
    by (acts n h) = effect (effect_of (with_event w) (Go core) o v (reached_fine w r).order h)

still_asked : (P : Request → Type 0) (w v : World) (core : ℕ) (o : Outcome) → IsReached w → Step w (Go core) o v → Asked P w core → Asked P v core
still_asked P w v core o r s a =
    let z = went_calls w v core o r s in
    record {
      request = a.request;
      is = a.is;
      number = subst (λ requests. nth requests (v.calls.number core) ≡ Some a.request) (sym z.0)
          (subst (λ (number : ℕ → ℕ). nth w.calls.requests (number core) ≡ Some a.request) (sym z.1) a.number);
    }

-- ---- it begins

begun : (w : World) (core : ℕ) (request : Request) (phase : Phase) (v : World) → Begins w core request phase Stepped v
    → v ≡ after_call core request w
begun w core request Free v h = by (nat_lt (length w.calls.requests) w.made.calls) h
  where
    by : (b : Bool) → cond b (Becomes (after_call core request w) Stepped v) ((Stepped ≡ Full) × (v ≡ w)) → v ≡ after_call core request w
    by true h = h.1
    by false h = let z = h.0 in absurd cc
begun w core request _ v h = let z = h.0 in absurd cc

step_begun : (w : World) (core : ℕ) (request : Request) (v : World) → Step w (Call core request) Stepped v → v ≡ after_call core request (with_event w)
step_begun w core request v s = by (nat_lt w.calls.events event_limit) (is_here w.made (Some core)) s
  where
    by : (a b : Bool)
        → cond a (cond b (Begins (with_event w) core request (w.calls.phase core) Stepped v) ((Stepped ≡ Idle) × (v ≡ with_event w)))
        ((Stepped ≡ Full) × (v ≡ w)) → v ≡ after_call core request (with_event w)
    by true true h = begun (with_event w) core request (w.calls.phase core) v h
    by true false h = let z = h.0 in absurd cc
    by false b h = let z = h.0 in absurd cc

asked_begun : (P : Request → Type 0) (w : World) (core : ℕ) (request : Request) (v : World) → IsReached v → P request
    → Step w (Call core request) Stepped v → Asked P v core
asked_begun P w core request v r is s = record {
  request = request;
  is = is;
  number = (call_at v core (Check request)
      (ap (λ (x : World). x.calls.phase core) (step_begun w core request v s) ∙ put_same w.calls.phase core (Check request))
      (reached_fine v r).order).asked;
}

-- ---- what each step of such a call tells, the call tells

-- a step of such a call tells what Q holds of
abbrev OneTells : (Request → Type 0) → (Told → Type 0) → Type 0
OneTells P Q = (w : World) (core : ℕ) (now : Told) (o : Outcome) (v : World) → IsReached w → Asked P w core → StepTells w core now o v → Q now

-- two that Q holds of make one
abbrev JoinTells : (Told → Type 0) → Type 0
JoinTells Q = (before now all : Told) → Joins before now all → Q before → Q now → Q all

module _ (P : Request → Type 0) (Q : Told → Type 0) (none : Q nothing_told) (one : OneTells P Q) (join : JoinTells Q) where
  record Holds (core : ℕ) (all : Told) (v : World) : Type 0 where
    told : Q all
    asked : Asked P v core
    reached : IsReached v

  hold_step : (w : World) (core : ℕ) (now : Told) (o : Outcome) (v : World) → IsReached w → Asked P w core → StepTells w core now o v
      → Holds core now v
  hold_step w core now o v r a s = record {
    told = one w core now o v r a s;
    asked = still_asked P w v core o r s.step a;
    reached = reached_step w v (Go core) o r s.step;
  }

  hold_more : (core : ℕ) (before now all : Told) (m v : World) → Holds core before m → Holds core now v → Joins before now all → Holds core all v
  hold_more core before now all m v a b j = record { told = join before now all j a.told b.told; asked = b.asked; reached = b.reached }

  hold_steps : (n : ℕ) (w : World) (core : ℕ) (all : Told) (v : World) → IsReached w → Asked P w core → StepsTell w core n all v
      → Holds core all v
  hold_steps zero w core all v r a h =
      subst (λ all. Holds core all v) (sym h.1) (subst (Holds core nothing_told) (sym h.0) (record { told = none; asked = a; reached = r }))
  hold_steps (suc n) w core all v r a (m, before, now, s, t, j) =
      let b = hold_steps n w core before m r a s in
      hold_more core before now all m v b (hold_step m core now Stepped v b.reached b.asked t) j

  hold_last : (core n : ℕ) (before all : Told) (m v : World) (o : Outcome) → Holds core before m → LastTells m core n before all o v → Q all
  hold_last core n before all m v o b h = by o h
    where
      more : (o : Outcome) → (now : Told) × StepTells m core now o v × Joins before now all → Q all
      more o (now, t, j) = (hold_more core before now all m v b (hold_step m core now o v b.reached b.asked t) j).told

      by : (o : Outcome) → LastTells m core n before all o v → Q all
      by Stepped h = subst Q (sym h.1) b.told
      by (Wait x) h = more (Wait x) h
      by Idle h = more Idle h
      by Full h = more Full h
      by (Answered reply) h = more (Answered reply) h

  hold_goes : (keeps : Bool) (w : World) (core : ℕ) (all : Told) (ended : Result Outcome MemoryFault) (v : World) → IsReached w → Asked P w core
      → GoesTelling keeps w core all ended v → Q all
  hold_goes keeps w core all (Ok o) v r a (n, m, before, s, l) = hold_last core n before all m v o (hold_steps n w core before m r a s) l
  hold_goes keeps w core all (Err e) v r a (n, s, wants) = (hold_steps n w core all v r a s).told

  hold_calls : (keeps : Bool) (w : World) (core : ℕ) (request : Request) (all : Told) (ended : Result Outcome MemoryFault) (v : World)
      → IsReached w → P request → CallsTelling keeps w core request all ended v → Q all
  hold_calls keeps w core request all ended v r is (o, m, s, g) = by o s g
    where
      still : all ≡ nothing_told → Q all
      still h = subst Q (sym h) none

      by : (o : Outcome) → Step w (Call core request) o m → GoesAfter keeps m core o all ended v → Q all
      by Stepped s g =
          let reached = reached_step w m (Call core request) Stepped r s in
          hold_goes keeps m core all ended v reached (asked_begun P w core request m reached is s) g
      by (Wait b) s g = still g.1
      by Idle s g = still g.1
      by Full s g = still g.1
      by (Answered reply) s g = still g.1

-- ---- a touch drops at most its page

own_at : (at : ℕ) (w : World) (core : ℕ) → IsReached w → Asked (IsAt at) w core → (phase : Phase) → w.calls.phase core ≡ phase
    → IsOwnAt at (own_range phase)
own_at at w core r a (Post change shoot) e =
    let s = (call_at w core (Post change shoot) e (reached_fine w r).order).asked in
    let same : s.request ≡ a.request = let x = s.number in let y = a.number in cc in
    absurd (checked_at at core (λ n. mode_of (w.made.file n)) s.request (PlanOf.Change change) (subst (IsAt at) (sym same) a.is) s.passed)
own_at at w core r a (CopyPost touch frame) e =
    let s = (call_at w core (CopyPost touch frame) e (reached_fine w r).order).asked in
    let same : s.request ≡ a.request = let x = s.number in let y = a.number in cc in
    ap (λ p. pages_from p 1)
    (checked_at at core (λ n. mode_of (w.made.file n)) s.request (PlanOf.Touch touch) (subst (IsAt at) (sym same) a.is) s.passed)
own_at at w core r a _ e = tt

pub touch_owns : (keeps : Bool) (kind at : ℕ) (w : World) (core : ℕ) (request : Request) (all : Told) (ended : Result Outcome MemoryFault) (v : World)
    → IsReached w → touch_request kind at ≡ Some request → CallsTelling keeps w core request all ended v → IsOwnAt at all.own
touch_owns keeps kind at w core request all ended v r is =
    hold_calls (IsAt at) (λ (t : Told). IsOwnAt at t.own) tt
    (λ w core now o v r a s. subst (IsOwnAt at) (sym s.own) (own_at at w core r a (w.calls.phase core) refl))
    (λ before now all j. one_has (IsOwnAt at) before.own now.own all.own j.own)
    keeps w core request all ended v r (access_at kind at request is)

-- ---- a change fills nothing

abbrev IsChange : Request → Type 0
IsChange (Asks.Load a) = ⊥
IsChange (Asks.Store a b) = ⊥
IsChange (Asks.Fetch a) = ⊥
IsChange _ = Unit {0}

abbrev SomeIsChange : Option Request → Type 0
SomeIsChange None = Unit {0}
SomeIsChange (Some request) = IsChange request

mmap_change : (raw : RawEvent) (prot : Option Prot) (flags : Option Flags) → SomeIsChange (mmap_with raw prot flags)
mmap_change raw (Some prot) (Some flags) = tt
mmap_change raw (Some prot) None = tt
mmap_change raw None flags = tt

mprotect_change : (raw : RawEvent) (prot : Option Prot) → SomeIsChange (mprotect_with raw prot)
mprotect_change raw (Some prot) = tt
mprotect_change raw None = tt

asked_change : (raw : RawEvent) (kind : ℕ) → kind < 4 → SomeIsChange (asked_at (kind_of kind) raw)
asked_change raw zero below = tt
asked_change raw (suc zero) below = mmap_change raw (prot_of raw.prot) (flags_of raw.flags)
asked_change raw (suc (suc zero)) below = tt
asked_change raw (suc (suc (suc zero))) below = mprotect_change raw (prot_of raw.prot)
asked_change raw (suc (suc (suc (suc n)))) below = absurd (omega (arith, below))

change_at : (raw : RawEvent) (request : Request) → change_request raw ≡ Some request → IsChange request
change_at raw request h = subst SomeIsChange h (by (nat_lt raw.kind 4) refl)
  where
    by : (b : Bool) → nat_lt raw.kind 4 ≡ b → SomeIsChange (if b then asked_of raw else None)
    by true e = let below : raw.kind < 4 = grind (arith, nat_tests) in asked_change raw raw.kind below
    by false e = tt

-- what it is to do is no touch
abbrev IsNoTouch : Result Plan Reply → Type 0
IsNoTouch (Ok (PlanOf.Touch touch)) = ⊥
IsNoTouch _ = Unit {0}

planned_change : (core : ℕ) (request : Request) → IsChange request → IsNoTouch (plan_of core request)
planned_change core (Asks.Mmap addr len prot flags file off) is = by flags.fixed
  where
    by : (b : Bool) → IsNoTouch (if b then Ok (PlanOf.Change (Put (pages_of addr len) (meta_of prot flags file off)))
        else Ok (PlanOf.Place (place_of core addr len (meta_of prot flags file off))))
    by true = tt
    by false = tt
planned_change core (Asks.Munmap addr len) is = tt
planned_change core (Asks.Mprotect addr len prot) is = tt
planned_change core _ is = absurd is

not_due : (w : World) (core : ℕ) → IsReached w → Asked IsChange w core → (phase : Phase) → w.calls.phase core ≡ phase → due_in phase ≡ None
not_due w core r a (Fill touch frame) e =
    let s = (call_at w core (Fill touch frame) e (reached_fine w r).order).asked in
    let same : s.request ≡ a.request = let x = s.number in let y = a.number in cc in
    absurd (subst IsNoTouch (passed (refusal (λ n. mode_of (w.made.file n)) s.request) (plan_of core s.request) (PlanOf.Touch touch) s.passed).1
    (planned_change core s.request (subst IsChange (sym same) a.is)))
not_due w core r a (CopyAcks touch frame) e =
    let s = (call_at w core (CopyAcks touch frame) e (reached_fine w r).order).asked in
    let same : s.request ≡ a.request = let x = s.number in let y = a.number in cc in
    absurd (subst IsNoTouch (passed (refusal (λ n. mode_of (w.made.file n)) s.request) (plan_of core s.request) (PlanOf.Touch touch) s.passed).1
    (planned_change core s.request (subst IsChange (sym same) a.is)))
not_due w core r a _ e = refl

-- where none is due none is told
unfilled : (w v : World) (core : ℕ) (o : Outcome) (f : Option FrameFill) → IsReached w → Step w (Go core) o v → due_in (w.calls.phase core) ≡ None
    → TellsFill w v f → f ≡ None
unfilled w v core o None r s due t = refl
unfilled w v core o (Some x) r s due t =
    let z = (fills_are_due w v (Go core) o r s x.page x.frame).0 t.0 in absurd (let y = sym due ∙ z in cc)

pub change_fills : (keeps : Bool) (raw : RawEvent) (w : World) (core : ℕ) (request : Request) (all : Told) (ended : Result Outcome MemoryFault)
    (v : World) → IsReached w → change_request raw ≡ Some request → CallsTelling keeps w core request all ended v → all.fill ≡ None
change_fills keeps raw w core request all ended v r is =
    hold_calls IsChange (λ (t : Told). t.fill ≡ None) refl
    (λ w core now o v r a s. unfilled w v core o now.fill r s.step (not_due w core r a (w.calls.phase core) refl)
    (told_fill w v now.fill s.fill))
    (λ before now all j. one_has (λ f. f ≡ None) before.fill now.fill all.fill j.fill)
    keeps w core request all ended v r (change_at raw request is)
