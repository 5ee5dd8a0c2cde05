-- What the check answers, and what it lets through as an access, in the plain page map
use Rattle.slot_lock.proofs.Words.{◌≡◌, ℕ, ◌↔◌, Bool, true, false, Option, Some, None, Result, Ok, Err, refl, sym, ◌∙◌, ap, subst, if◌then◌else◌, fun_ext}
use Rattle.slot_lock.proofs.Words.{Request, Mmap, Munmap, Mprotect, Access, Load, Store, Fetch, Mode, Reply, Mapped, Done, Byte, Refused, Segv, Bus, NoFrame}
use Rattle.slot_lock.proofs.Words.{NoMemory, MapErr, is_page, page_of, pages_of, File, Plain, mode_of, refusal, meta_of, AppliesAfter, entry_reply, Applies}
use Rattle.vm_base.specs.declared.requests.Request.TheVariants.{Load as LoadOf, Store as StoreOf, Fetch as FetchOf}
use Rattle.vm_base.specs.Pages.{offset_of}
use Rattle.vm_base.specs.Places.{IsPlace}
use Rattle.vm_base.specs.Apply.{Performs, Accesses, accessed, access_reply}
use Rattle.slot_lock.specs.declared.plan.Change.TheVariants.{Put}
use Rattle.slot_lock.specs.declared.plan.Plan.{Plan}
use Rattle.slot_lock.specs.declared.plan.Plan.TheVariants as PlanOf
use Rattle.slot_lock.specs.declared.plan.Touch.{Touch}
use Rattle.vm_calls.specs.Checks.{checked, plan_of, unless_refused, touched, touch_of, place_of, HasModes}
use Rattle.vm_calls.specs.Plainly.{EntryAnswers, touched_by}
use Rattle.vm_calls.proofs.Passed.{passed, touch-of}

-- ---- accesses that passed

same-state : (t : Plain) (addr byte : ℕ) (access : Access) (y : Reply) → accessed t addr byte y ≡ touched_by t (touch_of addr access byte) y
same-state t addr byte access (Mapped at) = refl
same-state t addr byte access Done = refl
same-state t addr byte access (Byte b) = refl
same-state t addr byte access (Refused e) = refl
same-state t addr byte access (Segv code) = refl
same-state t addr byte access Bus = refl
same-state t addr byte access NoFrame = refl
same-state t addr byte access NoMemory = refl

same-answer : (t : Plain) (addr byte : ℕ) (access : Access) (plan : Plan) (touch : Touch) → touched addr access byte ≡ Ok plan
    → plan ≡ PlanOf.Touch touch → (y : Reply) (u : Plain)
    → Accesses t addr access byte y u ↔ EntryAnswers t touch y u
same-answer t addr byte access plan touch is at y u =
    let z = touch-of addr byte access plan is in
    let same : touch_of addr access byte ≡ touch = cc in
    let reply : access_reply t addr access ≡ entry_reply t.file (t.entry (page_of addr)) access (offset_of addr) = ap
    (λ (b : Bool). if b then entry_reply t.file (t.entry (page_of addr)) access (offset_of addr) else Some (Segv MapErr)) z.0 in
    subst (λ (x : Touch). Accesses t addr access byte y u ↔ EntryAnswers t x y u) same
    ((λ h. (sym reply ∙ h.0, h.1 ∙ same-state t addr byte access y)), (λ h. (reply ∙ h.0, h.1 ∙ sym (same-state t addr byte access y))))

-- an mmap is no access
no-access : (b : Bool) (x y : Plan) (touch : Touch) → (x ≡ PlanOf.Touch touch → ⊥) → (y ≡ PlanOf.Touch touch → ⊥)
    → ◌≡◌ {A = Result Plan Reply} (if b then Ok x else Ok y) (Ok (PlanOf.Touch touch)) → ⊥
no-access true x y touch f g is = f cc
no-access false x y touch f g is = g cc

plan-answered : (t : Plain) (core : ℕ) (request : Request) (touch : Touch) → plan_of core request ≡ Ok (PlanOf.Touch touch)
    → (y : Reply) (u : Plain) → Applies IsPlace t core request y u ↔ EntryAnswers t touch y u
plan-answered t core (Mmap addr len prot flags file off) touch is y u =
    absurd (no-access flags.fixed (PlanOf.Change (Put (pages_of addr len) (meta_of prot flags file off)))
    (PlanOf.Place (place_of core addr len (meta_of prot flags file off))) touch (λ e. absurd cc) (λ e. absurd cc) is)
plan-answered t core (Munmap addr len) touch is y u = absurd cc
plan-answered t core (Mprotect addr len prot) touch is y u = absurd cc
plan-answered t core (LoadOf addr) touch is y u = same-answer t addr 0 Load (PlanOf.Touch touch) touch is refl y u
plan-answered t core (StoreOf addr byte) touch is y u = same-answer t addr byte Store (PlanOf.Touch touch) touch is refl y u
plan-answered t core (FetchOf addr) touch is y u = same-answer t addr 0 Fetch (PlanOf.Touch touch) touch is refl y u

pub access_answered : (t : Plain) (modes : ℕ → Option Mode) (core : ℕ) (request : Request) (touch : Touch)
    → checked modes core request ≡ Ok (PlanOf.Touch touch) → (y : Reply) (u : Plain)
    → Applies IsPlace t core request y u ↔ EntryAnswers t touch y u
access_answered t modes core request touch is y u = plan-answered t core request touch
    (passed (refusal modes request) (plan_of core request) (PlanOf.Touch touch) is).1 y u

-- ---- what the check answers

-- an access to an invalid page
no-page : (t : Plain) (addr byte : ℕ) (access : Access) (reply : Reply) → touched addr access byte ≡ Err reply → Accesses t addr access byte reply t
no-page t addr byte access reply is = go (is_page (page_of addr)) refl is
  where
    answer : Segv MapErr ≡ reply → is_page (page_of addr) ≡ false → Accesses t addr access byte reply t
    answer same e =
        subst (λ (r : Reply). Accesses t addr access byte r t) same
        (ap (λ (b : Bool). if b then entry_reply t.file (t.entry (page_of addr)) access (offset_of addr) else Some (Segv MapErr)) e, refl)

    go : (b : Bool) → is_page (page_of addr) ≡ b
        → ◌≡◌ {A = Result Plan Reply} (if b then Ok (PlanOf.Touch (touch_of addr access byte)) else Err (Segv MapErr)) (Err reply)
        → Accesses t addr access byte reply t
    go true e is = absurd cc
    go false e is = let same : Segv MapErr ≡ reply = cc in answer same e

no-reply : (b : Bool) (x y : Plan) (reply : Reply) → ◌≡◌ {A = Result Plan Reply} (if b then Ok x else Ok y) (Err reply) → ⊥
no-reply true x y reply is = absurd cc
no-reply false x y reply is = absurd cc

plan-refused : (t : Plain) (core : ℕ) (request : Request) (reply : Reply) → plan_of core request ≡ Err reply → Performs IsPlace t core request reply t
plan-refused t core (Mmap addr len prot flags file off) reply is =
    absurd (no-reply flags.fixed (PlanOf.Change (Put (pages_of addr len) (meta_of prot flags file off)))
    (PlanOf.Place (place_of core addr len (meta_of prot flags file off))) reply is)
plan-refused t core (Munmap addr len) reply is = absurd cc
plan-refused t core (Mprotect addr len prot) reply is = absurd cc
plan-refused t core (LoadOf addr) reply is = no-page t addr 0 Load reply is
plan-refused t core (StoreOf addr byte) reply is = no-page t addr byte Store reply is
plan-refused t core (FetchOf addr) reply is = no-page t addr 0 Fetch reply is

pub refusal_answered : (t : Plain) (files : ℕ → Option File) (core : ℕ) (request : Request) (reply : Reply) → HasModes t files
    → checked (λ n. mode_of (files n)) core request ≡ Err reply → Applies IsPlace t core request reply t
refusal_answered t files core request reply h is =
    let modes : (λ n. mode_of (files n)) ≡ (λ n. mode_of (t.file n)) = sym (fun_ext h) in
    go (refusal (λ n. mode_of (t.file n)) request) (ap (λ (m : ℕ → Option Mode). checked m core request) (sym modes) ∙ is)
  where
    go : (o : Option Reply) → unless_refused o (plan_of core request) ≡ Err reply → AppliesAfter IsPlace o t core request reply t
    go None is = plan-refused t core request reply is
    go (Some r) is = (cc, refl)
