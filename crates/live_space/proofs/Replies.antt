-- Replies by plan, and those of requests
use Rattle.slot_lock.proofs.Words.{◌≡◌, ℕ, ◌+◌, ◌*◌, ◌/◌, ◌%◌, ◌^◌, ◌<◌, ◌≤◌, ◌==◌, ◌||◌, ◌⊎◌, inl, inr, ⊎_elim, not, min, Bool, true, false, Option}
use Rattle.slot_lock.proofs.Words.{Some, None, Result, Ok, Err}
use Rattle.slot_lock.proofs.Words.{refl, sym, ap, subst, ◌∙◌, arith, nat_lt, if◌then◌else◌, nat_tests, Meta, PageRange, Flags, Request, Mmap, Munmap, Mprotect}
use Rattle.slot_lock.proofs.Words.{Access, Load, Store, Fetch, Mode, Prot, File, ENOMEM, EACCES, Reply, Mapped, Done, Refused, NoMemory}
use Rattle.slot_lock.proofs.Words.{are_pages, page_of, page_count, pages_of, pages_from, meta_of, IsLeastRoom, is_mapped}
use Rattle.std.proofs.Common.{◌&&◌}
use Rattle.vm_base.specs.declared.replies.Errno.{Errno}
use Rattle.vm_base.specs.declared.replies.Errno.TheVariants.{EINVAL}
use Rattle.vm_base.specs.declared.requests.Request.TheVariants.{Load as LoadOf, Store as StoreOf, Fetch as FetchOf}
use Rattle.vm_base.specs.Pages.{is_aligned}
use Rattle.vm_base.specs.Refusals.{answer, is_one_kind, mmap_refusal, munmap_refusal, mprotect_refusal}
use Rattle.slot_lock.specs.declared.plan.Change.{Change}
use Rattle.slot_lock.specs.declared.plan.Change.TheVariants.{Put, Clear, Protect}
use Rattle.slot_lock.specs.declared.plan.Place.{Place}
use Rattle.slot_lock.specs.declared.plan.Plan.{Plan}
use Rattle.slot_lock.specs.declared.plan.Plan.TheVariants as PlanOf
use Rattle.slot_lock.specs.declared.plan.Target.{Target}
use Rattle.slot_lock.specs.declared.plan.Target.TheVariants.{Hint, Run, Window}
use Rattle.slot_lock.specs.Plan.{IsTarget}
use Rattle.slot_lock.specs.Slots.{Slots}
use Rattle.vm_calls.specs.declared.decision.Decision.{Decision}
use Rattle.vm_calls.specs.declared.decision.Decision.TheVariants.{Refuse, Act, Again}
use Rattle.vm_calls.specs.Checks.{checked, plan_of, touched, placed_count, hint_at, place_of}
use Rattle.machine_model.specs.Changes.{reply_to}
use Rattle.vm_calls.specs.Decisions.{DecidesChange, DecidesPlace, DecidesRun, act_at, entries}
use Rattle.vm_calls.specs.Decisions.DecidesProtect.{acts, no_page, no_write}
use Rattle.vm_calls.specs.Decisions.DecidesRun.{free, taken}
use Rattle.vm_calls.proofs.Passed.{passed, touch-of}
use Rattle.live_space.specs.Answering.{AnswersFor, AnswersMapping, AnswersPassed, AnswersChecked, AnswersPlaced, IsFault}
use Rattle.live_space.specs.Answering.AnswersPlaced.{at_hint as by_hint, in_window as by_window, no_room as by_none}
use Rattle.live_space.specs.Planned.{AnswersChange, AnswersDecided, AnswersPlace, AnswersPlan, AnswersTouch, PlacesAt}
use Rattle.live_space.specs.Planned.AnswersPlace.{at_hint, in_window, no_room}

-- ---- a plan's replies are its request's

aligned : (addr : ℕ) → is_aligned addr ≡ true → page_of addr * 4096 ≡ addr
aligned addr is = grind (arith, nat_tests)

-- a test that didn't answer, and those after it
unless : (b : Bool) (y z : Option Reply) (r : Reply) → y ≡ Some r → (if b then y else z) ≡ None → (b ≡ false) × (z ≡ None)
unless true y z r e h = absurd cc
unless false y z r e h = (refl, h)

both : (x y : Bool) → x ≡ true → (x && not y) ≡ false → y ≡ true
both true true e n = refl
both true false e n = absurd cc
both false y e n = absurd cc

fixed_aligned : (modes : ℕ → Option Mode) (addr len : ℕ) (prot : Prot) (flags : Flags) (file off : ℕ)
    → mmap_refusal modes addr len prot flags file off ≡ None → flags.fixed ≡ true → is_aligned addr ≡ true
fixed_aligned modes addr len prot flags file off h is =
    let a = unless (len == 0) (answer EINVAL) _ _ refl h in
    let b = unless (not (is_one_kind flags)) (answer EINVAL) _ _ refl a.1 in
    let c = unless (not flags.anon && not (is_aligned off)) (answer EINVAL) _ _ refl b.1 in
    let d = unless (flags.fixed && not (is_aligned addr)) (answer EINVAL) _ _ refl c.1 in
    both flags.fixed (is_aligned addr) is d.0

hint_is : (addr len : ℕ) (range : PageRange) → hint_at (page_of addr) (placed_count len) ≡ Some range
    → (are_pages (pages_from (page_of addr) (page_count len)) ≡ true) × (range.first ≡ page_of addr)
hint_is addr len range is = go (are_pages (pages_from (page_of addr) (placed_count len))) refl is
  where
    go : (b : Bool) → are_pages (pages_from (page_of addr) (placed_count len)) ≡ b
        → (if b then Some (pages_from (page_of addr) (placed_count len)) else None) ≡ Some range
        → (are_pages (pages_from (page_of addr) (page_count len)) ≡ true) × (range.first ≡ page_of addr)
    go true e is =
        let same : pages_from (page_of addr) (placed_count len) ≡ range = cc in
        (grind (arith, nat_tests), sym (ap (λ (r : PageRange). r.first) same))
    go false e is = absurd cc

placed : (core addr len : ℕ) (meta : Meta) (reply : Reply) → AnswersPlace (place_of core addr len meta) reply → AnswersPlaced core addr len reply
placed core addr len meta reply (at_hint range is e) =
    let h = hint_is addr len range is in
    by_hint h.0 (e ∙ ap (λ n. Mapped (n * 4096)) h.1)
placed core addr len meta reply (in_window first lies e) =
    let low : (core + 1) * 2 ^ 27 ≤ first = lies.low in
    let high : first + min (page_count len) (2 ^ 35) ≤ (core + 1) * 2 ^ 27 + 2 ^ 27 = lies.high in
    by_window first (record { low = lies.low; high = grind (arith, nat_tests) }) e
placed core addr len meta reply (no_room e) = by_none e

mmap_answers : (modes : ℕ → Option Mode) (core addr len : ℕ) (prot : Prot) (flags : Flags) (file off : ℕ) (plan : Plan) (reply : Reply)
    → checked modes core (Mmap addr len prot flags file off) ≡ Ok plan → AnswersPlan plan reply
    → AnswersPassed core (Mmap addr len prot flags file off) reply
mmap_answers modes core addr len prot flags file off plan reply is a =
    let z = passed (mmap_refusal modes addr len prot flags file off) (plan_of core (Mmap addr len prot flags file off)) plan is in
    go flags.fixed refl z.0 z.1
  where
    meta : Meta
    meta = meta_of prot flags file off

    go : (b : Bool) → flags.fixed ≡ b → mmap_refusal modes addr len prot flags file off ≡ None
        → ◌≡◌ {A = Result Plan Reply}
        (if b then Ok (PlanOf.Change (Put (pages_of addr len) meta)) else Ok (PlanOf.Place (place_of core addr len meta)))
        (Ok plan)
        → AnswersMapping b core addr len reply
    go true e none is =
        let same : PlanOf.Change (Put (pages_of addr len) meta) ≡ plan = cc in
        let there : reply ≡ Mapped (page_of addr * 4096) = subst (λ (p : Plan). AnswersPlan p reply) (sym same) a in
        there ∙ ap Mapped (aligned addr (fixed_aligned modes addr len prot flags file off none e))
    go false e none is =
        let same : PlanOf.Place (place_of core addr len meta) ≡ plan = cc in
        placed core addr len meta reply (subst (λ (p : Plan). AnswersPlan p reply) (sym same) a)

served : (addr byte : ℕ) (access : Access) (plan : Plan) (reply : Reply) → touched addr access byte ≡ Ok plan → AnswersPlan plan reply → AnswersTouch access reply
served addr byte access plan reply is a =
    let z = touch-of addr byte access plan is in
    subst (λ (p : Plan). AnswersPlan p reply) (sym z.1) a

pub passed_answers : (modes : ℕ → Option Mode) (core : ℕ) (request : Request) (plan : Plan) (reply : Reply)
    → checked modes core request ≡ Ok plan → AnswersPlan plan reply → AnswersPassed core request reply
passed_answers modes core (Mmap addr len prot flags file off) plan reply is a = mmap_answers modes core addr len prot flags file off plan reply is a
passed_answers modes core (Munmap addr len) plan reply is a =
    let z = passed (munmap_refusal addr len) (plan_of core (Munmap addr len)) plan is in
    let same : PlanOf.Change (Clear (pages_of addr len)) ≡ plan = cc in
    subst (λ (p : Plan). AnswersPlan p reply) (sym same) a
passed_answers modes core (Mprotect addr len prot) plan reply is a =
    let z = passed (mprotect_refusal addr len) (plan_of core (Mprotect addr len prot)) plan is in
    let same : PlanOf.Change (Protect (pages_of addr len) prot) ≡ plan = cc in
    subst (λ (p : Plan). AnswersPlan p reply) (sym same) a
passed_answers modes core (LoadOf addr) plan reply is a = served addr 0 Load plan reply is a
passed_answers modes core (StoreOf addr byte) plan reply is a =
    ⊎_elim (λ (h : (byte : ℕ) × (reply ≡ Done)). inl h.1) (λ (h : IsFault reply). inr h) (served addr byte Store plan reply is a)
passed_answers modes core (FetchOf addr) plan reply is a = served addr 0 Fetch plan reply is a

-- what is answered of a plan that isn't given up is a reply of the request
answers_planned : (modes : ℕ → Option Mode) (core : ℕ) (request : Request) (plan : Plan) (reply : Reply)
    → checked modes core request ≡ Ok plan → (reply ≡ NoMemory) ⊎ AnswersPlan plan reply → AnswersFor modes core request reply
answers_planned modes core request plan reply is a =
    ⊎_elim (λ (e : reply ≡ NoMemory). inl e)
    (λ (h : AnswersPlan plan reply). inr (subst (λ (r : Result Plan Reply). AnswersChecked r core request reply) (sym is) (passed_answers modes core request plan reply is h)))
    a

-- so is a reply that the arguments decide
answers_decided : (modes : ℕ → Option Mode) (core : ℕ) (request : Request) (reply : Reply) → checked modes core request ≡ Err reply → AnswersFor modes core request reply
answers_decided modes core request reply is = inr (subst (λ (r : Result Plan Reply). AnswersChecked r core request reply) (sym is) refl)

-- and what is answered after the check of a request is a reply of it
pub answers_checked : (modes : ℕ → Option Mode) (core : ℕ) (request : Request) (came : Result Plan Reply) (reply : Reply)
    → came ≡ checked modes core request → (reply ≡ NoMemory) ⊎ AnswersDecided came reply → AnswersFor modes core request reply
answers_checked modes core request (Ok plan) reply is a = answers_planned modes core request plan reply (sym is) a
answers_checked modes core request (Err decided) reply is a =
    ⊎_elim (λ (e : reply ≡ NoMemory). inl e)
    (λ (e : reply ≡ decided). subst (AnswersFor modes core request) (sym e) (answers_decided modes core request decided (sym is)))
    a

-- ---- what held pages decide

-- what is refused of a change, and what it answers that is made
pub refused_answers : (files : ℕ → Option File) (s : Slots) (change : Change) (errno : Errno) → DecidesChange files s change (Refuse errno) → AnswersChange change (Refused errno)
refused_answers files s (Put range meta) errno h = absurd h
refused_answers files s (Clear range) errno h = absurd h
refused_answers files s (Protect range prot) errno (no_page f is) = let same : errno ≡ ENOMEM = cc in inr (inl (ap Refused same))
refused_answers files s (Protect range prot) errno (no_write f w r is) = let same : errno ≡ EACCES = cc in inr (inr (w, ap Refused same))
refused_answers files s (Protect range prot) errno (acts f w h) = absurd h

pub made_answers : (change : Change) → AnswersChange change (reply_to change)
made_answers (Put range meta) = refl
made_answers (Clear range) = refl
made_answers (Protect range prot) = inl refl

run_at : (s : Slots) (place : Place) (range : PageRange) (d : Decision) → AnswersPlace place (Mapped (range.first * 4096)) → DecidesRun s range d → PlacesAt place d
run_at s place range d a (free f e) = subst (PlacesAt place) (sym e) a
run_at s place range d a (taken f e) = subst (PlacesAt place) (sym e) tt

found_at : (s : Slots) (place : Place) (found : Option ℕ) → IsLeastRoom (is_mapped (entries s)) place.window place.count found → PlacesAt place (act_at found place.count)
found_at s place None h = no_room refl
found_at s place (Some first) h = in_window first h.0.0 refl

-- a target's decision is one of the mapping's replies
pub places_at : (s : Slots) (place : Place) (target : Target) (d : Decision) → IsTarget place target → DecidesPlace s place target d → PlacesAt place d
places_at s place (Hint range) d is h = run_at s place range d (at_hint range is refl) h
places_at s place (Run range) d is h = run_at s place range d (in_window range.first is.inside refl) h
places_at s place Window d is h = subst (PlacesAt place) (sym h.2) (found_at s place h.0 h.1)
