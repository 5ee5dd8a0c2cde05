-- Replies that the plain page map gives, as entries of a log
use Rattle.machine_model.proofs.Words.{◌≡◌, ℕ, ◌<◌, Bool, true, false, cond, refl, sym, ap, subst, Some, None, Option, Result, Ok, Err, ◌&&◌, if◌then◌else◌}
use Rattle.machine_model.proofs.Words.{PageInfo, PageRange, Errno, EINVAL, ENOMEM, EACCES, EBADF, EOVERFLOW, MapErr, Reply, Done, Refused, Segv}
use Rattle.machine_model.proofs.Words.{NoFrame, NoMemory, Flags, Request, Mmap, Munmap, Mprotect, Load, Store, Fetch, Access, Mode, Prot, is_page}
use Rattle.machine_model.proofs.Words.{page_of, pages_of, are_pages, Bytes, File, Plain, mode_of, refusal, meta_of, Applies, by_test, Goal, Change, Put}
use Rattle.machine_model.proofs.Words.{Place, Plan, Touch, range_of, goal_range, goal_plan, HasTarget, Decision, Refuse, Act, plan_of, unless_refused}
use Rattle.machine_model.proofs.Words.{touched, touch_of, place_of, Decides, passed, Event, checked_by, reply_to, World, Memory, Stands, CanAccess, IsPlace}
use Rattle.std.specs.Prelude.{◌==◌, not}
use Rattle.vm_base.specs.declared.rights.Access.TheVariants as By
use Rattle.vm_base.specs.Pages.{is_aligned}
use Rattle.vm_base.specs.Plain.{PageEntry}
use Rattle.vm_base.specs.Refusals.{file_refusal, is_one_kind}
use Rattle.slot_lock.specs.declared.plan.Goal.TheVariants as To
use Rattle.slot_lock.specs.declared.plan.Plan.TheVariants as PlanOf
use Rattle.vm_calls.specs.Checks.{HasModes}
use Rattle.vm_calls.specs.Decisions.{IsNoAccess}
use Rattle.vm_calls.specs.Plainly.{IsShown, IsPlain, EntryAnswers, answer_to, left_by}
use Rattle.vm_calls.specs.Plainly as plainly
use Rattle.vm_calls.proofs.Accesses.{access_answered, refusal_answered}
use Rattle.vm_calls.proofs.Passed.{touch-of}
use Rattle.vm_calls.proofs.Plainly.{plain}
use Rattle.vm_base.specs.declared.log.Entry.TheVariants as EntryOf
use Rattle.machine_model.specs.Orderly.{IsChosen, IsChangeOf}
use Rattle.machine_model.specs.Sound.{IsDue}
use Rattle.machine_model.specs.Invariant.{ShowsPlain, ShowsPage, ShowsFile}

-- ---- the tests of arguments and decisions see the plain page map's files and pages

mode_same : (bytes : ℕ → Bytes) (cached : ℕ → Option ℕ) (first now : Option File) → ShowsFile bytes cached first now → mode_of now ≡ mode_of first
mode_same bytes cached None None h = refl
mode_same bytes cached (Some f) (Some g) h = ap Some (sym h.0)
mode_same bytes cached _ _ h = absurd h

pub has_modes : (w : World) (t : Plain) → ShowsPlain w t → HasModes t w.made.file
has_modes w t g n = mode_same w.memory.bytes (w.memory.cached n) (w.made.file n) (t.file n) (g.files n)

page_shown : (m : Memory) (o : Option PageInfo) (z : Option PageEntry) → ShowsPage m o z → plainly.ShowsPage z o
page_shown m None None h = tt
page_shown m (Some info) (Some page) h = (sym h.0, sym h.1)
page_shown m _ _ h = absurd h

is_shown : (w : World) (t : Plain) (r : PageRange) → ShowsPlain w t → IsShown t w.made.file w.slots r
is_shown w t r g = record { pages = λ p i. page_shown w.memory (w.slots.info p) (t.entry p) (g.pages p); modes = has_modes w t g }

-- ---- replies that are the plain page map's

abbrev pub IsReply : Reply → Type 0
IsReply NoFrame = ⊥
IsReply NoMemory = ⊥
IsReply _ = Unit {0}

-- the plain page map answers so
stands_so : (t u : Plain) (c : ℕ) (request : Request) (y : Reply) → IsReply y → Applies IsPlace t c request y u → Stands IsPlace t c request y u
stands_so t u c request NoFrame i h = absurd i
stands_so t u c request NoMemory i h = absurd i
stands_so t u c request _ i h = h

-- such an entry may be made at any step
pub due_so : (event : Event) (is_free : ℕ → Bool) (step call core : ℕ) (y : Reply) → IsReply y → IsDue event is_free (EntryOf.Answer step call core y)
due_so event is_free step call core NoFrame i = absurd i
due_so event is_free step call core NoMemory i = absurd i
due_so event is_free step call core _ i = tt

-- ---- Check: refusals

record IsRefusal (o : Option Reply) : Type 0 where
  is_reply : (y : Reply) → o ≡ Some y → IsReply y

no_refusal : IsRefusal None
no_refusal = record { is_reply = λ y h. absurd cc }

tests : (b : Bool) (y : Reply) (o : Option Reply) → IsReply y → IsRefusal o → IsRefusal (cond b (Some y) o)
tests true y o h k = record { is_reply = λ z e. let same : y ≡ z = cc in subst IsReply same h }
tests false y o h k = k

file_replies : (mode : Option Mode) (len : ℕ) (prot : Prot) (flags : Flags) (off : ℕ) → IsRefusal (file_refusal mode len prot flags off)
file_replies None len prot flags off = record { is_reply = λ y e. let same : Refused EBADF ≡ y = cc in subst IsReply same tt }
file_replies (Some mode) len prot flags off = tests _ (Refused EOVERFLOW) _ tt (tests _ (Refused EACCES) _ tt (tests _ (Refused EACCES) _ tt no_refusal))

refusals : (modes : ℕ → Option Mode) (request : Request) → IsRefusal (refusal modes request)
refusals modes (Mmap addr len prot flags file off) =
    tests (len == 0) (Refused EINVAL) _ tt (tests (not (is_one_kind flags)) (Refused EINVAL) _ tt
    (tests (not flags.anon && not (is_aligned off)) (Refused EINVAL) _ tt
    (tests (flags.fixed && not (is_aligned addr)) (Refused EINVAL) _ tt (tests (flags.fixed && not (are_pages (pages_of addr len))) (Refused ENOMEM) _ tt
    (by_test IsRefusal flags.anon None (file_refusal (modes file) len prot flags off) (λ _. no_refusal) (λ _. file_replies (modes file) len prot flags off))))))
refusals modes (Munmap addr len) = tests _ (Refused EINVAL) _ tt no_refusal
refusals modes (Mprotect addr len prot) = tests _ (Refused EINVAL) _ tt (tests _ Done _ tt (tests _ (Refused ENOMEM) _ tt no_refusal))
refusals modes (Load addr) = no_refusal
refusals modes (Store addr byte) = no_refusal
refusals modes (Fetch addr) = no_refusal

-- what the check answers that no test refuses: an access to an invalid page
choice : (b : Bool) (x y : Plan) (reply : Reply) → ◌≡◌ {A = Result Plan Reply} (if b then Ok x else Ok y) (Err reply) → ⊥
choice true x y reply h = cc
choice false x y reply h = cc

missed : (addr byte : ℕ) (access : Access) (reply : Reply) → touched addr access byte ≡ Err reply → IsReply reply
missed addr byte access reply h = go (is_page (page_of addr)) h
  where
    go : (b : Bool) → ◌≡◌ {A = Result Plan Reply} (if b then Ok (PlanOf.Touch (touch_of addr access byte)) else Err (Segv MapErr)) (Err reply) → IsReply reply
    go true e = absurd cc
    go false e = let same : Segv MapErr ≡ reply = cc in subst IsReply same tt

unplanned : (core : ℕ) (request : Request) (reply : Reply) → plan_of core request ≡ Err reply → IsReply reply
unplanned core (Mmap addr len prot flags file off) reply h =
    absurd (choice flags.fixed (PlanOf.Change (Put (pages_of addr len) (meta_of prot flags file off)))
    (PlanOf.Place (place_of core addr len (meta_of prot flags file off))) reply h)
unplanned core (Munmap addr len) reply h = absurd cc
unplanned core (Mprotect addr len prot) reply h = absurd cc
unplanned core (Load addr) reply h = missed addr 0 By.Load reply h
unplanned core (Store addr byte) reply h = missed addr byte By.Store reply h
unplanned core (Fetch addr) reply h = missed addr 0 By.Fetch reply h

-- what the check answers at once
pub refused : (w : World) (t : Plain) (c : ℕ) (request : Request) (reply : Reply) → ShowsPlain w t → checked_by w.made c request ≡ Err reply
    → IsReply reply × Stands IsPlace t c request reply t
refused w t c request reply g h = (is_reply, stands_so t t c request reply is_reply (refusal_answered t w.made.file c request reply (has_modes w t g) h))
  where
    go : (o : Option Reply) → refusal (λ k. mode_of (w.made.file k)) request ≡ o → unless_refused o (plan_of c request) ≡ Err reply → IsReply reply
    go (Some y) e k = let same : y ≡ reply = cc in subst IsReply same ((refusals (λ k. mode_of (w.made.file k)) request).is_reply y e)
    go None e k = unplanned c request reply k

    is_reply : IsReply reply
    is_reply = go (refusal (λ k. mode_of (w.made.file k)) request) refl h

fixed_touch : (b : Bool) (x : Change) (place : Place) (touch : Touch)
    → ◌≡◌ {A = Result Plan Reply} (if b then Ok (PlanOf.Change x) else Ok (PlanOf.Place place)) (Ok (PlanOf.Touch touch)) → ⊥
fixed_touch true x place touch h = cc
fixed_touch false x place touch h = cc

-- ---- decisions

-- what a call knows that decides over the pages that it holds
pub record Knows (w : World) (c : ℕ) (request : Request) (goal : Goal) : Type 0 where
  pub few : c < 64
  pub passed : checked_by w.made c request ≡ Ok (goal_plan goal)
  pub target : HasTarget goal
  pub none : IsNoAccess goal

decided_plain : (w : World) (t : Plain) (c : ℕ) (request : Request) (goal : Goal) (d : Decision) → ShowsPlain w t → Knows w c request goal
    → Decides w.made.file w.slots goal d → IsPlain t c request goal d
decided_plain w t c request goal d g k h =
    plain t w.made.file w.slots c request goal d k.few (is_shown w t (goal_range goal) g) k.passed k.target k.none h

-- a refusal of the decision: of a placed mapping, where its whole window is held and has no room
pub declined : (w : World) (t : Plain) (c : ℕ) (request : Request) (goal : Goal) (errno : Errno) → ShowsPlain w t → Knows w c request goal
    → Decides w.made.file w.slots goal (Refuse errno) → Stands IsPlace t c request (Refused errno) t
declined w t c request goal errno g k h = decided_plain w t c request goal (Refuse errno) g k h

pub reply_is : (change : Change) → IsReply (reply_to change)
reply_is (Put range meta) = tt
reply_is _ = tt

-- the plain page map after the change
abbrev pub made_of : Plain → Change → Plain
made_of t change = left_by t (To.Change change) (range_of change)

-- the change to which a goal leads is the one that its decision answers
led_to : (t : Plain) (c : ℕ) (request : Request) (goal : Goal) (change : Change) → IsChangeOf goal change
    → Applies IsPlace t c request (answer_to goal (range_of change)) (left_by t goal (range_of change))
    → Applies IsPlace t c request (reply_to change) (made_of t change)
led_to t c request (To.Place place target) change e h =
    subst (λ (x : Change). Applies IsPlace t c request (reply_to x) (made_of t x)) (sym e) h
led_to t c request (To.Change planned) change e h =
    subst (λ (x : Change). Applies IsPlace t c request (answer_to (To.Change x) (range_of change)) (left_by t (To.Change x) (range_of change))) (sym e) h
led_to t c request (To.Access touch) change e h = absurd e

-- a goal that leads to a change is no access
pub led_goes : (goal : Goal) (change : Change) → IsChangeOf goal change → IsNoAccess goal
led_goes (To.Access touch) change e = absurd e
led_goes _ change e = tt

-- a change that is made
pub acted : (w : World) (t : Plain) (c : ℕ) (request : Request) (goal : Goal) (change : Change) → ShowsPlain w t → Knows w c request goal
    → IsChangeOf goal change → IsChosen w.made w.slots goal (range_of change) → Stands IsPlace t c request (reply_to change) (made_of t change)
acted w t c request goal change g k e h =
    stands_so t (made_of t change) c request (reply_to change) (reply_is change)
    (led_to t c request goal change e (decided_plain w t c request goal (Act (range_of change) h.0) g k h.1))

-- ---- accesses

-- what the entry of its page answers
pub touched_stands : (w : World) (t u : Plain) (c : ℕ) (request : Request) (touch : Touch) (y : Reply) → IsReply y
    → checked_by w.made c request ≡ Ok (PlanOf.Touch touch)
    → EntryAnswers t touch y u → Stands IsPlace t c request y u
touched_stands w t u c request touch y i h a =
    stands_so t u c request y i ((access_answered t (λ n. mode_of (w.made.file n)) c request touch h y u).1 a)

-- a page that an access reaches
pub no_frame_stands : (w : World) (t : Plain) (c : ℕ) (request : Request) (touch : Touch) → checked_by w.made c request ≡ Ok (PlanOf.Touch touch)
    → CanAccess t.file (t.entry touch.page) touch.access → Stands IsPlace t c request NoFrame t
no_frame_stands w t c request touch h k = go request (passed (refusal (λ k. mode_of (w.made.file k)) request) (plan_of c request) (PlanOf.Touch touch) h).1
  where
    its : (addr byte : ℕ) (access : Access) → touched addr access byte ≡ Ok (PlanOf.Touch touch) → CanAccess t.file (t.entry (page_of addr)) access
    its addr byte access e =
        let same : PlanOf.Touch (touch_of addr access byte) ≡ PlanOf.Touch touch = (touch-of addr byte access (PlanOf.Touch touch) e).1 in
        let at : touch ≡ touch_of addr access byte = cc in
        subst (λ (x : Touch). CanAccess t.file (t.entry x.page) x.access) at k

    go : (r : Request) → plan_of c r ≡ Ok (PlanOf.Touch touch) → Stands IsPlace t c r NoFrame t
    go (Load addr) e = (its addr 0 By.Load e, refl)
    go (Store addr byte) e = (its addr byte By.Store e, refl)
    go (Fetch addr) e = (its addr 0 By.Fetch e, refl)
    go (Mmap addr len prot flags file off) e = absurd (fixed_touch flags.fixed (Put (pages_of addr len) (meta_of prot flags file off))
        (place_of c addr len (meta_of prot flags file off)) touch e)
    go (Munmap addr len) e = absurd cc
    go (Mprotect addr len prot) e = absurd cc
