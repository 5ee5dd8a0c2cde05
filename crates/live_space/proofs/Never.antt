-- Replies that aren't NoMemory
use Rattle.slot_lock.proofs.Words.{◌≡◌, ℕ, ◌==◌, ◌||◌, ◌⊎◌, inl, inr, ⊎_elim, not, nat_lt, Bool, true, false, Option, Some, None, Result, Ok, Err}
use Rattle.slot_lock.proofs.Words.{refl, sym, ap, subst, ◌∙◌, if◌then◌else◌, Flags, Request, Mmap, Munmap, Mprotect}
use Rattle.slot_lock.proofs.Words.{Access, Load, Store, Fetch, Mode, Prot, ENOMEM, EACCES, Reply, Mapped, Done, Refused, Segv, MapErr, NoMemory}
use Rattle.slot_lock.proofs.Words.{is_page, page_of}
use Rattle.std.proofs.Common.{◌≢◌, ◌&&◌}
use Rattle.std.specs.Prelude.{IfErr}
use Rattle.vm_base.specs.declared.replies.Errno.{Errno}
use Rattle.vm_base.specs.declared.replies.Errno.TheVariants.{EINVAL, EBADF, EOVERFLOW}
use Rattle.vm_base.specs.declared.replies.Reply.TheVariants.{Byte, Bus, NoFrame}
use Rattle.vm_base.specs.declared.requests.Request.TheVariants.{Load as LoadOf, Store as StoreOf, Fetch as FetchOf}
use Rattle.vm_base.specs.Apply.{byte_reply}
use Rattle.vm_base.specs.Pages.{is_aligned, are_pages, pages_of}
use Rattle.vm_base.specs.Refusals.{answer, file_refusal, is_one_kind, refusal}
use Rattle.slot_lock.specs.declared.plan.Change.TheVariants.{Put, Clear, Protect}
use Rattle.slot_lock.specs.declared.plan.Plan.{Plan}
use Rattle.slot_lock.specs.declared.plan.Plan.TheVariants as PlanOf
use Rattle.vm_calls.specs.Checks.{checked, plan_of, touch_of, touched, unless_refused}
use Rattle.live_space.specs.Answering.{IsFault}
use Rattle.live_space.specs.Planned.{AnswersChange, AnswersPlace, AnswersPlan, AnswersTouch}
use Rattle.live_space.specs.Planned.AnswersPlace.{at_hint, in_window, no_room}

-- ---- of a plan

fault_never : (reply : Reply) → IsFault reply → reply ≢ NoMemory
fault_never NoMemory h e = h
fault_never (Segv c) h e = absurd cc
fault_never Bus h e = absurd cc
fault_never NoFrame h e = absurd cc
fault_never (Mapped n) h e = absurd h
fault_never Done h e = absurd h
fault_never (Byte n) h e = absurd h
fault_never (Refused n) h e = absurd h

pub byte_never : (access : Access) (byte : ℕ) (reply : Reply) → reply ≡ byte_reply access byte → reply ≢ NoMemory
byte_never Load byte reply is e = absurd (let no_byte : Byte byte ≡ NoMemory = sym is ∙ e in cc)
byte_never Fetch byte reply is e = absurd (let no_byte : Byte byte ≡ NoMemory = sym is ∙ e in cc)
byte_never Store byte reply is e = absurd (let not_done : Done ≡ NoMemory = sym is ∙ e in cc)

pub planned_never : (plan : Plan) (reply : Reply) → AnswersPlan plan reply → reply ≢ NoMemory
planned_never (PlanOf.Change (Put range meta)) reply is e = absurd cc
planned_never (PlanOf.Change (Clear range)) reply is e = absurd cc
planned_never (PlanOf.Change (Protect range prot)) reply (inl is) e = absurd cc
planned_never (PlanOf.Change (Protect range prot)) reply (inr (inl is)) e = absurd cc
planned_never (PlanOf.Change (Protect range prot)) reply (inr (inr (write, is))) e = absurd cc
planned_never (PlanOf.Place place) reply (at_hint range some is) e = absurd cc
planned_never (PlanOf.Place place) reply (in_window first lies is) e = absurd cc
planned_never (PlanOf.Place place) reply (no_room is) e = absurd cc
planned_never (PlanOf.Touch touch) reply (inl (byte, is)) e = byte_never touch.access byte reply is e
planned_never (PlanOf.Touch touch) reply (inr fault) e = fault_never reply fault e

-- ---- of arguments

-- an answer, if there is one, is another
Never : Option Reply → Type 0
Never o = (reply : Reply) → o ≡ Some reply → reply ≢ NoMemory

never_none : Never None
unfolding Never
never_none reply is e = absurd cc

never_answer : (errno : Errno) → Never (answer errno)
unfolding Never
never_answer errno reply is e = absurd (let some : Some (Refused errno) ≡ Some NoMemory = is ∙ ap Some e in cc)

never_done : Never (Some Done)
unfolding Never
never_done reply is e = absurd (let some : Some Done ≡ Some NoMemory = is ∙ ap Some e in cc)

never_if : (b : Bool) (x y : Option Reply) → Never x → Never y → Never (if b then x else y)
never_if true x y h k = h
never_if false x y h k = k

file_never : (mode : Option Mode) (len : ℕ) (prot : Prot) (flags : Flags) (off : ℕ) → Never (file_refusal mode len prot flags off)
file_never None len prot flags off = never_answer EBADF
file_never (Some mode) len prot flags off =
    never_if _ _ _ (never_answer EOVERFLOW) (never_if _ _ _ (never_answer EACCES) (never_if _ _ _ (never_answer EACCES) never_none))

refused_never : (modes : ℕ → Option Mode) (request : Request) → Never (refusal modes request)
refused_never modes (Mmap addr len prot flags file off) = never_if (len == 0) _ _ (never_answer EINVAL)
    (never_if (not (is_one_kind flags)) _ _ (never_answer EINVAL)
    (never_if (not flags.anon && not (is_aligned off)) _ _ (never_answer EINVAL)
    (never_if (flags.fixed && not (is_aligned addr)) _ _ (never_answer EINVAL)
    (never_if (flags.fixed && not (are_pages (pages_of addr len))) _ _ (never_answer ENOMEM)
    (never_if flags.anon _ _ never_none (file_never (modes file) len prot flags off))))))
refused_never modes (Munmap addr len) = never_if _ _ _ (never_answer EINVAL) never_none
refused_never modes (Mprotect addr len prot) = never_if _ _ _ (never_answer EINVAL) (never_if _ _ _ never_done
    (never_if _ _ _ (never_answer ENOMEM) never_none))
refused_never modes (LoadOf addr) = never_none
refused_never modes (StoreOf addr byte) = never_none
refused_never modes (FetchOf addr) = never_none

touched_never : (addr byte : ℕ) (access : Access) (reply : Reply) → touched addr access byte ≡ Err reply → reply ≢ NoMemory
touched_never addr byte access reply is e = go (is_page (page_of addr)) is
  where
    go : (b : Bool) → ◌≡◌ {A = Result Plan Reply} (if b then Ok (PlanOf.Touch (touch_of addr access byte)) else Err (Segv MapErr)) (Err reply) → ⊥
    go true is = absurd cc
    go false is = absurd (let same : Segv MapErr ≡ reply = cc in cc)

unplanned_never : (core : ℕ) (request : Request) (reply : Reply) → plan_of core request ≡ Err reply → reply ≢ NoMemory
unplanned_never core (Mmap addr len prot flags file off) reply is e = go flags.fixed _ _ _ is
  where
    go : (b : Bool) (x y : Plan) (r : Reply) → ◌≡◌ {A = Result Plan Reply} (if b then Ok x else Ok y) (Err r) → ⊥
    go true x y r is = absurd cc
    go false x y r is = absurd cc
unplanned_never core (Munmap addr len) reply is e = absurd cc
unplanned_never core (Mprotect addr len prot) reply is e = absurd cc
unplanned_never core (LoadOf addr) reply is e = touched_never addr 0 Load reply is e
unplanned_never core (StoreOf addr byte) reply is e = touched_never addr byte Store reply is e
unplanned_never core (FetchOf addr) reply is e = touched_never addr 0 Fetch reply is e

-- the reply that arguments decide
decided_never : (modes : ℕ → Option Mode) (core : ℕ) (request : Request) (reply : Reply) → checked modes core request ≡ Err reply → reply ≢ NoMemory
unfolding Never
decided_never modes core request reply is = go (refusal modes request) refl is
  where
    go : (o : Option Reply) → refusal modes request ≡ o → unless_refused o (plan_of core request) ≡ Err reply → reply ≢ NoMemory
    go None some is = unplanned_never core request reply is
    go (Some r) some is =
        let same : r ≡ reply = cc in
        refused_never modes request reply (some ∙ ap Some same)

pub checked_never : (modes : ℕ → Option Mode) (core : ℕ) (request : Request) (came : Result Plan Reply) → came ≡ checked modes core request
    → IfErr came (λ reply. reply ≢ NoMemory)
checked_never modes core request (Ok plan) is = tt
checked_never modes core request (Err reply) is = decided_never modes core request reply (sym is)
