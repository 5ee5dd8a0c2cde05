-- Who uses the pages while one call runs alone
use Rattle.machine_model.proofs.Words.{◌≡◌, ℕ, ◌/◌, ◌%◌, ◌*◌, ◌+◌, ◌-◌, ◌^◌, ◌==◌, Bool, true, false, cond, not, refl, sym, ap, subst, arith, Some, None}
use Rattle.machine_model.proofs.Words.{Option, Result, Ok, Err, ◌∙◌, if◌then◌else◌, is_some, nat_lt, nat_tests, PageInfo, Errno, EINVAL, ENOMEM, EACCES, EBADF}
use Rattle.machine_model.proofs.Words.{EOVERFLOW, Flags, Reply, Request, Mmap, Munmap, Mprotect, Load, Store, Fetch, Access, Mode, Prot, byte_reply, detached}
use Rattle.machine_model.proofs.Words.{meta_of, Plain, has, put, advance, is_recorded, info_with_frame, info_with_prot, unused, are_pages, is_page, page_of}
use Rattle.machine_model.proofs.Words.{pages_from, pages_of, refusal, members-empty, eq_true, has_in, in_has, put_all, put_both, Change, Put, Clear, Protect}
use Rattle.machine_model.proofs.Words.{Plan, Touch, range_of, Slots, with_info, checked, place_of, plan_of, unless_refused, touched, touch_of, passed}
use Rattle.machine_model.proofs.Words.{info_with_core, info_with_copy, reply_to, slots_after, page_copied, Users, Same, users_after, with_user, without}
use Rattle.std.proofs.Common.{◌&&◌, ◌||◌}
use Rattle.std.specs.Prelude.{◌≢◌}
use Rattle.vm_base.specs.declared.replies.Reply.TheVariants as ReplyOf
use Rattle.vm_base.specs.declared.replies.SegvCode.TheVariants as SegvOf
use Rattle.vm_base.specs.declared.rights.Access.TheVariants as By
use Rattle.vm_base.specs.Rights.{can_read, can_write}
use Rattle.vm_base.specs.Pages.{is_aligned}
use Rattle.vm_base.specs.Refusals.{answer, is_one_kind, mmap_refusal, file_refusal}
use Rattle.slot_lock.specs.declared.plan.Plan.TheVariants as PlanOf
use Rattle.vm_calls.proofs.Passed.{touch-of}
use Rattle.machine_model.proofs.Owned.{members_with}
use Rattle.machine_model.specs.Brackets.{IsStoreTo}
use Rattle.vm_base.specs.Copies.{if_copied}
use Rattle.machine_model.specs.Users.{recorded}
use Rattle.vm_base.specs.Users.{users_left}

-- ---- a reply that refuses changes no user

-- and no page has got a copy for it
abbrev pub Keeps : Plain → ℕ → Request → Reply → Type 0
Keeps t core request reply = (page_copied t request reply ≡ None) × ((u : Users) → Same (users_after t core request reply u) u)

empty_range : (addr p : ℕ) → has (pages_of addr 0) p ≡ false
empty_range addr p = grind (arith, nat_tests)

-- to protect no bytes
no_bytes : (t : Plain) (core addr len : ℕ) (prot : Prot) → (len == 0) ≡ true
    → (u : Users) → Same (users_after t core (Mprotect addr len prot) ReplyOf.Done u) u
no_bytes t core addr len prot e u p c =
    let none : has (pages_of addr len) p ≡ false = ap (λ n. has (pages_of addr n) p) (eq_true len 0 e) ∙ empty_range addr p in
    ap (λ b. cond b false (u p c)) none

-- an answer that keeps the users, if there is one
abbrev KeepsIf : Plain → ℕ → Request → Option Reply → Type 0
KeepsIf t core request o = (reply : Reply) → o ≡ Some reply → Keeps t core request reply

keeps_test : (t : Plain) (core : ℕ) (request : Request) (b : Bool) (y z : Option Reply) → (b ≡ true → KeepsIf t core request y) → KeepsIf t core request z
    → KeepsIf t core request (if b then y else z)
keeps_test t core request true y z f g = f refl
keeps_test t core request false y z f g = g

keeps_errno : (t : Plain) (core : ℕ) (request : Request) (errno : Errno) → KeepsIf t core request (Some (ReplyOf.Refused errno))
keeps_errno t core request errno reply e = let same : ReplyOf.Refused errno ≡ reply = cc in subst (Keeps t core request) same (refl, λ u p c. refl)

keeps_none : (t : Plain) (core : ℕ) (request : Request) → KeepsIf t core request None
keeps_none t core request reply e = absurd cc

file_keeps : (t : Plain) (core : ℕ) (request : Request) (mode : Option Mode) (len : ℕ) (prot : Prot) (flags : Flags) (off : ℕ)
    → KeepsIf t core request (file_refusal mode len prot flags off)
file_keeps t core request None len prot flags off = keeps_errno t core request EBADF
file_keeps t core request (Some mode) len prot flags off =
    keeps_test t core request (nat_lt (2 ^ 47) (off + len)) _ _ (λ _. keeps_errno t core request EOVERFLOW)
    (keeps_test t core request (not (can_read mode)) _ _ (λ _. keeps_errno t core request EACCES)
    (keeps_test t core request (flags.shared && prot.write && not (can_write mode)) _ _ (λ _. keeps_errno t core request EACCES) (keeps_none t core request)))

refusal_keeps : (modes : ℕ → Option Mode) (t : Plain) (core : ℕ) (request : Request) → KeepsIf t core request (refusal modes request)
refusal_keeps modes t core (Mmap addr len prot flags file off) =
    let r : Request = Mmap addr len prot flags file off in
    keeps_test t core r (len == 0) _ _ (λ _. keeps_errno t core r EINVAL)
    (keeps_test t core r (not (is_one_kind flags)) _ _ (λ _. keeps_errno t core r EINVAL)
    (keeps_test t core r (not flags.anon && not (is_aligned off)) _ _ (λ _. keeps_errno t core r EINVAL)
    (keeps_test t core r (flags.fixed && not (is_aligned addr)) _ _ (λ _. keeps_errno t core r EINVAL)
    (keeps_test t core r (flags.fixed && not (are_pages (pages_of addr len))) _ _ (λ _. keeps_errno t core r ENOMEM)
    (keeps_test t core r flags.anon _ _ (λ _. keeps_none t core r) (file_keeps t core r (modes file) len prot flags off))))))
refusal_keeps modes t core (Munmap addr len) =
    keeps_test t core (Munmap addr len) (len == 0 || not (is_aligned addr) || not (are_pages (pages_of addr len))) _ _ (λ _. keeps_errno t core
    (Munmap addr len) EINVAL)
    (keeps_none t core (Munmap addr len))
refusal_keeps modes t core (Mprotect addr len prot) =
    let r : Request = Mprotect addr len prot in
    keeps_test t core r (not (is_aligned addr)) _ _ (λ _. keeps_errno t core r EINVAL)
    (keeps_test t core r (len == 0) _ _ (λ e reply i. let same : ReplyOf.Done ≡ reply = cc in subst (Keeps t core r) same
    (refl, no_bytes t core addr len prot e))
    (keeps_test t core r (not (are_pages (pages_of addr len))) _ _ (λ _. keeps_errno t core r ENOMEM) (keeps_none t core r)))
refusal_keeps modes t core (Load addr) = keeps_none t core (Load addr)
refusal_keeps modes t core (Store addr byte) = keeps_none t core (Store addr byte)
refusal_keeps modes t core (Fetch addr) = keeps_none t core (Fetch addr)

segv_keeps : (t : Plain) (core : ℕ) (request : Request) (addr byte : ℕ) (access : Access) (reply : Reply) → touched addr access byte ≡ Err reply
    → Keeps t core request reply
segv_keeps t core request addr byte access reply = go (is_page (page_of addr))
  where
    go : (b : Bool) → (if b then Ok (PlanOf.Touch (touch_of addr access byte)) else Err (ReplyOf.Segv SegvOf.MapErr)) ≡ Err reply → Keeps t core request reply
    go true e = absurd cc
    go false e = let same : ReplyOf.Segv SegvOf.MapErr ≡ reply = cc in subst (Keeps t core request) same (refl, λ u p c. refl)

-- one plan or another
abbrev pub either_plan : Bool → Plan → Plan → Result Plan Reply
either_plan b x y = if b then Ok x else Ok y

plan_keeps : (t : Plain) (core : ℕ) (request : Request) (reply : Reply) → plan_of core request ≡ Err reply → Keeps t core request reply
plan_keeps t core (Mmap addr len prot flags file off) reply e = go flags.fixed _ _ e
  where
    go : (b : Bool) (x y : Plan) → either_plan b x y ≡ Err reply → Keeps t core (Mmap addr len prot flags file off) reply
    go true x y e = absurd cc
    go false x y e = absurd cc
plan_keeps t core (Load addr) reply e = segv_keeps t core (Load addr) addr 0 By.Load reply e
plan_keeps t core (Store addr byte) reply e = segv_keeps t core (Store addr byte) addr byte By.Store reply e
plan_keeps t core (Fetch addr) reply e = segv_keeps t core (Fetch addr) addr 0 By.Fetch reply e
plan_keeps t core _ reply e = absurd cc

-- a request that its arguments refuse
pub refused_keeps : (modes : ℕ → Option Mode) (t : Plain) (core : ℕ) (request : Request) (reply : Reply) → checked modes core request ≡ Err reply
    → Keeps t core request reply
refused_keeps modes t core request reply = go (refusal modes request) (refusal_keeps modes t core request)
  where
    go : (o : Option Reply) → KeepsIf t core request o → unless_refused o (plan_of core request) ≡ Err reply → Keeps t core request reply
    go (Some r) k e = let same : r ≡ reply = cc in k reply (ap Some same)
    go None k e = plan_keeps t core request reply e

-- ---- a change that is made leaves its pages without users

-- and none of them has got a copy
abbrev pub DropsAll : Plain → ℕ → Request → Change → Type 0
DropsAll t core request change =
    (page_copied t request (reply_to change) ≡ None) × ((u : Users) → Same (users_after t core request (reply_to change) u) (without (range_of change) u))

start_of : (addr : ℕ) → is_aligned addr ≡ true → (addr / 4096) * 4096 ≡ addr
start_of addr e = let z : addr % 4096 ≡ 0 = eq_true (addr % 4096) 0 e in omega (arith, z)

fixed_aligned : (modes : ℕ → Option Mode) (addr len : ℕ) (prot : Prot) (flags : Flags) (file off : ℕ) → flags.fixed ≡ true
    → mmap_refusal modes addr len prot flags file off ≡ None → is_aligned addr ≡ true
fixed_aligned modes addr len prot flags file off is h =
    let a = unless (len == 0) _ (answer EINVAL) h in
    let b = unless (not (is_one_kind flags)) _ (answer EINVAL) a.1 in
    let c = unless (not flags.anon && not (is_aligned off)) _ (answer EINVAL) b.1 in
    let d = unless (flags.fixed && not (is_aligned addr)) _ (answer EINVAL) c.1 in
    both flags.fixed (is_aligned addr) is d.0
  where
    unless : (b : Bool) (z y : Option Reply) → (if b then answer EINVAL else z) ≡ None → (b ≡ false) × (z ≡ None)
    unless true z y e = absurd cc
    unless false z y e = (refl, e)

    both : (x y : Bool) → x ≡ true → (x && not y) ≡ false → y ≡ true
    both true true e n = refl
    both _ _ e n = absurd cc

pub no_change : (core : ℕ) (request : Request) (addr byte : ℕ) (access : Access) (change : Change) → touched addr access byte ≡ Ok (PlanOf.Change change) → ⊥
no_change core request addr byte access change = go (is_page (page_of addr))
  where
    go : (b : Bool) → (if b then Ok (PlanOf.Touch (touch_of addr access byte)) else Err (ReplyOf.Segv SegvOf.MapErr)) ≡ Ok (PlanOf.Change change) → ⊥
    go true e = cc
    go false e = cc

plan_drops : (modes : ℕ → Option Mode) (t : Plain) (core : ℕ) (request : Request) (change : Change) → refusal modes request ≡ None
    → plan_of core request ≡ Ok (PlanOf.Change change)
    → DropsAll t core request change
plan_drops modes t core (Mmap addr len prot flags file off) change r e = go flags.fixed refl e
  where
    go : (b : Bool) → flags.fixed ≡ b
        → either_plan b (PlanOf.Change (Put (pages_of addr len) (meta_of prot flags file off)))
        (PlanOf.Place (place_of core addr len (meta_of prot flags file off)))
        ≡ Ok (PlanOf.Change change) → DropsAll t core (Mmap addr len prot flags file off) change
    go true i k =
        let same : Put (pages_of addr len) (meta_of prot flags file off) ≡ change = cc in
        let start = start_of addr (fixed_aligned modes addr len prot flags file off i r) in
        subst (DropsAll t core (Mmap addr len prot flags file off)) same (refl, λ u p c. ap (λ a. cond (has (pages_of a len) p) false (u p c)) start)
    go false i k = absurd cc
plan_drops modes t core (Munmap addr len) change r e =
    let same : Clear (pages_of addr len) ≡ change = cc in subst (DropsAll t core (Munmap addr len)) same (refl, λ u p c. refl)
plan_drops modes t core (Mprotect addr len prot) change r e =
    let same : Protect (pages_of addr len) prot ≡ change = cc in subst (DropsAll t core (Mprotect addr len prot)) same (refl, λ u p c. refl)
plan_drops modes t core (Load addr) change r e = absurd (no_change core (Load addr) addr 0 By.Load change e)
plan_drops modes t core (Store addr byte) change r e = absurd (no_change core (Store addr byte) addr byte By.Store change e)
plan_drops modes t core (Fetch addr) change r e = absurd (no_change core (Fetch addr) addr 0 By.Fetch change e)

pub change_drops : (modes : ℕ → Option Mode) (t : Plain) (core : ℕ) (request : Request) (change : Change)
    → checked modes core request ≡ Ok (PlanOf.Change change)
    → DropsAll t core request change
change_drops modes t core request change e =
    let z = passed (refusal modes request) (plan_of core request) (PlanOf.Change change) e in
    plan_drops modes t core request change z.0 z.1

-- ---- an access that is served makes its core a user

-- which access a request asks for
pub data IsTouchOf (request : Request) (touch : Touch) : Type 0 where
  loads : (addr : ℕ) → request ≡ Load addr → touch ≡ touch_of addr By.Load 0 → IsTouchOf request touch
  stores : (addr byte : ℕ) → request ≡ Store addr byte → touch ≡ touch_of addr By.Store byte → IsTouchOf request touch
  fetches : (addr : ℕ) → request ≡ Fetch addr → touch ≡ touch_of addr By.Fetch 0 → IsTouchOf request touch

pub touch_asked : (modes : ℕ → Option Mode) (core : ℕ) (request : Request) (touch : Touch) → checked modes core request ≡ Ok (PlanOf.Touch touch)
    → IsTouchOf request touch
touch_asked modes core request touch e = go request (passed (refusal modes request) (plan_of core request) (PlanOf.Touch touch) e).1
  where
    its : (addr byte : ℕ) (access : Access) → touched addr access byte ≡ Ok (PlanOf.Touch touch) → touch ≡ touch_of addr access byte
    its addr byte access e =
        let same : PlanOf.Touch (touch_of addr access byte) ≡ PlanOf.Touch touch = (touch-of addr byte access (PlanOf.Touch touch) e).1 in
        let at : touch_of addr access byte ≡ touch = cc in
        sym at

    no_touch : (b : Bool) (x y : Plan) → either_plan b x y ≡ Ok (PlanOf.Touch touch) → (x ≡ PlanOf.Touch touch → ⊥) → (y ≡ PlanOf.Touch touch → ⊥) → ⊥
    no_touch true x y e f g = f cc
    no_touch false x y e f g = g cc

    go : (r : Request) → plan_of core r ≡ Ok (PlanOf.Touch touch) → IsTouchOf r touch
    go (Mmap addr len prot flags file off) e = absurd (no_touch flags.fixed _ _ e (λ i. cc) (λ i. cc))
    go (Load addr) e = loads addr refl (its addr 0 By.Load e)
    go (Store addr byte) e = stores addr byte refl (its addr byte By.Store e)
    go (Fetch addr) e = fetches addr refl (its addr 0 By.Fetch e)
    go _ e = absurd cc

pub as_asked : (P : Request → Touch → Type 0) (request r : Request) (touch x : Touch) → request ≡ r → touch ≡ x → P r x → P request touch
as_asked P request r touch x e i h = subst (λ q. P q touch) (sym e) (subst (P r) (sym i) h)

-- with the copy that its page has got, if it is the map's
abbrev Adds : Plain → ℕ → Request → Touch → Type 0
Adds t core request touch = (byte : ℕ) (copy : Option ℕ) → page_copied t request (byte_reply touch.access byte) ≡ copy
    → (u : Users) → Same (users_after t core request (byte_reply touch.access byte) u) (with_user touch.page core (users_left copy u))

pub added : (page core : ℕ) (first copy : Option ℕ) (u : Users) → first ≡ copy
    → Same (with_user page core (users_left first u)) (with_user page core (users_left copy u))
added page core first copy u e = subst (λ o. Same (with_user page core (users_left first u)) (with_user page core (users_left o u))) e (λ p c. refl)

pub touch_adds : (t : Plain) (core : ℕ) (request : Request) (touch : Touch) → IsTouchOf request touch → Adds t core request touch
touch_adds t core request touch (loads addr r e) =
    as_asked (Adds t core) request (Load addr) touch (touch_of addr By.Load 0) r e (λ b copy h u. added (page_of addr) core None copy u h)
touch_adds t core request touch (stores addr byte r e) =
    as_asked (Adds t core) request (Store addr byte) touch (touch_of addr By.Store byte) r e
    (λ b copy h u. added (page_of addr) core (if_copied (detached t (page_of addr)) (page_of addr)) copy u h)
touch_adds t core request touch (fetches addr r e) =
    as_asked (Adds t core) request (Fetch addr) touch (touch_of addr By.Fetch 0) r e (λ b copy h u. added (page_of addr) core None copy u h)

-- ---- the page that gets a copy for an access

pub store_asked : (request : Request) (touch : Touch) → IsTouchOf request touch → touch.access ≡ By.Store → IsStoreTo request touch.page
store_asked request touch (loads addr r e) s = absurd (let a = ap (λ (x : Touch). x.access) e in cc (a, s))
store_asked request touch (stores addr byte r e) s =
    as_asked (λ q x. IsStoreTo q x.page) request (Store addr byte) touch (touch_of addr By.Store byte) r e refl
store_asked request touch (fetches addr r e) s = absurd (let a = ap (λ (x : Touch). x.access) e in cc (a, s))

-- a copy that was made is of the page of a store
abbrev pub IsStoreFor : Request → Option ℕ → Type 0
IsStoreFor request None = Unit {0}
IsStoreFor request (Some page) = IsStoreTo request page

-- which the map before is to give one
abbrev pub IsCopyFor : Plain → Request → Option ℕ → Type 0
IsCopyFor t request None = Unit {0}
IsCopyFor t request (Some page) = IsStoreTo request page × (is_some (detached t page) ≡ true)

there : (o : Option Plain) (page : ℕ) → is_some o ≡ true → if_copied o page ≡ Some page
there None page h = absurd cc
there (Some u) page h = refl

-- and where none was made none is due
pub copied_so : (t : Plain) (request : Request) (touch : Touch) (byte : ℕ) (copy : Option ℕ) → IsTouchOf request touch → IsCopyFor t request copy
    → (copy ≡ None → touch.access ≡ By.Store → detached t touch.page ≡ None) → page_copied t request (byte_reply touch.access byte) ≡ copy
copied_so t request touch byte None (loads addr r e) k none =
    as_asked (λ q x. page_copied t q (byte_reply x.access byte) ≡ None) request (Load addr) touch (touch_of addr By.Load 0) r e refl
copied_so t request touch byte None (fetches addr r e) k none =
    as_asked (λ q x. page_copied t q (byte_reply x.access byte) ≡ None) request (Fetch addr) touch (touch_of addr By.Fetch 0) r e refl
copied_so t request touch byte None (stores addr b r e) k none =
    as_asked (λ q x. page_copied t q (byte_reply x.access byte) ≡ None) request (Store addr b) touch (touch_of addr By.Store b) r e
    (ap (λ o. if_copied o (page_of addr)) (subst (λ (x : Touch). detached t x.page ≡ None) e (none refl (ap (λ (x : Touch). x.access) e))))
copied_so t request touch byte (Some page) (loads addr r e) k none = absurd (subst (λ q. IsStoreTo q page) r k.0)
copied_so t request touch byte (Some page) (fetches addr r e) k none = absurd (subst (λ q. IsStoreTo q page) r k.0)
copied_so t request touch byte (Some page) (stores addr b r e) k none =
    let same : page_of addr ≡ page = subst (λ q. IsStoreTo q page) r k.0 in
    as_asked (λ q x. page_copied t q (byte_reply x.access byte) ≡ Some page) request (Store addr b) touch (touch_of addr By.Store b) r e
    (ap (λ p. if_copied (detached t p) p) same ∙ there (detached t page) page k.1)

-- ---- what is recorded after a step

framed_same : (f : ℕ) (o : Option PageInfo) (c : ℕ) → is_recorded (info_with_frame f o) c ≡ is_recorded o c
framed_same f None c = refl
framed_same f (Some info) c = refl

pub filled_same : (s : Slots) (page f : ℕ) → Same (recorded (with_info s page (info_with_frame f (s.info page)))) (recorded s)
filled_same s page f p c =
    put_all (λ p o. is_recorded o c ≡ is_recorded (s.info p) c) s.info page (info_with_frame f (s.info page)) (framed_same f (s.info page) c) (λ j ne. refl) p

core_added : (core : ℕ) (o : Option PageInfo) (info : PageInfo) → o ≡ Some info → (c : ℕ) → is_recorded (info_with_core core o) c ≡ put
    (is_recorded o) core true c
core_added core o info e c = subst (λ o. is_recorded (info_with_core core o) c ≡ put (is_recorded o) core true c) (sym e)
    (ap (λ f. f c) (members_with info.cores core))

pub installed_adds : (s : Slots) (page core : ℕ) (info : PageInfo) → s.info page ≡ Some info
    → Same (recorded (with_info s page (info_with_core core (s.info page)))) (with_user page core (recorded s))
installed_adds s page core info e p c =
    put_both (λ p o f. is_recorded o c ≡ f c) s.info (recorded s) page (info_with_core core (s.info page)) (put (recorded s page) core true)
    (core_added core (s.info page) info e c) (λ j ne. refl) p

nobody_after : (prot : Prot) (o : Option PageInfo) (c : ℕ) → is_recorded (info_with_prot prot o) c ≡ false
nobody_after prot None c = refl
nobody_after prot (Some info) c = members-empty c

pub changed_drops : (s : Slots) (change : Change) → Same (recorded (slots_after change s)) (without (range_of change) (recorded s))
changed_drops s (Put range meta) p c = go (has range p)
  where
    go : (b : Bool) → is_recorded (cond b (Some (unused (advance meta (p - range.first)))) (s.info p)) c ≡ cond b false (recorded s p c)
    go true = members-empty c
    go false = refl
changed_drops s (Clear range) p c = go (has range p)
  where
    go : (b : Bool) → is_recorded (cond b None (s.info p)) c ≡ cond b false (recorded s p c)
    go true = refl
    go false = refl
changed_drops s (Protect range prot) p c = go (has range p)
  where
    go : (b : Bool) → is_recorded (cond b (info_with_prot prot (s.info p)) (s.info p)) c ≡ cond b false (recorded s p c)
    go true = nobody_after prot (s.info p) c
    go false = refl

-- ---- a page that gets a copy

other_page : (page p : ℕ) → p ≢ page → has (pages_from page 1) p ≡ false
other_page page p ne = go (has (pages_from page 1) p) refl
  where
    go : (b : Bool) → has (pages_from page 1) p ≡ b → b ≡ false
    go false e = refl
    go true e = absurd (ne (let k = has_in (pages_from page 1) p e in let a = k.0 in let b = k.1 in omega (arith, a, b)))

copied_page : (f : ℕ) (o : Option PageInfo) (c : ℕ) → is_recorded (info_with_copy f o) c ≡ false
copied_page f None c = refl
copied_page f (Some info) c = members-empty c

-- no core uses the copy yet
pub copied_drops : (s : Slots) (page f : ℕ) → Same (recorded (with_info s page (info_with_copy f (s.info page)))) (users_left (Some page) (recorded s))
copied_drops s page f p c =
    put_all (λ p o. is_recorded o c ≡ cond (has (pages_from page 1) p) false (is_recorded (s.info p) c)) s.info page (info_with_copy f (s.info page))
    (copied_page f (s.info page) c ∙ sym (ap (λ b. cond b false (is_recorded (s.info page) c)) (in_has (pages_from page 1) page (omega arith) (omega arith))))
    (λ j ne. sym (ap (λ b. cond b false (is_recorded (s.info j) c)) (other_page page j ne))) p

-- where no core used the page
pub unused_left : (u : Users) (page : ℕ) → ((c : ℕ) → u page c ≡ false) → Same u (users_left (Some page) u)
unused_left u page none p c = go (has (pages_from page 1) p) refl
  where
    go : (b : Bool) → has (pages_from page 1) p ≡ b → u p c ≡ cond b false (u p c)
    go false e = refl
    go true e =
        let k = has_in (pages_from page 1) p e in
        let same : p ≡ page = let a = k.0 in let b = k.1 in omega (arith, a, b) in
        ap (λ p. u p c) same ∙ none c

pub left_same : (copy : Option ℕ) (a b : Users) → Same a b → Same (users_left copy a) (users_left copy b)
left_same None a b s p c = s p c
left_same (Some page) a b s p c = ap (λ x. cond (has (pages_from page 1) p) false x) (s p c)

-- the core that is a user already
pub already : (u : Users) (page core : ℕ) → u page core ≡ true → Same u (with_user page core u)
already u page core e p c =
    put_all (λ p f. u p c ≡ f c) u page (put (u page) core true)
    (put_all (λ c b. u page c ≡ b) (u page) core true e (λ j ne. refl) c) (λ j ne. refl) p
