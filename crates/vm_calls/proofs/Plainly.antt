-- Decisions over slots are the plain page map's answers
use Rattle.slot_lock.proofs.Words.{◌≡◌, ℕ, ◌+◌, ◌*◌, ◌^◌, ◌<◌, ◌≤◌, not, Bool, true, false, Option, Some, None, Result, Ok, is_some, refl, sym, ◌∙◌, ap}
use Rattle.slot_lock.proofs.Words.{subst, arith, if◌then◌else◌, fun_ext, nat_tests, PageRange, Back, Anon, Shared, Private, Meta, PageInfo, Flags, Request}
use Rattle.slot_lock.proofs.Words.{Mmap, Munmap, Mprotect, Mode, Prot, Access, Load, Store, Fetch, ENOMEM, EACCES, Reply, Mapped, Done, Refused, has}
use Rattle.slot_lock.proofs.Words.{are_pages, page_of, page_count, pages_of, pages_from, window_of, File, PageEntry, Plain, mode_of, is_mapped, refusal, IsFree}
use Rattle.slot_lock.proofs.Words.{IsRoom, IsLeastRoom, meta_of, AppliesAfter, HasPage, is_absent, is_read_only, Applies}
use Rattle.vm_base.specs.declared.requests.Request.TheVariants.{Load as LoadOf, Store as StoreOf, Fetch as FetchOf}
use Rattle.vm_base.specs.Rights.{can_write}
use Rattle.vm_base.specs.Places.{IsPlace}
use Rattle.vm_base.specs.Runs.{LiesIn}
use Rattle.vm_base.specs.Places.IsPlace.{at_hint, in_window, nowhere}
use Rattle.vm_base.specs.Apply.{Performs, Protects, MapsAt}
use Rattle.vm_base.specs.Apply.{is_read_only_back, forbids_write, after_mapping, after_unmapping, after_protecting}
use Rattle.vm_base.specs.Apply.Protects.{no_page, no_write, done}
use Rattle.slot_lock.specs.declared.plan.Change.{Change}
use Rattle.slot_lock.specs.declared.plan.Change.TheVariants.{Put, Clear, Protect}
use Rattle.slot_lock.specs.declared.plan.Place.{Place}
use Rattle.slot_lock.specs.declared.plan.Plan.{Plan}
use Rattle.slot_lock.specs.declared.plan.Plan.TheVariants as PlanOf
use Rattle.slot_lock.specs.declared.plan.Target.{Target}
use Rattle.slot_lock.specs.declared.plan.Target.TheVariants.{Hint, Run, Window}
use Rattle.slot_lock.specs.declared.plan.Goal.{Goal}
use Rattle.slot_lock.specs.declared.plan.Goal.TheVariants as To
use Rattle.slot_lock.specs.Plan.{HasTarget, IsRunOf, IsTarget, goal_plan, goal_range, target_range}
use Rattle.slot_lock.specs.Slots.{Slots}
use Rattle.vm_calls.specs.declared.decision.Decision.{Decision}
use Rattle.vm_calls.specs.declared.decision.Decision.TheVariants.{Refuse, Act, Again}
use Rattle.vm_calls.specs.Checks.{checked, plan_of, touched, touch_of, HasModes, placed_count, hint_at, place_of}
use Rattle.vm_calls.specs.Decisions.{Decides, DecidesProtect, DecidesPlace, DecidesRun, HasMapped, IsNoAccess, act_at, entries, entry_of}
use Rattle.vm_calls.specs.Decisions.{ActsOn}
use Rattle.vm_calls.specs.Decisions.DecidesProtect.{no_page as absent_page, no_write as read_only_page, acts}
use Rattle.vm_calls.specs.Decisions.DecidesRun.{free, taken}
use Rattle.vm_calls.specs.Plainly.{ShowsPage, IsShown, IsPlain, answer_to, left_by}
use Rattle.vm_calls.proofs.Passed.{passed, touch-of}
use Rattle.vm_calls.proofs.Places.{free-alike, least-alike}

-- ---- the tests of a page say the same of the plain map and of the slots

same-absent : (e : Option PageEntry) (o : Option PageInfo) → ShowsPage e o → is_some e ≡ is_some (entry_of o)
same-absent None None h = refl
same-absent (Some e) (Some info) h = refl
same-absent None (Some info) h = absurd h
same-absent (Some e) None h = absurd h

same-forbids : (f g : Option File) → mode_of f ≡ mode_of g → forbids_write f ≡ forbids_write g
same-forbids None None h = refl
same-forbids (Some f) (Some g) h = let e : f.mode ≡ g.mode = cc in ap (λ (m : Mode). not (can_write m)) e
same-forbids None (Some g) h = absurd cc
same-forbids (Some f) None h = absurd cc

same-back : (t : Plain) (files : ℕ → Option File) → HasModes t files → (back : Back) → is_read_only_back t.file back ≡ is_read_only_back files back
same-back t files modes Anon = refl
same-back t files modes (Shared file page) = same-forbids (t.file file) (files file) (modes file)
same-back t files modes (Private file page) = refl

same-read_only : (t : Plain) (files : ℕ → Option File) → HasModes t files → (e : Option PageEntry) (o : Option PageInfo) → ShowsPage e o
    → is_read_only t.file e ≡ is_read_only files (entry_of o)
same-read_only t files modes None None h = refl
same-read_only t files modes (Some e) (Some info) h = ap (λ (b : Back). is_read_only_back t.file b) h.0 ∙ same-back t files modes info.meta.back
same-read_only t files modes None (Some info) h = absurd h
same-read_only t files modes (Some e) None h = absurd h

shown-mapped : (t : Plain) (files : ℕ → Option File) (s : Slots) (r : PageRange) → IsShown t files s r → (p : ℕ) → has r p ≡ true
    → is_mapped (entries s) p ≡ is_mapped t.entry p
shown-mapped t files s r h p in' = sym (same-absent (t.entry p) (s.info p) (h.pages p in'))

absent-there : (t : Plain) (files : ℕ → Option File) (s : Slots) (r : PageRange) → IsShown t files s r
    → HasPage is_absent (entries s) r → HasPage is_absent t.entry r
absent-there t files s r h x = (x.0, x.1, ap not (same-absent (t.entry x.0) (s.info x.0) (h.pages x.0 x.1)) ∙ x.2)

absent-here : (t : Plain) (files : ℕ → Option File) (s : Slots) (r : PageRange) → IsShown t files s r
    → HasPage is_absent t.entry r → HasPage is_absent (entries s) r
absent-here t files s r h x = (x.0, x.1, sym (ap not (same-absent (t.entry x.0) (s.info x.0) (h.pages x.0 x.1))) ∙ x.2)

read_only-there : (t : Plain) (files : ℕ → Option File) (s : Slots) (r : PageRange) → IsShown t files s r
    → HasPage (is_read_only files) (entries s) r → HasPage (is_read_only t.file) t.entry r
read_only-there t files s r h x = (x.0, x.1, same-read_only t files h.modes (t.entry x.0) (s.info x.0) (h.pages x.0 x.1) ∙ x.2)

read_only-here : (t : Plain) (files : ℕ → Option File) (s : Slots) (r : PageRange) → IsShown t files s r
    → HasPage (is_read_only t.file) t.entry r → HasPage (is_read_only files) (entries s) r
read_only-here t files s r h x = (x.0, x.1, sym (same-read_only t files h.modes (t.entry x.0) (s.info x.0) (h.pages x.0 x.1)) ∙ x.2)

-- ---- requests that no test of the arguments refuses

performed : (t : Plain) (core : ℕ) (request : Request) (y : Reply) (u : Plain) (o : Option Reply) → o ≡ None → Performs IsPlace t core request y u
    → AppliesAfter IsPlace o t core request y u
performed t core request y u None e p = p
performed t core request y u (Some r) e p = absurd cc

applied : (t : Plain) (core : ℕ) (request : Request) (y : Reply) (u : Plain) → refusal (λ n. mode_of (t.file n)) request ≡ None
    → Performs IsPlace t core request y u → Applies IsPlace t core request y u
applied t core request y u ok p = performed t core request y u (refusal (λ n. mode_of (t.file n)) request) ok p

-- ---- mprotect

protects : (t : Plain) (files : ℕ → Option File) (s : Slots) (core addr len : ℕ) (prot : Prot) (d : Decision)
    → IsShown t files s (pages_of addr len) → DecidesProtect files s (pages_of addr len) prot d
    → refusal (λ n. mode_of (t.file n)) (Mprotect addr len prot) ≡ None → IsPlain t core (Mprotect addr len prot)
    (To.Change (Protect (pages_of addr len) prot)) d
protects t files s core addr len prot d h dec ok = by d dec
  where
    acting : (d : Decision) → ActsOn s (pages_of addr len) d
        → ((changes : PageRange) → changes ≡ pages_of addr len → Protects t (pages_of addr len) prot Done (after_protecting t changes prot))
        → IsPlain t core (Mprotect addr len prot) (To.Change (Protect (pages_of addr len) prot)) d
    acting (Refuse e) a p = absurd a
    acting Again a p = absurd a
    acting (Act changes shoot) a p = applied t core (Mprotect addr len prot) Done (after_protecting t changes prot) ok (p changes a.0)

    by : (d : Decision) → DecidesProtect files s (pages_of addr len) prot d → IsPlain t core (Mprotect addr len prot)
        (To.Change (Protect (pages_of addr len) prot)) d
    by d (absent_page a e) =
        subst (λ (z : Decision). IsPlain t core (Mprotect addr len prot) (To.Change (Protect (pages_of addr len) prot)) z) (sym e)
        (applied t core (Mprotect addr len prot) (Refused ENOMEM) t ok (no_page (absent-there t files s (pages_of addr len) h a) refl refl))
    by d (read_only_page na w ro e) =
        subst (λ (z : Decision). IsPlain t core (Mprotect addr len prot) (To.Change (Protect (pages_of addr len) prot)) z) (sym e)
        (applied t core (Mprotect addr len prot) (Refused EACCES) t ok
        (no_write (λ x. na (absent-here t files s (pages_of addr len) h x)) w (read_only-there t files s (pages_of addr len) h ro) refl refl))
    by d (acts na nr a) =
        acting d a (λ changes e. done (λ x. na (absent-here t files s (pages_of addr len) h x))
        (λ w x. nr w (read_only-here t files s (pages_of addr len) h x)) refl (ap (λ (r : PageRange). after_protecting t r prot) e))

-- ---- places

pub valid-few : (h n : ℕ) → are_pages (pages_from h n) ≡ true → n < 2 ^ 35
valid-few h n e = grind (arith, nat_tests)

-- what finds a room is fewer pages than there are
pub few-found : (core first n : ℕ) → core < 64 → first + n ≤ (window_of core).end → n < 2 ^ 35
few-found core first n few high = omega (arith, few, high)

-- fewer pages than there are are all placed
pub counted : (n : ℕ) → placed_count n < 2 ^ 35 → placed_count n ≡ page_count n
counted n few = omega (arith, few)

pub none-found : (m : ℕ → Bool) (core len : ℕ) → core < 64 → ((s : ℕ) → ¬ IsRoom m (window_of core) (placed_count len) s)
    → (s : ℕ) → ¬ IsRoom m (window_of core) (page_count len) s
none-found m core len few none s room =
    let same : placed_count len ≡ page_count len = omega (arith, few-found core s (page_count len) few room.0.high) in
    none s (subst (λ (n : ℕ). IsRoom m (window_of core) n s) (sym same) room)

-- a hint is given where all its pages are valid
pub hint-is : (h n : ℕ) (range : PageRange) → hint_at h n ≡ Some range → (are_pages (pages_from h n) ≡ true) × (range ≡ pages_from h n)
hint-is h n range is = go (are_pages (pages_from h n)) refl is
  where
    go : (b : Bool) → are_pages (pages_from h n) ≡ b → ◌≡◌ {A = Option PageRange} (if b then Some (pages_from h n) else None) (Some range)
        → (are_pages (pages_from h n) ≡ true) × (range ≡ pages_from h n)
    go true e is = (e, let same : pages_from h n ≡ range = cc in sym same)
    go false e is = absurd cc

-- ---- mmap

-- what an mmap answers that decided so
abbrev Answers : Bool → Plain → ℕ → ℕ → ℕ → Meta → Goal → Decision → Type 0
Answers b t core addr len meta goal (Refuse e) =
    MapsAt IsPlace b t (record { core = core; addr = addr; len = len; meta = meta }) (Refused e) t
Answers b t core addr len meta goal (Act range shoot) =
    MapsAt IsPlace b t (record { core = core; addr = addr; len = len; meta = meta }) (answer_to goal range) (left_by t goal range)
Answers b t core addr len meta goal Again = HasMapped t.entry (goal_range goal)

fixed : (t : Plain) (s : Slots) (core addr len : ℕ) (meta : Meta) (d : Decision) → ActsOn s (pages_of addr len) d
    → Answers true t core addr len meta (To.Change (Put (pages_of addr len) meta)) d
fixed t s core addr len meta (Refuse e) a = absurd a
fixed t s core addr len meta Again a = absurd a
fixed t s core addr len meta (Act changes shoot) a = (
  ap (λ (r : PageRange). Mapped (r.first * 4096)) a.0,
  ap
      (λ (r : PageRange). after_mapping t r meta.back meta.prot) a.0,
)

mapped-there : (t : Plain) (files : ℕ → Option File) (s : Slots) (r : PageRange) → IsShown t files s r → HasMapped (entries s) r → HasMapped t.entry r
mapped-there t files s r h x = (x.0, x.1, sym (shown-mapped t files s r h x.0 x.1) ∙ x.2)

free-there : (t : Plain) (files : ℕ → Option File) (s : Slots) (r : PageRange) → IsShown t files s r → IsFree (is_mapped (entries s)) r
    → IsFree (is_mapped t.entry) r
free-there t files s r h = free-alike (is_mapped (entries s)) (is_mapped t.entry) r (shown-mapped t files s r h)

-- the goal of a mapping without a place
abbrev placing : ℕ → ℕ → ℕ → Meta → Target → Goal
placing core addr len meta target = To.Place (place_of core addr len meta) target

-- the mapping goes to a place of the plain map
goes : (t : Plain) (core addr len : ℕ) (meta : Meta) (target : Target) (range : PageRange) (first : ℕ) → range ≡ pages_from first (page_count len)
    → IsPlace (is_mapped t.entry) (window_of core) (page_of addr) (page_count len) (Some first)
    → Answers false t core addr len meta (placing core addr len meta target) (Act range 0)
goes t core addr len meta target range first is place = (
  Some first,
  place,
  (ap (λ (r : PageRange). Mapped (r.first * 4096)) is, ap (λ (r : PageRange). after_mapping t r meta.back meta.prot) is),
)

at-run : (t : Plain) (files : ℕ → Option File) (s : Slots) (core addr len : ℕ) (meta : Meta) (target : Target) (d : Decision)
    → IsShown t files s (target_range (place_of core addr len meta) target)
    → (IsFree (is_mapped t.entry) (target_range (place_of core addr len meta) target)
    → Answers false t core addr len meta (placing core addr len meta target) (Act (target_range (place_of core addr len meta) target) 0))
    → DecidesRun s (target_range (place_of core addr len meta) target) d
    → Answers false t core addr len meta (placing core addr len meta target) d
at-run t files s core addr len meta target d h act (free f e) =
    subst (λ (z : Decision). Answers false t core addr len meta (placing core addr len meta target) z) (sym e)
    (act (free-there t files s (target_range (place_of core addr len meta) target) h f))
at-run t files s core addr len meta target d h act (taken x e) =
    subst (λ (z : Decision). Answers false t core addr len meta (placing core addr len meta target) z) (sym e)
    (mapped-there t files s (target_range (place_of core addr len meta) target) h x)

at-hint-of : (t : Plain) (core addr len : ℕ) (meta : Meta) (range : PageRange) → hint_at (page_of addr) (placed_count len) ≡ Some range
    → IsFree (is_mapped t.entry) range → Answers false t core addr len meta (placing core addr len meta (Hint range)) (Act range 0)
at-hint-of t core addr len meta range is f =
    let z = hint-is (page_of addr) (placed_count len) range is in
    let same : placed_count len ≡ page_count len = counted len (valid-few (page_of addr) (placed_count len) z.0) in
    let there : range ≡ pages_from (page_of addr) (page_count len) = z.1 ∙ ap (λ (n : ℕ). pages_from (page_of addr) n) same in
    goes t core addr len meta (Hint range) range (page_of addr) there
    (at_hint (subst (λ (n : ℕ). are_pages (pages_from (page_of addr) n) ≡ true) same z.0, subst (IsFree (is_mapped t.entry)) there f) refl)

at-run-of : (t : Plain) (core addr len : ℕ) (meta : Meta) (range : PageRange) → core < 64 → IsRunOf (window_of core) (placed_count len) range
    → IsFree (is_mapped t.entry) range → Answers false t core addr len meta (placing core addr len meta (Run range)) (Act range 0)
at-run-of t core addr len meta range few run f =
    let high : range.first + placed_count len ≤ (window_of core).end = run.inside.high in
    let same : placed_count len ≡ page_count len = counted len (few-found core range.first (placed_count len) few high) in
    let there : range ≡ pages_from range.first (page_count len) =
    ap (λ (end : ℕ). record { first = range.first; end = end }) (run.size ∙ ap (λ (n : ℕ). range.first + n) same) in
    goes t core addr len meta (Run range) range range.first there
    (in_window range.first (subst (λ (n : ℕ). LiesIn (window_of core) n range.first) same run.inside, subst (IsFree (is_mapped t.entry)) there f) refl)

in-window-of : (t : Plain) (core addr len : ℕ) (meta : Meta) (d : Decision) (found : Option ℕ) → core < 64
    → IsLeastRoom (is_mapped t.entry) (window_of core) (placed_count len) found → d ≡ act_at found (placed_count len)
    → Answers false t core addr len meta (placing core addr len meta Window) d
in-window-of t core addr len meta d None few none e =
    subst (λ (z : Decision). Answers false t core addr len meta (placing core addr len meta Window) z) (sym e)
    (None, nowhere (none-found (is_mapped t.entry) core len few none) refl, (refl, refl))
in-window-of t core addr len meta d (Some first) few least e =
    let same : placed_count len ≡ page_count len = counted len (few-found core first (placed_count len) few least.0.0.high) in
    subst (λ (z : Decision). Answers false t core addr len meta (placing core addr len meta Window) z) (sym e)
    (goes t core addr len meta Window (pages_from first (placed_count len)) first (ap (λ (n : ℕ). pages_from first n) same)
    (in_window first (subst (λ (n : ℕ). IsRoom (is_mapped t.entry) (window_of core) n first) same least.0) refl))

placed : (t : Plain) (files : ℕ → Option File) (s : Slots) (core addr len : ℕ) (meta : Meta) (target : Target) (d : Decision) → core < 64
    → IsShown t files s (target_range (place_of core addr len meta) target) → IsTarget (place_of core addr len meta) target
    → DecidesPlace s (place_of core addr len meta) target d
    → Answers false t core addr len meta (placing core addr len meta target) d
placed t files s core addr len meta (Hint range) d few h is dec =
    at-run t files s core addr len meta (Hint range) d h (at-hint-of t core addr len meta range is) dec
placed t files s core addr len meta (Run range) d few h is dec =
    at-run t files s core addr len meta (Run range) d h (at-run-of t core addr len meta range few is) dec
placed t files s core addr len meta Window d few h is dec =
    in-window-of t core addr len meta d dec.0 few
    (least-alike (is_mapped (entries s)) (is_mapped t.entry) (window_of core) (placed_count len) dec.0 (shown-mapped t files s (window_of core) h) dec.1)
    dec.2

-- ---- goals of a plan

change-goal : (change : Change) (goal : Goal) → ◌≡◌ {A = Result Plan Reply} (Ok (PlanOf.Change change)) (Ok (goal_plan goal)) → To.Change change ≡ goal
change-goal change (To.Place place target) is = absurd cc
change-goal change (To.Change other) is = let same : change ≡ other = cc in ap (λ (c : Change). To.Change c) same
change-goal change (To.Access touch) is = absurd cc

place-goal : (place : Place) (goal : Goal) → ◌≡◌ {A = Result Plan Reply} (Ok (PlanOf.Place place)) (Ok (goal_plan goal))
    → (target : Target) × (To.Place place target ≡ goal)
place-goal place (To.Place other target) is = let same : place ≡ other = cc in (target, ap (λ (p : Place). To.Place p target) same)
place-goal place (To.Change change) is = absurd cc
place-goal place (To.Access touch) is = absurd cc

mmaps : (t : Plain) (files : ℕ → Option File) (s : Slots) (core addr len : ℕ) (meta : Meta) (goal : Goal) (d : Decision) → core < 64
    → IsShown t files s (goal_range goal) → HasTarget goal
    → (b : Bool) → ◌≡◌ {A = Result Plan Reply} (if b then Ok (PlanOf.Change (Put (pages_of addr len) meta)) else Ok
    (PlanOf.Place (place_of core addr len meta))) (Ok (goal_plan goal)) → Decides files s goal d
    → Answers b t core addr len meta goal d
mmaps t files s core addr len meta goal d few h aim true is dec =
    let e = change-goal (Put (pages_of addr len) meta) goal is in
    subst (λ (z : Goal). Decides files s z d → Answers true t core addr len meta z d) e (λ a. fixed t s core addr len meta d a) dec
mmaps t files s core addr len meta goal d few h aim false is dec =
    let (target, e) = place-goal (place_of core addr len meta) goal is in
    subst (λ (z : Goal). IsShown t files s (goal_range z) → HasTarget z → Decides files s z d → Answers false t core addr len meta z d) e
    (λ shown is a. placed t files s core addr len meta target d few shown is a) h aim dec

mmap-applied : (t : Plain) (core addr len : ℕ) (prot : Prot) (flags : Flags) (file off : ℕ) (goal : Goal) (d : Decision)
    → refusal (λ n. mode_of (t.file n)) (Mmap addr len prot flags file off) ≡ None
    → Answers flags.fixed t core addr len (meta_of prot flags file off) goal d → IsPlain t core (Mmap addr len prot flags file off) goal d
mmap-applied t core addr len prot flags file off goal (Refuse e) ok a = applied t core (Mmap addr len prot flags file off) (Refused e) t ok a
mmap-applied t core addr len prot flags file off goal (Act range shoot) ok a = applied t core (Mmap addr len prot flags file off)
    (answer_to goal range) (left_by t goal range) ok a
mmap-applied t core addr len prot flags file off goal Again ok a = a

-- ---- munmap

unmaps : (t : Plain) (s : Slots) (core addr len : ℕ) (d : Decision) → ActsOn s (pages_of addr len) d
    → refusal (λ n. mode_of (t.file n)) (Munmap addr len) ≡ None → IsPlain t core (Munmap addr len) (To.Change (Clear (pages_of addr len))) d
unmaps t s core addr len (Refuse e) a ok = absurd a
unmaps t s core addr len Again a ok = absurd a
unmaps t s core addr len (Act changes shoot) a ok = applied t core (Munmap addr len) Done (after_unmapping t changes) ok
    (refl, ap (λ (r : PageRange). after_unmapping t r) a.0)

-- ---- accesses

no-access : (addr : ℕ) (access : Access) (byte : ℕ) (goal : Goal) → touched addr access byte ≡ Ok (goal_plan goal) → IsNoAccess goal → ⊥
no-access addr access byte goal is some = by goal (touch-of addr byte access (goal_plan goal) is).1 some
  where
    by : (goal : Goal) → PlanOf.Touch (touch_of addr access byte) ≡ goal_plan goal → IsNoAccess goal → ⊥
    by (To.Place place target) e no' = absurd cc
    by (To.Change change) e no' = absurd cc
    by (To.Access touch) e no' = no'

-- ---- every request

plan-plain : (t : Plain) (files : ℕ → Option File) (s : Slots) (core : ℕ) (request : Request) (goal : Goal) (d : Decision) → core < 64
    → IsShown t files s (goal_range goal)
    → refusal (λ n. mode_of (t.file n)) request ≡ None → plan_of core request ≡ Ok (goal_plan goal) → HasTarget goal → IsNoAccess goal
    → Decides files s goal d → IsPlain t core request goal d
plan-plain t files s core (Mmap addr len prot flags file off) goal d few h ok is aim some dec =
    mmap-applied t core addr len prot flags file off goal d ok
    (mmaps t files s core addr len (meta_of prot flags file off) goal d few h aim flags.fixed is dec)
plan-plain t files s core (Munmap addr len) goal d few h ok is aim some dec =
    let e = change-goal (Clear (pages_of addr len)) goal is in
    subst (λ (z : Goal). Decides files s z d → IsPlain t core (Munmap addr len) z d) e (λ a. unmaps t s core addr len d a ok) dec
plan-plain t files s core (Mprotect addr len prot) goal d few h ok is aim some dec =
    let e = change-goal (Protect (pages_of addr len) prot) goal is in
    subst (λ (z : Goal). IsShown t files s (goal_range z) → Decides files s z d → IsPlain t core (Mprotect addr len prot) z d) e
    (λ shown a. protects t files s core addr len prot d shown a ok) h dec
plan-plain t files s core (LoadOf addr) goal d few h ok is aim some dec = absurd (no-access addr Load 0 goal is some)
plan-plain t files s core (StoreOf addr byte) goal d few h ok is aim some dec = absurd (no-access addr Store byte goal is some)
plan-plain t files s core (FetchOf addr) goal d few h ok is aim some dec = absurd (no-access addr Fetch 0 goal is some)

pub plain : (t : Plain) (files : ℕ → Option File) (s : Slots) (core : ℕ) (request : Request) (goal : Goal) (d : Decision)
    → core < 64 → IsShown t files s (goal_range goal) → checked (λ n. mode_of (files n)) core request ≡ Ok (goal_plan goal)
    → HasTarget goal → IsNoAccess goal → Decides files s goal d → IsPlain t core request goal d
plain t files s core request goal d few h is aim some dec =
    let z = passed (refusal (λ n. mode_of (files n)) request) (plan_of core request) (goal_plan goal) is in
    let modes : (λ n. mode_of (t.file n)) ≡ (λ n. mode_of (files n)) = fun_ext h.modes in
    let ok : refusal (λ n. mode_of (t.file n)) request ≡ None = ap (λ (m : ℕ → Option Mode). refusal m request) modes ∙ z.0 in
    plan-plain t files s core request goal d few h ok z.1 aim some dec
