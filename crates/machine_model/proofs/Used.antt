-- Who uses the pages after each step of a call that runs alone: as before, until the call's answer changes it
use Rattle.machine_model.proofs.Words.{◌≡◌, ◌≢◌, ℕ, ◌⊎◌, Bool, true, false, cond, inl, inr, refl, sym, ap, subst, Some, None, Option, ◌∙◌, ◌&&◌, is_some}
use Rattle.machine_model.proofs.Words.{nat_le, PageInfo, PageRange, Reply, Request, Access, detached, is_uncopied, has, put, frame_of, info_with_frame}
use Rattle.machine_model.proofs.Words.{is_recorded, info_with_copy, File, Plain, mode_of, put_all, put_both, put_same, Translation, translated, tlb_at, Change}
use Rattle.machine_model.proofs.Words.{Put, Touch, range_of, goal_range, Slots, with_info, Settled, AccErr, Goal, Phase, Check}
use Rattle.machine_model.proofs.Words.{Lock, Guess, Find, Cut, Decide, Post, Acks, Unlock, Answer, Try, Settle, Want, Fill, CopyPost, CopyAcks, Install}
use Rattle.machine_model.proofs.Words.{Release, found_at, taken_for, after_frame, after_install, reply_of, memory_after, to, let_go, after_reply, with_entry}
use Rattle.machine_model.proofs.Words.{detach_entry, back_of, is_private, shows_file, after_zeros, after_first_copy, after_caching, after_sharing}
use Rattle.machine_model.proofs.Words.{after_copy_post, after_copy, AwaitsNobody, slots_after, after_post, reply_to, with_counts, page_of_touch, locking}
use Rattle.machine_model.proofs.Words.{all_locked, locked_to, held_after, frame_reached, translated_by, after_translating, with_hardware, World, Hardware, nth}
use Rattle.machine_model.proofs.Words.{page_copied, Users, Same, users_after, with_user, without}
use Rattle.vm_base.specs.declared.rights.Access.TheVariants.{Store}
use Rattle.vm_base.specs.Apply.{copied, detached_entry}
use Rattle.vm_base.specs.Plain.{bytes_of}
use Rattle.slot_lock.specs.declared.plan.Plan.TheVariants as PlanOf
use Rattle.vm_calls.specs.declared.fault.Settled.TheVariants.{MapErr, Bus}
use Rattle.slot_lock.specs.declared.plan.Goal.TheVariants as To
use Rattle.machine_model.specs.declared.phase.Phase.TheVariants.{Back as Leaving}
use Rattle.machine_model.specs.Coherent.{IsCoherent, IsSoundEntry}
use Rattle.machine_model.specs.Orderly.{IsUsable, Serves}
use Rattle.machine_model.proofs.Going.{call_sound, has_core}
use Rattle.machine_model.proofs.Moves.{IsCallOf, call_at}
use Rattle.machine_model.proofs.Shapes.{IsFault, Moves, locks, tries, hints, seeks, guesses, turns, chooses, acts, finds, lacks, shows}
use Rattle.machine_model.proofs.Shapes.{Replies, refuses, no_place, declines, fails, no_frame, LetsGo, unlocks, returns, releases, GoesBy}
use Rattle.machine_model.proofs.Shapes.{moves, divides, cuts, fits, owns, lets_go, answers, posts, commits, takes, zeroes, first_copies}
use Rattle.machine_model.proofs.Shapes.{caches, shares, posts_copy, copies, installs, accesses, faults}
use Rattle.machine_model.proofs.Effects.{Asked, status}
use Rattle.machine_model.specs.Invariant.{IsWellFormed}
use Rattle.machine_model.proofs.Fills.{private_only}
use Rattle.machine_model.proofs.SoundPages.{IsFramed, framed, is_copied}
use Rattle.machine_model.proofs.Reaching.{ReachesFrame, at_page, reaches}
use Rattle.machine_model.specs.Users.{recorded}
use Rattle.vm_base.specs.Users.{users_left}
use Rattle.machine_model.proofs.Aiming.{goal_drops}
use Rattle.machine_model.proofs.Framed.{AreFramed}
use Rattle.machine_model.proofs.Rank.{back_all, reach_of, hits}
use Rattle.machine_model.proofs.Rows.{IsSureOf, sure_at}
use Rattle.machine_model.proofs.Telling.{IsTold, IsToldOf}
use Rattle.machine_model.proofs.Using.{Keeps, refused_keeps, IsTouchOf, touch_asked, touch_adds, store_asked, IsCopyFor, IsStoreFor, copied_so}
use Rattle.machine_model.proofs.Using.{filled_same, installed_adds, changed_drops, copied_drops, unused_left, left_same, already}

-- Before the call they were first. They are as they were until its page has got a copy, its access is installed or its reply stands.
abbrev pub Used : Plain → Users → Users → (Touch → Option ℕ) → ℕ → Request → Option ℕ → Phase → Type 0
Used t first now reach c request copy (Unlock held reply) = (page_copied t request reply ≡ copy) × Same now (users_after t c request reply first)
Used t first now reach c request copy (Answer reply) = (page_copied t request reply ≡ copy) × Same now (users_after t c request reply first)
Used t first now reach c request copy (Try touch) =
    ((copy ≡ None) × Same now first) ⊎ (Same now (with_user touch.page c (users_left copy first)) × (hits reach touch ≡ true))
Used t first now reach c request copy (Install touch) = Same now (users_left copy first)
Used t first now reach c request copy (Release touch) = Same now (with_user touch.page c (users_left copy first))
Used t first now reach c request copy _ = (copy ≡ None) × Same now first

-- of core c's call, which the map t is to answer, and for which this page has got a copy
abbrev pub IsUsed : Plain → Users → ℕ → Request → Option ℕ → World → Type 0
IsUsed t first c request copy w = Used t first (recorded w.slots) (reach_of w.hardware c) c request copy (w.calls.phase c)

-- the page that has got a copy after the step, if it had been this one, or none, before
abbrev pub copy_after : {w : World} {c : ℕ} {v : World} → GoesBy w c v → Option ℕ → Option ℕ
copy_after (first_copies touch f counts e b t h) copy = Some touch.page
copy_after (copies touch f g counts e n a t h) copy = Some touch.page
copy_after g copy = copy

-- what the map in which the call goes on is, where t was the one before
abbrev pub IsFrom : Plain → Option ℕ → Plain → Type 0
IsFrom t None now = now ≡ t
IsFrom t (Some page) now = detached t page ≡ Some now

-- ---- a phase

pub used_at : (t : Plain) (first : Users) (c : ℕ) (request : Request) (copy : Option ℕ) (w : World) (old : Phase) → w.calls.phase c ≡ old
    → IsUsed t first c request copy w → Used t first (recorded w.slots) (reach_of w.hardware c) c request copy old
used_at t first c request copy w old e u = subst (Used t first (recorded w.slots) (reach_of w.hardware c) c request copy) e u

used_to : (t : Plain) (first : Users) (c : ℕ) (request : Request) (copy : Option ℕ) (new : Phase) (x v : World) → v ≡ to c new x
    → Used t first (recorded x.slots) (reach_of x.hardware c) c request copy new → IsUsed t first c request copy v
used_to t first c request copy new x v e h =
    subst (IsUsed t first c request copy) (sym e)
    (subst (Used t first (recorded x.slots) (reach_of x.hardware c) c request copy) (sym (put_same x.calls.phase c new)) h)

gone : (t : Plain) (first now : Users) (reach : Touch → Option ℕ) (c : ℕ) (request : Request) (copy : Option ℕ) (held : Option PageRange) (reply : Reply)
    → (page_copied t request reply ≡ copy) × Same now (users_after t c request reply first) → Used t first now reach c request copy (let_go held reply)
gone t first now reach c request copy None reply h = h
gone t first now reach c request copy (Some held) reply h = h

replied : (t : Plain) (first : Users) (c : ℕ) (request : Request) (copy : Option ℕ) (held : Option PageRange) (reply : Reply) (x v : World)
    → v ≡ after_reply c held reply x → (page_copied t request reply ≡ copy) × Same (recorded x.slots) (users_after t c request reply first)
    → IsUsed t first c request copy v
replied t first c request copy held reply x v e h =
    subst (IsUsed t first c request copy) (sym e)
    (subst (Used t first (recorded x.slots) (reach_of x.hardware c) c request copy) (sym (put_same x.calls.phase c (let_go held reply)))
    (gone t first (recorded x.slots) (reach_of x.hardware c) c request copy held reply h))

-- the reply changes no user
kept : (t : Plain) (first now : Users) (c : ℕ) (request : Request) (copy : Option ℕ) (reply : Reply) → (copy ≡ None) × Same now first → Keeps t c request reply
    → (page_copied t request reply ≡ copy) × Same now (users_after t c request reply first)
kept t first now c request copy reply s k = (k.0 ∙ sym s.0, λ p d. s.1 p d ∙ sym (k.1 first p d))

-- where no page has got a copy
as_left : (copy : Option ℕ) (now first : Users) → (copy ≡ None) × Same now first → Same now (users_left copy first)
as_left copy now first s = subst (λ o. Same now (users_left o first)) (sym s.0) s.1

-- ---- moves

moves_used : (t : Plain) (first : Users) (c : ℕ) (request : Request) (copy : Option ℕ) (w : World) (new : Phase) → IsUsed t first c request copy w
    → Moves w c new
    → Used t first (recorded w.slots) (reach_of w.hardware c) c request copy new
moves_used t first c request copy w new u (locks r change e n k) =
    subst (Used t first (recorded w.slots) (reach_of w.hardware c) c request copy) (sym n) (used_at t first c request copy w (Check r) e u)
moves_used t first c request copy w new u (tries r touch e n k) =
    subst (Used t first (recorded w.slots) (reach_of w.hardware c) c request copy) (sym n) (inl (used_at t first c request copy w (Check r) e u))
moves_used t first c request copy w new u (hints r place range e n i k) =
    subst (Used t first (recorded w.slots) (reach_of w.hardware c) c request copy) (sym n) (used_at t first c request copy w (Check r) e u)
moves_used t first c request copy w new u (seeks r place e n k) =
    subst (Used t first (recorded w.slots) (reach_of w.hardware c) c request copy) (sym n) (used_at t first c request copy w (Check r) e u)
moves_used t first c request copy w new u (guesses place found e n least) =
    subst (Used t first (recorded w.slots) (reach_of w.hardware c) c request copy) (sym n)
    (used_at t first c request copy w (Guess place) e u)
moves_used t first c request copy w new u (turns place target e n d) =
    subst (Used t first (recorded w.slots) (reach_of w.hardware c) c request copy) (sym n)
    (used_at t first c request copy w (Find place target) e u)
moves_used t first c request copy w new u (chooses place target range shoot e n d) =
    subst (Used t first (recorded w.slots) (reach_of w.hardware c) c request copy) (sym n)
    (used_at t first c request copy w (Find place target) e u)
moves_used t first c request copy w new u (acts change range shoot e n d) =
    subst (Used t first (recorded w.slots) (reach_of w.hardware c) c request copy) (sym n) (used_at t first c request copy w (Decide change) e u)
moves_used t first c request copy w new u (finds touch f e n k) =
    subst (Used t first (recorded w.slots) (reach_of w.hardware c) c request copy) (sym n)
    (as_left copy (recorded w.slots) first (used_at t first c request copy w (Settle touch) e u))
moves_used t first c request copy w new u (lacks touch old e n k i) =
    subst (Used t first (recorded w.slots) (reach_of w.hardware c) c request copy) (sym n) (used_at t first c request copy w (Settle touch) e u)
moves_used t first c request copy w new u (shows touch e n k i) =
    subst (Used t first (recorded w.slots) (reach_of w.hardware c) c request copy) (sym n) (used_at t first c request copy w (Settle touch) e u)

locked_used : (t : Plain) (first now : Users) (reach : Touch → Option ℕ) (c : ℕ) (request : Request) (copy : Option ℕ) (goal : Goal) (b : ℕ)
    → (copy ≡ None) × Same now first → Used t first now reach c request copy (locked_to goal b)
locked_used t first now reach c request copy goal b h = go goal (nat_le (goal_range goal).end b)
  where
    go : (goal : Goal) (p : Bool) → Used t first now reach c request copy (cond p (all_locked goal) (Lock goal b))
    go (To.Place place target) true = h
    go (To.Change change) true = h
    go (To.Access touch) true = h
    go goal false = h

taken_used : (t : Plain) (first now : Users) (reach : Touch → Option ℕ) (c : ℕ) (request : Request) (copy : Option ℕ) (touch : Touch) (old : Option ℕ) (f : ℕ)
    → (copy ≡ None) × Same now first → Used t first now reach c request copy (taken_for touch old f)
taken_used t first now reach c request copy touch None f h = h
taken_used t first now reach c request copy touch (Some g) f h = h

lets_go_used : (free : ℕ → Bool) (m : Plain) (first : Users) (c : ℕ) (request : Request) (copy : Option ℕ) (w : World) (t : Slots) (held : PageRange) (b : ℕ)
    (new : Phase)
    → Same (recorded t) (recorded w.slots) → IsSureOf free c w → IsUsed m first c request copy w → LetsGo (w.calls.phase c) held b new
    → Used m first (recorded t) (reach_of w.hardware c) c request copy new
lets_go_used free m first c request copy w t held b new same sure u (unlocks reply e n) =
    let z = used_at m first c request copy w (Unlock held reply) e u in
    subst (Used m first (recorded t) (reach_of w.hardware c) c request copy) (sym n)
    (gone m first (recorded t) (reach_of w.hardware c) c request copy (held_after held b) reply (z.0, λ p d. same p d ∙ z.1 p d))
lets_go_used free m first c request copy w t held b new same sure u (returns place target e n) =
    let z = used_at m first c request copy w (Leaving place target held) e u in
    let k : (copy ≡ None) × Same (recorded t) first = (z.0, λ p d. same p d ∙ z.1 p d) in
    subst (Used m first (recorded t) (reach_of w.hardware c) c request copy) (sym n)
    (back_all (Used m first (recorded t) (reach_of w.hardware c) c request copy) place target (held_after held b) k k (λ held. k))
lets_go_used free m first c request copy w t held b new same sure u (releases touch e h n) =
    subst (Used m first (recorded t) (reach_of w.hardware c) c request copy) (sym n)
    (inr ((λ p d. same p d ∙ used_at m first c request copy w (Release touch) e u p d), sure_at free w c (Release touch) e sure))

-- ---- replies

fault_keeps : (t : Plain) (c : ℕ) (request : Request) (s : Settled) (reply : Reply) → IsFault s reply → Keeps t c request reply
fault_keeps t c request MapErr reply h = subst (Keeps t c request) (sym h) (refl, λ u p d. refl)
fault_keeps t c request AccErr reply h = subst (Keeps t c request) (sym h) (refl, λ u p d. refl)
fault_keeps t c request Bus reply h = subst (Keeps t c request) (sym h) (refl, λ u p d. refl)
fault_keeps t c request _ reply h = absurd h

pub same_request : (w : World) (c : ℕ) (r request : Request) → nth w.calls.requests (w.calls.number c) ≡ Some r
    → nth w.calls.requests (w.calls.number c) ≡ Some request
    → r ≡ request
same_request w c r request e k = cc

replies_keep : (t : Plain) (c : ℕ) (request : Request) (w : World) (held : Option PageRange) (reply : Reply) → IsWellFormed w
    → nth w.calls.requests (w.calls.number c) ≡ Some request → Replies w c held reply → Keeps t c request reply
replies_keep t c request w held reply f number (refuses r e h j) =
    let is : r ≡ request = same_request w c r request (call_at w c (Check r) e f.order).asked number in
    subst (λ r. Keeps t c r reply) is (refused_keeps (λ k. mode_of (w.made.file k)) t c r reply j)
replies_keep t c request w held reply f number (no_place place target errno e h i d) =
    subst (Keeps t c request) (sym i) (refl, λ u p d. refl)
replies_keep t c request w held reply f number (declines change errno e h i d) = subst (Keeps t c request) (sym i) (refl, λ u p d. refl)
replies_keep t c request w held reply f number (fails touch e h x) = fault_keeps t c request (found_at w touch) reply x
replies_keep t c request w held reply f number (no_frame touch old e h i none) = subst (Keeps t c request) (sym i) (refl, λ u p d. refl)

unchanged : (t : Plain) (first : Users) (c : ℕ) (request : Request) (copy : Option ℕ) (w : World) (held : Option PageRange) (reply : Reply)
    → IsUsed t first c request copy w → Replies w c held reply → (copy ≡ None) × Same (recorded w.slots) first
unchanged t first c request copy w held reply u (refuses r e h j) = used_at t first c request copy w (Check r) e u
unchanged t first c request copy w held reply u (no_place place target errno e h i d) =
    used_at t first c request copy w (Find place target) e u
unchanged t first c request copy w held reply u (declines change errno e h i d) = used_at t first c request copy w (Decide change) e u
unchanged t first c request copy w held reply u (fails touch e h x) = used_at t first c request copy w (Settle touch) e u
unchanged t first c request copy w held reply u (no_frame touch old e h i none) = used_at t first c request copy w (Want touch old) e u

-- ---- a change that is made

change_used : (t : Plain) (first : Users) (c : ℕ) (request : Request) (copy : Option ℕ) (w : World) (goal : Goal) (change : Change) → IsWellFormed w
    → nth w.calls.requests (w.calls.number c) ≡ Some request → w.calls.phase c ≡ Acks goal change → IsUsed t first c request copy w
    → (page_copied t request (reply_to change) ≡ copy) × Same (recorded (slots_after change w.slots)) (users_after t c request (reply_to change) first)
change_used t first c request copy w goal change f number e u =
    let k : IsCallOf w c (Acks goal change) = call_at w c (Acks goal change) e f.order in
    let is : k.asked.request ≡ request = same_request w c k.asked.request request k.asked.number number in
    let sound = call_sound w c goal f.order (has_core w c f.order (λ k. let a = sym e ∙ k in cc)) k.asked k.ready.0 in
    let drops =
    goal_drops (λ k. mode_of (w.made.file k)) w.made w.slots t c k.asked.request goal change k.asked.passed sound k.ready.1 k.ready.2 in
    let z = used_at t first c request copy w (Acks goal change) e u in (
      subst (λ r. page_copied t r (reply_to change) ≡ None) is drops.0 ∙ sym z.0,
      λ p d.
          changed_drops w.slots change p d ∙ ap (λ b. cond (has (range_of change) p) false b) (z.1 p d)
          ∙ sym (subst (λ r. users_after t c r (reply_to change) first p d ≡ without (range_of change) first p d) is (drops.1 first p d)),
    )

-- ---- the copy of an access

copy_for : (t : Plain) (request : Request) (copy : Option ℕ) (now : Plain) → IsStoreFor request copy → IsFrom t copy now → IsCopyFor t request copy
copy_for t request None now asks from = tt
copy_for t request (Some page) now asks from = (asks, ap is_some from)

-- a call that is at an access was asked for it
pub its_touch : (w : World) (c : ℕ) (touch : Touch) (request : Request) → nth w.calls.requests (w.calls.number c) ≡ Some request
    → Serves w.made w.calls.requests c (w.calls.number c) (PlanOf.Touch touch) → IsTouchOf request touch
its_touch w c touch request number z =
    subst (λ r. IsTouchOf r touch) (same_request w c z.request request z.number number)
    (touch_asked (λ n. mode_of (w.made.file n)) c z.request touch z.passed)

-- the page that has got a copy is that of the store
pub asks_on : (request : Request) (copy : Option ℕ) (w : World) (c : ℕ) (v : World) → IsWellFormed w → nth w.calls.requests (w.calls.number c) ≡ Some request
    → IsStoreFor request copy → (g : GoesBy w c v) → IsStoreFor request (copy_after g copy)
asks_on request copy w c v f number a (first_copies touch x counts e b t h) =
    let k : IsCallOf w c (Fill touch (Some x)) = call_at w c (Fill touch (Some x)) e f.order in
    store_asked request touch (its_touch w c touch request number k.asked) (private_only (back_of (w.slots.info touch.page)) touch.access b).0
asks_on request copy w c v f number a (copies touch x g counts e n j t h) =
    let k : IsCallOf w c (CopyAcks touch x) = call_at w c (CopyAcks touch x) e f.order in
    store_asked request touch (its_touch w c touch request number k.asked) (private_only (back_of (w.slots.info touch.page)) touch.access k.ready.2.store).0
asks_on request copy w c v f number a _ = a

-- ---- an access

user_same : (a b : Users) (page c : ℕ) → Same a b → Same (with_user page c a) (with_user page c b)
user_same a b page c s p d =
    put_both (λ p f g. f d ≡ g d) a b page (put (a page) c true) (put (b page) c true)
    (put_both (λ d x y. x ≡ y) (a page) (b page) c true true refl (λ j ne. s page j) d) (λ j ne. s j d) p

usable_info : (file : ℕ → Option File) (o : Option PageInfo) (access : Access) (frame : Option ℕ) → IsUsable file o access frame
    → (info : PageInfo) × (o ≡ Some info)
usable_info file None access frame u = absurd u
usable_info file (Some info) access frame u = (info, refl)

install_used : (t : Plain) (first : Users) (c : ℕ) (request : Request) (copy : Option ℕ) (w : World) (touch : Touch) → IsWellFormed w
    → w.calls.phase c ≡ Install touch → IsUsed t first c request copy w
    → Same (recorded (after_install c touch w).slots) (with_user touch.page c (users_left copy first))
install_used t first c request copy w touch f e u =
    let k : IsCallOf w c (Install touch) = call_at w c (Install touch) e f.order in
    let z = usable_info w.made.file (w.slots.info touch.page) touch.access (Some k.ready.0) k.ready.1 in
    λ p d.
    installed_adds w.slots touch.page c z.0 z.1 p d
    ∙ user_same (recorded w.slots) (users_left copy first) touch.page c (used_at t first c request copy w (Install touch) e u) p d

-- a core whose translation leads to a frame is recorded on the page
reaches_recorded : (shown : ℕ → ℕ → Option ℕ) (info : ℕ → Option PageInfo) (phase : ℕ → Phase) (h : Hardware) (c : ℕ) (touch : Touch) (f : ℕ)
    → IsCoherent shown info phase h
    → frame_reached (translated_by h c touch) ≡ Some f → is_recorded (info touch.page) c ≡ true
reaches_recorded shown info phase h c touch f k e = go (tlb_at (h.tlb c) touch.page) (h.table c touch.page) refl refl e
  where
    go : (cached entry : Option Translation) → tlb_at (h.tlb c) touch.page ≡ cached → h.table c touch.page ≡ entry
        → frame_reached (translated cached entry touch.access) ≡ Some f → is_recorded (info touch.page) c ≡ true
    go (Some t) entry i j r = (at_page (IsSoundEntry shown info c (h.table c) (h.inbox c)) (h.tlb c) touch.page t (k.tlbs c) i).0.recorded
    go None (Some t) i j r = (k.tables c touch.page t j).recorded
    go None None i j r = absurd cc

-- a store that the core's translation permits needs no copy any more
none_due : (w : World) (c : ℕ) (touch : Touch) (x : ℕ) (f : IsWellFormed w) → frame_reached (translated_by w.hardware c touch) ≡ Some x → touch.access ≡ Store
    → detached f.plain touch.page ≡ None
none_due w c touch x f e s =
    let r : ReachesFrame w.memory.cached
    (w.slots.info touch.page) touch.access x = reaches w.memory.cached w.slots.info w.calls.phase w.hardware c touch x f.coherent e in
    let i : IsFramed w f.plain touch.page x = framed w f.plain touch.page x f.good (ap frame_of r.mapped ∙ r.frame) in
    let same : r.page ≡ i.info = let a = r.mapped in let b = i.at_slot in cc in
    let own : is_uncopied i.entry.back i.entry.own ≡ false =
    is_copied w f.plain touch.page x i
    (subst (λ (y : PageInfo). (is_private y.meta.back && shows_file w.memory.cached y.meta.back x) ≡ false) same (r.writes s)) in
    ap (detached_entry f.plain touch.page) i.at_page
    ∙ ap (λ b. copied f.plain touch.page i.entry b (bytes_of f.plain.file i.entry.back i.entry.own)) own

access_used : (t : Plain) (first : Users) (c : ℕ) (request : Request) (copy : Option ℕ) (w : World) (touch : Touch) (x : ℕ) (f : IsWellFormed w)
    → nth w.calls.requests (w.calls.number c) ≡ Some request → w.calls.phase c ≡ Try touch → frame_reached (translated_by w.hardware c touch) ≡ Some x
    → IsFrom t copy f.plain → IsStoreFor request copy → IsUsed t first c request copy w
    → (page_copied t request (reply_of touch x w.memory) ≡ copy) × Same (recorded w.slots) (users_after t c request (reply_of touch x w.memory) first)
access_used t first c request copy w touch x f number e i from asks u =
    let k : IsCallOf w c (Try touch) = call_at w c (Try touch) e f.order in
    let asked : IsTouchOf request touch = its_touch w c touch request number k.asked in
    let due : page_copied t request (reply_of touch x w.memory) ≡ copy =
    copied_so t request touch (w.memory.bytes x touch.offset) copy asked (copy_for t request copy f.plain asks from)
    (λ none s. subst (λ m. detached m touch.page ≡ None) (subst (λ o. IsFrom t o f.plain) none from) (none_due w c touch x f i s)) in
    (due, λ p d. one p d ∙ sym (touch_adds t c request touch asked (w.memory.bytes x touch.offset) copy due first p d))
  where
    one : Same (recorded w.slots) (with_user touch.page c (users_left copy first))
    one = elim (used_at t first c request copy w (Try touch) e u) [
      | inl s ↦ λ p d.
          already (recorded w.slots) touch.page c (reaches_recorded w.memory.cached w.slots.info w.calls.phase w.hardware c touch x f.coherent i) p d
          ∙ user_same (recorded w.slots) (users_left copy first) touch.page c (as_left copy (recorded w.slots) first s) p d
      | inr s ↦ s.0
    ]

fault_used : (t : Plain) (first : Users) (c : ℕ) (request : Request) (copy : Option ℕ) (w : World) (touch : Touch) → w.calls.phase c ≡ Try touch
    → frame_reached (translated_by w.hardware c touch) ≡ None → IsUsed t first c request copy w → (copy ≡ None) × Same (recorded w.slots) first
fault_used t first c request copy w touch e i u = elim (used_at t first c request copy w (Try touch) e u) [
  | inl s ↦ s
  | inr s ↦ absurd (let hit = s.1 in cc (hit, i))
]

-- ---- a page that gets a frame

-- a page without frame has no user
unused_page : (file : ℕ → Option File) (o : Option PageInfo) (access : Access) → IsUsable file o access None
    → ((d : ℕ) → is_recorded o d ≡ true → is_some (frame_of o) ≡ true) → (d : ℕ) → is_recorded o d ≡ false
unused_page file None access u framed d = absurd u
unused_page file (Some info) access u framed d = go (is_recorded (Some info) d) refl
  where
    go : (b : Bool) → is_recorded (Some info) d ≡ b → b ≡ false
    go false e = refl
    go true e = absurd (let a : is_some info.frame ≡ true = framed d e in let b : is_some info.frame ≡ false = ap is_some u.2 in cc)

-- its first frame is a copy
first_used : (t : Plain) (first : Users) (c : ℕ) (request : Request) (copy : Option ℕ) (w : World) (touch : Touch) (x : ℕ) → IsWellFormed w
    → AreFramed w.slots.info → w.calls.phase c ≡ Fill touch (Some x) → IsUsed t first c request copy w
    → Same (recorded w.slots) (users_left (Some touch.page) first)
first_used t first c request copy w touch x f framed e u =
    let k : IsCallOf w c (Fill touch (Some x)) = call_at w c (Fill touch (Some x)) e f.order in
    let z = used_at t first c request copy w (Fill touch (Some x)) e u in
    λ p d.
    unused_left (recorded w.slots) touch.page (unused_page w.made.file (w.slots.info touch.page) touch.access k.ready.0 (framed touch.page)) p d
    ∙ left_same (Some touch.page) (recorded w.slots) first z.1 p d

-- ---- every plain step

pub used_on : (free : ℕ → Bool) (t : Plain) (first : Users) (c : ℕ) (request : Request) (copy : Option ℕ) (w v : World) (f : IsWellFormed w)
    → AreFramed w.slots.info → nth w.calls.requests (w.calls.number c) ≡ Some request → IsSureOf free c w
    → (status (w.calls.phase c) ≡ Asked → IsFrom t copy f.plain)
    → IsStoreFor request copy → IsUsed t first c request copy w → (g : GoesBy w c v) → IsUsed t first c request (copy_after g copy) v
used_on free m first c request copy w v f framed number sure from asks u (moves new k h) =
    used_to m first c request copy new w v h (moves_used m first c request copy w new u k)
used_on free m first c request copy w v f framed number sure from asks u (divides goal cursor t e s h) =
    let same : Same (recorded t) (recorded w.slots) = λ p d. ap (λ (i : ℕ → Option PageInfo). is_recorded (i p) d) s.divides.2.info in
    let z = used_at m first c request copy w (Lock goal cursor) e u in
    subst (IsUsed m first c request copy) (sym h)
    (subst (Used m first (recorded t) (reach_of w.hardware c) c request copy) (sym e) (z.0, λ p d. same p d ∙ z.1 p d))
used_on free m first c request copy w v f framed number sure from asks u (cuts place target range t e s h) =
    let same : Same (recorded t) (recorded w.slots) = λ p d. ap (λ (i : ℕ → Option PageInfo). is_recorded (i p) d) s.divides.2.info in
    let z = used_at m first c request copy w (Cut place target range) e u in
    subst (IsUsed m first c request copy) (sym h)
    (subst (Used m first (recorded t) (reach_of w.hardware c) c request copy) (sym e) (z.0, λ p d. same p d ∙ z.1 p d))
used_on free m first c request copy w v f framed number sure from asks u (fits place target range e i h) =
    used_to m first c request copy (Acks (To.Place place target) (Put range place.meta)) w v h
    (used_at m first c request copy w (Cut place target range) e u)
used_on free m first c request copy w v f framed number sure from asks u (owns goal cursor b t e l h) =
    let same : Same (recorded t) (recorded w.slots) = λ p d. ap (λ (s : Slots). is_recorded (s.info p) d) l.now in
    let z = used_at m first c request copy w (Lock goal cursor) e u in
    used_to m first c request copy (locked_to goal b) (record w { slots = t }) v h
    (locked_used m first (recorded t) (reach_of w.hardware c) c request copy goal b (z.0, λ p d. same p d ∙ z.1 p d))
used_on free m first c request copy w v f framed number sure from asks u (lets_go held b t new l k h) =
    used_to m first c request copy new (record w { slots = t }) v h
    (lets_go_used free m first c request copy w t held b new (λ p d. ap (λ (s : Slots). is_recorded (s.info p) d) k.now) sure u l)
used_on free m first c request copy w v f framed number sure from asks u (answers held reply r h) = replied m first c request copy held reply w v h
    (kept m first (recorded w.slots) c request copy reply (unchanged m first c request copy w held reply u r)
    (replies_keep m c request w held reply f number r))
used_on free m first c request copy w v f framed number sure from asks u (posts change shoot e h) =
    used_to m first c request copy (Acks (To.Change change) change) (record w { hardware = (after_post c change shoot w).hardware }) v h
    (used_at m first c request copy w (Post change shoot) e u)
used_on free m first c request copy w v f framed number sure from asks u (commits goal change counts e n l h) =
    replied m first c request copy (Some (goal_range goal)) (reply_to change)
    (with_counts counts (record w { slots = slots_after change w.slots })) v h
    (change_used m first c request copy w goal change f number e u)
used_on free m first c request copy w v f framed number sure from asks u (takes touch old x e l h) =
    used_to m first c request copy (taken_for touch old x) (record w { memory = (after_frame c touch old x w).memory }) v h
    (taken_used m first (recorded w.slots) (reach_of w.hardware c) c request copy touch old x (used_at m first c request copy w (Want touch old) e u))
used_on free m first c request copy w v f framed number sure from asks u (zeroes touch x counts e b t h) =
    used_to m first c request copy (Install touch) (record w {
      slots = (after_zeros c touch x counts w).slots;
      memory =
          (after_zeros c touch x counts w).memory;
    }) v h
    (λ p d. filled_same w.slots touch.page x p d ∙ as_left copy (recorded w.slots) first (used_at m first c request copy w (Fill touch (Some x)) e u) p d)
used_on free m first c request copy w v f framed number sure from asks u (first_copies touch x counts e b t h) =
    let made : World = after_first_copy c touch x counts w in
    used_to m first c request (Some touch.page) (Install touch) (with_entry (detach_entry w c touch.page)
    (record w { slots = made.slots; memory = made.memory })) v h
    (λ p d. filled_same w.slots touch.page x p d ∙ first_used m first c request copy w touch x f framed e u p d)
used_on free m first c request copy w v f framed number sure from asks u (caches touch x counts e k n t h) =
    used_to m first c request copy (Install touch) (record w {
      slots = (after_caching c touch x counts w).slots;
      memory =
          (after_caching c touch x counts w).memory;
    }) v h
    (λ p d. filled_same w.slots touch.page x p d ∙ as_left copy (recorded w.slots) first (used_at m first c request copy w (Fill touch (Some x)) e u) p d)
used_on free m first c request copy w v f framed number sure from asks u (shares touch own x counts e k n t h) =
    used_to m first c request copy (Install touch) (record w {
      slots = (after_sharing c touch own x counts w).slots;
      memory =
          (after_sharing c touch own x counts w).memory;
    }) v h
    (λ p d. filled_same w.slots touch.page x p d ∙ as_left copy (recorded w.slots) first (used_at m first c request copy w (Fill touch own) e u) p d)
used_on free m first c request copy w v f framed number sure from asks u (posts_copy touch x e h) =
    used_to m first c request copy (CopyAcks touch x) (record w { hardware = (after_copy_post c touch x w).hardware }) v h
    (used_at m first c request copy w (CopyPost touch x) e u)
used_on free m first c request copy w v f framed number sure from asks u (copies touch x y counts e n a t h) =
    let made : World = after_copy c touch x y counts w in
    used_to m first c request (Some touch.page) (Install touch) (with_entry (detach_entry w c touch.page)
    (record w { slots = made.slots; memory = made.memory })) v h
    (λ p d. copied_drops w.slots touch.page x p d
    ∙ left_same (Some touch.page) (recorded w.slots) first (used_at m first c request copy w (CopyAcks touch x) e u).1 p d)
used_on free m first c request copy w v f framed number sure from asks u (installs touch e h) =
    used_to m first c request copy (Release touch) (record w { slots = (after_install c touch w).slots; hardware = (after_install c touch w).hardware }) v h
    (install_used m first c request copy w touch f e u)
used_on free m first c request copy w v f framed number sure from asks u (accesses touch x e i h) =
    replied m first c request copy None (reply_of touch x w.memory)
    (record (with_hardware (after_translating w.hardware c touch) w) { memory = memory_after touch x w.memory }) v h
    (access_used m first c request copy w touch x f number e i (from (ap status e)) asks u)
used_on free m first c request copy w v f framed number sure from asks u (faults touch e i h) =
    used_to m first c request copy (locking (To.Access touch))
    (with_hardware (after_translating w.hardware c touch) w) v h (fault_used m first c request copy w touch e i u)

-- ---- whom the call drops

-- no other core has lost a page that it used
abbrev pub KeepsUsers : Users → ℕ → Users → Type 0
KeepsUsers first c now = (d p : ℕ) → d ≢ c → first p d ≡ true → now p d ≡ true

still_users : (first now next : Users) (c : ℕ) → Same next now → KeepsUsers first c now → KeepsUsers first c next
still_users first now next c s k d p ne h = s p d ∙ k d p ne h

-- where nobody is awaited, no other core uses the pages
none_dropped : (w : World) (c : ℕ) (range : PageRange) → IsToldOf w.slots w.hardware c (Some range) → AwaitsNobody w.hardware c → (d p : ℕ) → d ≢ c
    → recorded w.slots p d ≡ true → without range (recorded w.slots) p d ≡ true
none_dropped w c range told nobody d p ne r = go (has range p) refl
  where
    go : (b : Bool) → has range p ≡ b → cond b false (recorded w.slots p d) ≡ true
    go true i = absurd (let a = (told d).0.1 (ne, (p, i, r)) in let z = nobody d in cc)
    go false i = r

user_stays : (first : Users) (page c d p : ℕ) → first p d ≡ true → with_user page c first p d ≡ true
user_stays first page c d p =
    put_all (λ p f. first p d ≡ true → f d ≡ true) first page (put (first page) c true)
    (put_all (λ d b. first page d ≡ true → b ≡ true) (first page) c true (λ h. refl) (λ j ne h. h) d) (λ j ne h. h) p

-- of the slots that the step leaves
left_users : (first : Users) (c : ℕ) (v : World) (s : Slots) → v.slots ≡ s → KeepsUsers first c (recorded s) → KeepsUsers first c (recorded v.slots)
left_users first c v s e k = subst (λ s. KeepsUsers first c (recorded s)) (sym e) k

filled_users : (first : Users) (c : ℕ) (w v : World) (touch : Touch) (x : ℕ)
    → v.slots ≡ with_info w.slots touch.page (info_with_frame x (w.slots.info touch.page)) → KeepsUsers first c (recorded w.slots)
    → KeepsUsers first c (recorded v.slots)
filled_users first c w v touch x e k =
    left_users first c v _ e (still_users first (recorded w.slots) _ c (filled_same w.slots touch.page x) k)

pub unwaited_on : (first : Users) (c : ℕ) (w v : World) → IsWellFormed w → IsTold w.slots w.hardware c (w.calls.phase c) → KeepsUsers first c (recorded w.slots)
    → GoesBy w c v
    → KeepsUsers first c (recorded v.slots)
unwaited_on first c w v f t k (moves new m h) = left_users first c v w.slots (ap (λ (v : World). v.slots) h) k
unwaited_on first c w v f t k (divides goal cursor s e i h) =
    left_users first c v s (ap (λ (v : World). v.slots) h)
    (still_users first (recorded w.slots) (recorded s) c (λ p d. ap (λ (i : ℕ → Option PageInfo). is_recorded (i p) d) i.divides.2.info) k)
unwaited_on first c w v f t k (cuts place target range s e i h) =
    left_users first c v s (ap (λ (v : World). v.slots) h)
    (still_users first (recorded w.slots) (recorded s) c (λ p d. ap (λ (i : ℕ → Option PageInfo). is_recorded (i p) d) i.divides.2.info) k)
unwaited_on first c w v f t k (fits place target range e i h) = left_users first c v w.slots (ap (λ (v : World). v.slots) h) k
unwaited_on first c w v f t k (owns goal cursor b s e l h) =
    left_users first c v s (ap (λ (v : World). v.slots) h)
    (still_users first (recorded w.slots) (recorded s) c (λ p d. ap (λ (s : Slots). is_recorded (s.info p) d) l.now) k)
unwaited_on first c w v f t k (lets_go held b s new l u h) =
    left_users first c v s (ap (λ (v : World). v.slots) h)
    (still_users first (recorded w.slots) (recorded s) c (λ p d. ap (λ (s : Slots). is_recorded (s.info p) d) u.now) k)
unwaited_on first c w v f t k (answers held reply r h) = left_users first c v w.slots (ap (λ (v : World). v.slots) h) k
unwaited_on first c w v f t k (posts change shoot e h) = left_users first c v w.slots (ap (λ (v : World). v.slots) h) k
unwaited_on first c w v f t k (commits goal change counts e n l h) =
    left_users first c v (slots_after change w.slots) (ap (λ (v : World). v.slots) h)
    (λ d p ne i. changed_drops w.slots change p d ∙ none_dropped w c (range_of change) (subst (IsTold w.slots w.hardware c) e t) n d p ne (k d p ne i))
unwaited_on first c w v f t k (takes touch old x e l h) = left_users first c v w.slots (ap (λ (v : World). v.slots) h) k
unwaited_on first c w v f t k (zeroes touch x counts e b i h) = filled_users first c w v touch x (ap (λ (v : World). v.slots) h) k
unwaited_on first c w v f t k (first_copies touch x counts e b i h) = filled_users first c w v touch x (ap (λ (v : World). v.slots) h) k
unwaited_on first c w v f t k (caches touch x counts e s n i h) = filled_users first c w v touch x (ap (λ (v : World). v.slots) h) k
unwaited_on first c w v f t k (shares touch own x counts e s n i h) = filled_users first c w v touch x (ap (λ (v : World). v.slots) h) k
unwaited_on first c w v f t k (posts_copy touch x e h) = left_users first c v w.slots (ap (λ (v : World). v.slots) h) k
unwaited_on first c w v f t k (copies touch x g counts e n a i h) =
    left_users first c v (with_info w.slots touch.page (info_with_copy x (w.slots.info touch.page))) (ap (λ (v : World). v.slots) h)
    (λ d p ne j. copied_drops w.slots touch.page x p d ∙ none_dropped w c (page_of_touch touch) (subst (IsTold w.slots w.hardware c) e t) n d p ne (k d p ne j))
unwaited_on first c w v f t k (installs touch e h) =
    let its : IsCallOf w c (Install touch) = call_at w c (Install touch) e f.order in
    let z = usable_info w.made.file (w.slots.info touch.page) touch.access (Some its.ready.0) its.ready.1 in
    left_users first c v (after_install c touch w).slots (ap (λ (v : World). v.slots) h)
    (λ d p ne i. installed_adds w.slots touch.page c z.0 z.1 p d ∙ user_stays (recorded w.slots) touch.page c d p (k d p ne i))
unwaited_on first c w v f t k (accesses touch x e i h) = left_users first c v w.slots (ap (λ (v : World). v.slots) h) k
unwaited_on first c w v f t k (faults touch e i h) = left_users first c v w.slots (ap (λ (v : World). v.slots) h) k
