-- What the steps of an access do with its page, where none copies the page's frame
use Rattle.machine_model.proofs.Words.{◌≡◌, ◌≢◌, ℕ, refl, sym, ap, subst, ◌∙◌, inl, inr, ◌⊎◌, Bool, true, false, nat_le, arith}
use Rattle.machine_model.proofs.Words.{Some, None, Option, if◌then◌else◌, Ok, World, Becomes}
use Rattle.machine_model.proofs.Words.{to, put, put_same, checked_by}
use Rattle.machine_model.proofs.Words.{after_finding, found_at, is_past_end, settled, is_cached, is_private_store, Settled, back_of, file_frame}
use Rattle.machine_model.proofs.Words.{with_cached, frame_of, info_with_frame, info_with_core, PageInfo, Slots, Locked, Held, goal_range, let_go}
use Rattle.machine_model.proofs.Words.{FillsBacked, nat_tests, Touch}
use Rattle.machine_model.proofs.Words.{is_allowed}
use Rattle.std.specs.Prelude.{◌==◌, ◌&&◌}
use Rattle.vm_base.specs.declared.info.Back.{Back}
use Rattle.vm_base.specs.declared.info.Back.TheVariants.{Anon, Shared, Private}
use Rattle.vm_base.specs.declared.page.PageRange.{PageRange}
use Rattle.vm_base.specs.declared.rights.Access.{Access}
use Rattle.vm_base.specs.declared.rights.Access.TheVariants.{Load, Store, Fetch}
use Rattle.vm_base.specs.declared.replies.Reply.{Reply}
use Rattle.vm_calls.specs.Settling.{source}
use Rattle.vm_calls.specs.declared.fault.Settled.TheVariants as Finds
use Rattle.slot_lock.specs.declared.plan.Goal.{Goal}
use Rattle.slot_lock.specs.declared.plan.Goal.TheVariants as To
use Rattle.slot_lock.specs.declared.plan.Plan.TheVariants as PlanOf
use Rattle.slot_lock.specs.declared.slot_map.Got.TheVariants.{Split}
use Rattle.machine_model.specs.declared.event.Outcome.{Outcome}
use Rattle.machine_model.specs.declared.phase.Phase.{Phase}
use Rattle.machine_model.specs.declared.phase.Phase.TheVariants.{Free, Check, Try, Lock, Settle, Want, Fill, Install, Release, Unlock, Answer}
use Rattle.machine_model.specs.Accesses.{after_translation, after_install, TakesFrame}
use Rattle.machine_model.specs.Filling.{FillsFrame, FillsFromFile}
use Rattle.machine_model.specs.Locks.{LocksNext, Releases}
use Rattle.slot_lock.specs.Slots.{with_info}
use Rattle.machine_model.proofs.CountsKept.{same_with_core}
use Rattle.real_mmu.specs.Fills.{due_in, source_of, shown_source}
use Rattle.driven.specs.declared.telling.Told.{Told}
use Rattle.driven.specs.declared.telling.Origin.{Origin}
use Rattle.driven.specs.declared.telling.FrameFill.{FrameFill}
use Rattle.driven.specs.Telling.{told_by}
use Rattle.driven.specs.Telling.{fill_made, fill_due, fill_if, fill_of, origin_of, IsOne}
use Rattle.driven.specs.Gotten.{missing_by, missing_from, is_from, gotten}

-- ---- pages

-- the page has a frame, which such an access doesn't have copied
abbrev pub Kept : (ℕ → ℕ → Option ℕ) → Option PageInfo → Access → Type 0
Kept cached info access =
    (f : ℕ) × (frame_of info ≡ Some f) × (is_private_store (back_of info) access && is_cached (file_frame cached (back_of info)) f ≡ false)

-- the page had no frame, has what it had, and what files have is the same
abbrev pub Lacking : World → ℕ → (ℕ → ℕ → Option ℕ) → Option PageInfo → Type 0
Lacking start p cached info = (frame_of (start.slots.info p) ≡ None) × (info ≡ start.slots.info p) × (cached ≡ start.memory.cached)

-- it is mapped, too
abbrev pub Wanting : World → ℕ → World → Type 0
Wanting start p w = Lacking start p w.memory.cached (w.slots.info p) × ((info : PageInfo) × (w.slots.info p ≡ Some info))

abbrev pub StillOf : World → Touch → (ℕ → ℕ → Option ℕ) → Option PageInfo → Type 0
StillOf start touch cached info = Lacking start touch.page cached info ⊎ Kept cached info touch.access

abbrev pub IsStill : World → Touch → World → Type 0
IsStill start touch w = StillOf start touch w.memory.cached (w.slots.info touch.page)

abbrev pub IsKept : Touch → World → Type 0
IsKept touch w = Kept w.memory.cached (w.slots.info touch.page) touch.access

abbrev pub StillAt : World → Touch → World → Goal → Type 0
StillAt start touch w (To.Access t) = (t ≡ touch) × IsStill start touch w
StillAt start touch w _ = ⊥

-- where the call of the access stands
abbrev pub Known : World → Touch → ℕ → World → Phase → Type 0
Known start touch c w (Check request) = (checked_by w.made c request ≡ Ok (PlanOf.Touch touch)) × IsStill start touch w
Known start touch c w (Try t) = (t ≡ touch) × IsStill start touch w
Known start touch c w (Lock goal cursor) = StillAt start touch w goal
Known start touch c w (Settle t) = (t ≡ touch) × IsStill start touch w
Known start touch c w (Want t None) = (t ≡ touch) × Wanting start touch.page w
Known start touch c w (Fill t frame) = (t ≡ touch) × Wanting start touch.page w
Known start touch c w (Install t) = (t ≡ touch) × IsKept touch w
Known start touch c w (Release t) = (t ≡ touch) × IsKept touch w
Known start touch c w (Unlock held reply) = Unit {0}
Known start touch c w (Answer reply) = Unit {0}
Known start touch c w Free = Unit {0}
Known start touch c w _ = ⊥

abbrev pub IsKnown : World → Touch → ℕ → World → Type 0
IsKnown start touch c w = Known start touch c w (w.calls.phase c)

-- what was told until then
abbrev pub got : World → ℕ → World → Option FrameFill
got start p w = gotten p (missing_from start (start.slots.info p)) (frame_of (w.slots.info p))

abbrev pub since : World → ℕ → World → Told
since start p w = told_by None (got start p w)

-- ---- a step

abbrev pub told_at : World → World → Phase → Option FrameFill
told_at w v phase = fill_made v (fill_due w (due_in phase))

-- where it leads, and what it tells
abbrev pub Moves : World → Touch → ℕ → World → Phase → World → Type 0
Moves start touch c w phase v =
    IsKnown start touch c v × IsOne (got start touch.page w) (told_at w v phase) (got start touch.page v)

pub same_frame : (start : World) (p : ℕ) (w v : World) → frame_of (v.slots.info p) ≡ frame_of (w.slots.info p) → got start p v ≡ got start p w
same_frame start p w v e = ap (gotten p (missing_from start (start.slots.info p))) e

-- to a state in a phase, where the page has the frame that it had
pub arrives : (start : World) (touch : Touch) (c : ℕ) (w x v : World) (phase : Phase) → v ≡ to c phase x → Known start touch c (to c phase x) phase
    → frame_of (x.slots.info touch.page) ≡ frame_of (w.slots.info touch.page)
    → IsKnown start touch c v × (got start touch.page v ≡ got start touch.page w)
arrives start touch c w x v phase e k same = (
  subst (IsKnown start touch c) (sym e) (subst (Known start touch c (to c phase x)) (sym (put_same x.calls.phase c phase)) k),
  same_frame start touch.page w v (ap (λ (u : World). frame_of (u.slots.info touch.page)) e ∙ same),
)

-- what the access may find at a page that has its frame, and at one that has none
abbrev pub FindsKept : Settled → Type 0
FindsKept (Finds.Copies f) = ⊥
FindsKept (Finds.Cached f) = ⊥
FindsKept Finds.Wants = ⊥
FindsKept _ = Unit {0}

abbrev pub FindsLacking : Settled → Type 0
FindsLacking (Finds.Has f) = ⊥
FindsLacking (Finds.Copies f) = ⊥
FindsLacking _ = Unit {0}

pub finds_kept : (info : Option PageInfo) (access : Access) (past : Bool) (cached : Option ℕ) (f : ℕ) → frame_of info ≡ Some f
    → is_private_store (back_of info) access && is_cached cached f ≡ false → FindsKept (settled info access past cached)
finds_kept None access past cached f h safe = tt
finds_kept (Some info) access past cached f h safe = allowed (is_allowed info.meta.prot access)
  where
    found : FindsKept (source info.meta.back info.frame access cached)
    found = subst (λ q. FindsKept (source info.meta.back q access cached)) (sym h)
        (subst (λ b. FindsKept (if b then Finds.Copies f else Finds.Has f)) (sym safe) tt)

    within : (b : Bool) → FindsKept (if b then Finds.Bus else source info.meta.back info.frame access cached)
    within true = tt
    within false = found

    allowed : (b : Bool) → FindsKept (if b then (if past then Finds.Bus else source info.meta.back info.frame access cached) else Finds.AccErr)
    allowed true = within past
    allowed false = tt

pub finds_lacking : (info : Option PageInfo) (access : Access) (past : Bool) (cached : Option ℕ) → frame_of info ≡ None
    → FindsLacking (settled info access past cached)
finds_lacking None access past cached h = tt
finds_lacking (Some info) access past cached h = allowed (is_allowed info.meta.prot access)
  where
    anew : (b : Bool) (g : ℕ) → FindsLacking (if b then Finds.Wants else Finds.Cached g)
    anew true g = tt
    anew false g = tt

    sourced : (q : Option ℕ) → FindsLacking (source info.meta.back None access q)
    sourced None = tt
    sourced (Some g) = anew _ g

    within : (b : Bool) → FindsLacking (if b then Finds.Bus else source info.meta.back info.frame access cached)
    within true = tt
    within false = subst (λ q. FindsLacking (source info.meta.back q access cached)) (sym h) (sourced cached)

    allowed : (b : Bool) → FindsLacking (if b then (if past then Finds.Bus else source info.meta.back info.frame access cached) else Finds.AccErr)
    allowed true = within past
    allowed false = tt

-- ---- the steps to the page, and from it

pub lacks_frame : (start : World) (p : ℕ) (w : World) → Lacking start p w.memory.cached (w.slots.info p) → frame_of (w.slots.info p) ≡ None
lacks_frame start p w l = ap frame_of l.1 ∙ l.0

-- a page of which the access wants a frame is mapped, and has none
pub wants : (start : World) (touch : Touch) (w : World) (s : Settled) → IsStill start touch w → found_at w touch ≡ s → (FindsKept s → ⊥) → s ≢ Finds.MapErr
    → Wanting start touch.page w
wants start touch w s (inr k) is never other =
    absurd (never (subst FindsKept is (finds_kept (w.slots.info touch.page) touch.access (is_past_end w.made.file (w.slots.info touch.page))
    (file_frame w.memory.cached (back_of (w.slots.info touch.page))) k.0 k.1 k.2)))
wants start touch w s (inl l) is never other = (l, by (w.slots.info touch.page) refl)
  where
    by : (q : Option PageInfo) → w.slots.info touch.page ≡ q → (info : PageInfo) × (w.slots.info touch.page ≡ Some info)
    by None e =
        absurd (other (sym is
        ∙ ap (λ q. settled q touch.access (is_past_end w.made.file q) (file_frame w.memory.cached (back_of q))) e))
    by (Some info) e = (info, e)

pub lacking_finds : (start : World) (touch : Touch) (w : World) (s : Settled) → Lacking start touch.page w.memory.cached (w.slots.info touch.page)
    → found_at w touch ≡ s → FindsLacking s
lacking_finds start touch w s l is =
    subst FindsLacking is (finds_lacking (w.slots.info touch.page) touch.access (is_past_end w.made.file (w.slots.info touch.page))
    (file_frame w.memory.cached (back_of (w.slots.info touch.page))) (lacks_frame start touch.page w l))

pub kept_finds : (touch : Touch) (w : World) (s : Settled) → IsKept touch w → found_at w touch ≡ s → FindsKept s
kept_finds touch w s k is =
    subst FindsKept is (finds_kept (w.slots.info touch.page) touch.access (is_past_end w.made.file (w.slots.info touch.page))
    (file_frame w.memory.cached (back_of (w.slots.info touch.page))) k.0 k.1 k.2)

-- a step that tells nothing
abbrev pub GoesOn : World → Touch → ℕ → World → World → Type 0
GoesOn start touch c w v = IsKnown start touch c v × (got start touch.page v ≡ got start touch.page w)

pub settles : (start : World) (touch : Touch) (c : ℕ) (w v : World) (o : Outcome) → IsStill start touch w → (s : Settled) → found_at w touch ≡ s
    → Becomes (after_finding c touch s w) o v → GoesOn start touch c w v
settles start touch c w v o still Finds.MapErr is g = arrives start touch c w _ v (Unlock _ _) g.1 tt refl
settles start touch c w v o still Finds.AccErr is g = arrives start touch c w _ v (Unlock _ _) g.1 tt refl
settles start touch c w v o still Finds.Bus is g = arrives start touch c w _ v (Unlock _ _) g.1 tt refl
settles start touch c w v o (inl l) (Finds.Has f) is g = absurd (lacking_finds start touch w (Finds.Has f) l is)
settles start touch c w v o (inr k) (Finds.Has f) is g = arrives start touch c w w v (Install touch) g.1 (refl, k) refl
settles start touch c w v o (inl l) (Finds.Copies f) is g = absurd (lacking_finds start touch w (Finds.Copies f) l is)
settles start touch c w v o (inr k) (Finds.Copies f) is g = absurd (kept_finds touch w (Finds.Copies f) k is)
settles start touch c w v o still (Finds.Cached f) is g =
    arrives start touch c w w v (Fill touch None) g.1 (refl, wants start touch w (Finds.Cached f) still is (λ k. k) (λ e. cc)) refl
settles start touch c w v o still Finds.Wants is g =
    arrives start touch c w w v (Want touch None) g.1 (refl, wants start touch w Finds.Wants still is (λ k. k) (λ e. cc)) refl

pub translates : (start : World) (touch : Touch) (c : ℕ) (w x v : World) → IsStill start touch w → (q : Option ℕ) → x.slots ≡ w.slots → x.memory ≡ w.memory
    → v ≡ after_translation c touch q x → GoesOn start touch c w v
translates start touch c w x v still None slots memory e =
    arrives start touch c w x v (Lock (To.Access touch) _) e (
      refl,
      subst (λ m. StillOf start touch m.cached (x.slots.info touch.page)) (sym memory)
          (subst (λ s. StillOf start touch w.memory.cached (s.info touch.page)) (sym slots) still),
    )
    (ap (λ (s : Slots). frame_of (s.info touch.page)) slots)
translates start touch c w x v still (Some f) slots memory e =
    arrives start touch c w _ v (Answer _) e tt (ap (λ (s : Slots). frame_of (s.info touch.page)) slots)

pub still_moved : (start : World) (touch : Touch) (w : World) (s : Slots) → s.info ≡ w.slots.info → IsStill start touch w
    → StillOf start touch w.memory.cached (s.info touch.page)
still_moved start touch w s e still = subst (λ i. StillOf start touch w.memory.cached (i touch.page)) (sym e) still

pub same_info : (s t : Slots) (p : ℕ) → t.info ≡ s.info → frame_of (t.info p) ≡ frame_of (s.info p)
same_info s t p e = ap (λ i. frame_of (i p)) e

pub locks : (start : World) (touch : Touch) (c cursor : ℕ) (w v : World) (o : Outcome) → IsStill start touch w
    → w.calls.phase c ≡ Lock (To.Access touch) cursor → LocksNext w c (To.Access touch) cursor o v → GoesOn start touch c w v
locks start touch c cursor w v o still at (Split, (s, st, g)) =
    let e : s.info ≡ w.slots.info = st.divides.2.info in (
      subst (IsKnown start touch c) (sym g.1)
          (subst (Known start touch c (record w { slots = s })) (sym at) (refl, still_moved start touch w s e still)),
      same_frame start touch.page w v (ap (λ (u : World). frame_of (u.slots.info touch.page)) g.1 ∙ same_info w.slots s touch.page e),
    )
locks start touch c cursor w v o still at (Locked b, (s, st, g)) = by (nat_le (goal_range (To.Access touch)).end b) g.1
  where
    e : s.info ≡ w.slots.info
    e = ap (λ (s : Slots). s.info) st.now

    by : (d : Bool) → v ≡ to c (if d then Settle touch else Lock (To.Access touch) b) (record w { slots = s }) → GoesOn start touch c w v
    by true h =
        arrives start touch c w (record w { slots = s }) v (Settle touch) h (refl, still_moved start touch w s e still) (same_info w.slots s touch.page e)
    by false h =
        arrives start touch c w (record w { slots = s }) v (Lock (To.Access touch) b) h (refl, still_moved start touch w s e still)
        (same_info w.slots s touch.page e)
locks start touch c cursor w v o still at (Held by, (s, st, g)) = (
  subst (IsKnown start touch c) (sym g.1) (subst (Known start touch c w) (sym at) (refl, still)),
  ap (got start touch.page) g.1,
)

pub frees : (start : World) (touch : Touch) (c : ℕ) (w x v : World) (q : Option PageRange) (reply : Reply) → v ≡ to c (let_go q reply) x
    → frame_of (x.slots.info touch.page) ≡ frame_of (w.slots.info touch.page) → GoesOn start touch c w v
frees start touch c w x v None reply e same = arrives start touch c w x v (Answer reply) e tt same
frees start touch c w x v (Some held) reply e same = arrives start touch c w x v (Unlock held reply) e tt same

pub releases : (start : World) (touch : Touch) (c : ℕ) (w v : World) (o : Outcome) → IsKept touch w → Releases w c touch o v → GoesOn start touch c w v
releases start touch c w v o k (b, (s, u, g)) =
    let e : s.info ≡ w.slots.info = ap (λ (s : Slots). s.info) u.now in
    arrives start touch c w (record w { slots = s }) v (Try touch) g.1 (refl, still_moved start touch w s e (inr k)) (same_info w.slots s touch.page e)

pub kept_core : (cached : ℕ → ℕ → Option ℕ) (c : ℕ) (info : Option PageInfo) (access : Access) → Kept cached info access
    → Kept cached (info_with_core c info) access
kept_core cached c None access (f, h, safe) = absurd cc
kept_core cached c (Some info) access k = k

pub installs : (start : World) (touch : Touch) (c : ℕ) (w v : World) (o : Outcome) → IsKept touch w → Becomes (after_install c touch w) o v
    → GoesOn start touch c w v
installs start touch c w v o k g =
    let new : Option PageInfo = info_with_core c (w.slots.info touch.page) in
    let e : put w.slots.info touch.page new touch.page ≡ new = put_same w.slots.info touch.page new in
    arrives start touch c w _ v (Release touch) g.1
    (refl, subst (λ i. Kept w.memory.cached i touch.access) (sym e) (kept_core w.memory.cached c (w.slots.info touch.page) touch.access k))
    (ap frame_of e ∙ same_with_core c (w.slots.info touch.page))

pub takes : (start : World) (touch : Touch) (c : ℕ) (w v : World) (o : Outcome) → Wanting start touch.page w → TakesFrame w c touch None o v
    → GoesOn start touch c w v
takes start touch c w v o wanting (inl (none, g)) = arrives start touch c w _ v (Unlock _ _) g.1 tt refl
takes start touch c w v o wanting (inr (f, least, g)) = arrives start touch c w _ v (Fill touch (Some f)) g.1 (refl, wanting) refl

-- ---- a page gets its frame

pub one : (a n b : Option FrameFill) → a ≡ None → n ≡ b → IsOne a n b
one None None b e h = sym h
one None (Some x) b e h = sym h
one (Some y) n b e h = absurd cc

pub none_gotten : (p : ℕ) (m : Option Origin) → gotten p m None ≡ None
none_gotten p None = refl
none_gotten p (Some from) = refl

pub equal : (f : ℕ) → f == f ≡ true
equal f = grind (arith, nat_tests)

pub other_than : (g f : ℕ) → g ≢ f → g == f ≡ false
other_than g f ne = by (g == f) refl
  where
    by : (b : Bool) → g == f ≡ b → b ≡ false
    by true e = absurd (ne (grind (arith, nat_tests)))
    by false e = refl

pub not_from : (cached : ℕ → ℕ → Option ℕ) (back : Back) (f : ℕ) → ((n k : ℕ) → cached n k ≢ Some f) → is_from (origin_of (source_of cached back)) f ≡ false
not_from cached back f fresh = by back
  where
    shows : (q : Option ℕ) (n k : ℕ) → q ≢ Some f → is_from (origin_of (shown_source q n k)) f ≡ false
    shows None n k ne = refl
    shows (Some g) n k ne = other_than g f (λ e. ne (ap Some e))

    by : (back : Back) → is_from (origin_of (source_of cached back)) f ≡ false
    by Anon = refl
    by (Shared n k) = shows (cached n k) n k (fresh n k)
    by (Private n k) = shows (cached n k) n k (fresh n k)

-- the page has this frame then
pub gets : (start : World) (touch : Touch) (c : ℕ) (w x v : World) (frame : Option ℕ) (info : PageInfo) (f : ℕ) → Wanting start touch.page w
    → w.slots.info touch.page ≡ Some info → v ≡ to c (Install touch) x
    → x.slots ≡ with_info w.slots touch.page (info_with_frame f (w.slots.info touch.page))
    → is_private_store info.meta.back touch.access && is_cached (file_frame x.memory.cached info.meta.back) f ≡ false
    → (fill_made v (fill_due w (due_in (Fill touch frame)))
    ≡ (if is_from (origin_of (source_of w.memory.cached (back_of (w.slots.info touch.page)))) f then None else Some (fill_of w touch.page f)))
    → Moves start touch c w (Fill touch frame) v
gets start touch c w x v frame info f wanting is e slots safe tells = (
  subst (IsKnown start touch c) (sym e)
      (subst (Known start touch c (to c (Install touch) x)) (sym (put_same x.calls.phase c (Install touch)))
      (refl, subst (λ i. Kept x.memory.cached i touch.access) (sym found) (f, refl, safe))),
  one (got start touch.page w) (fill_made v (fill_due w (due_in (Fill touch frame)))) (got start touch.page v) before (tells ∙ sym after),
)
  where
    found : x.slots.info touch.page ≡ Some (record info { frame = Some f })
    found = ap (λ (s : Slots). s.info touch.page) slots
        ∙ (put_same w.slots.info touch.page (info_with_frame f (w.slots.info touch.page)) ∙ ap (info_with_frame f) is)

    before : got start touch.page w ≡ None
    before = ap (gotten touch.page (missing_from start (start.slots.info touch.page))) (lacks_frame start touch.page w wanting.0)
        ∙ none_gotten touch.page (missing_from start (start.slots.info touch.page))

    from : Origin
    from = origin_of (source_of w.memory.cached (back_of (w.slots.info touch.page)))

    from_same : origin_of (source_of start.memory.cached (back_of (start.slots.info touch.page))) ≡ from
    from_same = sym (ap (λ i. origin_of (source_of w.memory.cached (back_of i))) wanting.0.1
        ∙ ap (λ ca. origin_of (source_of ca (back_of (start.slots.info touch.page)))) wanting.0.2)

    missing : missing_from start (start.slots.info touch.page) ≡ Some from
    missing = ap (missing_by start (back_of (start.slots.info touch.page))) wanting.0.0 ∙ ap Some from_same

    after : got start touch.page v ≡ (if is_from from f then None else Some (fill_of w touch.page f))
    after = ap (λ (u : World). got start touch.page u) e
        ∙ (ap (λ i. gotten touch.page (missing_from start (start.slots.info touch.page)) (frame_of i)) found
        ∙ ap (λ m. gotten touch.page m (Some f)) missing)

pub now_has : (touch : Touch) (c : ℕ) (w x v : World) (info : PageInfo) (f : ℕ) → w.slots.info touch.page ≡ Some info → v ≡ to c (Install touch) x
    → x.slots ≡ with_info w.slots touch.page (info_with_frame f (w.slots.info touch.page)) → frame_of (v.slots.info touch.page) ≡ Some f
now_has touch c w x v info f is e slots =
    ap (λ (u : World). frame_of (u.slots.info touch.page)) e
    ∙ (ap (λ (s : Slots). frame_of (s.info touch.page)) slots
    ∙ (ap frame_of (put_same w.slots.info touch.page (info_with_frame f (w.slots.info touch.page)))
    ∙ ap (λ i. frame_of (info_with_frame f i)) is))

-- the frame that the call had taken for it
pub own : (start : World) (touch : Touch) (c : ℕ) (w x v : World) (info : PageInfo) (f : ℕ) → Wanting start touch.page w
    → w.slots.info touch.page ≡ Some info → ((n k : ℕ) → w.memory.cached n k ≢ Some f) → v ≡ to c (Install touch) x
    → x.slots ≡ with_info w.slots touch.page (info_with_frame f (w.slots.info touch.page))
    → is_private_store info.meta.back touch.access && is_cached (file_frame x.memory.cached info.meta.back) f ≡ false
    → Moves start touch c w (Fill touch (Some f)) v
own start touch c w x v info f wanting is fresh e slots safe =
    gets start touch c w x v (Some f) info f wanting is e slots safe
    (ap (λ q. fill_if q (fill_of w touch.page f)) (now_has touch c w x v info f is e slots)
    ∙ (ap (λ b. if b then Some (fill_of w touch.page f) else None) (equal f)
    ∙ ap (λ b. if b then None else Some (fill_of w touch.page f)) (sym (not_from w.memory.cached (back_of (w.slots.info touch.page)) f fresh))))

-- the one that caches its file's page
pub shares : (start : World) (touch : Touch) (c : ℕ) (w x v : World) (frame : Option ℕ) (info : PageInfo) (g n k : ℕ) → Wanting start touch.page w
    → w.slots.info touch.page ≡ Some info → ((f n k : ℕ) → frame ≡ Some f → w.memory.cached n k ≢ Some f) → w.memory.cached n k ≡ Some g
    → source_of w.memory.cached info.meta.back ≡ shown_source (w.memory.cached n k) n k → v ≡ to c (Install touch) x
    → x.slots ≡ with_info w.slots touch.page (info_with_frame g (w.slots.info touch.page))
    → is_private_store info.meta.back touch.access && is_cached (file_frame x.memory.cached info.meta.back) g ≡ false
    → Moves start touch c w (Fill touch frame) v
shares start touch c w x v frame info g n k wanting is fresh at source e slots safe =
    gets start touch c w x v frame info g wanting is e slots safe (nothing frame fresh ∙ sym none)
  where
    from_is : origin_of (source_of w.memory.cached (back_of (w.slots.info touch.page))) ≡ origin_of (shown_source (Some g) n k)
    from_is = ap (λ i. origin_of (source_of w.memory.cached (back_of i))) is
        ∙ (ap origin_of source ∙ ap (λ q. origin_of (shown_source q n k)) at)

    none : (if is_from (origin_of (source_of w.memory.cached (back_of (w.slots.info touch.page)))) g then None else Some (fill_of w touch.page g)) ≡ None
    none = ap (λ from. if is_from from g then None else Some (fill_of w touch.page g)) from_is
        ∙ ap (λ b. if b then None else Some (fill_of w touch.page g)) (equal g)

    nothing : (frame : Option ℕ) → ((f n k : ℕ) → frame ≡ Some f → w.memory.cached n k ≢ Some f)
        → fill_made v (fill_due w (due_in (Fill touch frame))) ≡ None
    nothing None fresh = refl
    nothing (Some f) fresh =
        ap (λ q. fill_if q (fill_of w touch.page f)) (now_has touch c w x v info g is e slots)
        ∙ ap (λ b. if b then Some (fill_of w touch.page f) else None) (other_than g f (λ same. fresh f n k refl (at ∙ ap Some same)))

pub fills : (start : World) (touch : Touch) (c : ℕ) (w v : World) (o : Outcome) (frame : Option ℕ) → Wanting start touch.page w
    → ((f n k : ℕ) → frame ≡ Some f → w.memory.cached n k ≢ Some f) → FillsFrame w c touch frame o v → Moves start touch c w (Fill touch frame) v
fills start touch c w v o frame wanting fresh g =
    by frame fresh info.meta.back touch.access refl refl (subst (λ b. FillsBacked w c touch frame b touch.access o v) (ap back_of is) g)
  where
    info : PageInfo
    info = wanting.1.0

    is : w.slots.info touch.page ≡ Some info
    is = wanting.1.1

    safe : (back : Back) (access : Access) (cached : ℕ → ℕ → Option ℕ) (f : ℕ) → info.meta.back ≡ back → touch.access ≡ access
        → is_private_store back access && is_cached (file_frame cached back) f ≡ false
        → is_private_store info.meta.back touch.access && is_cached (file_frame cached info.meta.back) f ≡ false
    safe back access cached f b a h =
        subst (λ x. is_private_store x touch.access && is_cached (file_frame cached x) f ≡ false) (sym b)
        (subst (λ y. is_private_store back y && is_cached (file_frame cached back) f ≡ false) (sym a) h)

    uncached_own : (q : Option ℕ) (f : ℕ) → q ≢ Some f → is_cached q f ≡ false
    uncached_own None f ne = refl
    uncached_own (Some h) f ne = other_than h f (λ e. ne (ap Some e))

    from_file : (frame : Option ℕ) → ((f n k : ℕ) → frame ≡ Some f → w.memory.cached n k ≢ Some f) → (n k : ℕ) (back : Back) (access : Access)
        → info.meta.back ≡ back → touch.access ≡ access → source_of w.memory.cached back ≡ shown_source (w.memory.cached n k) n k
        → is_private_store back access ≡ false → (q : Option ℕ) → w.memory.cached n k ≡ q → FillsFromFile w c touch frame q o v
        → Moves start touch c w (Fill touch frame) v
    from_file frame fresh n k back access b a source plain (Some h) at (counts, tk, g) =
        shares start touch c w _ v frame info h n k wanting is fresh at (ap (source_of w.memory.cached) b ∙ source) g.1 refl
        (safe back access _ h b a (ap (λ y. y && is_cached (file_frame w.memory.cached back) h) plain))
    from_file (Some f) fresh n k back access b a source plain None at (counts, tk, g) =
        own start touch c w _ v info f wanting is (λ n k. fresh f n k refl) g.1 refl
        (safe back access _ f b a (ap (λ y. y && is_cached (file_frame (with_cached w.memory.cached (back_of (w.slots.info touch.page)) f) back) f) plain))
    from_file None fresh n k back access b a source plain None at h = absurd h

    by : (frame : Option ℕ) → ((f n k : ℕ) → frame ≡ Some f → w.memory.cached n k ≢ Some f) → (back : Back) (access : Access)
        → info.meta.back ≡ back → touch.access ≡ access → FillsBacked w c touch frame back access o v → Moves start touch c w (Fill touch frame) v
    by None fresh Anon access b a h = absurd h
    by (Some f) fresh Anon access b a (counts, tk, g) =
        own start touch c w _ v info f wanting is (λ n k. fresh f n k refl) g.1 refl (safe Anon access _ f b a refl)
    by frame fresh (Shared n k) access b a h =
        from_file frame fresh n k (Shared n k) access b a refl refl (w.memory.cached n k) refl h
    by None fresh (Private n k) Store b a h = absurd h
    by (Some f) fresh (Private n k) Store b a (counts, tk, g) =
        own start touch c w _ v info f wanting is (λ n k. fresh f n k refl) g.1 refl
        (safe (Private n k) Store _ f b a (uncached_own (w.memory.cached n k) f (fresh f n k refl)))
    by frame fresh (Private n k) Load b a h =
        from_file frame fresh n k (Private n k) Load b a refl refl (w.memory.cached n k) refl h
    by frame fresh (Private n k) Fetch b a h =
        from_file frame fresh n k (Private n k) Fetch b a refl refl (w.memory.cached n k) refl h
