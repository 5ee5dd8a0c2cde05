-- The turn of a request is the plain map's
use Rattle.std.proofs.Common.{◌≡◌, ℕ, ◌*◌, not, Bool, true, false, cond, Option, Some, None, Result, Ok, IfSome, is_some, if◌then◌else◌, refl, sym}
use Rattle.std.proofs.Common.{subst, ◌∙◌, ap}
use Rattle.std.proofs.Math.Path.{fun_ext}
use Rattle.vm_base.specs.declared.info.Back.{Back}
use Rattle.vm_base.specs.declared.info.Back.TheVariants.{Anon, Shared, Private}
use Rattle.vm_base.specs.declared.info.Meta.{Meta}
use Rattle.vm_base.specs.declared.page.PageRange.{PageRange}
use Rattle.vm_base.specs.declared.rights.Access.{Access}
use Rattle.vm_base.specs.declared.rights.Access.TheVariants as By
use Rattle.vm_base.specs.declared.rights.Mode.{Mode}
use Rattle.vm_base.specs.declared.rights.Prot.{Prot}
use Rattle.vm_base.specs.declared.replies.Reply.{Reply}
use Rattle.vm_base.specs.declared.replies.Reply.TheVariants.{Mapped, Done, Segv}
use Rattle.vm_base.specs.declared.replies.SegvCode.TheVariants.{MapErr, AccErr}
use Rattle.vm_base.specs.declared.requests.Request.{Request}
use Rattle.vm_base.specs.declared.requests.Request.TheVariants.{Mmap, Munmap, Mprotect, Load, Store, Fetch}
use Rattle.vm_base.specs.Answers.{is_ready}
use Rattle.vm_base.specs.Apply.{Applies, AppliesAfter, MapsAt, Performs, access_reply, bytes_reply, detached, entry_reply, meta_of, needs_copy, stored_entry}
use Rattle.vm_base.specs.Copies.{if_copied, or_else, page_due, with_copy}
use Rattle.vm_base.specs.Functions.{put}
use Rattle.vm_base.specs.Pages.{is_page, offset_of, page_of, pages_of}
use Rattle.vm_base.specs.Places.{IsPlace}
use Rattle.vm_base.specs.Plain.{Bytes, PageEntry, File, Plain, bytes_of, mode_of}
use Rattle.vm_base.specs.Refusals.{refusal}
use Rattle.vm_base.specs.Requests.{is_placed}
use Rattle.vm_base.specs.Rights.{is_allowed}
use Rattle.vm_base.proofs.Ready.{fetch_ready, load_ready}
use Rattle.slot_lock.specs.declared.plan.Change.{Change}
use Rattle.slot_lock.specs.declared.plan.Change.TheVariants.{Put, Clear, Protect}
use Rattle.slot_lock.specs.declared.plan.Place.{Place}
use Rattle.slot_lock.specs.declared.plan.Plan.{Plan}
use Rattle.slot_lock.specs.declared.plan.Plan.TheVariants as PlanOf
use Rattle.slot_lock.specs.declared.plan.Touch.{Touch}
use Rattle.slot_lock.specs.Plan.{IsSoundChange}
use Rattle.vm_calls.specs.Checks.{HasModes, checked, place_of, plan_of, touch_of, touched}
use Rattle.vm_calls.proofs.Accesses.{access_answered}
use Rattle.vm_calls.proofs.Passed.{passed, touch-of}
use Rattle.litmus_merges.specs.OneTurn.{TurnsTo}
use Rattle.litmus_merges.specs.declared.change.MapChange.TheVariants as StepOf
use Rattle.litmus_merges.specs.declared.seen.Seen.{Seen}
use Rattle.litmus_merges.specs.declared.turning.Turn.{Turn}
use Rattle.litmus_merges.specs.Seen.{byte_at, shown, shown_byte}
use Rattle.litmus_merges.specs.Steps.{IsSoundStep, after, after_any, entry_with}
use Rattle.litmus_merges.specs.Turns.{Changes, IsChangeTurn, IsPlanTurn, IsTouchTurn, answer_alone, byte_turn, left_by_touch, page_turn, store_turn, touch_turn}

-- ---- accesses

-- the turn answers so, and leaves what such an access does
abbrev Fits : Plain → Touch → Turn → Option Reply → Type 0
Fits t touch turn y = (turn.reply ≡ y) × (after_any t turn.step ≡ left_by_touch t touch turn.reply) × IfSome turn.step IsSoundStep

store_fits : (t : Plain) (touch : Touch) (b : Back) (prot : Prot) (w : Option Bytes) (bytes : Bytes)
    → t.entry touch.page ≡ Some (record { back = b; prot = prot; own = w }) → bytes_of t.file b w ≡ Some bytes
    → Fits t touch (store_turn b (byte_at w touch.offset) touch) (bytes_reply (needs_copy By.Store b w) (Some bytes) By.Store touch.offset)
store_fits t touch b prot w bytes e f = go b w e f
  where
    with_own : Option PageEntry → Plain
    with_own x = record t { entry = put t.entry touch.page (entry_with x touch.offset touch.byte) }

    with_store : Option PageEntry → Plain
    with_store x = stored_entry t touch.page x touch.offset touch.byte

    own : (b : Back) (x : Bytes) → t.entry touch.page ≡ Some (record { back = b; prot = prot; own = Some x })
        → after t (StepOf.Own touch.page touch.offset touch.byte) ≡ stored_entry t touch.page (t.entry touch.page) touch.offset touch.byte
    own b x e = ap with_own e ∙ sym (ap with_store e)

    go : (b : Back) (w : Option Bytes) → t.entry touch.page ≡ Some (record { back = b; prot = prot; own = w }) → bytes_of t.file b w ≡ Some bytes
        → Fits t touch (store_turn b (byte_at w touch.offset) touch) (bytes_reply (needs_copy By.Store b w) (Some bytes) By.Store touch.offset)
    go Anon (Some x) e f = (refl, own Anon x e, tt)
    go (Shared file page) (Some x) e f = (refl, own (Shared file page) x e, tt)
    go (Private file page) (Some x) e f = (refl, own (Private file page) x e, tt)
    go Anon None e f = absurd cc
    go (Shared file page) None e f = (refl, sym (ap with_store e), tt)
    go (Private file page) None e f = (refl, refl, tt)

page_fits : (t : Plain) (touch : Touch) (a : Access) (b : Back) (prot : Prot) (w : Option Bytes) (r : Option Bytes) → touch.access ≡ a
    → t.entry touch.page ≡ Some (record { back = b; prot = prot; own = w }) → bytes_of t.file b w ≡ r
    → Fits t touch (page_turn (record { back = b; prot = prot; own = byte_at w touch.offset }) (byte_at r touch.offset) touch)
    (bytes_reply (needs_copy a b w) r a touch.offset)
page_fits t touch a b prot w None is e f = (refl, refl, tt)
page_fits t touch a b prot w (Some bytes) is e f =
    subst (λ (x : Access). Fits t touch (byte_turn x (record { back = b; prot = prot; own = byte_at w touch.offset }) (bytes touch.offset) touch)
    (bytes_reply (needs_copy a b w) (Some bytes) a touch.offset)) (sym is) (go a)
  where
    go : (a : Access) → Fits t touch (byte_turn a (record { back = b; prot = prot; own = byte_at w touch.offset }) (bytes touch.offset) touch)
        (bytes_reply (needs_copy a b w) (Some bytes) a touch.offset)
    go By.Load = (refl, refl, tt)
    go By.Fetch = (refl, refl, tt)
    go By.Store = store_fits t touch b prot w bytes e f

entry_fits : (t : Plain) (touch : Touch) (o : Option PageEntry) → t.entry touch.page ≡ o
    → Fits t touch (touch_turn (shown touch.offset o) (shown_byte t.file o touch.offset) touch) (entry_reply t.file o touch.access touch.offset)
entry_fits t touch None e = (refl, refl, tt)
entry_fits t touch (Some en) e = go (is_allowed en.prot touch.access)
  where
    seen : Seen
    seen = record { back = en.back; prot = en.prot; own = byte_at en.own touch.offset }

    go : (x : Bool) → Fits t touch (cond x (page_turn seen (byte_at (bytes_of t.file en.back en.own) touch.offset) touch) (answer_alone (Segv AccErr)))
        (cond x (bytes_reply (needs_copy touch.access en.back en.own) (bytes_of t.file en.back en.own) touch.access touch.offset) (Some (Segv AccErr)))
    go true = page_fits t touch touch.access en.back en.prot en.own (bytes_of t.file en.back en.own) refl e refl
    go false = (refl, refl, tt)

pub touch_fits : (t : Plain) (touch : Touch) (seen : Option Seen) (byte : Option ℕ) (turn : Turn) → seen ≡ shown touch.offset (t.entry touch.page)
    → byte ≡ shown_byte t.file (t.entry touch.page) touch.offset → turn ≡ touch_turn seen byte touch → IsTouchTurn t touch turn
touch_fits t touch seen byte turn e f is =
    let z = entry_fits t touch (t.entry touch.page) refl in
    let same : touch_turn (shown touch.offset (t.entry touch.page)) (shown_byte t.file (t.entry touch.page) touch.offset) touch ≡ turn =
    sym (is ∙ (ap (λ (s : Option Seen). touch_turn s byte touch) e
    ∙ ap (λ (x : Option ℕ). touch_turn (shown touch.offset (t.entry touch.page)) x touch) f)) in
    subst (IsTouchTurn t touch) same (record { reply = z.0; map = z.1; sound = z.2 })

-- a copy is made whether one is due or not
copy_is : (t : Plain) (page : ℕ) → with_copy t (Some page) ≡ with_copy t (if_copied (detached t page) page)
copy_is t page = go (detached t page) refl
  where
    go : (d : Option Plain) → detached t page ≡ d → with_copy t (Some page) ≡ with_copy t (if_copied d page)
    go None e = ap (or_else t) e
    go (Some x) e = refl

placed_no_touch : (b : Bool) (x : Change) (place : Place) (touch : Touch)
    → ◌≡◌ {A = Result Plan Reply} (if b then Ok (PlanOf.Change x) else Ok (PlanOf.Place place)) (Ok (PlanOf.Touch touch)) → ⊥
placed_no_touch true x place touch e = absurd cc
placed_no_touch false x place touch e = absurd cc

-- the access of this address is the one that the plan has
touch_at : (t : Plain) (addr byte : ℕ) (a : Access) (touch : Touch) → touched addr a byte ≡ Ok (PlanOf.Touch touch)
    → (page_of addr ≡ touch.page) × (access_reply t addr a ≡ entry_reply t.file (t.entry touch.page) touch.access touch.offset)
touch_at t addr byte a touch e =
    let z = touch-of addr byte a (PlanOf.Touch touch) e in
    let valid : is_page (page_of addr) ≡ true = z.0 in
    let plans : PlanOf.Touch (touch_of addr a byte) ≡ PlanOf.Touch touch = z.1 in
    let same : touch_of addr a byte ≡ touch = cc in (
      ap (λ (x : Touch). x.page) same,
      ap (λ (v : Bool). cond v (entry_reply t.file (t.entry (page_of addr)) a (offset_of addr)) (Some (Segv MapErr))) valid
          ∙ ap (λ (x : Touch). entry_reply t.file (t.entry x.page) x.access x.offset) same,
    )

some_false : (o : Option Reply) → is_some o ≡ true → o ≡ None → ⊥
some_false None e f = absurd cc
some_false (Some y) e f = absurd cc

-- an access that has no reply yet is a store that waits for a copy
waits : (t : Plain) (core : ℕ) (request : Request) (touch : Touch) → plan_of core request ≡ Ok (PlanOf.Touch touch)
    → entry_reply t.file (t.entry touch.page) touch.access touch.offset ≡ None
    → (is_ready t request ≡ false) × (with_copy t (Some touch.page) ≡ with_copy t (page_due t request))
waits t core (Mmap addr len prot flags file off) touch is none = absurd (placed_no_touch flags.fixed (Put (pages_of addr len) (meta_of prot flags file off))
    (place_of core addr len (meta_of prot flags file off)) touch is)
waits t core (Munmap addr len) touch is none = absurd cc
waits t core (Mprotect addr len prot) touch is none = absurd cc
waits t core (Load addr) touch is none =
    absurd (some_false (access_reply t addr By.Load) (load_ready t addr) ((touch_at t addr 0 By.Load touch is).1 ∙ none))
waits t core (Fetch addr) touch is none =
    absurd (some_false (access_reply t addr By.Fetch) (fetch_ready t addr) ((touch_at t addr 0 By.Fetch touch is).1 ∙ none))
waits t core (Store addr byte) touch is none =
    let z = touch_at t addr byte By.Store touch is in (
      ap is_some (z.1 ∙ none),
      ap (λ (page : ℕ). with_copy t (Some page)) (sym z.0) ∙ copy_is t (page_of addr),
    )

pub touch_turns : (t : Plain) (modes : ℕ → Option Mode) (core : ℕ) (request : Request) (touch : Touch) (turn : Turn)
    → checked modes core request ≡ Ok (PlanOf.Touch touch) → IsTouchTurn t touch turn → TurnsTo t core request turn.reply (after_any t turn.step)
touch_turns t modes core request touch turn is h = go turn.reply (after_any t turn.step) h.reply h.map
  where
    go : (y : Option Reply) (u : Plain) → y ≡ entry_reply t.file (t.entry touch.page) touch.access touch.offset → u ≡ left_by_touch t touch y
        → TurnsTo t core request y u
    go (Some y) u e f = (access_answered t modes core request touch is y u).1 (sym e, f)
    go None u e f =
        let z = waits t core request touch (passed (refusal modes request) (plan_of core request) (PlanOf.Touch touch) is).1 (sym e) in
        (z.0, f ∙ z.1)

-- ---- changes

touched_no_change : (addr byte : ℕ) (a : Access) (change : Change) → touched addr a byte ≡ Ok (PlanOf.Change change) → ⊥
touched_no_change addr byte a change e =
    let z : PlanOf.Touch (touch_of addr a byte) ≡ PlanOf.Change change = (touch-of addr byte a (PlanOf.Change change) e).1 in absurd cc

mapping : (t : Plain) (core addr len : ℕ) (meta : Meta) (change : Change) (y : Reply) (u : Plain) (b : Bool)
    → ◌≡◌ {A = Result Plan Reply} (if b then Ok (PlanOf.Change (Put (pages_of addr len) meta)) else Ok (PlanOf.Place (place_of core addr len meta)))
    (Ok (PlanOf.Change change))
    → Changes t change y u → MapsAt IsPlace b t (record { core = core; addr = addr; len = len; meta = meta }) y u
mapping t core addr len meta change y u true e h =
    let same : change ≡ Put (pages_of addr len) meta = cc in
    subst (λ (c : Change). Changes t c y u) same h
mapping t core addr len meta change y u false e h = absurd cc

performs : (t : Plain) (core : ℕ) (request : Request) (change : Change) (y : Reply) (u : Plain) → plan_of core request ≡ Ok (PlanOf.Change change)
    → Changes t change y u → Performs IsPlace t core request y u
performs t core (Mmap addr len prot flags file off) change y u e h = mapping t core addr len (meta_of prot flags file off) change y u flags.fixed e h
performs t core (Munmap addr len) change y u e h =
    let same : change ≡ Clear (pages_of addr len) = cc in subst (λ (c : Change). Changes t c y u) same h
performs t core (Mprotect addr len prot) change y u e h =
    let same : change ≡ Protect (pages_of addr len) prot = cc in subst (λ (c : Change). Changes t c y u) same h
performs t core (Load addr) change y u e h = absurd (touched_no_change addr 0 By.Load change e)
performs t core (Store addr byte) change y u e h = absurd (touched_no_change addr byte By.Store change e)
performs t core (Fetch addr) change y u e h = absurd (touched_no_change addr 0 By.Fetch change e)

pub change_turns : (t : Plain) (files : ℕ → Option File) (core : ℕ) (request : Request) (change : Change) (turn : Turn) → HasModes t files
    → checked (λ n. mode_of (files n)) core request ≡ Ok (PlanOf.Change change) → IsChangeTurn t change turn
    → TurnsTo t core request turn.reply (after_any t turn.step)
change_turns t files core request change turn modes is h =
    let z = passed (refusal (λ n. mode_of (files n)) request) (plan_of core request) (PlanOf.Change change) is in
    let same : (λ n. mode_of (t.file n)) ≡ (λ n. mode_of (files n)) = fun_ext modes in
    let ok : refusal (λ n. mode_of (t.file n)) request ≡ None = ap (λ (m : ℕ → Option Mode). refusal m request) same ∙ z.0 in
    let done : Applies IsPlace t core request h.reply (after_any t turn.step) =
    subst (λ (o : Option Reply). AppliesAfter IsPlace o t core request h.reply (after_any t turn.step)) (sym ok)
    (performs t core request change h.reply (after_any t turn.step) z.1 h.changes) in
    subst (λ (o : Option Reply). TurnsTo t core request o (after_any t turn.step)) (sym h.is) done

-- a refused change
pub change_refused : (t : Plain) (change : Change) (y : Reply) (turn : Turn) → turn ≡ answer_alone y → Changes t change y t → IsChangeTurn t change turn
change_refused t change y turn is h = subst (IsChangeTurn t change) (sym is) (record { reply = y; is = refl; changes = h; sound = tt })

-- ---- what the check lets through

touched_no_place : (addr byte : ℕ) (a : Access) (place : Place) → touched addr a byte ≡ Ok (PlanOf.Place place) → ⊥
touched_no_place addr byte a place e =
    let z : PlanOf.Touch (touch_of addr a byte) ≡ PlanOf.Place place = (touch-of addr byte a (PlanOf.Place place) e).1 in absurd cc

-- a request that names its place isn't placed
pub named_no_place : (modes : ℕ → Option Mode) (core : ℕ) (request : Request) (place : Place) → is_placed request ≡ false
    → checked modes core request ≡ Ok (PlanOf.Place place) → ⊥
named_no_place modes core request place named is = go request named (passed (refusal modes request) (plan_of core request) (PlanOf.Place place) is).1
  where
    fixed : (b : Bool) (x : Change) (p : Place) → not b ≡ false
        → ◌≡◌ {A = Result Plan Reply} (if b then Ok (PlanOf.Change x) else Ok (PlanOf.Place p)) (Ok (PlanOf.Place place)) → ⊥
    fixed true x p n e = absurd cc
    fixed false x p n e = absurd cc

    go : (request : Request) → is_placed request ≡ false → plan_of core request ≡ Ok (PlanOf.Place place) → ⊥
    go (Mmap addr len prot flags file off) n e = fixed flags.fixed (Put (pages_of addr len) (meta_of prot flags file off))
        (place_of core addr len (meta_of prot flags file off)) n e
    go (Munmap addr len) n e = absurd cc
    go (Mprotect addr len prot) n e = absurd cc
    go (Load addr) n e = touched_no_place addr 0 By.Load place e
    go (Store addr byte) n e = touched_no_place addr byte By.Store place e
    go (Fetch addr) n e = touched_no_place addr 0 By.Fetch place e

-- ---- turns of plans

pub refused_turns : (t : Plain) (core : ℕ) (request : Request) (y : Reply) (turn : Turn) → turn ≡ answer_alone y → Applies IsPlace t core request y t
    → TurnsTo t core request turn.reply (after_any t turn.step)
refused_turns t core request y turn is h = subst (λ (x : Turn). TurnsTo t core request x.reply (after_any t x.step)) (sym is) h

pub refused_sound : (y : Reply) (turn : Turn) → turn ≡ answer_alone y → IfSome turn.step IsSoundStep
refused_sound y turn is = subst (λ (x : Turn). IfSome x.step IsSoundStep) (sym is) tt

pub plan_turns : (t : Plain) (files : ℕ → Option File) (core : ℕ) (request : Request) (plan : Plan) (turn : Turn) → HasModes t files
    → checked (λ n. mode_of (files n)) core request ≡ Ok plan → IsPlanTurn t plan turn → TurnsTo t core request turn.reply (after_any t turn.step)
plan_turns t files core request (PlanOf.Touch touch) turn modes is h = touch_turns t (λ n. mode_of (files n)) core request touch turn is h
plan_turns t files core request (PlanOf.Change change) turn modes is h = change_turns t files core request change turn modes is h
plan_turns t files core request (PlanOf.Place place) turn modes is h = absurd h

pub plan_sound : (t : Plain) (plan : Plan) (turn : Turn) → IsPlanTurn t plan turn → IfSome turn.step IsSoundStep
plan_sound t (PlanOf.Touch touch) turn h = h.sound
plan_sound t (PlanOf.Change change) turn h = h.sound
plan_sound t (PlanOf.Place place) turn h = absurd h

-- a change that is made
abbrev made : Change → Reply → Turn
made change y = record { reply = Some y; step = Some (StepOf.Change change) }

pub put_made : (t : Plain) (change : Change) (range : PageRange) (meta : Meta) → change ≡ Put range meta → IsSoundChange change
    → IsChangeTurn t change (made change (Mapped (range.first * 4096)))
put_made t change range meta is sound = subst (λ (c : Change). IsSoundChange c → IsChangeTurn t c (made c (Mapped (range.first * 4096)))) (sym is)
    (λ s. record { reply = Mapped (range.first * 4096); is = refl; changes = (refl, refl); sound = s }) sound

pub clear_made : (t : Plain) (change : Change) (range : PageRange) → change ≡ Clear range → IsSoundChange change → IsChangeTurn t change (made change Done)
clear_made t change range is sound = subst (λ (c : Change). IsSoundChange c → IsChangeTurn t c (made c Done)) (sym is)
    (λ s. record { reply = Done; is = refl; changes = (refl, refl); sound = s }) sound
