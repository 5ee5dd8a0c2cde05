-- The steps of a load, a store or a fetch that read and write memory, take frames and fill pages
use Rattle.machine_model.proofs.Words.{◌≡◌, ℕ, Bool, true, false, refl, sym, ap, subst, Some, None, Option, ◌∙◌, ◌&&◌, ◌||◌, if◌then◌else◌, Back, PageInfo}
use Rattle.machine_model.proofs.Words.{PageRange, Reply, NoFrame, Access, put, frame_of, info_with_core, File, Plain, is_allowed, byte_reply, entry_reply}
use Rattle.machine_model.proofs.Words.{is_anonymous, put_all, Touch, with_info, Settled, Has, Copies, Cached, Wants, settled, source, is_cached}
use Rattle.machine_model.proofs.Words.{is_private_store, Event, Try, Settle, Want, Release, memory_after, reply_of, after_access, found_at, is_past_end}
use Rattle.machine_model.proofs.Words.{NoneFree, after_install, back_of, file_frame, shows_file, is_private, after_reply, translated_by, frame_reached}
use Rattle.machine_model.proofs.Words.{after_translating, with_hardware, World, Memory}
use Rattle.vm_base.specs.declared.rights.Access.TheVariants.{Load, Store}
use Rattle.vm_base.specs.Plain.{PageEntry}
use Rattle.vm_calls.specs.declared.fault.Settled.TheVariants.{MapErr as NoMapping, AccErr as Forbidden, Bus as PastEnd}
use Rattle.vm_calls.specs.Plainly.{touched_by}
use Rattle.machine_model.specs.Accesses.{bytes_after}
use Rattle.machine_model.specs.Counted.{IsCountedState}
use Rattle.machine_model.proofs.Moves.{IsCallOf, call_at}
use Rattle.machine_model.proofs.Shapes.{IsFault}
use Rattle.machine_model.proofs.CountsKept.{same_with_core}
use Rattle.machine_model.specs.Invariant.{ShowsPlain, Shows, ShowsPage, own_frame}
use Rattle.machine_model.proofs.SoundMoves.{IsShown, Leaves, shows_less, goes_on, tells, answers}
use Rattle.machine_model.proofs.Reaching.{ReachesFrame, reaches}
use Rattle.machine_model.proofs.SoundPages.{IsFramed, framed, framed_reply, unmapped_reply, forbidden_reply, past_reply, can_access}
use Rattle.machine_model.proofs.Stores.{stored_shows}
use Rattle.machine_model.proofs.Replies.{IsReply, due_so, touched_stands, no_frame_stands}

-- ---- Try

pub byte_is_reply : (access : Access) (byte : ℕ) → IsReply (byte_reply access byte)
byte_is_reply Load byte = tt
byte_is_reply _ byte = tt

access_shows : (w : World) (t : Plain) (touch : Touch) (f byte : ℕ) (access : Access) (k : IsFramed w t touch.page f) → ShowsPlain w t → IsCountedState w
    → (access ≡ Store → (is_private k.info.meta.back && shows_file w.memory.cached k.info.meta.back f) ≡ false)
    → Shows w.made.file w.slots.info (record w.memory { bytes = bytes_after access f touch.offset touch.byte w.memory.bytes })
    (touched_by t touch (byte_reply access byte))
access_shows w t touch f byte Store k g n writes = stored_shows w t touch.page f touch.offset touch.byte k g n (writes refl)
access_shows w t touch f byte _ k g n writes = g

pub access_made : (w : World) (event : Event) (c : ℕ) (touch : Touch) (f : ℕ) → w.calls.phase c ≡ Try touch
    → frame_reached (translated_by w.hardware c touch) ≡ Some f → (well : IsShown w)
    → Leaves w well.plain event (after_access c touch f (with_hardware (after_translating w.hardware c touch) w))
access_made w event c touch f e h well =
    let reply : Reply = reply_of touch f w.memory in
    let r : ReachesFrame w.memory.cached (w.slots.info touch.page) touch.access f =
    reaches w.memory.cached w.slots.info w.calls.phase w.hardware c touch f well.coherent h in
    let i : IsFramed w well.plain touch.page f = framed w well.plain touch.page f well.good (ap frame_of r.mapped ∙ r.frame) in
    let same : r.page ≡ i.info = let a = r.mapped in let b = i.at_slot in cc in
    let allowed : is_allowed i.info.meta.prot touch.access ≡ true = subst (λ (x : PageInfo). is_allowed x.meta.prot touch.access ≡ true) same r.allowed in
    let writes = subst (λ (x : PageInfo). touch.access ≡ Store → (is_private x.meta.back && shows_file w.memory.cached x.meta.back f) ≡ false) same r.writes in
    let is_reply : IsReply reply = byte_is_reply touch.access (w.memory.bytes f touch.offset) in
    tells w event c None reply w.slots (after_translating w.hardware c touch) (memory_after touch f w.memory) well (touched_by well.plain touch reply)
    k.asked.request k.asked.number
    (touched_stands w well.plain (touched_by well.plain touch reply) c k.asked.request touch reply is_reply k.asked.passed
    (framed_reply w well.plain touch.page f touch.access touch.offset i allowed writes, refl))
    (due_so event w.memory.is_free w.calls.events (w.calls.number c) c reply is_reply)
    (access_shows w well.plain touch f (w.memory.bytes f touch.offset) touch.access i well.good well.counted writes)
  where
    k : IsCallOf w c (Try touch)
    k = call_at w c (Try touch) e well.order

-- ---- Settle

-- a page with bytes isn't at fault
abbrev Faultless : Settled → Type 0
Faultless NoMapping = ⊥
Faultless Forbidden = ⊥
Faultless PastEnd = ⊥
Faultless _ = Unit {0}

faultless : (back : Back) (frame : Option ℕ) (access : Access) (shown : Option ℕ) → Faultless (source back frame access shown)
faultless back (Some f) access shown = go (is_private_store back access && is_cached shown f)
  where
    go : (b : Bool) → Faultless (if b then Copies f else Has f)
    go true = tt
    go false = tt
faultless back None access None = tt
faultless back None access (Some g) = go (is_private_store back access || is_anonymous back)
  where
    go : (b : Bool) → Faultless (if b then Wants else Cached g)
    go true = tt
    go false = tt

no_fault : (s : Settled) (reply : Reply) → Faultless s → IsFault s reply → ⊥
no_fault NoMapping reply n f = n
no_fault Forbidden reply n f = n
no_fault PastEnd reply n f = n
no_fault _ reply n f = f

-- the fault is the plain page map's answer
fault_reply : (w : World) (t : Plain) (touch : Touch) (reply : Reply) → ShowsPlain w t → IsFault (found_at w touch) reply
    → IsReply reply × (entry_reply t.file (t.entry touch.page) touch.access touch.offset ≡ Some reply) × (t ≡ touched_by t touch reply)
fault_reply w t touch reply g h = go (w.slots.info touch.page) refl h
  where
    Told : Reply → Type 0
    Told y = IsReply y × (entry_reply t.file (t.entry touch.page) touch.access touch.offset ≡ Some y) × (t ≡ touched_by t touch y)

    has : (info : PageInfo) → w.slots.info touch.page ≡ Some info → (a b : Bool) → is_allowed info.meta.prot touch.access ≡ a
        → is_past_end w.made.file (Some info) ≡ b
        → IsFault
        (if a then (if b then PastEnd else source info.meta.back info.frame touch.access (file_frame w.memory.cached info.meta.back)) else Forbidden)
        reply
        → Told reply
    has info e true true i j f = subst Told (sym f) (tt, past_reply w t touch.page touch.access touch.offset info g e i j, refl)
    has info e true false i j f =
        absurd (no_fault _ reply (faultless info.meta.back info.frame touch.access (file_frame w.memory.cached info.meta.back)) f)
    has info e false b i j f = subst Told (sym f) (tt, forbidden_reply w t touch.page touch.access touch.offset info g e i, refl)

    go : (o : Option PageInfo) → w.slots.info touch.page ≡ o
        → IsFault (settled o touch.access (is_past_end w.made.file o) (file_frame w.memory.cached (back_of o))) reply → Told reply
    go None e f = subst Told (sym f) (tt, unmapped_reply w t touch.page touch.access touch.offset g e, refl)
    go (Some info) e f = has info e (is_allowed info.meta.prot touch.access) (is_past_end w.made.file (Some info)) refl refl f

pub fault_told : (w : World) (event : Event) (c : ℕ) (touch : Touch) (held : Option PageRange) (reply : Reply)
    → w.calls.phase c ≡ Settle touch → IsFault (found_at w touch) reply → (well : IsShown w)
    → Leaves w well.plain event (after_reply c held reply w)
fault_told w event c touch held reply e h f =
    let z = fault_reply w f.plain touch reply f.good h in
    answers w event c held reply f k.asked.request k.asked.number
    (touched_stands w f.plain f.plain c k.asked.request touch reply z.0 k.asked.passed (z.1, z.2))
    (due_so event w.memory.is_free w.calls.events (w.calls.number c) c reply z.0)
  where
    k : IsCallOf w c (Settle touch)
    k = call_at w c (Settle touch) e f.order

-- ---- Want

pub no_frame_told : (w : World) (event : Event) (c : ℕ) (touch : Touch) (old : Option ℕ) (held : Option PageRange) → w.calls.phase c ≡ Want touch old
    → NoneFree w.memory.is_free → (well : IsShown w)
    → Leaves w well.plain event (after_reply c held NoFrame w)
no_frame_told w event c touch old held e none f =
    answers w event c held NoFrame f k.asked.request k.asked.number
    (no_frame_stands w f.plain c k.asked.request touch k.asked.passed (can_access w f.plain touch.page touch.access old f.good k.ready.0)) none
  where
    k : IsCallOf w c (Want touch old)
    k = call_at w c (Want touch old) e f.order

-- ---- Install

recorded_own : (cached : ℕ → ℕ → Option ℕ) (c : ℕ) (o : Option PageInfo) → own_frame cached (info_with_core c o) ≡ own_frame cached o
recorded_own cached c None = refl
recorded_own cached c (Some info) = refl

recorded_whole : (file : ℕ → Option File) (c : ℕ) (o : Option PageInfo) → is_past_end file (info_with_core c o) ≡ is_past_end file o
recorded_whole file c None = refl
recorded_whole file c (Some info) = refl

recorded_shown : (m : Memory) (c : ℕ) (o : Option PageInfo) (z : Option PageEntry) → ShowsPage m o z → ShowsPage m (info_with_core c o) z
recorded_shown m c None None s = s
recorded_shown m c _ _ s = s

pub core_installed : (w : World) (event : Event) (c : ℕ) (touch : Touch) → (well : IsShown w) → Leaves w well.plain event (after_install c touch w)
core_installed w event c touch f =
    let new : Option PageInfo = info_with_core c (w.slots.info touch.page) in
    let cached : ℕ → ℕ → Option ℕ = w.memory.cached in
    goes_on w event c (Release touch) (with_info w.slots touch.page new) (after_install c touch w).hardware w.memory f
    (shows_less w f.plain f.plain (put w.slots.info touch.page new) w.memory.bytes f.good
    (put_all (λ p o. ShowsPage w.memory o (f.plain.entry p)) w.slots.info touch.page new
    (recorded_shown w.memory c (w.slots.info touch.page) (f.plain.entry touch.page) (f.good.pages touch.page)) (λ p ne. f.good.pages p))
    f.good.files
    (λ p x. put_all (λ p o. frame_of o ≡ Some x → frame_of (w.slots.info p) ≡ Some x) w.slots.info touch.page new
    (λ h. sym (same_with_core c (w.slots.info touch.page)) ∙ h) (λ p ne h. h) p)
    (λ p x. put_all (λ p o. own_frame cached o ≡ Some x → own_frame cached (w.slots.info p) ≡ Some x) w.slots.info touch.page new
    (λ h. sym (recorded_own cached c (w.slots.info touch.page)) ∙ h) (λ p ne h. h) p)
    (λ p x. put_all (λ p o. frame_of o ≡ Some x → is_past_end w.made.file o ≡ false) w.slots.info touch.page new
    (λ h. recorded_whole w.made.file c (w.slots.info touch.page) ∙ f.good.whole touch.page x (sym (same_with_core c (w.slots.info touch.page)) ∙ h))
    (λ p ne h. f.good.whole p x h) p))
