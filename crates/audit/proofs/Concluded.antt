-- What the judge finds, by what was found in the slots and the bytes that are kept
use Rattle.slot_lock.proofs.Words.{◌≡◌, ◌≢◌, ℕ, ◌<◌, Bool, true, false, List, Option, Some, None, Result, Ok, Err, is_some, refl, sym, ◌∙◌, ap, subst, OnOk}
use Rattle.slot_lock.proofs.Words.{IfSome, if◌then◌else◌, PageInfo, PageRange, Mode, Request, Reply, Mapped, Done, Byte, Refused, Segv, Bus, NoFrame}
use Rattle.slot_lock.proofs.Words.{NoMemory, MapErr, pages_from, Access, frame_of, Bytes, Plain, bytes_of, is_mapped, mode_of, entry_reply, Answers, Applies}
use Rattle.std.specs.Prelude.{IfOk, OnErr}
use Rattle.vm_base.specs.declared.replies.Errno.{Errno}
use Rattle.vm_base.specs.declared.replies.SegvCode.TheVariants.{AccErr}
use Rattle.vm_base.specs.Rights.{is_allowed}
use Rattle.vm_base.specs.Apply.{bytes_reply, needs_copy}
use Rattle.slot_lock.specs.declared.plan.Change.{Change}
use Rattle.slot_lock.specs.declared.plan.Change.TheVariants.{Put}
use Rattle.slot_lock.specs.declared.plan.Goal.TheVariants as To
use Rattle.slot_lock.specs.declared.plan.Place.{Place}
use Rattle.slot_lock.specs.declared.plan.Touch.{Touch}
use Rattle.slot_lock.specs.declared.plan.Plan.{Plan}
use Rattle.slot_lock.specs.declared.plan.Plan.TheVariants as PlanOf
use Rattle.slot_lock.specs.Plan.{range_of}
use Rattle.slot_lock.specs.Changes.{changed}
use Rattle.slot_lock.specs.Slots.{Slots}
use Rattle.frames.specs.Parts.{FrameParts, frame_bytes}
use Rattle.frames.specs.Files.{FileParts, cached_in, files_of}
use Rattle.vm_calls.specs.declared.decision.Decision.TheVariants.{Refuse, Act}
use Rattle.vm_calls.specs.Checks.{checked}
use Rattle.vm_calls.specs.Decisions.{Decides, entries}
use Rattle.vm_calls.specs.Plainly.{answer_to, left_by}
use Rattle.vm_calls.proofs.Plainly.{plain}
use Rattle.audit.specs.declared.judging.ReplyVerdict.{ReplyVerdict}
use Rattle.audit.specs.declared.judging.ReplyVerdict.TheVariants.{Legal, Illegal}
use Rattle.audit.specs.Judging.{Compares, GivesPlan, Judges, JudgesPlan, after_copy, stored, touched_after}
use Rattle.audit.specs.Keeping.{Keeps, entry_kept, files_kept, own_kept, plain_kept}
use Rattle.audit.specs.Storing.{HasBytes}
use Rattle.audit.specs.Placing.{IsAllowed, place_said, reply_at, rule_of}
use Rattle.audit.proofs.Changed.{has_modes, mapped_kept, modes_kept, plain_changed, shown_kept}
use Rattle.audit.proofs.Judged.{HasOneAnswer, judged_compared, judged_illegal, judged_legal}
use Rattle.audit.proofs.Judged.{one_changed, one_refused, one_touched, place_answers, place_illegal, placed_map}
use Rattle.audit.proofs.Placed.{said_reply}
use Rattle.vm_base.specs.Places.{IsPlace}

-- the check over the files that are open is that over the plain map's
pub checked_kept : (s : Slots) (o : List FileParts) (f : FrameParts) (c : ℕ) (request : Request) (r : Result Plan Reply)
    → checked (λ n. mode_of (files_of o n)) c request ≡ r → checked (λ n. mode_of ((plain_kept s o f).file n)) c request ≡ r
checked_kept s o f c request r is = subst (λ (m : ℕ → Option Mode). checked m c request ≡ r) (sym (modes_kept s o f)) is

checked_files : (s : Slots) (o : List FileParts) (f : FrameParts) (c : ℕ) (request : Request) (r : Result Plan Reply)
    → checked (λ n. mode_of ((plain_kept s o f).file n)) c request ≡ r → checked (λ n. mode_of (files_of o n)) c request ≡ r
checked_files s o f c request r is = subst (λ (m : ℕ → Option Mode). checked m c request ≡ r) (modes_kept s o f) is

-- ---- changes

pub refuse_judged : (s : Slots) (o : List FileParts) (f : FrameParts) (change : Change) (reply : Reply) (e : Errno) (verdict : ReplyVerdict)
    → Decides (files_of o) s (To.Change change) (Refuse e) → Compares reply (Refused e) verdict
    → (any : Bool) → JudgesPlan any (plain_kept s o f) (PlanOf.Change change) reply verdict (plain_kept s o f)
refuse_judged s o f change reply e verdict d compares any c request few is =
    judged_compared any (plain_kept s o f) c request reply (Refused e) verdict compares
    (one_changed (plain_kept s o f) (λ n. mode_of ((plain_kept s o f).file n)) c request change (Refused e) (plain_kept s o f) is
    (plain (plain_kept s o f) (files_of o) s c request (To.Change change) (Refuse e) few (shown_kept s o f (range_of change))
    (checked_files s o f c request (Ok (PlanOf.Change change)) is) tt tt d))

-- what the plain map answers to a change that is made
acted : (s : Slots) (o : List FileParts) (f : FrameParts) (change : Change) (range : PageRange) (shoot : ℕ)
    → Decides (files_of o) s (To.Change change) (Act range shoot) → range ≡ range_of change
    → (c : ℕ) (request : Request) → c < 64 → checked (λ n. mode_of ((plain_kept s o f).file n)) c request ≡ Ok (PlanOf.Change change)
    → HasOneAnswer (plain_kept s o f) c request (answer_to (To.Change change) (range_of change))
    (left_by (plain_kept s o f) (To.Change change) (range_of change))
acted s o f change range shoot d same c request few is =
    one_changed (plain_kept s o f) (λ n. mode_of ((plain_kept s o f).file n)) c request change (answer_to (To.Change change) (range_of change))
    (left_by (plain_kept s o f) (To.Change change) (range_of change)) is
    (subst (λ r. Applies IsPlace (plain_kept s o f) c request (answer_to (To.Change change) r) (left_by (plain_kept s o f) (To.Change change) r)) same
    (plain (plain_kept s o f) (files_of o) s c request (To.Change change) (Act range shoot) few (shown_kept s o f (range_of change))
    (checked_files s o f c request (Ok (PlanOf.Change change)) is) tt tt d))

pub act_illegal : (s : Slots) (o : List FileParts) (f : FrameParts) (change : Change) (reply due : Reply) (range : PageRange) (shoot : ℕ)
    → Decides (files_of o) s (To.Change change) (Act range shoot) → range ≡ range_of change
    → due ≡ answer_to (To.Change change) (range_of change) → reply ≢ due
    → (any : Bool) → JudgesPlan any (plain_kept s o f) (PlanOf.Change change) reply (Illegal due) (plain_kept s o f)
act_illegal s o f change reply due range shoot d same is_due ne any c request few is =
    judged_illegal any (plain_kept s o f) c request reply due (left_by (plain_kept s o f) (To.Change change) (range_of change)) ne
    (subst (λ y. HasOneAnswer (plain_kept s o f) c request y (left_by (plain_kept s o f) (To.Change change) (range_of change))) (sym is_due)
    (acted s o f change range shoot d same c request few is))

pub act_legal : (s t : Slots) (o : List FileParts) (f g : FrameParts) (change : Change) (reply due : Reply) (range : PageRange) (shoot : ℕ)
    → Decides (files_of o) s (To.Change change) (Act range shoot) → range ≡ range_of change
    → due ≡ answer_to (To.Change change) (range_of change) → reply ≡ due → t.info ≡ (changed s change).info → frame_bytes g ≡ frame_bytes f
    → (any : Bool) → JudgesPlan any (plain_kept s o f) (PlanOf.Change change) reply Legal (plain_kept t o g)
act_legal s t o f g change reply due range shoot d same is_due replied info bytes any c request few is =
    judged_legal any (plain_kept s o f) c request reply (answer_to (To.Change change) (range_of change)) (plain_kept t o g) (replied ∙ is_due)
    (subst (HasOneAnswer (plain_kept s o f) c request (answer_to (To.Change change) (range_of change))) (sym (plain_changed s t o f g change info bytes))
    (acted s o f change range shoot d same c request few is))

-- ---- accesses

pub touch_judged : (any : Bool) (t : Plain) (touch : Touch) (reply due : Reply) (verdict : ReplyVerdict) (u : Plain)
    → due ≡ after_copy (entry_reply t.file (t.entry touch.page) touch.access touch.offset) → Compares reply due verdict
    → (reply ≡ due → u ≡ touched_after t touch due) → (reply ≢ due → u ≡ t) → JudgesPlan any t (PlanOf.Touch touch) reply verdict u
touch_judged any t touch reply due Legal u is_due same legal illegal c request few is =
    subst (Judges (rule_of any) t c request reply Legal) (sym (legal same))
    (judged_legal any t c request reply due (touched_after t touch due) same
    (one_touched t (λ n. mode_of (t.file n)) c request touch due is is_due))
touch_judged any t touch reply due (Illegal first) u is_due e legal illegal c request few is =
    subst (Judges (rule_of any) t c request reply (Illegal first)) (sym (illegal e.0))
    (subst (λ y. Judges (rule_of any) t c request reply (Illegal y) t) (sym e.1)
    (judged_illegal any t c request reply due (touched_after t touch due) e.0
    (one_touched t (λ n. mode_of (t.file n)) c request touch due is is_due)))

-- a page that isn't mapped
pub unmapped_judged : (any : Bool) (s : Slots) (o : List FileParts) (f : FrameParts) (touch : Touch) (reply : Reply) (verdict : ReplyVerdict)
    → s.info touch.page ≡ None → Compares reply (Segv MapErr) verdict
    → JudgesPlan any (plain_kept s o f) (PlanOf.Touch touch) reply verdict (plain_kept s o f)
unmapped_judged any s o f touch reply verdict none compares =
    touch_judged any (plain_kept s o f) touch reply (Segv MapErr) verdict (plain_kept s o f)
    (sym (ap (λ i. after_copy (entry_reply (plain_kept s o f).file (entry_kept (frame_bytes f) i) touch.access touch.offset)) none))
    compares (λ e. refl) (λ e. refl)

-- what the plain map is due to answer at a mapped page
pub due_kept : (s : Slots) (o : List FileParts) (f : FrameParts) (touch : Touch) (info : PageInfo) (due : Reply) → s.info touch.page ≡ Some info
    → due ≡ after_copy (entry_reply (plain_kept s o f).file (entry_kept (frame_bytes f) (Some info)) touch.access touch.offset)
    → due ≡ after_copy (entry_reply (plain_kept s o f).file ((plain_kept s o f).entry touch.page) touch.access touch.offset)
due_kept s o f touch info due at is =
    is ∙ sym (ap (λ i. after_copy (entry_reply (plain_kept s o f).file (entry_kept (frame_bytes f) i) touch.access touch.offset)) at)

-- an access that isn't done leaves the map
pub left_alone : (t : Plain) (touch : Touch) (due : Reply) → due ≢ Done → t ≡ touched_after t touch due
left_alone t touch Done ne = absurd (ne refl)
left_alone t touch (Mapped at) ne = refl
left_alone t touch (Byte b) ne = refl
left_alone t touch (Refused e) ne = refl
left_alone t touch (Segv code) ne = refl
left_alone t touch Bus ne = refl
left_alone t touch NoFrame ne = refl
left_alone t touch NoMemory ne = refl

pub left_stored : (t u : Plain) (touch : Touch) (due : Reply) → due ≡ Done → u ≡ stored t touch → u ≡ touched_after t touch due
left_stored t u touch due done e = e ∙ ap (touched_after t touch) (sym done)

-- an access that is done is of a page with bytes
pub done_bytes : (o : List FileParts) (f : FrameParts) (info : PageInfo) (a : Access) (i : ℕ)
    → Done ≡ after_copy (entry_reply (files_kept o f) (entry_kept (frame_bytes f) (Some info)) a i) → HasBytes o f info
done_bytes o f info a i h = go (is_allowed info.meta.prot a) (bytes_of (files_kept o f) info.meta.back own) refl h
  where
    own : Option Bytes
    own = own_kept (frame_bytes f) info.meta.back info.frame

    go : (t : Bool) (b : Option Bytes) → bytes_of (files_kept o f) info.meta.back own ≡ b
        → Done ≡ after_copy (if t then bytes_reply (needs_copy a info.meta.back own) b a i else Some (Segv AccErr))
        → is_some (bytes_of (files_kept o f) info.meta.back own) ≡ true
    go false b is h = absurd cc
    go true None is h = absurd cc
    go true (Some shown) is h = ap is_some is

-- the frame of a mapped page is there
pub frame_within : (s : Slots) (o : List FileParts) (f : FrameParts) (page : ℕ) (info : PageInfo) → s.info page ≡ Some info → Keeps s (cached_in o) f
    → IfSome info.frame (λ x. x < f.count)
frame_within s o f page info at k = go info.frame refl
  where
    go : (x : Option ℕ) → info.frame ≡ x → IfSome x (λ y. y < f.count)
    go None e = tt
    go (Some y) e = (k.taken None page y (ap frame_of at ∙ e)).0

-- ---- mappings without MAP_FIXED

due_kept_place : (any : Bool) (s : Slots) (o : List FileParts) (f : FrameParts) (place : Place) (found : Option ℕ)
    → IsAllowed any (is_mapped (entries s)) place found → IsAllowed any (is_mapped (plain_kept s o f).entry) place found
due_kept_place any s o f place found h = subst (λ m. IsAllowed any m place found) (sym (mapped_kept s o f)) h

allowed_kept : (any : Bool) (s : Slots) (o : List FileParts) (f : FrameParts) (place : Place) (found : Option ℕ)
    → IsAllowed any (is_mapped (plain_kept s o f).entry) place found → IsAllowed any (is_mapped (entries s)) place found
allowed_kept any s o f place found h = subst (λ m. IsAllowed any m place found) (mapped_kept s o f) h

pub place_unsaid : (any : Bool) (s : Slots) (o : List FileParts) (f : FrameParts) (place : Place) (reply : Reply) (first : Option ℕ) (due : Reply)
    → place_said reply ≡ None → IsAllowed any (is_mapped (entries s)) place first → due ≡ reply_at first
    → JudgesPlan any (plain_kept s o f) (PlanOf.Place place) reply (Illegal due) (plain_kept s o f)
place_unsaid any s o f place reply first due none allowed is_due =
    subst (λ y. JudgesPlan any (plain_kept s o f) (PlanOf.Place place) reply (Illegal y) (plain_kept s o f)) (sym is_due)
    (place_illegal any (plain_kept s o f) reply place first (λ found e. absurd cc) (due_kept_place any s o f place first allowed))

pub place_wrong : (any : Bool) (s : Slots) (o : List FileParts) (f : FrameParts) (place : Place) (reply : Reply) (found first : Option ℕ) (due : Reply)
    → place_said reply ≡ Some found → ¬ IsAllowed any (is_mapped (entries s)) place found → IsAllowed any (is_mapped (entries s)) place first
    → due ≡ reply_at first → JudgesPlan any (plain_kept s o f) (PlanOf.Place place) reply (Illegal due) (plain_kept s o f)
place_wrong any s o f place reply found first due said not allowed is_due =
    subst (λ y. JudgesPlan any (plain_kept s o f) (PlanOf.Place place) reply (Illegal y) (plain_kept s o f)) (sym is_due)
    (place_illegal any (plain_kept s o f) reply place first other (due_kept_place any s o f place first allowed))
  where
    other : (x : Option ℕ) → place_said reply ≡ Some x → ¬ IsAllowed any (is_mapped (plain_kept s o f).entry) place x
    other x e h =
        let both : Some found ≡ Some x = sym said ∙ e in
        let same : found ≡ x = cc in
        not (subst (IsAllowed any (is_mapped (entries s)) place) (sym same) (allowed_kept any s o f place x h))

pub place_nowhere : (any : Bool) (s : Slots) (o : List FileParts) (f : FrameParts) (place : Place) (reply : Reply) → place_said reply ≡ Some None
    → IsAllowed any (is_mapped (entries s)) place None → JudgesPlan any (plain_kept s o f) (PlanOf.Place place) reply Legal (plain_kept s o f)
place_nowhere any s o f place reply said h c request few is =
    subst (λ y. Judges (rule_of any) (plain_kept s o f) c request y Legal (plain_kept s o f)) (sym (said_reply reply None said))
    (place_answers any (plain_kept s o f) c request place None few is
    (subst (λ m. IsAllowed any m place None) (sym (mapped_kept s o f)) h))

pub place_made : (any : Bool) (s t : Slots) (o : List FileParts) (f g : FrameParts) (place : Place) (reply : Reply) (first : ℕ)
    → place_said reply ≡ Some (Some first) → IsAllowed any (is_mapped (entries s)) place (Some first)
    → t.info ≡ (changed s (Put (pages_from first place.count) place.meta)).info → frame_bytes g ≡ frame_bytes f
    → JudgesPlan any (plain_kept s o f) (PlanOf.Place place) reply Legal (plain_kept t o g)
place_made any s t o f g place reply first said h info bytes c request few is =
    subst (λ y. Judges (rule_of any) (plain_kept s o f) c request y Legal (plain_kept t o g)) (sym (said_reply reply (Some first) said))
    (subst (Judges (rule_of any) (plain_kept s o f) c request (reply_at (Some first)) Legal)
    (sym (plain_changed s t o f g (Put (pages_from first place.count) place.meta) info bytes))
    (place_answers any (plain_kept s o f) c request place (Some first) few is
    (subst (λ m. IsAllowed any m place (Some first)) (sym (mapped_kept s o f)) h)))

-- ---- replies for which memory is wanted

pub act_given : (s : Slots) (o : List FileParts) (f : FrameParts) (change : Change) (reply due : Reply) (range : PageRange) (shoot : ℕ)
    → Decides (files_of o) s (To.Change change) (Act range shoot) → range ≡ range_of change
    → due ≡ answer_to (To.Change change) (range_of change) → reply ≡ due
    → (any : Bool) → GivesPlan any (plain_kept s o f) (PlanOf.Change change) reply
act_given s o f change reply due range shoot d same is_due replied any c request few is =
    let u = left_by (plain_kept s o f) (To.Change change) (range_of change) in (
      u,
      subst (λ y. Answers (rule_of any) (plain_kept s o f) c request y u) (sym (replied ∙ is_due))
          ((acted s o f change range shoot d same c request few is).answers any),
    )

pub touch_given : (t : Plain) (touch : Touch) (reply due : Reply)
    → due ≡ after_copy (entry_reply t.file (t.entry touch.page) touch.access touch.offset) → reply ≡ due
    → (any : Bool) → GivesPlan any t (PlanOf.Touch touch) reply
touch_given t touch reply due is_due same any c request few is =
    let u = touched_after t touch due in (
      u,
      subst (λ y. Answers (rule_of any) t c request y u) (sym same)
          ((one_touched t (λ n. mode_of (t.file n)) c request touch due is is_due).answers any),
    )

pub place_given : (any : Bool) (s : Slots) (o : List FileParts) (f : FrameParts) (place : Place) (reply : Reply) (first : ℕ)
    → place_said reply ≡ Some (Some first) → IsAllowed any (is_mapped (entries s)) place (Some first)
    → GivesPlan any (plain_kept s o f) (PlanOf.Place place) reply
place_given any s o f place reply first said h c request few is =
    let u = placed_map (plain_kept s o f) place (Some first) in (
      u,
      subst (λ y. Answers (rule_of any) (plain_kept s o f) c request y u) (sym (said_reply reply (Some first) said))
          (place_answers any (plain_kept s o f) c request place (Some first) few is
          (subst (λ m. IsAllowed any m place (Some first)) (sym (mapped_kept s o f)) h)),
    )

-- ---- what the arguments refuse

pub refused_judged : (any : Bool) (s : Slots) (o : List FileParts) (f : FrameParts) (c : ℕ) (request : Request) (reply due : Reply) (verdict : ReplyVerdict)
    → checked (λ n. mode_of (files_of o n)) c request ≡ Err due → Applies IsPlace (plain_kept s o f) c request due (plain_kept s o f)
    → Compares reply due verdict → Judges (rule_of any) (plain_kept s o f) c request reply verdict (plain_kept s o f)
refused_judged any s o f c request reply due verdict is applies compares =
    judged_compared any (plain_kept s o f) c request reply due verdict compares
    (one_refused (plain_kept s o f) (files_of o) c request due (has_modes s o f) is applies)

-- ---- results

pub on_ok_map : {T E : Type 0} (r : Result T E) (X Y : Type 0) → OnOk r X → (X → Y) → OnOk r Y
on_ok_map (Ok v) X Y x f = f x
on_ok_map (Err e) X Y x f = tt

pub if_ok_map : {T E : Type 0} (r : Result T E) (P Q : T → Type 0) → IfOk r P → ((v : T) → P v → Q v) → IfOk r Q
if_ok_map (Ok v) P Q x f = f v x
if_ok_map (Err e) P Q x f = tt

pub on_err_map : {T E : Type 0} (r : Result T E) (X Y : Type 0) → OnErr r X → (X → Y) → OnErr r Y
on_err_map (Ok v) X Y x f = tt
on_err_map (Err e) X Y x f = f x
