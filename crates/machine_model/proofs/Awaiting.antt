-- What a call that waits will be answered: the plain page map says it before
use Rattle.machine_model.proofs.Words.{◌≡◌, ℕ, suc, ◌+◌, ◌<◌, Bool, true, false, arith, refl, sym, ap, subst, Some, None, Option, ◌∙◌, is_some, if◌then◌else◌}
use Rattle.machine_model.proofs.Words.{Back, Anon, PageInfo, PageRange, Reply, Request, Access, byte_reply, detached, entry_reply}
use Rattle.machine_model.proofs.Words.{is_uncopied, frame_of, page_of, Bytes, File, Plain, mode_of, is_allowed, put_same, Change, Goal, Touch, range_of}
use Rattle.machine_model.proofs.Words.{touch_of, Acks, CopyAcks, reply_to, back_of, page_of_touch, taken_in, World, nth, CanAccess, Stands, page_copied}
use Rattle.machine_model.proofs.Words.{with_copy, is_access, Users, Same, users_after, with_user, without, IsPlace}
use Rattle.vm_base.specs.declared.replies.Reply.TheVariants as ReplyOf
use Rattle.vm_base.specs.declared.replies.SegvCode.TheVariants.{AccErr}
use Rattle.vm_base.specs.declared.requests.Request.TheVariants as RequestOf
use Rattle.vm_base.specs.declared.rights.Access.TheVariants.{Store}
use Rattle.vm_base.specs.Apply.{bytes_reply}
use Rattle.vm_base.specs.Plain.{PageEntry}
use Rattle.vm_calls.specs.Plainly.{touched_by}
use Rattle.machine_model.specs.Orderly.{IsUsable}
use Rattle.machine_model.proofs.Going.{call_sound, has_core}
use Rattle.machine_model.proofs.Moves.{IsCallOf, call_at}
use Rattle.machine_model.specs.Invariant.{IsWellFormed}
use Rattle.machine_model.proofs.Fills.{IsUncopied, as_store, its_copy, private_only, shown_uncopied}
use Rattle.machine_model.proofs.SoundPages.{framed}
use Rattle.machine_model.proofs.Replies.{acted, led_goes, made_of, touched_stands}
use Rattle.machine_model.proofs.Stores.{with_own}
use Rattle.machine_model.specs.Alone.{users_dropped}
use Rattle.vm_base.specs.Copies.{or_else, page_due}
use Rattle.machine_model.specs.Taken.{frames_for, taken_below}
use Rattle.machine_model.proofs.Aiming.{goal_drops, goal_no_access}
use Rattle.machine_model.proofs.Rows.{HasTaken}
use Rattle.machine_model.proofs.Taking.{its_access, one_taken_of}
use Rattle.machine_model.proofs.Used.{its_touch, same_request}
use Rattle.machine_model.proofs.Using.{IsTouchOf, loads, stores, fetches, as_asked, added, copied_so, store_asked}

-- the map t answers the request with this reply, which leaves the pages of the range without users, but for a store's core
pub record WillAnswer (t : Plain) (c : ℕ) (request : Request) (range : PageRange) : Type 0 where
  pub reply : Reply
  pub after : Plain
  pub stands : Stands IsPlace (with_copy t (page_copied t request reply)) c request reply after
  pub drops : (u : Users) → Same (users_after t c request reply u) (users_dropped c request range u)

-- ---- a change

no_store : (b : Bool) (x y : Users) → b ≡ false → Same y (if b then x else y)
no_store true x y e p c = absurd cc
no_store false x y e p c = refl

pub change_answers : (w : World) (t : Plain) (c : ℕ) (request : Request) (goal : Goal) (change : Change) (f : IsWellFormed w) → f.plain ≡ t
    → nth w.calls.requests (w.calls.number c) ≡ Some request → w.calls.phase c ≡ Acks goal change
    → WillAnswer t c request (range_of change) × (is_access request ≡ false)
change_answers w t c request goal change f from number p =
    let call : IsCallOf w c (Acks goal change) = call_at w c (Acks goal change) p f.order in
    let inside : c < w.made.cores = has_core w c f.order (λ k. let a = sym p ∙ k in cc) in
    let same : call.asked.request ≡ request = same_request w c call.asked.request request call.asked.number number in
    let after : Plain = made_of f.plain change in
    let stands : Stands IsPlace f.plain c call.asked.request (reply_to change) after =
    acted w f.plain c call.asked.request goal change f.good
    (record {
      few = let few = f.order.few in omega (arith, inside, few);
      passed = call.asked.passed;
      target = call.ready.0;
      none = led_goes goal change call.ready.1;
    }) call.ready.1 call.ready.2 in
    let drops =
    goal_drops (λ k. mode_of (w.made.file k)) w.made w.slots t c call.asked.request goal change call.asked.passed
    (call_sound w c goal f.order inside call.asked call.ready.0) call.ready.1 call.ready.2 in
    let none : page_copied t request (reply_to change) ≡ None = subst (λ r. page_copied t r (reply_to change) ≡ None) same drops.0 in
    let access : is_access request ≡ false =
    subst (λ r. is_access r ≡ false) same
    (goal_no_access (λ n. mode_of (w.made.file n)) c call.asked.request goal change call.asked.passed call.ready.1) in (
      record {
        reply = reply_to change;
        after = after;
        stands = subst (λ m. Stands IsPlace m c request (reply_to change) after) (from ∙ ap (with_copy t) (sym none))
            (subst (λ r. Stands IsPlace f.plain c r (reply_to change) after) same stands);
        drops = λ u q d.
            subst (λ r. users_after t c r (reply_to change) u q d ≡ without (range_of change) u q d) same (drops.1 u q d)
            ∙ no_store (is_access request) (with_user (range_of change).first c (without (range_of change) u)) (without (range_of change) u) access q d;
      },
      access,
    )

-- ---- a store

owned : (back : Back) (x : Bytes) → is_uncopied back (Some x) ≡ false
owned Anon x = refl
owned _ x = refl

-- once the page has its copy a store to it is done
copy_reply : (t : Plain) (page i : ℕ) (entry : PageEntry) (x : Bytes) → is_allowed entry.prot Store ≡ true
    → entry_reply (with_own t page entry x).file ((with_own t page entry x).entry page) Store i ≡ Some ReplyOf.Done
copy_reply t page i entry x allowed =
    ap (λ z. entry_reply t.file z Store i) (put_same t.entry page (Some (record entry { own = Some x })))
    ∙ (ap (λ b. if b then bytes_reply (is_uncopied entry.back (Some x)) (Some x) Store i else Some (ReplyOf.Segv AccErr)) allowed
    ∙ ap (λ b. bytes_reply b (Some x) Store i) (owned entry.back x))

-- what it does to the users
store_drops : (t : Plain) (c : ℕ) (request : Request) (touch : Touch) → IsTouchOf request touch → touch.access ≡ Store
    → page_copied t request ReplyOf.Done ≡ Some touch.page → (u : Users)
    → Same (users_after t c request ReplyOf.Done u) (users_dropped c request (page_of_touch touch) u)
store_drops t c request touch (loads addr r e) s h = absurd (let a = ap (λ (x : Touch). x.access) e in cc (a, s))
store_drops t c request touch (fetches addr r e) s h = absurd (let a = ap (λ (x : Touch). x.access) e in cc (a, s))
store_drops t c request touch (stores addr byte r e) s h =
    as_asked Drops request (RequestOf.Store addr byte) touch (touch_of addr Store byte) r e
    (λ k u. added (page_of addr) c (page_due t (RequestOf.Store addr byte)) (Some (page_of addr)) u k) h
  where
    Drops : Request → Touch → Type 0
    Drops q x = page_copied t q ReplyOf.Done ≡ Some x.page → (u : Users) → Same (users_after t c q ReplyOf.Done u) (users_dropped c q (page_of_touch x) u)

its_frame : (file : ℕ → Option File) (access : Access) (o : Option PageInfo) (g : ℕ) → IsUsable file o access (Some g) → frame_of o ≡ Some g
its_frame file access None g u = absurd u
its_frame file access (Some info) g u = u.2

pub copy_answers : (w : World) (t : Plain) (c : ℕ) (request : Request) (touch : Touch) (frame : ℕ) (f : IsWellFormed w) → f.plain ≡ t
    → nth w.calls.requests (w.calls.number c) ≡ Some request → w.calls.phase c ≡ CopyAcks touch frame
    → WillAnswer t c request (page_of_touch touch)
copy_answers w t c request touch frame f from number p = record {
  reply = ReplyOf.Done;
  after = after;
  stands = subst (λ m. Stands IsPlace m c request ReplyOf.Done after) (sym (ap (with_copy t) copied ∙ ap (or_else t) due))
      (subst (λ r. Stands IsPlace u c r ReplyOf.Done after) same
      (touched_stands w u after c call.asked.request touch ReplyOf.Done tt call.asked.passed (
        subst (λ a. entry_reply u.file (u.entry touch.page) a touch.offset ≡ Some ReplyOf.Done) (sym store)
            (copy_reply f.plain touch.page touch.offset z.entry x allowed),
        refl,
      )));
  drops = store_drops t c request touch asked store copied;
}
  where
    call : IsCallOf w c (CopyAcks touch frame)
    call = call_at w c (CopyAcks touch frame) p f.order

    same : call.asked.request ≡ request
    same = same_request w c call.asked.request request call.asked.number number

    asked : IsTouchOf request touch
    asked = its_touch w c touch request number call.asked

    store : touch.access ≡ Store
    store = (private_only (back_of (w.slots.info touch.page)) touch.access call.ready.2.store).0

    x : Bytes
    x = w.memory.bytes call.ready.0

    z : IsUncopied w f.plain touch.page x
    z = shown_uncopied w f.plain touch.page call.ready.0 touch.access
        (framed w f.plain touch.page call.ready.0 f.good (its_frame w.made.file touch.access (w.slots.info touch.page) call.ready.0 call.ready.1))
        call.ready.2.store call.ready.2.shown

    u : Plain
    u = with_own f.plain touch.page z.entry x

    allowed : is_allowed z.entry.prot Store ≡ true
    allowed = (subst (λ o. CanAccess f.plain.file o Store) z.at_page
        (as_store w f.plain touch.page touch.access (Some call.ready.0) f.good call.ready.1 store)).0

    due : detached t touch.page ≡ Some u
    due = ap (λ m. detached m touch.page) (sym from) ∙ its_copy w f.plain touch.page x z

    copied : page_copied t request ReplyOf.Done ≡ Some touch.page
    copied = subst (λ a. page_copied t request (byte_reply a 0) ≡ Some touch.page) store
        (copied_so t request touch 0 (Some touch.page) asked (store_asked request touch asked store, ap is_some due) (λ e. absurd cc))

    after : Plain
    after = touched_by u touch ReplyOf.Done

-- ---- the frame that a store has taken for its copy

pub change_frames : (first free : ℕ → Bool) (request : Request) (n : ℕ) → free ≡ first → is_access request ≡ false
    → taken_below free n ≡ taken_below first n + frames_for request
change_frames first free request n same access =
    let a : taken_below free n ≡ taken_below first n = ap (λ f. taken_below f n) same in
    let b : frames_for request ≡ 0 = ap (λ (b : Bool). if b then 1 else 0) access in
    omega (arith, a, b)

pub copy_frames : (w : World) (c : ℕ) (request : Request) (touch : Touch) (frame : ℕ) (first : ℕ → Bool) (f : IsWellFormed w)
    → nth w.calls.requests (w.calls.number c) ≡ Some request → w.calls.phase c ≡ CopyAcks touch frame → HasTaken first w.memory.is_free (Some frame)
    → (taken_below w.memory.is_free w.made.frames ≡ suc (taken_below first w.made.frames)) × (frames_for request ≡ 1)
copy_frames w c request touch frame first f number p h =
    let call : IsCallOf w c (CopyAcks touch frame) = call_at w c (CopyAcks touch frame) p f.order in
    let access : is_access request ≡ true = its_access w c touch request number call.asked in (
      ap (λ g. taken_below g w.made.frames) h.1 ∙ one_taken_of first frame w.made.frames h.0 (f.order.taken c frame (ap taken_in p)),
      ap (λ (b : Bool). if b then 1 else 0) access,
    )
