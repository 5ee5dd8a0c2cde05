-- A step of the library doesn't look at bytes.
use Rattle.real_mmu.proofs.Words.{CopyAcks, Event, Fill, Outcome, Phase, Try}
use Rattle.machine_model.proofs.Words.{◌≡◌, ◌≢◌, ℕ, ◌⊎◌, inl, inr, refl, sym, ap, subst, ◌∙◌, Bool, true, false, Some, None, Option, Result, Ok, if◌then◌else◌}
use Rattle.machine_model.proofs.Words.{Back, Anon, Shared, Private, PageInfo, PageRange, Access, Reply, Byte, Done, Request, Mmap, Munmap, Mprotect}
use Rattle.machine_model.proofs.Words.{Bytes, File, Plain}
use Rattle.machine_model.proofs.Words.{put, put_all, frame_of, info_with_frame, info_with_copy, info_with_core, byte_reply, is_access, refusal}
use Rattle.machine_model.proofs.Words.{meta_of, mode_of, pages_of}
use Rattle.machine_model.proofs.Words.{Put, Plan, Touch, goal_range, Slots, plan_of, place_of, passed, World, Step}
use Rattle.machine_model.proofs.Words.{with_event, after_access, with_hardware, after_translating, reply_of, answer_entry, back_of, file_frame}
use Rattle.machine_model.proofs.Words.{shows_file, taken_in}
use Rattle.machine_model.proofs.Words.{after_zeros, after_first_copy, after_caching, after_copy, after_commit, after_install}
use Rattle.slot_lock.specs.declared.plan.Plan.TheVariants as PlanOf
use Rattle.vm_base.specs.declared.rights.Access.TheVariants.{Load, Store, Fetch}
use Rattle.machine_model.specs.Orderly.{IsOrderly, IsUsable}
use Rattle.machine_model.proofs.Moves.{call_at}
use Rattle.machine_model.proofs.CountsKept.{same_with_core}
use Rattle.machine_model.proofs.SoundPages.{is_it}
use Rattle.machine_model.proofs.Commits.{fewer_frames}
use Rattle.machine_model.proofs.Fills.{nobodys, uncached, new_frame}
use Rattle.machine_model.specs.Invariant.{Shows}
use Rattle.machine_model.specs.Invariant as whole
use Rattle.machine_model.specs.Sound.{IsReached}
use Rattle.machine_model.proofs.SoundKept.{reached_fine, shape_left}
use Rattle.machine_model.proofs.SoundMoves.{IsShown, Leaves}
use Rattle.machine_model.proofs.Shapes.{Moves, locks, tries, hints, seeks, guesses, turns, chooses, acts, finds, lacks, shows}
use Rattle.machine_model.proofs.Shapes.{Replies, refuses, no_place, declines, fails, no_frame, GoesBy, moves, divides, cuts, fits, owns, lets_go}
use Rattle.machine_model.proofs.Shapes.{answers, posts, commits, takes, zeroes, first_copies, caches, shares, posts_copy, copies, installs, accesses}
use Rattle.machine_model.proofs.Shapes.{faults, Works, clears, invalidates, walks, evicts, flushes, reviews, frees, Shape, rests, begins, ends, goes}
use Rattle.machine_model.proofs.Shapes.{aims, gives_up, works, joins, Rests, absent, busy, full, free, cannot, waits, awaits, Comes, stopped}
use Rattle.machine_model.proofs.Shapes.{acts as happens, comes}
use Rattle.real_mmu.proofs.Told.{Told, old_frames, same_pages, nothing_new, one_new, framed_now, copied_now, shown_told, copy_told}
use Rattle.real_mmu.specs.Fills.{Fills, Filled, bytes_from, source_of}
use Rattle.real_mmu.specs.Steps.{IsServed, EntriesLead, ShowsWith}

-- the state with these bytes
abbrev over : (ℕ → Bytes) → World → World
over m w = record w { memory = record w.memory { bytes = m } }

moves_over : (m : ℕ → Bytes) (w : World) (c : ℕ) (new : Phase) → Moves w c new → Moves (over m w) c new
moves_over m w c new (locks a b d e f) = locks a b d e f
moves_over m w c new (tries a b d e f) = tries a b d e f
moves_over m w c new (hints a b d e f g h) = hints a b d e f g h
moves_over m w c new (seeks a b d e f) = seeks a b d e f
moves_over m w c new (guesses a b d e f) = guesses a b d e f
moves_over m w c new (turns a b d e f) = turns a b d e f
moves_over m w c new (chooses a b d e f g h) = chooses a b d e f g h
moves_over m w c new (acts a b d e f g) = acts a b d e f g
moves_over m w c new (finds a b d e f) = finds a b d e f
moves_over m w c new (lacks a b d e f g) = lacks a b d e f g
moves_over m w c new (shows a b d e f) = shows a b d e f

replies_over : (m : ℕ → Bytes) (w : World) (c : ℕ) (held : Option PageRange) (reply : Reply) → Replies w c held reply → Replies (over m w) c held reply
replies_over m w c held reply (refuses a b d e) = refuses a b d e
replies_over m w c held reply (no_place a b d e f g h) = no_place a b d e f g h
replies_over m w c held reply (declines a b d e f g) = declines a b d e f g
replies_over m w c held reply (fails a b d e) = fails a b d e
replies_over m w c held reply (no_frame a b d e f g) = no_frame a b d e f g

-- the frame that a usable page has
same_frame : (file : ℕ → Option File) (o : Option PageInfo) (access : Access) (f g : ℕ) → IsUsable file o access (Some f) → frame_of o ≡ Some g → f ≡ g
same_frame file None access f g u h = absurd u
same_frame file (Some info) access f g u h = let a = sym u.2 ∙ h in cc

-- the same step over these bytes, which leaves the bytes that it tells, or an access that was served
data Goes (w : World) (c : ℕ) (v : World) (m : ℕ → Bytes) : Type 0 where
  steps : (n : ℕ → Bytes) → Told w v m n → GoesBy (over m w) c (over n v) → Goes w c v m
  served : (touch : Touch) (f : ℕ) → w.calls.phase c ≡ Try touch → Told w v m m
      → v ≡ after_access c touch f (with_hardware (after_translating w.hardware c touch) w) → Goes w c v m

-- the state's pages are those of a state that it is
same_as : (w v x : World) (m : ℕ → Bytes) → v ≡ x → x.slots.info ≡ w.slots.info → Told w v m m
same_as w v x m h same = same_pages w v m (ap (λ (y : World). y.slots.info) h ∙ same)

-- a page got a frame that the call had taken
fills_one : (w v x : World) (m : ℕ → Bytes) (c f page : ℕ) (new : Option PageInfo) (bytes : Bytes) → IsShown (over m w) → v ≡ x
    → x.slots.info ≡ put w.slots.info page new → taken_in (w.calls.phase c) ≡ Some f → frame_of new ≡ Some f
    → bytes ≡ bytes_from w.made.file m (source_of w.memory.cached (back_of (w.slots.info page))) → Told w v m (put m f bytes)
fills_one w v x m c f page new bytes fine h is mine at from =
    one_new w v m page f new bytes (ap (λ (y : World). y.slots.info) h ∙ is) at (nobodys (over m w) f fine c mine) (uncached (over m w) f fine c mine) from

goes_over : (m : ℕ → Bytes) (w : World) → IsShown (over m w) → (c : ℕ) (v : World) → GoesBy w c v → Goes w c v m
goes_over m w fine c v (moves a b h) = steps m (same_as w v _ m h refl) (moves a (moves_over m w c a b) (ap (over m) h))
goes_over m w fine c v (divides a b d e f h) = steps m (same_as w v _ m h f.divides.2.info) (divides a b d e f (ap (over m) h))
goes_over m w fine c v (cuts a b d e f g h) = steps m (same_as w v _ m h g.divides.2.info) (cuts a b d e f g (ap (over m) h))
goes_over m w fine c v (fits a b d e f h) = steps m (same_as w v _ m h refl) (fits a b d e f (ap (over m) h))
goes_over m w fine c v (owns a b d e f g h) = steps m (same_as w v _ m h (ap (λ (s : Slots). s.info) g.now)) (owns a b d e f g (ap (over m) h))
goes_over m w fine c v (lets_go a b d e f g h) =
    steps m (same_as w v _ m h (ap (λ (s : Slots). s.info) g.now)) (lets_go a b d e f g (ap (over m) h))
goes_over m w fine c v (answers a b d h) = steps m (same_as w v _ m h refl) (answers a b (replies_over m w c a b d) (ap (over m) h))
goes_over m w fine c v (posts a b d h) = steps m (same_as w v _ m h refl) (posts a b d (ap (over m) h))
goes_over m w fine c v (commits a b d e f g h) =
    steps m
    (subst (λ x. Told w x m m) (sym h) (old_frames w (after_commit c b (goal_range a) d w) m (fewer_frames w.slots b)))
    (commits a b d e f g (ap (over m) h))
goes_over m w fine c v (takes a b d e f h) = steps m (same_as w v _ m h refl) (takes a b d e f (ap (over m) h))
goes_over m w fine c v (zeroes a b d e f g h) =
    let u = (call_at (over m w) c (Fill a (Some b)) e fine.order).ready.0 in
    let n : ℕ → Bytes = (after_zeros c a b d (over m w)).memory.bytes in
    steps n
    (fills_one w v (after_zeros c a b d w) m c b a.page (info_with_frame b (w.slots.info a.page)) _ fine h refl (ap taken_in e)
    (framed_now w.made.file (w.slots.info a.page) a.access None b u)
    (shown_told w.made.file (over m w).memory (w.slots.info a.page) a.access None u))
    (zeroes a b d e f g (ap (over n) h))
goes_over m w fine c v (first_copies a b d e f g h) =
    let u = (call_at (over m w) c (Fill a (Some b)) e fine.order).ready.0 in
    let n : ℕ → Bytes = (after_first_copy c a b d (over m w)).memory.bytes in
    steps n
    (fills_one w v (after_first_copy c a b d w) m c b a.page (info_with_frame b (w.slots.info a.page)) _ fine h refl (ap taken_in e)
    (framed_now w.made.file (w.slots.info a.page) a.access None b u)
    (shown_told w.made.file (over m w).memory (w.slots.info a.page) a.access None u))
    (first_copies a b d e f g (ap (over n) h))
goes_over m w fine c v (caches a b d e f g i h) =
    let u = (call_at (over m w) c (Fill a (Some b)) e fine.order).ready.0 in
    let n : ℕ → Bytes = (after_caching c a b d (over m w)).memory.bytes in
    steps n
    (fills_one w v (after_caching c a b d w) m c b a.page (info_with_frame b (w.slots.info a.page)) _ fine h refl (ap taken_in e)
    (framed_now w.made.file (w.slots.info a.page) a.access None b u)
    (shown_told w.made.file (over m w).memory (w.slots.info a.page) a.access None u))
    (caches a b d e f g i (ap (over n) h))
goes_over m w fine c v (shares a b d e f g i j h) =
    steps m (nothing_new w v m unmade) (shares a b d e f g i j (ap (over m) h))
  where
    -- a file has the frame
    filed : (back : Back) → file_frame w.memory.cached back ≡ Some d → ((n k : ℕ) → w.memory.cached n k ≢ Some d) → ⊥
    filed Anon is none = cc
    filed (Shared n k) is none = none n k is
    filed (Private n k) is none = none n k is

    unmade : (p x : ℕ) → Fills w v p x → ⊥
    unmade p x k = put_all (λ p o. frame_of o ≡ Some x → frame_of (w.slots.info p) ≢ Some x → ⊥) w.slots.info a.page
        (info_with_frame d (w.slots.info a.page))
        (λ at ne. filed (back_of (w.slots.info a.page)) i (subst (λ y. (n l : ℕ) → w.memory.cached n l ≢ Some y)
        (sym (new_frame d (w.slots.info a.page) x at)) k.uncached))
        (λ p other at ne. ne at) p (subst (λ (y : World). frame_of (y.slots.info p) ≡ Some x) h k.now) k.before
goes_over m w fine c v (posts_copy a b d h) = steps m (same_as w v _ m h refl) (posts_copy a b d (ap (over m) h))
goes_over m w fine c v (copies a b d e f g i j h) =
    let r = (call_at (over m w) c (CopyAcks a b) f fine.order).ready in
    let n : ℕ → Bytes = (after_copy c a b d e (over m w)).memory.bytes in
    steps n
    (fills_one w v (after_copy c a b d e w) m c b a.page (info_with_copy b (w.slots.info a.page)) (m d) fine h refl (ap taken_in f)
    (copied_now w.made.file (w.slots.info a.page) a.access (Some r.0) b r.1)
    (copy_told w.made.file m w.memory.cached (back_of (w.slots.info a.page)) d
    (is_it (file_frame w.memory.cached (back_of (w.slots.info a.page))) d
    (subst (λ x. shows_file w.memory.cached (back_of (w.slots.info a.page)) x ≡ true)
    (same_frame w.made.file (w.slots.info a.page) a.access r.0 d r.1 i) r.2.shown))))
    (copies a b d e f g i j (ap (over n) h))
goes_over m w fine c v (installs a b h) =
    steps m
    (subst (λ x. Told w x m m) (sym h) (old_frames w (after_install c a w) m (λ p x.
    put_all (λ p o. frame_of o ≡ Some x → frame_of (w.slots.info p) ≡ Some x) w.slots.info a.page (info_with_core c (w.slots.info a.page))
    (λ k. sym (same_with_core c (w.slots.info a.page)) ∙ k) (λ p ne k. k) p)))
    (installs a b (ap (over m) h))
goes_over m w fine c v (accesses a b d e h) = served a b d (same_as w v _ m h refl) h
goes_over m w fine c v (faults a b d h) = steps m (same_as w v _ m h refl) (faults a b d (ap (over m) h))

works_over : (m : ℕ → Bytes) (w : World) (c : ℕ) (e : Event) (v : World) → Works w c e v → Works (over m w) c e (over m v) × Told w v m m
works_over m w c e v (clears a b d h) = (clears a b d (ap (over m) h), same_as w v _ m h refl)
works_over m w c e v (invalidates a b d h) = (invalidates a b d (ap (over m) h), same_as w v _ m h refl)
works_over m w c e v (walks a b d h) = (walks a b d (ap (over m) h), same_as w v _ m h refl)
works_over m w c e v (evicts a b d h) = (evicts a b d (ap (over m) h), same_as w v _ m h refl)
works_over m w c e v (flushes a b d f h) = (flushes a b d f (ap (over m) h), same_as w v _ m h refl)
works_over m w c e v (reviews a b d f h) = (reviews a b d f (ap (over m) h), same_as w v _ m h refl)
works_over m w c e v (frees a b d f h) = (frees a b d f (ap (over m) h), same_as w v _ m h refl)

rests_over : (m : ℕ → Bytes) (w : World) (e : Event) (o : Outcome) → Rests w e o → Rests (over m w) e o
rests_over m w e o (absent a b) = absent a b
rests_over m w e o (busy a b d f g) = busy a b d f g
rests_over m w e o (full a b d f g) = full a b d f g
rests_over m w e o (free a b d f) = free a b d f
rests_over m w e o (cannot a b d) = cannot a b d
rests_over m w e o (waits a b d f g h i j k) = waits a b d f g h i j k
rests_over m w e o (awaits a b d f g h i) = awaits a b d f g h i

data Comes2 (w : World) (e : Event) (o : Outcome) (v : World) (m : ℕ → Bytes) : Type 0 where
  shaped : (n : ℕ → Bytes) → Told w v m n → Shape (over m w) e o (over n v) → Comes2 w e o v m
  by_access : (c : ℕ) (touch : Touch) (f : ℕ) → w.calls.phase c ≡ Try touch → Told w v m m
      → v ≡ after_access c touch f (with_hardware (after_translating w.hardware c touch) w) → Comes2 w e o v m

shape_over : (m : ℕ → Bytes) (w : World) → IsShown (over m w) → (e : Event) (o : Outcome) (v : World) → Shape w e o v
    → Comes2 w e o v m
shape_over m w fine e o v (rests i h) = shaped m (same_as w v _ m h refl) (rests (rests_over m w e o i) (ap (over m) h))
shape_over m w fine e o v (begins a b d f g i j h) = shaped m (same_as w v _ m h refl) (begins a b d f g i j (ap (over m) h))
shape_over m w fine e o v (ends a b d f g i h) = shaped m (same_as w v _ m h refl) (ends a b d f g i (ap (over m) h))
shape_over m w fine e o v (goes c i s lt g) = go (goes_over m w fine c v g)
  where
    go : Goes w c v m → Comes2 w e o v m
    go (steps n told k) = shaped n told (goes c i s lt k)
    go (served touch f p told h) = by_access c touch f p told h
shape_over m w fine e o v (aims a b d f g i j h) = shaped m (same_as w v _ m h refl) (aims a b d f g i j (ap (over m) h))
shape_over m w fine e o v (gives_up a b d f g i h) = shaped m (same_as w v _ m h refl) (gives_up a b d f g i (ap (over m) h))
shape_over m w fine e o v (works c s lt k) = let z = works_over m w c e v k in shaped m z.1 (works c s lt z.0)
shape_over m w fine e o v (joins a b d f g i j h) = shaped m (same_as w v _ m h i.info) (joins a b d f g i j (ap (over m) h))

-- ---- an access that was served

byte_or_done : (access : Access) (byte : ℕ) → (byte_reply access byte ≡ Done) ⊎ ((b : ℕ) × (byte_reply access byte ≡ Byte b))
byte_or_done Store byte = inl refl
byte_or_done Load byte = inr (byte, refl)
byte_or_done Fetch byte = inr (byte, refl)

-- only an access comes to one
touches : (core : ℕ) (request : Request) (touch : Touch) → plan_of core request ≡ Ok (PlanOf.Touch touch) → is_access request ≡ true
touches core (Mmap addr len prot flags file off) touch h = by flags.fixed h
  where
    by : (b : Bool) → ◌≡◌ {A = Result Plan Reply} (if b then Ok (PlanOf.Change (Put (pages_of addr len) (meta_of prot flags file off)))
        else Ok (PlanOf.Place (place_of core addr len (meta_of prot flags file off)))) (Ok (PlanOf.Touch touch)) → false ≡ true
    by true e = absurd cc
    by false e = absurd cc
touches core (Munmap addr len) touch h = absurd cc
touches core (Mprotect addr len prot) touch h = absurd cc
touches core _ touch h = refl

its_access : (w : World) (c : ℕ) (touch : Touch) (reply : Reply) → w.calls.phase c ≡ Try touch → IsOrderly w
    → (reply ≡ Done) ⊎ ((b : ℕ) × (reply ≡ Byte b)) → IsServed w.calls.requests (answer_entry w c reply)
its_access w c touch reply p order is =
    let k = call_at w c (Try touch) p order in (
      k.asked.request,
      k.asked.number,
      touches c k.asked.request touch
          (passed (refusal (λ n. mode_of (w.made.file n)) k.asked.request) (plan_of c k.asked.request) (PlanOf.Touch touch) k.asked.passed).1,
      is,
    )

-- ---- every step

pub record Led (w v : World) (m : ℕ → Bytes) (t : Plain) : Type 0 where
  pub after : ℕ → Bytes
  pub plain : Plain
  pub told : Told w v m after
  pub shown : ShowsWith v after plain
  pub leads : EntriesLead w v t plain

pub step_led : (w v : World) (e : Event) (o : Outcome) → whole.IsWellFormed w → Step w e o v → (m : ℕ → Bytes) (t : Plain) → ShowsWith w m t
    → Led w v m t
step_led w v e o well s m t shown = go (comes w e o v s)
  where
    x : World
    x = with_event w

    fine : IsShown (over m x)
    fine = record {
      plain = t;
      order = record {
        asked = well.order.asked;
        owned = well.order.owned;
        only = well.order.only;
        cut = well.order.cut;
        cut_out = well.order.cut_out;
        ready = well.order.ready;
        pages = well.order.pages;
        taken = well.order.taken;
        memory = record {
          free = well.order.memory.free;
          cached = well.order.memory.cached;
          reached = well.order.memory.reached;
          cores = well.order.memory.cores;
          objects = well.order.memory.objects;
        };
        outside = well.order.outside;
        few = well.order.few;
        room = well.order.room;
        limit = well.order.limit;
      };
      coherent = well.coherent;
      counted = record {
        page_in = well.counted.page_in;
        caches = well.counted.caches;
        cached = well.counted.cached;
        users = well.counted.users;
        free = well.counted.free;
        taken = well.counted.taken;
        busy = well.counted.busy;
        alone = well.counted.alone;
      };
      good = shown;
    }

    so : Comes2 x e o v m → Led w v m t
    so (shaped n told k) =
        let l : Leaves (over m x) t e (over n v) = shape_left (over m x) e o (over n v) fine k in
        record {
          after = n;
          plain = l.plain;
          told = record { told = told.told; only = told.only };
          shown = l.good;
          leads = elim l.leads [
            | inl same ↦ inl same
            | inr made ↦ inr (made.0, made.1, inr made.2)
          ];
        }
    so (by_access c touch f p told h) = record {
      after = m;
      plain = t;
      told = record { told = told.told; only = told.only };
      shown = subst (λ (y : World). ShowsWith y m t) (sym h) shown;
      leads = inr (
        answer_entry x c (reply_of touch f w.memory),
        ap (λ (y : World). y.calls.log) h,
        inl (
          subst (λ (y : World). IsServed y.calls.requests (answer_entry x c (reply_of touch f w.memory))) (sym h)
              (its_access x c touch (reply_of touch f w.memory) p well.order (byte_or_done touch.access (w.memory.bytes f touch.offset))),
          refl,
        ),
      );
    }

    go : Comes w e o v → Led w v m t
    go (stopped n i h) = record {
      after = m;
      plain = t;
      told = same_as w v w m h refl;
      shown = subst (λ (y : World). ShowsWith y m t) (sym h) shown;
      leads = inl (ap (λ (y : World). y.calls.log) h, refl);
    }
    go (happens n h) = so (shape_over m x fine e o v h)

pub steps_lead : (w v : World) (e : Event) (o : Outcome) → IsReached w → Step w e o v → (bytes : ℕ → Bytes) (t : Plain) → ShowsWith w bytes t
    → (after : ℕ → Bytes) × (u : Plain) × Filled w v bytes after × ((other : ℕ → Bytes) → Filled w v bytes other → other ≡ after)
    × ShowsWith v after u × EntriesLead w v t u
steps_lead w v e o reached s m t shown =
    let l = step_led w v e o (reached_fine w reached) s m t shown in
    (l.after, l.plain, l.told.told, l.told.only, l.shown, l.leads)
