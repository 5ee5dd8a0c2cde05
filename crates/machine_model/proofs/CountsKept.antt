-- Every step from an orderly state whose frames are counted leaves one.
use Rattle.machine_model.proofs.Words.{◌≡◌, ◌≢◌, ℕ, ◌<◌, ◌+◌, ◌-◌, ◌^◌, true, false, ◌⊎◌, inl, inr, cond, refl, sym, ap, subst, arith, ◌∙◌, pos, ◌+ℤ◌, ◌<ℤ◌}
use Rattle.machine_model.proofs.Words.{Some, None, Option, is_some, ints, Back, Anon, Shared, Private, PageInfo, is_anonymous, PageRange, NoMemory, Access}
use Rattle.machine_model.proofs.Words.{Prot, put, has, advance, frame_of, info_with_frame, info_with_prot, unused, IsPage, IsPageRange, pages_from, Bytes}
use Rattle.machine_model.proofs.Words.{File, put_all, put_same, put_other, Counts, true_count, no_counts, Begin, Inc, Dec, Flushing, Reviewing, Takes}
use Rattle.machine_model.proofs.Words.{IsUnused, CountStep, true_counts_move, steps_reach, reached_is_orderly, Change, Put, Clear, Protect, Goal, Place, Touch}
use Rattle.machine_model.proofs.Words.{range_of, goal_range, Slots, IsNew, between, Event, Outcome, Phase, Free, Check, Acks, Fill, CopyPost, CopyAcks}
use Rattle.machine_model.proofs.Words.{Install, Release, after_frame, taken_for, after_install, memory_after, reply_of, info_with_core, info_with_copy}
use Rattle.machine_model.proofs.Words.{back_of, file_frame, with_cached, after_zeros, after_first_copy, after_caching, after_sharing, after_copy, CountsCopy}
use Rattle.machine_model.proofs.Words.{let_go, slots_after, after_commit, CountsLost, reply_to, frame_lost, with_counts, with_free, given_back, after_give_up}
use Rattle.machine_model.proofs.Words.{taken_in, still_held, locking, locked_to, trying, Step, with_event, World, Made, Memory, new_world}
use Rattle.std.proofs.Common.{ℤ}
use Rattle.vm_base.proofs.Functions.{across_all}
use Rattle.refcache.specs.declared.reports.Review.TheVariants as review
use Rattle.refcache.proofs.Reached.{freed_is_unused, unused_at_first}
use Rattle.refcache.proofs.Unused.{unused_stays}
use Rattle.slot_lock.specs.declared.plan.Goal.TheVariants as To
use Rattle.machine_model.specs.Counting.{CountsDown}
use Rattle.machine_model.specs.Orderly.{IsOrderly, IsUsable}
use Rattle.machine_model.proofs.Changed.{same_outside}
use Rattle.machine_model.proofs.Effects.{moves_quiet, locked_quiet, let_go_still, lets_go_still}
use Rattle.machine_model.proofs.Going.{acks_valid}
use Rattle.machine_model.proofs.Moves.{call_at}
use Rattle.machine_model.proofs.Shapes.{IsShowing, GoesBy, moves, divides, cuts, fits, owns, lets_go, answers, posts, commits, takes, zeroes, first_copies}
use Rattle.machine_model.proofs.Shapes.{caches, shares, posts_copy, copies, installs, accesses, faults, Works, clears, invalidates, walks, evicts, flushes}
use Rattle.machine_model.proofs.Shapes.{reviews, frees, Shape, rests, begins, ends, goes, aims, gives_up, works, joins, Comes, stopped, acts as happens, comes}
use Rattle.machine_model.specs.Counted.{FilePage, one_if, IsCounted, IsCountedState}
use Rattle.machine_model.proofs.Pages.{CountsPages, counts_same, counts_none, counts_some, page_up, page_cached}
use Rattle.machine_model.proofs.Pages.{page_over, GiveUpFrames, range_down, none_down, unused_down}

-- ---- frames of pages

-- only valid pages have frames
pub framed_page : (w : World) → IsOrderly w → (f p : ℕ) → frame_of (w.slots.info p) ≡ Some f → p < 2 ^ 35
framed_page w g f p e = (valid (w.slots.info p) (g.pages p).valid e).1
  where
    valid : (o : Option PageInfo) → (is_some o ≡ true → IsPage p) → frame_of o ≡ Some f → IsPage p
    valid None h e = absurd cc
    valid (Some info) h e = h refl

-- a page's frame is counted
pub counted_positive : (w : World) → IsOrderly w → IsCountedState w → (f p : ℕ) → frame_of (w.slots.info p) ≡ Some f
    → pos 0 <ℤ true_count w.memory.counts f
counted_positive w g k f p e = counts_some w.memory.counts (λ f. one_if (k.page_in f)) w.slots.info f p (2 ^ 35) (framed_page w g f p e) k.users e

-- what is unused is no page's frame
pub unused_no_page : (w : World) → IsOrderly w → IsCountedState w → (f p : ℕ) → IsUnused w.memory.counts f
    → frame_of (w.slots.info p) ≢ Some f
unused_no_page w g k f p u e = let a = counted_positive w g k f p e in let b = u.zero in omega (arith, ints, a, b)

-- what is unused caches no file page
pub unused_caches : (w : World) (k : IsCountedState w) (f : ℕ) → IsUnused w.memory.counts f → k.page_in f ≡ None
unused_caches w k f u = go (k.page_in f) refl
  where
    go : (o : Option FilePage) → k.page_in f ≡ o → o ≡ None
    go None e = refl
    go (Some x) e = absurd (let a : one_if (k.page_in f) ≡ 1 = ap one_if e in let b = k.users f in let c = u.zero in omega (arith, ints, a, b, c))

-- a frame that caches a file page is counted
pub cached_positive : (w : World) → IsCountedState w → (n l f : ℕ) → w.memory.cached n l ≡ Some f → pos 0 <ℤ true_count w.memory.counts f
cached_positive w k n l f e =
    let a : one_if (k.page_in f) ≡ 1 = ap one_if (k.caches n l f e) in let b = k.users f in omega (arith, ints, a, b)

-- ---- frames that calls have taken

-- the call of core c moves on to a phase without such a frame
others : (phase : ℕ → Phase) (c : ℕ) (new : Phase) → taken_in new ≡ None → (d f : ℕ)
    → taken_in (put phase c new d) ≡ Some f → (d ≢ c) × (taken_in (phase d) ≡ Some f)
others phase c new none d f =
    put_all (λ d x. taken_in x ≡ Some f → (d ≢ c) × (taken_in (phase d) ≡ Some f)) phase c new
    (λ h. absurd cc) (λ d ne h. (ne, h)) d

-- ---- what changes neither frames of pages nor free frames

-- no call takes a frame, and nothing is made use of that was unused
stays : (w : World) (info : ℕ → Option PageInfo) (phase : ℕ → Phase) (m : Memory) (k : IsCountedState w) → m.cached ≡ w.memory.cached
    → CountsPages m.counts (λ f. one_if (k.page_in f)) info (2 ^ 35) → ((f : ℕ) → IsUnused w.memory.counts f → IsUnused m.counts f)
    → m.is_free ≡ w.memory.is_free
    → ((d f : ℕ) → taken_in (phase d) ≡ Some f → taken_in (w.calls.phase d) ≡ Some f) → IsCounted info phase m
stays w info phase m k same users unused free taken = record {
  page_in = k.page_in;
  caches = λ n l f h. k.caches n l f (sym (ap (λ cached. cached n l) same) ∙ h);
  cached = λ f x h. ap (λ cached. cached x.file x.page) same ∙ k.cached f x h;
  users = users;
  free = λ f h. unused f (k.free f (sym (ap (λ g. g f) free) ∙ h));
  taken = λ d f h. unused f (k.taken d f (taken d f h));
  busy = λ d f h. ap (λ g. g f) free ∙ k.busy d f (taken d f h);
  alone = λ c d f h i. k.alone c d f (taken c f h) (taken d f i);
}

-- the call of core c goes on, and no page gains or loses a frame
goes_on : (w : World) (c : ℕ) (new : Phase) (t : Slots) (m : Memory) → IsCountedState w → m.cached ≡ w.memory.cached
    → ((d f : ℕ) → taken_in (put w.calls.phase c new d) ≡ Some f → taken_in (w.calls.phase d) ≡ Some f)
    → ((p : ℕ) → frame_of (t.info p) ≡ frame_of (w.slots.info p)) → m.counts ≡ w.memory.counts
    → m.is_free ≡ w.memory.is_free → IsCounted t.info (put w.calls.phase c new) m
goes_on w c new t m k kept taken same counts free =
    stays w t.info (put w.calls.phase c new) m k kept
    (subst (λ x. CountsPages x (λ f. one_if (k.page_in f)) t.info (2 ^ 35)) (sym counts)
    (counts_same w.memory.counts (λ f. one_if (k.page_in f)) w.slots.info t.info (2 ^ 35) same k.users))
    (λ f u. subst (λ x. IsUnused x f) (sym counts) u) free taken

-- a call in a phase without a taken frame
none_more : (w : World) (c : ℕ) (new : Phase) → taken_in new ≡ None → (d f : ℕ) → taken_in (put w.calls.phase c new d) ≡ Some f
    → taken_in (w.calls.phase d) ≡ Some f
none_more w c new none d f h = (others w.calls.phase c new none d f h).1

-- and nothing but the call changes
moved : (w : World) (c : ℕ) (new : Phase) → IsCountedState w → taken_in new ≡ None
    → IsCounted w.slots.info (put w.calls.phase c new) w.memory
moved w c new k none = goes_on w c new w.slots w.memory k refl (none_more w c new none) (λ p. refl) refl refl

-- the call goes on with the frame that it has taken
carries : (w : World) (c : ℕ) (old new : Phase) → IsCountedState w → w.calls.phase c ≡ old → taken_in new ≡ taken_in old
    → IsCounted w.slots.info (put w.calls.phase c new) w.memory
carries w c old new k e same =
    goes_on w c new w.slots w.memory k refl
    (λ d f. put_all (λ d x. taken_in x ≡ Some f → taken_in (w.calls.phase d) ≡ Some f) w.calls.phase c new
    (λ h. ap taken_in e ∙ (sym same ∙ h)) (λ d ne h. h) d)
    (λ p. refl) refl refl

-- slots are divided or joined
other_slots : (w : World) (t : Slots) → IsCountedState w → t.info ≡ w.slots.info
    → IsCounted t.info w.calls.phase w.memory
other_slots w t k same = subst (λ info. IsCounted info w.calls.phase w.memory) (sym same) k

-- a core is recorded on a page
pub same_with_core : (c : ℕ) (o : Option PageInfo) → frame_of (info_with_core c o) ≡ frame_of o
same_with_core c None = refl
same_with_core c (Some info) = refl

installs_kept : (w : World) (c : ℕ) (touch : Touch) → IsCountedState w → IsCountedState (after_install c touch w)
installs_kept w c touch k = goes_on w c (Release touch) (after_install c touch w).slots w.memory k refl (none_more w c (Release touch) refl) same refl refl
  where
    same : (p : ℕ) → frame_of ((after_install c touch w).slots.info p) ≡ frame_of (w.slots.info p)
    same = put_all (λ p x. frame_of x ≡ frame_of (w.slots.info p)) w.slots.info touch.page _
        (same_with_core c (w.slots.info touch.page)) (λ p ne. refl)

-- a step of Refcache that moves no true count
counts_kept : (w : World) (step : CountStep) (counts : Counts) → IsOrderly w → IsCountedState w
    → Takes w.memory.counts step counts → ((f n : ℕ) → step ≢ Begin f n)
    → ((f : ℕ) → true_count counts f ≡ true_count w.memory.counts f)
    → IsCounted w.slots.info w.calls.phase (record w.memory { counts = counts })
counts_kept w step counts g k t other same =
    stays w w.slots.info w.calls.phase (record w.memory { counts = counts }) k refl (λ f. same f ∙ k.users f)
    (λ f u. unused_stays w.memory.counts step counts f g.memory.reached t u (other f)) refl (λ d f h. h)

plus_zero : (z : ℤ) → z +ℤ pos 0 ≡ z
plus_zero z = omega (arith, ints)

-- ---- Acks

-- a range is so many pages from its first on
as_pages : (r : PageRange) → IsPageRange r → pages_from r.first (r.end - r.first) ≡ r
as_pages r h =
    let some = h.some in
    let end : r.first + (r.end - r.first) ≡ r.end = omega (arith, some) in
    ap (λ e. between r.first e) end

-- where the pages of the change have no frame after it, they have given up their frames, and core c has counted them down
range_lost : (w : World) (c : ℕ) (change : Change) (counts : Counts) → IsPageRange (range_of change) → (k : IsCountedState w)
    → CountsDown c (λ p. frame_of (w.slots.info p)) (range_of change).first
    ((range_of change).end - (range_of change).first)
    w.memory.counts counts
    → ((p : ℕ) → has (range_of change) p ≡ true → frame_of ((slots_after change w.slots).info p) ≡ None)
    → CountsPages counts (λ f. one_if (k.page_in f)) (slots_after change w.slots).info (2 ^ 35)
range_lost w c change counts h k l gone =
    range_down c (λ p. frame_of (w.slots.info p)) r.first (r.end - r.first) w.memory.counts counts (λ f. one_if (k.page_in f)) w.slots.info
    (slots_after change w.slots).info (2 ^ 35) l
    (let some = h.some in let high = h.high in omega (arith, some, high)) (λ p _. refl)
    (subst (GiveUpFrames w.slots.info (slots_after change w.slots).info) (sym (as_pages r h))
    (record { gone = gone; others = λ p i. ap frame_of (same_outside w.slots change p i) })) k.users
  where
    r : PageRange
    r = range_of change

-- a protected page keeps its frame
pub same_with_prot : (prot : Prot) (o : Option PageInfo) → frame_of (info_with_prot prot o) ≡ frame_of o
same_with_prot prot None = refl
same_with_prot prot (Some info) = refl

-- the counts after the change are those of the pages after it
changed_users : (w : World) (c : ℕ) (change : Change) (counts : Counts) → IsPageRange (range_of change)
    → (k : IsCountedState w) → CountsLost c change w counts
    → CountsPages counts (λ f. one_if (k.page_in f)) (slots_after change w.slots).info (2 ^ 35)
changed_users w c (Put range meta) counts h k l =
    range_lost w c (Put range meta) counts h k l
    (λ p i. ap (λ b. frame_of (cond b (Some (unused (advance meta (p - range.first)))) (w.slots.info p))) i)
changed_users w c (Clear range) counts h k l =
    range_lost w c (Clear range) counts h k l (λ p i. ap (λ b. frame_of (cond b None (w.slots.info p))) i)
changed_users w c (Protect range prot) counts h k l =
    subst (λ x. CountsPages x (λ f. one_if (k.page_in f)) (slots_after (Protect range prot) w.slots).info (2 ^ 35))
    (sym (none_down c range.first (range.end - range.first) w.memory.counts counts l))
    (counts_same w.memory.counts (λ f. one_if (k.page_in f)) w.slots.info _ (2 ^ 35)
    (across_all (λ p x. frame_of x ≡ frame_of (w.slots.info p)) w.slots.info (has range)
    (λ p. info_with_prot prot (w.slots.info p))
    (λ p i. same_with_prot prot (w.slots.info p)) (λ p i. refl)) k.users)

commits_kept : (w : World) (c : ℕ) (goal : Goal) (change : Change) (counts : Counts) → IsOrderly w
    → IsCountedState w → w.calls.phase c ≡ Acks goal change → CountsLost c change w counts
    → IsCountedState (after_commit c change (goal_range goal) counts w)
commits_kept w c goal change counts g k e l =
    stays w (slots_after change w.slots).info (put w.calls.phase c (let_go (Some (goal_range goal)) (reply_to change)))
    (with_counts counts w).memory k refl
    (changed_users w c change counts (acks_valid w c goal change g e) k l)
    (λ f u. unused_down c (frame_lost change w.slots.info) _ _ w.memory.counts counts f g.memory.reached l u) refl
    (λ d f h. (others w.calls.phase c (let_go (Some (goal_range goal)) (reply_to change)) refl d f h).1)

-- ---- Want

-- the frame that the call takes was free, so no other call has taken it
takes_kept : (w : World) (c : ℕ) (touch : Touch) (old : Option ℕ) (f : ℕ) → IsCountedState w → w.memory.is_free f ≡ true
    → IsCountedState (after_frame c touch old f w)
takes_kept w c touch old f k was_free = record {
  page_in = k.page_in;
  caches = k.caches;
  cached = k.cached;
  users = k.users;
  free = put_all (λ g b. b ≡ true → IsUnused w.memory.counts g) w.memory.is_free f false
      (λ h. absurd cc) (λ g ne h. k.free g h);
  taken = λ d g h. unused d g (taken d g h);
  busy = λ d g h. busy d g (taken d g h);
  alone = λ a b g h i. alone a b g (taken a g h) (taken b g i);
}
  where
    -- the call has taken this frame, or a call had taken it before
    Taken : ℕ → ℕ → Type 0
    Taken d g = ((d ≡ c) × (g ≡ f)) ⊎ (taken_in (w.calls.phase d) ≡ Some g)

    its : (old : Option ℕ) → taken_in (taken_for touch old f) ≡ Some f
    its None = refl
    its (Some x) = refl

    taken : (d g : ℕ) → taken_in (put w.calls.phase c (taken_for touch old f) d) ≡ Some g → Taken d g
    taken d g = put_all (λ d x. taken_in x ≡ Some g → Taken d g) w.calls.phase c (taken_for touch old f)
        (λ h. inl (refl, let a = its old in let e : f ≡ g = cc in sym e)) (λ d ne h. inr h) d

    unused : (d g : ℕ) → Taken d g → IsUnused w.memory.counts g
    unused d g (inl h) = subst (IsUnused w.memory.counts) (sym h.1) (k.free f was_free)
    unused d g (inr h) = k.taken d g h

    busy : (d g : ℕ) → Taken d g → put w.memory.is_free f false g ≡ false
    busy d g (inl h) = ap (put w.memory.is_free f false) h.1 ∙ put_same w.memory.is_free f false
    busy d g (inr h) = put_all (λ g b. w.memory.is_free g ≡ false → b ≡ false) w.memory.is_free f false
        (λ _. refl) (λ g ne i. i) g (k.busy d g h)

    clash : (d g : ℕ) → g ≡ f → taken_in (w.calls.phase d) ≡ Some g → ⊥
    clash d g e h = let a = k.busy d g h in let b : w.memory.is_free g ≡ true = ap w.memory.is_free e ∙ was_free in cc

    alone : (a b g : ℕ) → Taken a g → Taken b g → a ≡ b
    alone a b g (inl h) (inl i) = h.0 ∙ sym i.0
    alone a b g (inl h) (inr i) = absurd (clash b g h.1 i)
    alone a b g (inr h) (inl i) = absurd (clash a g i.1 h)
    alone a b g (inr h) (inr i) = k.alone a b g h i

-- ---- Fill

-- the page is mapped, has no frame, and can get this one
abbrev LacksFrame : Option PageInfo → ℕ → Type 0
LacksFrame o f = (is_some o ≡ true) × (frame_of o ≡ None) × (frame_of (info_with_frame f o) ≡ Some f)

-- a page that an access can use, and that has no frame
usable_page : (file : ℕ → Option File) (o : Option PageInfo) (access : Access) (f : ℕ) → IsUsable file o access None
    → LacksFrame o f
usable_page file None access f u = absurd u
usable_page file (Some info) access f u = (refl, u.2, refl)

-- a page that has none yet
page_lacks : (w : World) (c : ℕ) (touch : Touch) (own : Option ℕ) (f : ℕ) → IsOrderly w → w.calls.phase c ≡ Fill touch own
    → LacksFrame (w.slots.info touch.page) f
page_lacks w c touch own f g e = usable_page w.made.file (w.slots.info touch.page) touch.access f (call_at w c (Fill touch own) e g).ready.0

-- The frame that a call had taken is in use from here on, and nothing else that was unused is. So it is neither free nor another's.
record Uses (w : World) (c f : ℕ) (new : Phase) (counts : Counts) : Type 0 where
  free : (x : ℕ) → w.memory.is_free x ≡ true → IsUnused counts x
  taken : (d x : ℕ) → taken_in (put w.calls.phase c new d) ≡ Some x → IsUnused counts x
  busy : (d x : ℕ) → taken_in (put w.calls.phase c new d) ≡ Some x → w.memory.is_free x ≡ false
  alone : (a b x : ℕ) → taken_in (put w.calls.phase c new a) ≡ Some x → taken_in (put w.calls.phase c new b) ≡ Some x → a ≡ b

uses : (w : World) (c f : ℕ) (new : Phase) (counts : Counts) → IsCountedState w → taken_in (w.calls.phase c) ≡ Some f → taken_in new ≡ None
    → ((x : ℕ) → x ≢ f → IsUnused w.memory.counts x → IsUnused counts x) → Uses w c f new counts
uses w c f new counts k mine none unused = record {
  free = λ x h. unused x (λ i. clash (ap w.memory.is_free (sym i) ∙ h)) (k.free x h);
  taken = λ d x h. let o = other d x h in
      unused x (λ i. o.0 (k.alone d c x o.1 (mine ∙ ap Some (sym i)))) (k.taken d x o.1);
  busy = λ d x h. k.busy d x (other d x h).1;
  alone = λ a b x h i. k.alone a b x (other a x h).1 (other b x i).1;
}
  where
    clash : w.memory.is_free f ≡ true → ⊥
    clash h = let a = k.busy c f mine in cc

    other : (d x : ℕ) → taken_in (put w.calls.phase c new d) ≡ Some x → (d ≢ c) × (taken_in (w.calls.phase d) ≡ Some x)
    other = others w.calls.phase c new none

-- a step of Refcache at which a count begins makes use of no other object
begun_unused : (w : World) (f n : ℕ) (counts : Counts) → IsOrderly w → Takes w.memory.counts (Begin f n) counts
    → (x : ℕ) → x ≢ f → IsUnused w.memory.counts x → IsUnused counts x
begun_unused w f n counts g t x ne u =
    unused_stays w.memory.counts (Begin f n) counts x g.memory.reached t u (λ n i. ne (let b : f ≡ x = cc in sym b))

-- the page has a frame of its own, of zeros or with a copy
owned_kept : (w : World) (c : ℕ) (touch : Touch) (f : ℕ) (counts : Counts) (bytes : ℕ → Bytes) → IsOrderly w → IsCountedState w
    → w.calls.phase c ≡ Fill touch (Some f) → Takes w.memory.counts (Begin f 1) counts
    → IsCounted (put w.slots.info touch.page (info_with_frame f (w.slots.info touch.page))) (put w.calls.phase c (Install touch))
    (record w.memory { bytes = bytes; counts = counts })
owned_kept w c touch f counts bytes g k e t = record {
  page_in = k.page_in;
  caches = k.caches;
  cached = k.cached;
  users = page_up w.memory.counts counts (λ f. one_if (k.page_in f)) (Begin f 1) w.slots.info touch.page f
      (info_with_frame f (w.slots.info touch.page)) (2 ^ 35)
      ((g.pages touch.page).valid page.0).1 page.1 page.2 (λ g. refl) t k.users;
  free = u.free;
  taken = u.taken;
  busy = u.busy;
  alone = u.alone;
}
  where
    page : LacksFrame (w.slots.info touch.page) f
    page = page_lacks w c touch (Some f) f g e

    u : Uses w c f (Install touch) counts
    u = uses w c f (Install touch) counts k (ap taken_in e) refl (begun_unused w f 1 counts g t)

-- ---- a file page is cached

-- one frame caches this file page from here on
record Caches (old : ℕ → Option FilePage) (cached now : ℕ → ℕ → Option ℕ) (f : ℕ) : Type 0 where
  page_in : ℕ → Option FilePage
  caches : (n l x : ℕ) → now n l ≡ Some x → page_in x ≡ Some (record { file = n; page = l })
  cached_in : (x : ℕ) (y : FilePage) → page_in x ≡ Some y → now y.file y.page ≡ Some x
  one_more : one_if (page_in f) ≡ 1
  others : (x : ℕ) → x ≢ f → one_if (page_in x) ≡ one_if (old x)

caches_at : (old : ℕ → Option FilePage) (cached : ℕ → ℕ → Option ℕ) (m k f : ℕ) → old f ≡ None → cached m k ≡ None
    → ((n l x : ℕ) → cached n l ≡ Some x → old x ≡ Some (record { file = n; page = l }))
    → ((x : ℕ) (y : FilePage) → old x ≡ Some y → cached y.file y.page ≡ Some x)
    → Caches old cached (put cached m (put (cached m) k (Some f))) f
caches_at old cached m k f none uncached to from = record {
  page_in = put old f (Some new);
  caches = λ n l x. put_all (λ n pages. pages l ≡ Some x → put old f (Some new) x ≡ Some (record { file = n; page = l })) cached m
      (put (cached m) k (Some f))
      (put_all (λ l o. o ≡ Some x → put old f (Some new) x ≡ Some (record { file = m; page = l })) (cached m) k (Some f)
      (λ h. let same : f ≡ x = cc in subst (λ x. put old f (Some new) x ≡ Some new) same (put_same old f (Some new)))
      (λ l ne h. kept m l x h) l)
      (λ n ne h. kept n l x h) n;
  cached_in = λ x y. put_all (λ x o. o ≡ Some y → now y.file y.page ≡ Some x) old f (Some new)
      (λ h. let same : new ≡ y = cc in subst (λ y. now y.file y.page ≡ Some f) same here)
      (λ x ne h. stays y x (from x y h)) x;
  one_more = ap one_if (put_same old f (Some new));
  others = λ x ne. ap one_if (put_other old f (Some new) x ne);
}
  where
    new : FilePage
    new = record { file = m; page = k }

    now : ℕ → ℕ → Option ℕ
    now = put cached m (put (cached m) k (Some f))

    here : now m k ≡ Some f
    here = ap (λ pages. pages k) (put_same cached m (put (cached m) k (Some f))) ∙ put_same (cached m) k (Some f)

    -- a frame that cached a file page is another
    kept : (n l x : ℕ) → cached n l ≡ Some x → put old f (Some new) x ≡ Some (record { file = n; page = l })
    kept n l x h = put_other old f (Some new) x (λ at. let a = to n l x h in let b = ap old at in cc) ∙ to n l x h

    stays : (y : FilePage) (x : ℕ) → cached y.file y.page ≡ Some x → now y.file y.page ≡ Some x
    stays y x h = put_all (λ n pages. cached n y.page ≡ Some x → pages y.page ≡ Some x) cached m (put (cached m) k (Some f))
        (put_all (λ l o. cached m l ≡ Some x → o ≡ Some x) (cached m) k (Some f) (λ h. absurd cc) (λ l ne h. h) y.page)
        (λ n ne h. h) y.file h

caches_by : (w : World) (k : IsCountedState w) (back : Back) (f : ℕ) → back ≢ Anon → IsUnused w.memory.counts f
    → file_frame w.memory.cached back ≡ None → Caches k.page_in w.memory.cached (with_cached w.memory.cached back f) f
caches_by w k Anon f of_file u none = absurd (of_file refl)
caches_by w k (Shared m l) f of_file u none = caches_at k.page_in w.memory.cached m l f (unused_caches w k f u) none k.caches k.cached
caches_by w k (Private m l) f of_file u none = caches_at k.page_in w.memory.cached m l f (unused_caches w k f u) none k.caches k.cached

caches_kept : (w : World) (c : ℕ) (touch : Touch) (f : ℕ) (counts : Counts) → IsOrderly w → IsCountedState w
    → w.calls.phase c ≡ Fill touch (Some f) → IsShowing (w.slots.info touch.page) touch.access
    → file_frame w.memory.cached (back_of (w.slots.info touch.page)) ≡ None → Takes w.memory.counts (Begin f 2) counts
    → IsCountedState (after_caching c touch f counts w)
caches_kept w c touch f counts g k e is_shown none t = record {
  page_in = more.page_in;
  caches = more.caches;
  cached = more.cached_in;
  users = page_cached w.memory.counts counts (λ f. one_if (k.page_in f)) (λ f. one_if (more.page_in f)) w.slots.info touch.page f
      (info_with_frame f (w.slots.info touch.page)) (2 ^ 35) ((g.pages touch.page).valid page.0).1 page.1 page.2
      (ap one_if (unused_caches w k f mine)) more.one_more more.others t k.users;
  free = u.free;
  taken = u.taken;
  busy = u.busy;
  alone = u.alone;
}
  where
    page : LacksFrame (w.slots.info touch.page) f
    page = page_lacks w c touch (Some f) f g e

    mine : IsUnused w.memory.counts f
    mine = k.taken c f (ap taken_in e)

    more : Caches k.page_in w.memory.cached (with_cached w.memory.cached (back_of (w.slots.info touch.page)) f) f
    more = caches_by w k (back_of (w.slots.info touch.page)) f (λ a. let b = is_shown.of_file in let d = ap is_anonymous a in cc) mine none

    u : Uses w c f (Install touch) counts
    u = uses w c f (Install touch) counts k (ap taken_in e) refl (begun_unused w f 2 counts g t)

-- ---- a page shows the frame that caches its file page

shares_kept : (w : World) (c : ℕ) (touch : Touch) (own : Option ℕ) (x : ℕ) (counts : Counts) → IsOrderly w → IsCountedState w
    → w.calls.phase c ≡ Fill touch own → Takes w.memory.counts (Inc c x) counts → IsCountedState (after_sharing c touch own x counts w)
shares_kept w c touch own x counts g k e t = record {
  page_in = k.page_in;
  caches = k.caches;
  cached = k.cached;
  users = page_up w.memory.counts counts (λ f. one_if (k.page_in f)) (Inc c x) w.slots.info touch.page x
      (info_with_frame x (w.slots.info touch.page)) (2 ^ 35)
      ((g.pages touch.page).valid page.0).1 page.1 page.2 (λ g. refl) t k.users;
  free = λ f h. elim (back own f h) [
    | inl same ↦ unused f (k.taken c f (ap taken_in e ∙ same))
    | inr was ↦ unused f (k.free f was)
  ];
  taken = λ d f h. unused f (k.taken d f (other d f h).1);
  busy = λ d f h. let o = other d f h in stays own f (λ same. o.0 (k.alone d c f o.1 (ap taken_in e ∙ same))) (k.busy d f o.1);
  alone = λ a b f h i. k.alone a b f (other a f h).1 (other b f i).1;
}
  where
    page : (is_some (w.slots.info touch.page) ≡ true) × (frame_of (w.slots.info touch.page) ≡ None)
        × (frame_of (info_with_frame x (w.slots.info touch.page)) ≡ Some x)
    page = page_lacks w c touch own x g e

    unused : (f : ℕ) → IsUnused w.memory.counts f → IsUnused counts f
    unused f u = unused_stays w.memory.counts (Inc c x) counts f g.memory.reached t u (λ n i. cc)

    other : (d f : ℕ) → taken_in (put w.calls.phase c (Install touch) d) ≡ Some f → (d ≢ c) × (taken_in (w.calls.phase d) ≡ Some f)
    other = others w.calls.phase c (Install touch) refl

    -- what is free was, or went back
    back : (o : Option ℕ) (f : ℕ) → given_back o w.memory.is_free f ≡ true → (o ≡ Some f) ⊎ (w.memory.is_free f ≡ true)
    back None f h = inr h
    back (Some y) f h = put_all (λ f b. b ≡ true → (Some y ≡ Some f) ⊎ (w.memory.is_free f ≡ true)) w.memory.is_free y true
        (λ _. inl refl) (λ f ne i. inr i) f h

    stays : (o : Option ℕ) (f : ℕ) → (o ≡ Some f → ⊥) → w.memory.is_free f ≡ false → given_back o w.memory.is_free f ≡ false
    stays None f ne h = h
    stays (Some y) f ne h = put_other w.memory.is_free y true f (λ at. ne (ap Some (sym at))) ∙ h

-- ---- a page has a copy in place of the frame that shows its file page

copied_frame : (f : ℕ) (o : Option PageInfo) → is_some o ≡ true → frame_of (info_with_copy f o) ≡ Some f
copied_frame f None h = absurd cc
copied_frame f (Some info) h = refl

framed_some : (o : Option PageInfo) (x : ℕ) → frame_of o ≡ Some x → is_some o ≡ true
framed_some None x h = absurd cc
framed_some (Some info) x h = refl

copies_kept : (w : World) (c : ℕ) (touch : Touch) (f x : ℕ) (counts : Counts) → IsOrderly w → IsCountedState w
    → w.calls.phase c ≡ CopyAcks touch f → frame_of (w.slots.info touch.page) ≡ Some x → CountsCopy c f x w.memory.counts counts
    → IsCountedState (after_copy c touch f x counts w)
copies_kept w c touch f x counts g k e had t = record {
  page_in = k.page_in;
  caches = k.caches;
  cached = k.cached;
  users = page_over w.memory.counts t.0 counts (λ f. one_if (k.page_in f)) w.slots.info c touch.page f x
      (info_with_copy f (w.slots.info touch.page)) (2 ^ 35) (framed_page w g x touch.page had) had
      (copied_frame f (w.slots.info touch.page) (framed_some (w.slots.info touch.page) x had)) t.1 t.2 k.users;
  free = u.free;
  taken = u.taken;
  busy = u.busy;
  alone = u.alone;
}
  where
    unused : (y : ℕ) → y ≢ f → IsUnused w.memory.counts y → IsUnused counts y
    unused y ne h =
        unused_stays t.0 (Dec c x) counts y (steps_reach w.memory.counts (Begin f 1) t.0 g.memory.reached t.1) t.2
        (begun_unused w f 1 t.0 g t.1 y ne h) (λ n i. cc)

    u : Uses w c f (Install touch) counts
    u = uses w c f (Install touch) counts k (ap taken_in e) refl unused

-- ---- a review frees a frame

-- the frame was queued, so no call has taken it
frees_kept : (w : World) (c f : ℕ) (counts : Counts) → IsOrderly w → IsCountedState w
    → Takes w.memory.counts (Reviewing c (review.Freed f)) counts → IsCountedState (with_free f (with_counts counts w))
frees_kept w c f counts g k t = record {
  page_in = other.page_in;
  caches = other.caches;
  cached = other.cached;
  users = other.users;
  free = put_all (λ x b. b ≡ true → IsUnused counts x) w.memory.is_free f true
      (λ _. freed_is_unused w.memory.counts c f counts g.memory.reached t) (λ x ne h. other.free x h);
  taken = other.taken;
  busy = λ d x h.
      put_other w.memory.is_free f true x (λ i. clash (ap w.memory.counts.queued (sym i) ∙ (k.taken d x h).unqueued))
      ∙ k.busy d x h;
  alone = k.alone;
}
  where
    other : IsCounted w.slots.info w.calls.phase (record w.memory { counts = counts })
    other = counts_kept w (Reviewing c (review.Freed f)) counts g k t (λ x n i. cc)
        (λ x. true_counts_move w.memory.counts (Reviewing c (review.Freed f)) counts t x ∙ plus_zero _)

    queued : w.memory.counts.queued f ≡ true
    queued =
        let due = t.1.1 in
        ((reached_is_orderly w.memory.counts g.memory.reached).fronts c f due.since t.1.0 due.front).1

    clash : w.memory.counts.queued f ≡ false → ⊥
    clash h = let a = queued in cc

-- ---- a call is given up

gives_up_kept : (w : World) (c : ℕ) → IsCountedState w → IsCountedState (after_give_up c (w.calls.phase c) w)
gives_up_kept w c k = go (taken_in (w.calls.phase c)) refl
  where
    new : Phase
    new = let_go (still_held (w.calls.phase c)) NoMemory

    other : (d x : ℕ) → taken_in (put w.calls.phase c new d) ≡ Some x → (d ≢ c) × (taken_in (w.calls.phase d) ≡ Some x)
    other = others w.calls.phase c new (let_go_still (still_held (w.calls.phase c)) NoMemory).taken

    go : (o : Option ℕ) → taken_in (w.calls.phase c) ≡ o
        → IsCounted w.slots.info (put w.calls.phase c new) (record w.memory { is_free = given_back o w.memory.is_free })
    go None e = moved w c new k (let_go_still (still_held (w.calls.phase c)) NoMemory).taken
    go (Some f) e = record {
      page_in = k.page_in;
      caches = k.caches;
      cached = k.cached;
      users = k.users;
      free = put_all (λ x b. b ≡ true → IsUnused w.memory.counts x) w.memory.is_free f true
          (λ _. k.taken c f e) (λ x ne h. k.free x h);
      taken = λ d x h. k.taken d x (other d x h).1;
      busy = λ d x h. let o = other d x h in
          put_other w.memory.is_free f true x (λ i. o.0 (k.alone d c x o.1 (e ∙ ap Some (sym i)))) ∙ k.busy d x o.1;
      alone = λ a b x h i. k.alone a b x (other a x h).1 (other b x i).1;
    }

-- ---- every shape

goes_kept : (w : World) (c : ℕ) (v : World) → IsOrderly w → IsCountedState w → GoesBy w c v → IsCountedState v
goes_kept w c v g k (moves new m h) = subst IsCountedState (sym h) (moved w c new k (moves_quiet w c new m).1.still.taken)
goes_kept w c v g k (divides goal cursor t e s h) = subst IsCountedState (sym h) (other_slots w t k s.divides.2.info)
goes_kept w c v g k (cuts place target range t e s h) = subst IsCountedState (sym h) (other_slots w t k s.divides.2.info)
goes_kept w c v g k (fits place target range e cut h) =
    subst IsCountedState (sym h) (moved w c (Acks (To.Place place target) (Put range place.meta)) k refl)
goes_kept w c v g k (owns goal cursor b t e l h) =
    subst IsCountedState (sym h)
    (goes_on w c (locked_to goal b) t w.memory k refl (none_more w c (locked_to goal b) (locked_quiet goal b).still.taken)
    (λ p. ap (λ s. frame_of (s.info p)) l.now) refl refl)
goes_kept w c v g k (lets_go held b t new l u h) =
    subst IsCountedState (sym h)
    (goes_on w c new t w.memory k refl (none_more w c new (lets_go_still (w.calls.phase c) held b new l).1.taken)
    (λ p. ap (λ s. frame_of (s.info p)) u.now) refl refl)
goes_kept w c v g k (answers held reply r h) =
    subst IsCountedState (sym h) (moved w c (let_go held reply) k (let_go_still held reply).taken)
goes_kept w c v g k (posts change shoot e h) =
    subst IsCountedState (sym h) (moved w c (Acks (To.Change change) change) k refl)
goes_kept w c v g k (commits goal change counts e n l h) =
    subst IsCountedState (sym h) (commits_kept w c goal change counts g k e l)
goes_kept w c v g k (takes touch old f e l h) = subst IsCountedState (sym h) (takes_kept w c touch old f k l)
goes_kept w c v g k (zeroes touch f counts e b t h) =
    subst IsCountedState (sym h) (owned_kept w c touch f counts (after_zeros c touch f counts w).memory.bytes g k e t)
goes_kept w c v g k (first_copies touch f counts e b t h) =
    subst IsCountedState (sym h) (owned_kept w c touch f counts (after_first_copy c touch f counts w).memory.bytes g k e t)
goes_kept w c v g k (caches touch f counts e s n t h) = subst IsCountedState (sym h) (caches_kept w c touch f counts g k e s n t)
goes_kept w c v g k (shares touch own x counts e s i t h) = subst IsCountedState (sym h) (shares_kept w c touch own x counts g k e t)
goes_kept w c v g k (posts_copy touch f e h) =
    subst IsCountedState (sym h) (carries w c (CopyPost touch f) (CopyAcks touch f) k e refl)
goes_kept w c v g k (copies touch f x counts e n at t h) = subst IsCountedState (sym h) (copies_kept w c touch f x counts g k e at t)
goes_kept w c v g k (installs touch e h) = subst IsCountedState (sym h) (installs_kept w c touch k)
goes_kept w c v g k (accesses touch f e i h) =
    subst IsCountedState (sym h)
    (goes_on w c (let_go None (reply_of touch f w.memory)) w.slots
    (memory_after touch f w.memory) k refl (none_more w c (let_go None (reply_of touch f w.memory)) refl) (λ p. refl) refl refl)
goes_kept w c v g k (faults touch e i h) = subst IsCountedState (sym h) (moved w c (locking (To.Access touch)) k refl)

works_kept : (w : World) (c : ℕ) (event : Event) (v : World) → IsOrderly w → IsCountedState w → Works w c event v
    → IsCountedState v
works_kept w c event v g k (clears i range e h) = subst IsCountedState (sym h) k
works_kept w c event v g k (invalidates i range e h) = subst IsCountedState (sym h) k
works_kept w c event v g k (walks p i e h) = subst IsCountedState (sym h) k
works_kept w c event v g k (evicts p i e h) = subst IsCountedState (sym h) k
works_kept w c event v g k (flushes i report counts t h) =
    subst IsCountedState (sym h) (counts_kept w (Flushing c report) counts g k t (λ f n i. cc)
    (λ f. true_counts_move w.memory.counts (Flushing c report) counts t f ∙ plus_zero _))
works_kept w c event v g k (reviews i report counts t h) =
    subst IsCountedState (sym h) (counts_kept w (Reviewing c report) counts g k t (λ f n i. cc)
    (λ f. true_counts_move w.memory.counts (Reviewing c report) counts t f ∙ plus_zero _))
works_kept w c event v g k (frees i f counts t h) = subst IsCountedState (sym h) (frees_kept w c f counts g k t)

shape_kept : (w : World) (e : Event) (o : Outcome) (v : World) → IsOrderly w → IsCountedState w → Shape w e o v
    → IsCountedState v
shape_kept w e o v g k (rests i h) = subst IsCountedState (sym h) k
shape_kept w e o v g k (begins c request i s lt p below h) =
    subst IsCountedState (sym h) (moved w c (Check request) k refl)
shape_kept w e o v g k (ends c reply i s lt p h) = subst IsCountedState (sym h) (moved w c Free k refl)
shape_kept w e o v g k (goes c i s lt m) = goes_kept w c v g k m
shape_kept w e o v g k (aims c place target a s lt p h) =
    subst IsCountedState (sym h) (moved w c (trying place target) k refl)
shape_kept w e o v g k (gives_up c i s lt can u h) = subst IsCountedState (sym h) (gives_up_kept w c k)
shape_kept w e o v g k (works c s lt m) = works_kept w c e v g k m
shape_kept w e o v g k (joins p t i s page j m h) = subst IsCountedState (sym h) (other_slots w t k j.info)

-- neither the order nor what frames count looks at the number of events
pub counted_kept : (w v : World) (e : Event) (o : Outcome) → IsOrderly w → IsCountedState w → Step w e o v → IsCountedState v
counted_kept w v e o g k s = go (comes w e o v s)
  where
    go : Comes w e o v → IsCountedState v
    go (stopped n i h) = subst IsCountedState (sym h) k
    go (happens n h) = shape_kept (with_event w) e o v g k h

-- ---- a machine over new slots

pub opening_is_counted : (made : Made) (slots : Slots) → IsNew slots → IsCountedState (new_world made slots)
opening_is_counted made slots new = record {
  page_in = λ f. None;
  caches = λ n k f h. absurd cc;
  cached = λ f x h. absurd cc;
  users = counts_none (no_counts made.cores made.frames) slots.info (2 ^ 35)
      (λ f. (unused f).zero) (λ p. ap frame_of (new.unmapped p));
  free = λ f h. unused f;
  taken = λ c f h. absurd cc;
  busy = λ c f h. absurd cc;
  alone = λ c d f h i. absurd cc;
}
  where
    unused : (f : ℕ) → IsUnused (no_counts made.cores made.frames) f
    unused f = unused_at_first made.cores made.frames f
