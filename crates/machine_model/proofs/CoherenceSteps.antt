-- Steps of calls that are more than a change of phase: shootdowns, commits, fills and installs
use Rattle.machine_model.proofs.Words.{◌≡◌, ◌≢◌, ℕ, Bool, true, false, refl, sym, ap, subst, ◌∙◌, Some, None, Option, List, ◌∷◌, [], ◌++◌, ◌==◌, arith}
use Rattle.machine_model.proofs.Words.{nat_tests, is_some, ◌||◌, ◌&&◌, ◌↔◌, Back, Anon, Shared, Private, PageInfo, is_cached, PageRange, Access, Prot, members}
use Rattle.machine_model.proofs.Words.{put, over, has, frame_of, is_recorded, info_with_frame, info_with_core, info_with_copy, IsFree, File, is_mapped}
use Rattle.machine_model.proofs.Words.{is_allowed, by_test, put_all, put_both, put_same, put_other, has_in, Change, Put, Protect, Goal, Place, Target}
use Rattle.machine_model.proofs.Words.{Touch, range_of, goal_range, Slots, IsUser, Translation, TlbEntry, has_right, tlb_without, Message, message_of, posted}
use Rattle.machine_model.proofs.Words.{Act, Decides, entries, entry_of, no_page, no_write, Phase, Cut, Post, Acks, Fill, CopyPost, CopyAcks, Install, Release}
use Rattle.machine_model.proofs.Words.{after_install, back_of, file_frame, shows_file, shows_some, with_cached, is_private, prot_shown, prot_installed}
use Rattle.machine_model.proofs.Words.{after_caching, after_copy_post, after_copy, let_go, slots_after, reply_to, after_post, after_commit, AwaitsNobody}
use Rattle.machine_model.proofs.Words.{awaits_in, some_has, holds, taken_in, page_of_touch, after_cuts, entry_for, entry_of_page, inboxes_after, after_shot}
use Rattle.machine_model.proofs.Words.{World, Hardware, Counts}
use Rattle.vm_base.specs.declared.rights.Access.TheVariants.{Load, Store, Fetch}
use Rattle.vm_base.specs.Info.{recorded_cores}
use Rattle.slot_lock.specs.declared.plan.Goal.TheVariants as To
use Rattle.vm_calls.specs.Decisions.DecidesProtect.{acts}
use Rattle.machine_model.specs.Orderly.{IsOrderly, IsUsable}
use Rattle.machine_model.proofs.Changed.{same_outside}
use Rattle.machine_model.proofs.Deciding.{place_free}
use Rattle.machine_model.proofs.Moves.{call_at, page_is, awaits_held}
use Rattle.machine_model.proofs.Owned.{members_with}
use Rattle.machine_model.specs.Coherent.{AreTakenNew, AllowsSome, IsBacked, IsSoundEntry, IsTableClear, IsTlbClear, HasDropped, IsCoherent, IsCoherentState}
use Rattle.machine_model.proofs.Lists.{every_map, none_sent, none_left}
use Rattle.machine_model.proofs.Cores.{IsCore, core_of, of_cores, moves_on, backed_still, backed_outside}
use Rattle.machine_model.proofs.Cores.{cleared_has, shoots, awaits_nothing, awaits_core, installs}

-- ---- the whole, over cores

-- a call that awaited nothing goes on, and awaits nothing then
-- a call of which no message is under way goes on, and awaits nothing then
pub goes_silent : {cached : ℕ → ℕ → Option ℕ} {info : ℕ → Option PageInfo} {phase : ℕ → Phase} {h : Hardware} (c : ℕ) (new : Phase)
    → ((d : ℕ) → message_of (h.inbox d) c ≡ None) → awaits_in new ≡ None → IsCoherent cached info phase h
    → IsCoherent cached info (put phase c new) h
goes_silent {cached} {info} {phase} {h} c new silent none k =
    of_cores cached info (put phase c new) h (λ d. moves_on c new none (silent d) (core_of d k))

pub goes_on : {cached : ℕ → ℕ → Option ℕ} {info : ℕ → Option PageInfo} {phase : ℕ → Phase} {h : Hardware} (c : ℕ) (new : Phase)
    → awaits_in (phase c) ≡ None → awaits_in new ≡ None → IsCoherent cached info phase h → IsCoherent cached info (put phase c new) h
goes_on {phase = phase} {h = h} c new before none k = goes_silent c new (λ d. none_sent phase c d (h.inbox d) before (k.asked d)) none k

-- what backed a translation still does
still_backed : {cached : ℕ → ℕ → Option ℕ} {info : ℕ → Option PageInfo} {phase : ℕ → Phase} {h : Hardware} (now : ℕ → ℕ → Option ℕ)
    (info2 : ℕ → Option PageInfo)
    → ((p d : ℕ) (t : Translation) → IsBacked cached (info p) d t → IsBacked now (info2 p) d t) → IsCoherent cached info phase h
    → IsCoherent now info2 phase h
still_backed {cached} {info} {phase} {h} now info2 f k =
    of_cores now info2 phase h (λ d. backed_still now info2 (λ p t. f p d t) (core_of d k))

-- one page has this now
page_backed : {cached : ℕ → ℕ → Option ℕ} {info : ℕ → Option PageInfo} {phase : ℕ → Phase} {h : Hardware} (page : ℕ) (new : Option PageInfo)
    → ((d : ℕ) (t : Translation) → IsBacked cached (info page) d t → IsBacked cached new d t) → IsCoherent cached info phase h
    → IsCoherent cached (put info page new) phase h
page_backed {cached} {info} page new f k =
    still_backed cached (put info page new)
    (λ p d t. put_all (λ p o. IsBacked cached (info p) d t → IsBacked cached o d t) info page new (f d t) (λ p ne b. b) p) k

-- ---- Post

-- the decision shoots just the cores that are recorded on the range
pub users : (files : ℕ → Option File) (s : Slots) (change : Change) (changes : PageRange) (shoot : ℕ)
    → Decides files s (To.Change change) (Act changes shoot)
    → (core : ℕ) → (members shoot core ≡ true) ↔ IsUser s (range_of change) core
users files s (Protect range prot) changes shoot (no_page a e) = absurd cc
users files s (Protect range prot) changes shoot (no_write a w r e) = absurd cc
users files s (Protect range prot) changes shoot (acts a r k) = k.1
users files s _ changes shoot h = h.1

-- a core that isn't recorded on any page of the range has nothing of it
nothing_there : {cached : ℕ → ℕ → Option ℕ} {phase : ℕ → Phase} {d : ℕ} {table : ℕ → Option Translation} {tlb : List TlbEntry}
    {inbox : List Message} (s : Slots) (range : PageRange) → ¬ IsUser s range d → IsCore cached s.info phase d table tlb inbox
    → IsTableClear table range × IsTlbClear tlb range
nothing_there {cached} {phase} {d} {table} {tlb} {inbox} s range unused k = (
  λ p i. entry p i (table p) refl,
  every_map (IsSoundEntry cached s.info d table inbox) (λ e. has range e.page ≡ false) tlb
      (λ e h. page e (has range e.page) refl h.0) k.tlbs,
)
  where
    entry : (p : ℕ) → has range p ≡ true → (o : Option Translation) → table p ≡ o → o ≡ None
    entry p i None e = refl
    entry p i (Some t) e = absurd (unused (p, i, (k.tables p t e).recorded))

    page : (e : TlbEntry) → (b : Bool) → has range e.page ≡ b → IsBacked cached (s.info e.page) d e.translation → b ≡ false
    page e true i h = absurd (unused (e.page, i, h.recorded))
    page e false i h = refl

posts : (cached : ℕ → ℕ → Option ℕ) (s : Slots) (phase : ℕ → Phase) (h : Hardware) (c shoot : ℕ) (range : PageRange) (new : Phase)
    → awaits_in (phase c) ≡ None → awaits_in new ≡ Some range
    → ((d : ℕ) → IsUser s range d → members shoot d ≡ true) → IsCoherent cached s.info phase h
    → IsCoherent cached s.info (put phase c new) (after_shot h c shoot range)
posts cached s phase h c shoot range new before awaits told k = of_cores cached s.info (put phase c new) (after_shot h c shoot range)
    (put_both (λ d table tlb. Is d table tlb (inboxes_after c shoot range h.inbox d)) h.table h.tlb c table tlb own others)
  where
    Is : (d : ℕ) → (ℕ → Option Translation) → List TlbEntry → List Message → Type 0
    Is = IsCore cached s.info (put phase c new)

    -- what core c is left with
    table : ℕ → Option Translation
    table = over (h.table c) (has range) None

    tlb : List TlbEntry
    tlb = tlb_without (has range) (h.tlb c)

    silent : (d : ℕ) → message_of (h.inbox d) c ≡ None
    silent d = none_sent phase c d (h.inbox d) before (k.asked d)

    own : Is c table tlb (inboxes_after c shoot range h.inbox c)
    own = by_test (Is c table tlb) (put (members shoot) c false c) (h.inbox c ++ posted c range ∷ []) (h.inbox c)
        (λ i. absurd (let a = put_same (members shoot) c false in cc))
        (λ i. awaits_nothing c new range awaits (silent c) (cleared_has (h.table c) range) (none_left range (h.tlb c))
        (shoots range (core_of c k)))

    quiet : (d : ℕ) → d ≢ c → put (members shoot) c false d ≡ false
        → IsTableClear (h.table d) range × IsTlbClear (h.tlb d) range
    quiet d ne i = nothing_there s range
        (λ u. let a = told d u in let b = put_other (members shoot) c false d ne in cc) (core_of d k)

    others : (d : ℕ) → d ≢ c → Is d (h.table d) (h.tlb d) (inboxes_after c shoot range h.inbox d)
    others d ne = by_test (Is d (h.table d) (h.tlb d)) (put (members shoot) c false d)
        (h.inbox d ++ posted c range ∷ []) (h.inbox d)
        (λ i. awaits_core c new range (λ e. ne (sym e)) awaits (silent d) (core_of d k))
        (λ i. let q = quiet d ne i in awaits_nothing c new range awaits (silent d) q.0 q.1 (core_of d k))

pub posts_kept : (w : World) (c : ℕ) (change : Change) (shoot : ℕ) → IsOrderly w → w.calls.phase c ≡ Post change shoot
    → IsCoherentState w → IsCoherentState (after_post c change shoot w)
posts_kept w c change shoot g e k =
    let decided = (call_at w c (Post change shoot) e g).ready in
    posts w.memory.cached w.slots w.calls.phase w.hardware c shoot (range_of change) (Acks (To.Change change) change) (ap awaits_in e) refl
    (λ d u. (users w.made.file w.slots change (range_of change) shoot decided d).1 u) k

-- ---- Cut: nobody is asked

-- pages that aren't mapped have no recorded core
no_users : (s : Slots) (range : PageRange) (d : ℕ) → IsFree (is_mapped (entries s)) range → ¬ IsUser s range d
no_users s range d free u = go (s.info u.0) refl
  where
    go : (o : Option PageInfo) → s.info u.0 ≡ o → ⊥
    go None e = let some = u.2 in let none : is_recorded (s.info u.0) d ≡ is_recorded None d = ap (λ o. is_recorded o d) e in cc
    go (Some info) e = let none = free u.0 u.1 in
        let some : is_mapped (entries s) u.0 ≡ is_some (entry_of (Some info)) = ap (λ o. is_some (entry_of o)) e in cc

pub fits_kept : (w : World) (c : ℕ) (place : Place) (target : Target) (range : PageRange) → IsOrderly w
    → w.calls.phase c ≡ Cut place target range → IsCoherentState w → IsCoherentState (after_cuts c place target range w)
fits_kept w c place target range g e k =
    of_cores w.memory.cached w.slots.info (put w.calls.phase c new) w.hardware
    (λ d. let q = nothing_there w.slots range (no_users w.slots range d free) (core_of d k) in
    awaits_nothing c new range refl (none_sent w.calls.phase c d (w.hardware.inbox d) (ap awaits_in e) (k.asked d)) q.0 q.1 (core_of d k))
  where
    new : Phase
    new = Acks (To.Place place target) (Put range place.meta)

    free : IsFree (is_mapped (entries w.slots)) range
    free = let chosen = (call_at w c (Cut place target range) e g).ready.1 in place_free w.slots place target range chosen.0 chosen.1

-- ---- Acks

pub silent_by : (o : Option Message) → is_some o ≡ false → o ≡ None
silent_by None i = refl
silent_by (Some m) i = absurd cc

-- The call awaits nobody any more, so nothing of its range is left anywhere.
commits : {cached : ℕ → ℕ → Option ℕ} {info : ℕ → Option PageInfo} {phase : ℕ → Phase} {h : Hardware} (info2 : ℕ → Option PageInfo) (c : ℕ)
    (range : PageRange) (new : Phase) → awaits_in (phase c) ≡ Some range → awaits_in new ≡ None → AwaitsNobody h c
    → ((p : ℕ) → has range p ≡ false → info2 p ≡ info p) → IsCoherent cached info phase h
    → IsCoherent cached info2 (put phase c new) h
commits {cached} {info} {phase} {h} info2 c range new awaits none nobody same k = of_cores cached info2 (put phase c new) h
    (λ d. moves_on c new none (silent d) (backed_outside info2 range same (left d).0 (left d).1 (core_of d k)))
  where
    silent : (d : ℕ) → message_of (h.inbox d) c ≡ None
    silent d = silent_by (message_of (h.inbox d) c) (nobody d)

    left : (d : ℕ) → IsTableClear (h.table d) range × IsTlbClear (h.tlb d) range
    left d = subst (HasDropped (h.table d) (h.tlb d) range) (silent d) (k.dropped c d range awaits)

pub commits_kept : (w : World) (c : ℕ) (goal : Goal) (change : Change) (counts : Counts)
    → w.calls.phase c ≡ Acks goal change → AwaitsNobody w.hardware c → IsCoherentState w
    → IsCoherentState (after_commit c change (goal_range goal) counts w)
commits_kept w c goal change counts e nobody k =
    commits (slots_after change w.slots).info c (range_of change) (let_go (Some (goal_range goal)) (reply_to change)) (ap awaits_in e)
    refl nobody (same_outside w.slots change) k

-- ---- Fill

-- a page without a frame backed nothing
frameless : (cached now : ℕ → ℕ → Option ℕ) (file : ℕ → Option File) (info new : Option PageInfo) (access : Access) (d : ℕ) (t : Translation)
    → IsUsable file info access None → IsBacked cached info d t → IsBacked now new d t
frameless cached now file None new access d t u b = absurd u
frameless cached now file (Some info) new access d t u b = absurd (
    let none : entry_for (prot_installed cached info) info.frame ≡ None = ap (entry_for (prot_installed cached info)) u.2 in
    let some = b.entry in
    cc)

-- the page, which had none, has a frame
framed : (w : World) (c : ℕ) (touch : Touch) (old : Phase) (f : ℕ) (now : ℕ → ℕ → Option ℕ) → w.calls.phase c ≡ old → awaits_in old ≡ None
    → IsUsable w.made.file (w.slots.info touch.page) touch.access None
    → ((p d : ℕ) (t : Translation) → p ≢ touch.page → IsBacked w.memory.cached (w.slots.info p) d t → IsBacked now (w.slots.info p) d t)
    → IsCoherentState w
    → IsCoherent now (put w.slots.info touch.page (info_with_frame f (w.slots.info touch.page))) (put w.calls.phase c (Install touch)) w.hardware
framed w c touch old f now e none lacks others k =
    goes_on c (Install touch) (ap awaits_in e ∙ none) refl
    (still_backed now (put w.slots.info touch.page new)
    (λ p d t. put_all (λ p o. IsBacked w.memory.cached (w.slots.info p) d t → IsBacked now o d t) w.slots.info touch.page new
    (frameless w.memory.cached now w.made.file (w.slots.info touch.page) new touch.access d t lacks) (λ p ne b. others p d t ne b) p) k)
  where
    new : Option PageInfo
    new = info_with_frame f (w.slots.info touch.page)

pub fills_kept : (w : World) (c : ℕ) (touch : Touch) (own : Option ℕ) (f : ℕ) → IsOrderly w → w.calls.phase c ≡ Fill touch own
    → IsCoherentState w
    → IsCoherent w.memory.cached (put w.slots.info touch.page (info_with_frame f (w.slots.info touch.page)))
    (put w.calls.phase c (Install touch)) w.hardware
fills_kept w c touch own f g e k =
    framed w c touch (Fill touch own) f w.memory.cached e refl (call_at w c (Fill touch own) e g).ready.0 (λ p d t ne b. b) k

-- ---- a file page is cached

-- of a page that doesn't have the frame
at_number : (cached : ℕ → ℕ → Option ℕ) (m l n k f x : ℕ) → cached m l ≡ None → x ≢ f
    → is_cached (put cached m (put (cached m) l (Some f)) n k) x ≡ is_cached (cached n k) x
at_number cached m l n k f x none ne =
    put_all (λ n pages. is_cached (pages k) x ≡ is_cached (cached n k) x) cached m (put (cached m) l (Some f))
    (put_all (λ k o. is_cached o x ≡ is_cached (cached m k) x) (cached m) l (Some f)
    (other f x ne ∙ sym (ap (λ o. is_cached o x) none)) (λ k ne. refl) k)
    (λ n ne. refl) n
  where
    other : (f x : ℕ) → x ≢ f → (f == x) ≡ false
    other f x ne = grind (arith, nat_tests, ne)

shown_at : (cached : ℕ → ℕ → Option ℕ) (m l : ℕ) (b : Back) (f x : ℕ) → cached m l ≡ None → x ≢ f
    → shows_file (put cached m (put (cached m) l (Some f))) b x ≡ shows_file cached b x
shown_at cached m l Anon f x none ne = refl
shown_at cached m l (Shared n k) f x none ne = at_number cached m l n k f x none ne
shown_at cached m l (Private n k) f x none ne = at_number cached m l n k f x none ne

pub same_shown : (cached : ℕ → ℕ → Option ℕ) (back b : Back) (f x : ℕ) → file_frame cached back ≡ None → x ≢ f
    → shows_file (with_cached cached back f) b x ≡ shows_file cached b x
same_shown cached Anon b f x none ne = refl
same_shown cached (Shared m l) b f x none ne = shown_at cached m l b f x none ne
same_shown cached (Private m l) b f x none ne = shown_at cached m l b f x none ne

same_prot : (cached : ℕ → ℕ → Option ℕ) (back : Back) (f : ℕ) (info : PageInfo) → file_frame cached back ≡ None → info.frame ≢ Some f
    → prot_installed (with_cached cached back f) info ≡ prot_installed cached info
same_prot cached back f info none ne = go info.frame refl
  where
    go : (o : Option ℕ) → info.frame ≡ o
        → prot_shown (is_private info.meta.back && shows_some (with_cached cached back f) info.meta.back o) info.meta.prot
        ≡ prot_shown (is_private info.meta.back && shows_some cached info.meta.back o) info.meta.prot
    go None e = refl
    go (Some x) e =
        ap (λ b. prot_shown (is_private info.meta.back && b) info.meta.prot)
        (same_shown cached back info.meta.back f x none (λ s. ne (e ∙ ap Some s)))

cached_backed : (cached : ℕ → ℕ → Option ℕ) (back : Back) (f : ℕ) (info : Option PageInfo) (d : ℕ) (t : Translation)
    → file_frame cached back ≡ None → frame_of info ≢ Some f → IsBacked cached info d t → IsBacked (with_cached cached back f) info d t
cached_backed cached back f None d t none ne b = record { entry = b.entry; recorded = b.recorded; right = b.right }
cached_backed cached back f (Some info) d t none ne b = record {
  entry = ap (λ prot. entry_for prot info.frame) (same_prot cached back f info none ne) ∙ b.entry;
  recorded = b.recorded;
  right = b.right;
}

pub caches_kept : (w : World) (c : ℕ) (touch : Touch) (f : ℕ) (counts : Counts) → IsOrderly w → AreTakenNew w.slots.info w.calls.phase
    → w.calls.phase c ≡ Fill touch (Some f) → file_frame w.memory.cached (back_of (w.slots.info touch.page)) ≡ None → IsCoherentState w
    → IsCoherentState (after_caching c touch f counts w)
caches_kept w c touch f counts g new e none k =
    framed w c touch (Fill touch (Some f)) f (with_cached w.memory.cached (back_of (w.slots.info touch.page)) f) e refl
    (call_at w c (Fill touch (Some f)) e g).ready.0
    (λ p d t ne b. cached_backed w.memory.cached (back_of (w.slots.info touch.page)) f (w.slots.info p) d t none
    (new c f p (ap taken_in e)) b) k

-- ---- a copy in place of the file's page

-- the cores that are recorded on the page are told
recorded_there : (o : Option PageInfo) (d : ℕ) → is_recorded o d ≡ true → members (recorded_cores o) d ≡ true
recorded_there None d h = absurd cc
recorded_there (Some info) d h = h

pub posts_copy_kept : (w : World) (c : ℕ) (touch : Touch) (f : ℕ) → w.calls.phase c ≡ CopyPost touch f → IsCoherentState w
    → IsCoherentState (after_copy_post c touch f w)
posts_copy_kept w c touch f e k =
    posts w.memory.cached w.slots w.calls.phase w.hardware c (recorded_cores (w.slots.info touch.page)) (page_of_touch touch) (CopyAcks touch f)
    (ap awaits_in e) refl
    (λ d u. recorded_there (w.slots.info touch.page) d (subst (λ p. is_recorded (w.slots.info p) d ≡ true) (its touch u.0 u.1) u.2)) k
  where
    its : (touch : Touch) (p : ℕ) → has (page_of_touch touch) p ≡ true → p ≡ touch.page
    its touch p h = let z = has_in (page_of_touch touch) p h in let low = z.0 in let high = z.1 in omega (arith, low, high)

pub copies_kept : (w : World) (c : ℕ) (touch : Touch) (f g : ℕ) (counts : Counts) → w.calls.phase c ≡ CopyAcks touch f
    → AwaitsNobody w.hardware c → IsCoherentState w → IsCoherentState (after_copy c touch f g counts w)
copies_kept w c touch f g counts e nobody k =
    commits (after_copy c touch f g counts w).slots.info c (page_of_touch touch) (Install touch) (ap awaits_in e) refl nobody
    (λ p out. put_other w.slots.info touch.page (info_with_copy f (w.slots.info touch.page)) p (λ at. off touch p at out)) k
  where
    off : (touch : Touch) (p : ℕ) → p ≡ touch.page → has (page_of_touch touch) p ≡ false → ⊥
    off touch p at out = let i = page_is touch in let j = subst (λ q. has (page_of_touch touch) q ≡ false) at out in cc

-- ---- Install: one core more is recorded, and all else of the page stays

recorded_more : (c d : ℕ) (info : Option PageInfo) → is_recorded info d ≡ true
    → is_recorded (info_with_core c info) d ≡ true
recorded_more c d None h = h
recorded_more c d (Some info) h =
    ap (λ f. f d) (members_with info.cores c)
    ∙ put_all (λ j b. members info.cores j ≡ true → b ≡ true) (members info.cores) c true (λ _. refl) (λ j ne i. i) d h

recorded_now : (c : ℕ) (info : Option PageInfo) → AllowsSome info → is_recorded (info_with_core c info) c ≡ true
recorded_now c None h = absurd h
recorded_now c (Some info) h = ap (λ f. f c) (members_with info.cores c) ∙ put_same (members info.cores) c true

same_entry : (cached : ℕ → ℕ → Option ℕ) (c : ℕ) (info : Option PageInfo) → entry_of_page cached (info_with_core c info) ≡ entry_of_page cached info
same_entry cached c None = refl
same_entry cached c (Some info) = refl

same_right : (c : ℕ) (info : Option PageInfo) → AllowsSome info → AllowsSome (info_with_core c info)
same_right c None h = h
same_right c (Some info) h = h

backed_more : (cached : ℕ → ℕ → Option ℕ) (c d : ℕ) (info : Option PageInfo) (t : Translation) → IsBacked cached info d t
    → IsBacked cached (info_with_core c info) d t
backed_more cached c d info t b = record {
  entry = same_entry cached c info ∙ b.entry;
  recorded = recorded_more c d info b.recorded;
  right = same_right c info b.right;
}

-- ---- what allows an access gives a right

second_of : (a b c : Bool) → b ≡ true → (a || b || c) ≡ true
second_of false false c h = absurd cc
second_of _ _ c h = refl

third_of : (a b c : Bool) → c ≡ true → (a || b || c) ≡ true
third_of false false c h = h
third_of _ _ c h = refl

has_some : (prot : Prot) (access : Access) → is_allowed prot access ≡ true → has_right prot ≡ true
has_some prot Load h = h
has_some prot Store h = second_of prot.read prot.write prot.exec h
has_some prot Fetch h = third_of prot.read prot.write prot.exec h

usable_right : (file : ℕ → Option File) (info : Option PageInfo) (access : Access) (frame : Option ℕ)
    → IsUsable file info access frame → AllowsSome info
usable_right file None access frame u = absurd u
usable_right file (Some info) access frame u = has_some info.meta.prot access u.0

-- no call awaits a page that a call holds which awaits nothing
unawaited : (w : World) (c p : ℕ) → IsOrderly w → awaits_in (w.calls.phase c) ≡ None → holds (w.calls.phase c) p ≡ true
    → (x : ℕ) (range : PageRange) → awaits_in (w.calls.phase x) ≡ Some range → has range p ≡ true → ⊥
unawaited w c p g none mine x range a i =
    let held : holds (w.calls.phase x) p ≡ true = awaits_held w.made w.slots w.memory.cached (w.calls.phase x) p (g.ready x) (ap (λ o. some_has o p) a ∙ i) in
    let its : w.slots.owner p ≡ Some x = g.owned x p held in
    let my : w.slots.owner p ≡ Some c = g.owned c p mine in
    let same : x ≡ c = cc in
    let b : awaits_in (w.calls.phase c) ≡ Some range = subst (λ n. awaits_in (w.calls.phase n) ≡ Some range) same a in
    cc

pub installs_kept : (w : World) (c : ℕ) (touch : Touch) → IsOrderly w → w.calls.phase c ≡ Install touch
    → IsCoherentState w → IsCoherentState (after_install c touch w)
installs_kept w c touch g e k =
    goes_on c (Release touch) (ap awaits_in e) refl
    (of_cores cached more w.calls.phase now
    (put_all (λ d table. IsCore cached more w.calls.phase d table (h.tlb d) (h.inbox d)) h.table c
    (put (h.table c) page (entry_of_page cached info)) own (λ d ne. core_of d recorded)))
  where
    cached : ℕ → ℕ → Option ℕ
    cached = w.memory.cached

    h : Hardware
    h = w.hardware

    page : ℕ
    page = touch.page

    info : Option PageInfo
    info = w.slots.info page

    more : ℕ → Option PageInfo
    more = put w.slots.info page (info_with_core c info)

    now : Hardware
    now = record h { table = put h.table c (put (h.table c) page (entry_of_page cached info)) }

    at : more page ≡ info_with_core c info
    at = put_same w.slots.info page (info_with_core c info)

    recorded : IsCoherent cached more w.calls.phase h
    recorded = page_backed page (info_with_core c info) (λ d t. backed_more cached c d info t) k

    right : AllowsSome info
    right = let u = (call_at w c (Install touch) e g).ready in
        usable_right w.made.file info touch.access (Some u.0) u.1

    own : IsCore cached more w.calls.phase c (put (h.table c) page (entry_of_page cached info)) (h.tlb c) (h.inbox c)
    own = subst (λ o. IsCore cached more w.calls.phase c (put (h.table c) page o) (h.tlb c) (h.inbox c))
        (ap (entry_of_page cached) at ∙ same_entry cached c info)
        (installs page (subst (λ o. is_recorded o c ≡ true) (sym at) (recorded_now c info right))
        (subst AllowsSome (sym at) (same_right c info right))
        (unawaited w c page g (ap awaits_in e) (ap (λ ph. holds ph page) e ∙ page_is touch)) (core_of c recorded))
