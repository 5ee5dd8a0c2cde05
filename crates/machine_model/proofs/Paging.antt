-- A call whose page gets its frame and its translation leaves an orderly state.
use Rattle.machine_model.proofs.Words.{◌≡◌, ℕ, ◌<◌, true, false, refl, sym, ap, subst, Some, None, Option, ◌∙◌, Back, Anon, Shared, Private, PageInfo, Access}
use Rattle.machine_model.proofs.Words.{put, info_with_frame, info_with_core, info_with_copy, Bytes, put_all, put_same, put_other, Touch, Slots, with_info}
use Rattle.machine_model.proofs.Words.{Phase, Want, Fill, CopyPost, CopyAcks, Install, Release, after_frame, taken_for, after_install, back_of, file_frame}
use Rattle.machine_model.proofs.Words.{with_cached, after_zeros, after_first_copy, after_caching, after_sharing, after_copy_post, after_copy, CountsCopy, to}
use Rattle.machine_model.proofs.Words.{with_entry, detach_entry, Counts, Takes, Begin, Inc, Dec, given_back, page_of_touch, range_held, awaits_in, some_has}
use Rattle.machine_model.proofs.Words.{taken_in, is_open, World, Made, Memory}
use Rattle.slot_lock.specs.declared.plan.Plan.TheVariants as PlanOf
use Rattle.machine_model.specs.Orderly.{IsOrderly, IsAsked, Serves, IsCutFor, IsReady, IsUsable, BelongsTo, IsMemory}
use Rattle.machine_model.proofs.Counted.{frees, written, cached_more, counted}
use Rattle.machine_model.proofs.Moves.{IsCall, IsCallOf, call_at, Touches, untouched, KeepsCached, page_is, goes_on, copies_on, same_pages, same_range}
use Rattle.machine_model.proofs.Owned.{framed_belongs, copied_belongs, recorded_belongs}
use Rattle.machine_model.proofs.Slots.{touches_info}
use Rattle.machine_model.proofs.Going.{steps}

-- ---- frames

-- a frame that goes back is the machine's
pub given_below : (w : World) (o : Option ℕ) → IsOrderly w → ((f : ℕ) → o ≡ Some f → f < w.made.frames) → (f : ℕ)
    → given_back o w.memory.is_free f ≡ true → f < w.made.frames
given_below w None g taken = g.memory.free
given_below w (Some x) g taken =
    put_all (λ f b. b ≡ true → f < w.made.frames) w.memory.is_free x true (λ h. taken x refl) (λ f ne. g.memory.free f)

-- a frame that caches a page's file page is the machine's
cached_below : (w : World) (back : Back) (x : ℕ) → IsOrderly w → file_frame w.memory.cached back ≡ Some x → x < w.made.frames
cached_below w Anon x g h = absurd cc
cached_below w (Shared n k) x g h = g.memory.cached n k x h
cached_below w (Private n k) x g h = g.memory.cached n k x h

-- one file page more is cached, which no frame cached
put_below : (cached : ℕ → ℕ → Option ℕ) (m l f limit : ℕ) → f < limit → ((n k x : ℕ) → cached n k ≡ Some x → x < limit)
    → (n k x : ℕ) → put cached m (put (cached m) l (Some f)) n k ≡ Some x → x < limit
put_below cached m l f limit lt all n k x = put_all (λ n pages. pages k ≡ Some x → x < limit) cached m (put (cached m) l (Some f))
    (put_all (λ k o. o ≡ Some x → x < limit) (cached m) l (Some f) (λ h. let same : f ≡ x = cc in subst (λ y. y < limit) same lt) (λ k ne. all m k x) k)
    (λ n ne. all n k x) n

caches_below : (cached : ℕ → ℕ → Option ℕ) (back : Back) (f limit : ℕ) → f < limit → ((n k x : ℕ) → cached n k ≡ Some x → x < limit)
    → (n k x : ℕ) → with_cached cached back f n k ≡ Some x → x < limit
caches_below cached Anon f limit lt all n k x h = all n k x h
caches_below cached (Shared m l) f limit lt all n k x h = put_below cached m l f limit lt all n k x h
caches_below cached (Private m l) f limit lt all n k x h = put_below cached m l f limit lt all n k x h

keeps_at : (cached : ℕ → ℕ → Option ℕ) (m l f : ℕ) → cached m l ≡ None → KeepsCached cached (put cached m (put (cached m) l (Some f)))
keeps_at cached m l f none n k x = put_all (λ n pages. cached n k ≡ Some x → pages k ≡ Some x) cached m (put (cached m) l (Some f))
    (put_all (λ k o. cached m k ≡ Some x → o ≡ Some x) (cached m) l (Some f) (λ h. absurd cc) (λ k ne h. h) k)
    (λ n ne h. h) n

-- a frame is taken for the page
pub takes_kept : (w : World) (c : ℕ) (touch : Touch) (old : Option ℕ) (f : ℕ) → IsOrderly w → c < w.made.cores
    → w.calls.phase c ≡ Want touch old → w.memory.is_free f ≡ true → IsOrderly (after_frame c touch old f w)
takes_kept w c touch old f g lt e free =
    goes_on w c (taken_for touch old f) w.slots (record w.memory { is_free = put w.memory.is_free f false }) g lt
    (opened old ∙ sym (ap is_open e)) (untouched w.slots c) (λ n k f h. h)
    (same_pages w c (Want touch old) (taken_for touch old f) k (held old) (out old) (asked old k.asked) (ready old k.ready)
    (λ x h. subst (λ n. n < w.made.frames) (same old x h) (g.memory.free f free)))
    g.pages (frees w.made w.memory (put w.memory.is_free f false) g.memory
    (put_all (λ x b. b ≡ true → x < w.made.frames) w.memory.is_free f false (λ h. absurd cc) (λ x ne. g.memory.free x)))
  where
    k : IsCallOf w c (Want touch old)
    k = call_at w c (Want touch old) e g

    opened : (old : Option ℕ) → is_open (taken_for touch old f) ≡ true
    opened None = refl
    opened (Some o) = refl

    held : (old : Option ℕ) → range_held (taken_for touch old f) ≡ Some (page_of_touch touch)
    held None = refl
    held (Some o) = refl

    out : (old : Option ℕ) → IsCutFor w.slots.edge (awaits_in (taken_for touch old f))
    out None = tt
    out (Some o) = tt

    asked : (old : Option ℕ) → Serves w.made w.calls.requests c (w.calls.number c) (PlanOf.Touch touch)
        → IsAsked w.made w.calls.requests c (w.calls.number c) (taken_for touch old f)
    asked None s = s
    asked (Some o) s = s

    ready : (old : Option ℕ) → IsReady w.made w.slots w.memory.cached (Want touch old)
        → IsReady w.made w.slots w.memory.cached (taken_for touch old f)
    ready None r = (r.0, tt)
    ready (Some o) r = (o, r.0, r.1)

    same : (old : Option ℕ) (x : ℕ) → taken_in (taken_for touch old f) ≡ Some x → f ≡ x
    same None x h = cc
    same (Some o) x h = cc

-- the page of an access, which core c holds, has this now
at_page : (w : World) (c : ℕ) (touch : Touch) (old new : Phase) (info : Option PageInfo) (cached : ℕ → ℕ → Option ℕ) → w.calls.phase c ≡ old
    → IsOrderly w → range_held old ≡ Some (page_of_touch touch) → range_held new ≡ range_held old
    → IsCutFor w.slots.edge (awaits_in new)
    → IsAsked w.made w.calls.requests c (w.calls.number c) new → IsReady w.made (with_info w.slots touch.page info) cached new
    → ((f : ℕ) → taken_in new ≡ Some f → ⊥)
    → IsCall w.made (with_info w.slots touch.page info) cached w.calls.requests c (w.calls.number c) new
at_page w c touch old new info cached e g was same out asked ready none =
    same_range w c old new (put w.slots.info touch.page info) cached (call_at w c old e g) same out asked ready (λ f h. absurd (none f h))

page_touches : (w : World) (c : ℕ) (touch : Touch) (old : Phase) (info : Option PageInfo) → w.calls.phase c ≡ old → IsOrderly w
    → range_held old ≡ Some (page_of_touch touch) → Touches w.slots (with_info w.slots touch.page info) c
page_touches w c touch old info e g was =
    touches_info w.slots c (put w.slots.info touch.page info)
    (λ p ne. put_other w.slots.info touch.page info p (λ at. ne (ap w.slots.owner at ∙ mine)))
  where
    mine : w.slots.owner touch.page ≡ Some c
    mine = (call_at w c old e g).owned touch.page (ap (λ r. some_has r touch.page) was ∙ page_is touch)

sets_page : (w : World) (c : ℕ) (touch : Touch) (old new : Phase) (info : Option PageInfo) (m : Memory) → w.calls.phase c ≡ old → IsOrderly w
    → c < w.made.cores → range_held old ≡ Some (page_of_touch touch) → range_held new ≡ range_held old → is_open new ≡ is_open old
    → IsCutFor w.slots.edge (awaits_in new) → KeepsCached w.memory.cached m.cached → IsAsked w.made w.calls.requests c (w.calls.number c) new
    → IsReady w.made (with_info w.slots touch.page info) m.cached new → ((f : ℕ) → taken_in new ≡ Some f → ⊥)
    → BelongsTo w.made touch.page info → IsMemory w.made m
    → IsOrderly (to c new (record w { slots = with_info w.slots touch.page info; memory = m }))
sets_page w c touch old new info m e g lt was same opened out keeps asked ready none belongs memory =
    goes_on w c new (with_info w.slots touch.page info) m g lt (opened ∙ sym (ap is_open e)) (page_touches w c touch old info e g was) keeps
    (at_page w c touch old new info m.cached e g was same out asked ready none)
    (put_all (BelongsTo w.made) w.slots.info touch.page info belongs (λ p ne. g.pages p)) memory

-- the page has a copy of its own now
copies_page : (w : World) (c : ℕ) (touch : Touch) (old new : Phase) (info : Option PageInfo) (m : Memory) → w.calls.phase c ≡ old → IsOrderly w
    → c < w.made.cores → range_held old ≡ Some (page_of_touch touch) → range_held new ≡ range_held old → is_open new ≡ is_open old
    → IsCutFor w.slots.edge (awaits_in new) → KeepsCached w.memory.cached m.cached → IsAsked w.made w.calls.requests c (w.calls.number c) new
    → IsReady w.made (with_info w.slots touch.page info) m.cached new → ((f : ℕ) → taken_in new ≡ Some f → ⊥)
    → BelongsTo w.made touch.page info → IsMemory w.made m
    → IsOrderly (to c new (with_entry (detach_entry w c touch.page) (record w { slots = with_info w.slots touch.page info; memory = m })))
copies_page w c touch old new info m e g lt was same opened out keeps asked ready none belongs memory =
    copies_on w c new (with_info w.slots touch.page info) m w.calls.events (w.calls.number c) touch.page g lt (opened ∙ sym (ap is_open e))
    (page_touches w c touch old info e g was) keeps (at_page w c touch old new info m.cached e g was same out asked ready none)
    (put_all (BelongsTo w.made) w.slots.info touch.page info belongs (λ p ne. g.pages p)) memory

framed_usable : (made : Made) (f : ℕ) (o : Option PageInfo) (access : Access) → IsUsable made.file o access None
    → IsUsable made.file (info_with_frame f o) access (Some f)
framed_usable made f None access u = absurd u
framed_usable made f (Some info) access u = (u.0, u.1, refl)

-- the page that gets the frame is ready for its translation
framed_ready : (made : Made) (s : Slots) (cached : ℕ → ℕ → Option ℕ) (touch : Touch) (f : ℕ)
    → IsUsable made.file (s.info touch.page) touch.access None
    → IsReady made (with_info s touch.page (info_with_frame f (s.info touch.page))) cached (Install touch)
framed_ready made s cached touch f u =
    let new : Option PageInfo = info_with_frame f (s.info touch.page) in (
      f,
      subst (λ o. IsUsable made.file o touch.access (Some f)) (sym (put_same s.info touch.page new))
          (framed_usable made f (s.info touch.page) touch.access u),
    )

-- memory in which frame f has these bytes and is counted
filled_memory : (w : World) (f n : ℕ) (counts : Counts) (bytes : ℕ → Bytes) → IsOrderly w → Takes w.memory.counts (Begin f n) counts
    → IsMemory w.made (record w.memory { bytes = bytes; counts = counts })
filled_memory w f n counts bytes g t =
    written w.made (record w.memory { counts = counts }) bytes (counted w.made w.memory (Begin f n) counts g.memory t)

pub zeroes_kept : (w : World) (c : ℕ) (touch : Touch) (f : ℕ) (counts : Counts) → IsOrderly w → c < w.made.cores
    → w.calls.phase c ≡ Fill touch (Some f) → Takes w.memory.counts (Begin f 1) counts → IsOrderly (after_zeros c touch f counts w)
zeroes_kept w c touch f counts g lt e t =
    let k : IsCallOf w c (Fill touch (Some f)) = call_at w c (Fill touch (Some f)) e g in
    sets_page w c touch (Fill touch (Some f)) (Install touch) (info_with_frame f (w.slots.info touch.page)) (after_zeros c touch f counts w).memory
    e g lt refl refl refl tt (λ n k f h. h) k.asked (framed_ready w.made w.slots w.memory.cached touch f k.ready.0) (λ x h. cc)
    (framed_belongs w.made touch.page f (w.slots.info touch.page) (k.taken f refl) (g.pages touch.page)) (filled_memory w f 1 counts _ g t)

pub first_copies_kept : (w : World) (c : ℕ) (touch : Touch) (f : ℕ) (counts : Counts) → IsOrderly w → c < w.made.cores
    → w.calls.phase c ≡ Fill touch (Some f) → Takes w.memory.counts (Begin f 1) counts → IsOrderly (after_first_copy c touch f counts w)
first_copies_kept w c touch f counts g lt e t =
    let k : IsCallOf w c (Fill touch (Some f)) = call_at w c (Fill touch (Some f)) e g in
    copies_page w c touch (Fill touch (Some f)) (Install touch) (info_with_frame f (w.slots.info touch.page))
    (after_first_copy c touch f counts w).memory e g lt refl refl refl tt (λ n k f h. h) k.asked
    (framed_ready w.made w.slots w.memory.cached touch f k.ready.0) (λ x h. cc)
    (framed_belongs w.made touch.page f (w.slots.info touch.page) (k.taken f refl) (g.pages touch.page)) (filled_memory w f 1 counts _ g t)

-- a file page that no frame cached is cached
keeps_more : (cached : ℕ → ℕ → Option ℕ) (back : Back) (f : ℕ) → file_frame cached back ≡ None → KeepsCached cached (with_cached cached back f)
keeps_more cached Anon f none n k g h = h
keeps_more cached (Shared m l) f none n k g h = keeps_at cached m l f none n k g h
keeps_more cached (Private m l) f none n k g h = keeps_at cached m l f none n k g h

pub caches_kept : (w : World) (c : ℕ) (touch : Touch) (f : ℕ) (counts : Counts) → IsOrderly w → c < w.made.cores
    → w.calls.phase c ≡ Fill touch (Some f) → file_frame w.memory.cached (back_of (w.slots.info touch.page)) ≡ None
    → Takes w.memory.counts (Begin f 2) counts → IsOrderly (after_caching c touch f counts w)
caches_kept w c touch f counts g lt e none t =
    let k : IsCallOf w c (Fill touch (Some f)) = call_at w c (Fill touch (Some f)) e g in
    let m : Memory = (after_caching c touch f counts w).memory in
    sets_page w c touch (Fill touch (Some f)) (Install touch) (info_with_frame f (w.slots.info touch.page)) m e g lt refl refl refl tt
    (keeps_more w.memory.cached (back_of (w.slots.info touch.page)) f none) k.asked
    (framed_ready w.made w.slots m.cached touch f k.ready.0) (λ x h. cc)
    (framed_belongs w.made touch.page f (w.slots.info touch.page) (k.taken f refl) (g.pages touch.page))
    (cached_more w.made _ m.cached (filled_memory w f 2 counts _ g t)
    (caches_below w.memory.cached (back_of (w.slots.info touch.page)) f w.made.frames (k.taken f refl) g.memory.cached))

pub shares_kept : (w : World) (c : ℕ) (touch : Touch) (own : Option ℕ) (x : ℕ) (counts : Counts) → IsOrderly w → c < w.made.cores
    → w.calls.phase c ≡ Fill touch own → file_frame w.memory.cached (back_of (w.slots.info touch.page)) ≡ Some x
    → Takes w.memory.counts (Inc c x) counts → IsOrderly (after_sharing c touch own x counts w)
shares_kept w c touch own x counts g lt e shown t =
    let k : IsCallOf w c (Fill touch own) = call_at w c (Fill touch own) e g in
    sets_page w c touch (Fill touch own) (Install touch) (info_with_frame x (w.slots.info touch.page)) (after_sharing c touch own x counts w).memory
    e g lt refl refl refl tt (λ n k f h. h) k.asked (framed_ready w.made w.slots w.memory.cached touch x k.ready.0) (λ x h. cc)
    (framed_belongs w.made touch.page x (w.slots.info touch.page) (cached_below w (back_of (w.slots.info touch.page)) x g shown) (g.pages touch.page))
    (frees w.made (record w.memory { counts = counts }) _ (counted w.made w.memory (Inc c x) counts g.memory t)
    (given_below w own g k.taken))

-- ---- a copy in place of the file's page

pub posts_copy_kept : (w : World) (c : ℕ) (touch : Touch) (f : ℕ) → IsOrderly w → c < w.made.cores → w.calls.phase c ≡ CopyPost touch f
    → IsOrderly (after_copy_post c touch f w)
posts_copy_kept w c touch f g lt e =
    let k : IsCallOf w c (CopyPost touch f) = call_at w c (CopyPost touch f) e g in
    steps w c (CopyPost touch f) (CopyAcks touch f) e g lt refl refl k.cut k.asked k.ready k.taken

copied_usable : (made : Made) (f g : ℕ) (o : Option PageInfo) (access : Access) → IsUsable made.file o access (Some g)
    → IsUsable made.file (info_with_copy f o) access (Some f)
copied_usable made f g None access u = absurd u
copied_usable made f g (Some info) access u = (u.0, u.1, refl)

pub copies_kept : (w : World) (c : ℕ) (touch : Touch) (f x : ℕ) (counts : Counts) → IsOrderly w → c < w.made.cores
    → w.calls.phase c ≡ CopyAcks touch f → CountsCopy c f x w.memory.counts counts → IsOrderly (after_copy c touch f x counts w)
copies_kept w c touch f x counts g lt e t =
    let k : IsCallOf w c (CopyAcks touch f) = call_at w c (CopyAcks touch f) e g in
    let new : Option PageInfo = info_with_copy f (w.slots.info touch.page) in
    copies_page w c touch (CopyAcks touch f) (Install touch) new (after_copy c touch f x counts w).memory e g lt refl refl refl tt (λ n k f h. h) k.asked (
      f,
      subst (λ o. IsUsable w.made.file o touch.access (Some f)) (sym (put_same w.slots.info touch.page new))
          (copied_usable w.made f k.ready.0 (w.slots.info touch.page) touch.access k.ready.1),
    )
    (λ x h. cc) (copied_belongs w.made touch.page f (w.slots.info touch.page) (k.taken f refl) (g.pages touch.page))
    (written w.made (record w.memory { counts = counts }) _
    (counted w.made (record w.memory { counts = t.0 }) (Dec c x) counts (counted w.made w.memory (Begin f 1) t.0 g.memory t.1) t.2))

pub installs_kept : (w : World) (c : ℕ) (touch : Touch) → IsOrderly w → c < w.made.cores → w.calls.phase c ≡ Install touch → IsOrderly (after_install c touch w)
installs_kept w c touch g lt e =
    sets_page w c touch (Install touch) (Release touch) (info_with_core c (w.slots.info touch.page)) w.memory e g lt refl refl refl tt (λ n k f h. h)
    (call_at w c (Install touch) e g).asked tt
    (λ x h. cc) (recorded_belongs w.made touch.page c (w.slots.info touch.page) lt (g.pages touch.page)) g.memory
