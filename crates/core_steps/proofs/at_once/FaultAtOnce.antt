-- A fault whose page is a slot of its own that nobody holds, made at once: the states that it passes, and the one that is left
use Rattle.machine_model.proofs.Words.{◌≡◌, ℕ, suc, ◌+◌, ◌-◌, ◌<◌, ◌≤◌, Bool, false, true, Option, Some, None, Err, refl, sym, subst, ap, ◌∙◌, arith}
use Rattle.machine_model.proofs.Words.{inl, inr, ◌⊎◌}
use Rattle.machine_model.proofs.Words.{if◌then◌else◌, Back, Anon, Shared, Private, PageInfo, Reply, Access, is_anonymous, put, frame_of, info_with_core}
use Rattle.machine_model.proofs.Words.{info_with_frame, is_allowed, by_test, put_same, Touch, with_info, Translated, Settled, is_cached, is_private_store}
use Rattle.machine_model.proofs.Words.{settled, source, Hardware, Memory, World}
use Rattle.machine_model.proofs.Words.{after_finding, found_at, is_past_end, memory_after, reply_of, answer_entry, to, with_entry, back_of, file_frame}
use Rattle.machine_model.proofs.Words.{FillsBacked, FillsFromFile, page_of_touch, locking, Step, StepsTo, event_limit, with_event, after_translating}
use Rattle.machine_model.proofs.Words.{entry_of_page, frame_reached, translated_by, with_hardware, with_table}
use Rattle.machine_model.proofs.Words.{AwaitsNobody, after_shot, tables_cleared, tlb_invalidated, info_with_copy, fun_ext, has, has_in, over, pages_from}
use Rattle.machine_model.proofs.Words.{cond, props, put_both, ∥∥₁_elim}
use Rattle.std.specs.Prelude.{◌≢◌}
use Rattle.vm_base.specs.Info.{recorded_cores}
use Rattle.std.proofs.Common.{◌&&◌, ◌||◌}
use Rattle.std.proofs.Common.{is_some}
use Rattle.std.proofs.lemmas.Bool.{not-false, or_parts}
use Rattle.vm_base.specs.Plain.{file_bytes}
use Rattle.machine_model.proofs.Words.{File, Translation, [], ◌++◌, ◌∷◌, after_first_copy}
use Rattle.machine_model.specs.Filling.{FillsOwn}
use Rattle.machine_model.specs.declared.event.Event.TheVariants.{Go}
use Rattle.machine_model.specs.declared.event.Outcome.TheVariants.{Stepped}
use Rattle.machine_model.specs.declared.phase.Phase.{Phase}
use Rattle.machine_model.specs.declared.phase.Phase.TheVariants.{Answer, CopyAcks, CopyPost, Fill, Install, Release, Settle, Try, Want}
use Rattle.vm_base.specs.declared.log.Entry.TheVariants as EntryOf
use Rattle.vm_base.specs.declared.rights.Access.TheVariants.{Store}
use Rattle.slot_lock.specs.declared.plan.Goal.TheVariants as To
use Rattle.mmu.specs.declared.translated.Translated.TheVariants as By
use Rattle.vm_calls.specs.declared.fault.Settled.TheVariants as Found
use Rattle.machine_model.specs.Accesses.{NoneFree, after_translation, after_try, lies_past_end}
use Rattle.vm_base.specs.declared.replies.Reply.TheVariants.{NoFrame}
use Rattle.core_steps.specs.declared.at_once.fault.Source.{Source}
use Rattle.core_steps.specs.declared.at_once.fault.Source.TheVariants.{Own, Cached, Free, Read, First, Shown}
use Rattle.core_steps.specs.Filling.{IsOfFile}
use Rattle.core_steps.specs.Moving.{CanTry, IsAt, tried_to}
use Rattle.core_steps.specs.OnePage.{CanTake, IsFault, IsSource, Makes, Passes, ReadsBacking, TakesFrom, after_settling, at_lock, frame_from}
use Rattle.core_steps.specs.OnePage.{IsUntold, cached_from, detached_from, hardware_from, later, log_from, logged_later, shown_from, steps_from, wants_frame}
use Rattle.core_steps.specs.OnePage.{with_entry_of}
use Rattle.core_steps.specs.PageChange.{IsAlone}
use Rattle.core_steps.proofs.at_once.AtOnce.{answered, goes, holding, locked, one_later, passes_join}
use Rattle.core_steps.proofs.at_once.AtOnce.{released, stands, step_from, to_same, to_twice}
use Rattle.core_steps.proofs.rows.Framing.{cached_anew, cached_below, counted_few, first_copied, fills_zeros, of_file_frame, page_frame_used, shown_here}
use Rattle.core_steps.proofs.rows.Framing.{shown_used, zeroed}
use Rattle.core_steps.proofs.rows.Known.{frame_below, free_below, free_unused, page_counted}
use Rattle.core_steps.proofs.engine.Each.{own_dropped, put_id, put_twice}
use Rattle.core_steps.proofs.rows.Rows.{installed}

-- ---- the try of an access

-- what is to be known turns neither on the phase nor on the number of events
pub can_try : (w : World) (c : ℕ) (touch : Touch) (phase : ℕ → Phase) (events : ℕ)
    → IsAt (record w { calls = record w.calls { phase = phase; events = events } }) c (Try touch) → CanTry w c touch
can_try w c touch phase events i = record {
  here = i.here;
  sound = i.plan;
  room = i.room refl;
  frame = λ f e. frame_below (record w { calls = record w.calls { phase = phase; events = events } }) c touch f i.well e;
}

pub tries : (w v : World) (c : ℕ) (touch : Touch) → w.calls.events < event_limit → c < w.made.cores → v ≡ after_try c touch (later 1 w)
    → Step (to c (Try touch) w) (Go c) Stepped v
tries w v c touch room here left =
    step_from w v c Stepped (Try touch) room here (
      refl,
      left ∙ (ap (after_try c touch) (one_later w)
          ∙ sym (same (with_hardware (after_translating w.hardware c touch) (with_event w)) (frame_reached (translated_by w.hardware c touch)))),
    )
  where
    -- that the call was to try it is forgotten
    same : (x : World) (o : Option ℕ) → after_translation c touch o (to c (Try touch) x) ≡ after_translation c touch o x
    same x None = to_twice x c (Try touch) (locking (To.Access touch))
    same x (Some f) =
        let y = record x { memory = memory_after touch f x.memory } in
        let reply = reply_of touch f x.memory in to_twice (with_entry (answer_entry y c reply) y) c (Try touch) (Answer reply)

-- what a translation reaches
pub reached_by : (by t : Translated) (f : ℕ) → t ≡ by → (t ≡ By.Hit f) ⊎ (t ≡ By.Fill f) → frame_reached by ≡ Some f
reached_by by t f e (inl k) = ap frame_reached (sym e ∙ k)
reached_by by t f e (inr k) = ap frame_reached (sym e ∙ k)

-- a frame was reached, and the reply is logged
pub touched : (w y z : World) (c : ℕ) (touch : Touch) (f : ℕ) (reply : Reply) (h : Hardware) → frame_reached (translated_by w.hardware c touch) ≡ Some f
    → h ≡ after_translating w.hardware c touch → y ≡ record (with_hardware h w) { memory = memory_after touch f w.memory }
    → reply ≡ reply_of touch f w.memory → z ≡ with_entry (answer_entry y c reply) y → to c (Answer reply) z ≡ after_try c touch w
touched w y z c touch f reply h reached translates memory replies logs = rw (logs, memory, replies, translates, reached) refl

-- ---- what is found at the page

-- what is known where this is found at a page that has this, of whose file page that frame is shown
abbrev Says : Option PageInfo → Access → Option ℕ → Settled → Type 0
Says o access shown (Found.Has f) = frame_of o ≡ Some f
Says o access shown (Found.Copies f) = frame_of o ≡ Some f
Says o access shown (Found.Cached g) = (is_private_store (back_of o) access ≡ false) × (shown ≡ Some g)
Says o access shown _ = Unit {0}

comes : (info : PageInfo) (access : Access) (frame shown : Option ℕ) → info.frame ≡ frame
    → Says (Some info) access shown (source info.meta.back frame access shown)
comes info access (Some f) shown e =
    by_test (Says (Some info) access shown) (is_private_store info.meta.back access && is_cached shown f) (Found.Copies f) (Found.Has f) (λ _. e) (λ _. e)
comes info access None None e = tt
comes info access None (Some g) e =
    let store = is_private_store info.meta.back access in
    let anon = is_anonymous info.meta.back in
    by_test (Says (Some info) access (Some g)) (store || anon) Found.Wants (Found.Cached g) (λ _. tt) (λ no. ((or_parts store anon no).0, refl))

says : (o : Option PageInfo) (access : Access) (past : Bool) (shown : Option ℕ) → Says o access shown (settled o access past shown)
says None access past shown = tt
says (Some info) access past shown =
    let found = source info.meta.back info.frame access shown in
    by_test (Says (Some info) access shown) (is_allowed info.meta.prot access) (if past then Found.Bus else found) Found.AccErr
    (λ _. by_test (Says (Some info) access shown) past Found.Bus found (λ _. tt) (λ _. comes info access info.frame shown refl)) (λ _. tt)

-- a page that has the frame already
framed : (o : Option PageInfo) (f : ℕ) → frame_of o ≡ Some f → info_with_frame f o ≡ o
framed None f e = absurd cc
framed (Some info) f e = ap (λ frame. Some (record info { frame = frame })) (sym e)

-- a page of a file shows the frame that caches its file page
shares : (w v : World) (c : ℕ) (touch : Touch) (g : ℕ) (back : Back) (access : Access) → is_private_store back access ≡ false
    → file_frame w.memory.cached back ≡ Some g → FillsFromFile w c touch None (Some g) Stepped v → FillsBacked w c touch None back access Stepped v
shares w v c touch g Anon access load e h = absurd cc
shares w v c touch g (Shared n k) access load e h = subst (λ o. FillsFromFile w c touch None o Stepped v) (sym e) h
shares w v c touch g (Private n k) Store load e h = absurd cc
shares w v c touch g (Private n k) access load e h = subst (λ o. FillsFromFile w c touch None o Stepped v) (sym e) h

-- or the frame that reads its file page, which none caches
reads : (w v : World) (c : ℕ) (touch : Touch) (own : Option ℕ) (back : Back) (access : Access) (n k : ℕ) → is_private_store back access ≡ false
    → IsOfFile back n k → w.memory.cached n k ≡ None → FillsFromFile w c touch own None Stepped v → FillsBacked w c touch own back access Stepped v
reads w v c touch own back access n k load backed none h = go back access load backed
  where
    from_file : FillsFromFile w c touch own (w.memory.cached n k) Stepped v
    from_file = subst (λ o. FillsFromFile w c touch own o Stepped v) (sym none) h

    private : (access : Access) → is_private_store (Private n k) access ≡ false → FillsBacked w c touch own (Private n k) access Stepped v
    private Store load = absurd cc
    private access load = from_file

    go : (back : Back) (access : Access) → is_private_store back access ≡ false → IsOfFile back n k → FillsBacked w c touch own back access Stepped v
    go back access load (inl e) = subst (λ back. FillsBacked w c touch own back access Stepped v) (sym e) from_file
    go back access load (inr e) =
        subst (λ back. FillsBacked w c touch own back access Stepped v) (sym e)
        (private access (ap (λ back. is_private_store back access) (sym e) ∙ load))

-- or, for a private store, one that gets a copy of it
copies : (w v : World) (c : ℕ) (touch : Touch) (own : Option ℕ) (back : Back) (access : Access) (n k : ℕ) → back ≡ Private n k → access ≡ Store
    → FillsOwn w (λ f counts. after_first_copy c touch f counts w) own Stepped v → FillsBacked w c touch own back access Stepped v
copies w v c touch own back access n k e s h =
    subst (λ b. FillsBacked w c touch own b access Stepped v) (sym e) (subst (λ a. FillsBacked w c touch own (Private n k) a Stepped v) (sym s) h)

-- the file page of what doesn't lie past its file's end is there
there : (file : ℕ → Option File) (back : Back) (n k : ℕ) → IsOfFile back n k → lies_past_end file back ≡ false → is_some (file_bytes (file n) k) ≡ true
there file back n k (inl e) past = not-false _ (ap (lies_past_end file) (sym e) ∙ past)
there file back n k (inr e) past = not-false _ (ap (lies_past_end file) (sym e) ∙ past)

named : (back : Back) (n k : ℕ) → IsOfFile back n k → is_anonymous back ≡ false
named back n k (inl e) = ap is_anonymous e
named back n k (inr e) = ap is_anonymous e

-- a page that wants a frame shows no file page, but for a private store,
unshown : (back : Back) (access : Access) (frame shown : Option ℕ) → source back frame access shown ≡ Found.Wants → is_private_store back access ≡ false
    → is_anonymous back ≡ false → shown ≡ None
unshown back access (Some f) shown e load named =
    by_test (λ s. s ≡ Found.Wants → shown ≡ None) (is_private_store back access && is_cached shown f) (Found.Copies f) (Found.Has f)
    (λ _ k. absurd cc) (λ _ k. absurd cc) e
unshown back access None None e load named = refl
unshown back access None (Some g) e load named =
    by_test (λ s. s ≡ Found.Wants → Some g ≡ None) (is_private_store back access || is_anonymous back) Found.Wants (Found.Cached g)
    (λ yes k. let no = rw (load, named) at yes in absurd cc) (λ _ k. absurd cc) e

-- and doesn't lie past its file's end
abbrev Wanted : PageInfo → Access → Bool → Option ℕ → Settled → Type 0
Wanted info access past shown s =
    s ≡ Found.Wants → (past ≡ false) × (is_private_store info.meta.back access ≡ false → is_anonymous info.meta.back ≡ false → shown ≡ None)

wanted : (o : Option PageInfo) (access : Access) (past : Bool) (shown : Option ℕ) → settled o access past shown ≡ Found.Wants
    → (past ≡ false) × (is_private_store (back_of o) access ≡ false → is_anonymous (back_of o) ≡ false → shown ≡ None)
wanted None access past shown e = absurd cc
wanted (Some info) access past shown e =
    let found = source info.meta.back info.frame access shown in
    by_test (Wanted info access past shown) (is_allowed info.meta.prot access) (if past then Found.Bus else found) Found.AccErr
    (λ _. by_test (Wanted info access past shown) past Found.Bus found (λ _ k. absurd cc)
    (λ no k. (no, unshown info.meta.back access info.frame shown k))) (λ _ k. absurd cc) e

-- ---- which frames cache pages of files then

-- what is read is the page's backing
pub reads_backing : (access : Access) (found : Settled) (back : Back) (is_free : ℕ → Bool) (from : Source) → IsSource access found back is_free from
    → ReadsBacking from back
reads_backing access found back is_free (Read f n k) h = h.backed
reads_backing access found back is_free (Own f) h = tt
reads_backing access found back is_free (Cached f) h = tt
reads_backing access found back is_free (Free f) h = tt
reads_backing access found back is_free (First f n k) h = tt
reads_backing access found back is_free (Shown f g) h = tt

caches : (from : Source) (c : ℕ) (file : ℕ → Option File) (m n : Memory) → TakesFrom file m c from n → n.cached ≡ cached_from m.cached from
caches (Own f) c file m n t = ap (λ (x : Memory). x.cached) t
caches (Cached f) c file m n t = ap (λ (x : Memory). x.cached) t.2
caches (Free f) c file m n t = ap (λ (x : Memory). x.cached) t.2
caches (Read f i k) c file m n t = ap (λ (x : Memory). x.cached) t.2
caches (First f i k) c file m n t = ap (λ (x : Memory). x.cached) t.2
caches (Shown f g) c file m n t = ap (λ (x : Memory). x.cached) t.2

-- an access that has to take a frame goes on to where it wants one
wanting : (c : ℕ) (touch : Touch) (s : Settled) → wants_frame s ≡ true
    → (old : Option ℕ) × ((m : World) → after_finding c touch s m ≡ to c (Want touch old) m)
wanting c touch Found.Wants e = (None, λ m. refl)
wanting c touch (Found.Copies f) e = (Some f, λ m. refl)
wanting c touch _ e = absurd cc

few_steps : (from : Source) → steps_from from ≤ 3
few_steps (Own f) = omega arith
few_steps from = omega arith

-- what the page has with the frame
abbrev info_after : Source → Option PageInfo → Option PageInfo
info_after (Shown f g) o = info_with_copy f o
info_after from o = info_with_frame (frame_from from) o

shows_it : (from : Source) (info : PageInfo) → info_after from (Some info) ≡ Some (shown_from from info)
shows_it (Own f) info = refl
shows_it (Cached f) info = refl
shows_it (Free f) info = refl
shows_it (Read f n k) info = refl
shows_it (First f n k) info = refl
shows_it (Shown f g) info = refl

-- of a page alone: what is cleared and set is set
cleared_set : {V : Type 0} (f : ℕ → V) (none v : V) (p : ℕ) → put (over f (has (pages_from p 1)) none) p v ≡ put f p v
cleared_set f none v p =
    fun_ext (put_both (λ j x y. x ≡ y) (over f (has (pages_from p 1)) none) f p v v refl (λ j other. outside j other (has (pages_from p 1) j) refl))
  where
    outside : (j : ℕ) → j ≢ p → (b : Bool) → has (pages_from p 1) j ≡ b → over f (has (pages_from p 1)) none j ≡ f j
    outside j other true h = let ends = has_in (pages_from p 1) j h in let low = ends.0 in let high = ends.1 in absurd (other (omega (arith, low, high)))
    outside j other false h = ap (λ b. cond b none (f j)) h

-- ---- steps at the page, from the lock of it on

module _ (w : World) (c : ℕ) (touch : Touch) (fault : IsFault (at_lock c touch w) c touch) where
  abbrev pages : World → World
  pages = holding c (page_of_touch touch)

  at : IsAt (at_lock c touch w) c (locking (To.Access touch))
  at = stands w c (locking (To.Access touch)) fault.here fault.reached

  locks : StepsTo (at_lock c touch w) c 1 (to c (Settle touch) (later 1 (pages w)))
  locks = locked w c (To.Access touch) (omega arith) fault.here refl fault.alone

  -- the access fails by what is found,
  pub failed : (v : World) (reply : Reply) → ((m : World) → after_finding c touch (found_at w touch) m ≡ after_settling c touch (Err reply) m)
      → v ≡ logged_later c reply 2 w → Makes w c touch (Some reply) v
  failed v reply failure now =
      subst (Makes w c touch (Some reply)) (sym now) (record {
        steps = 3;
        few = omega arith;
        passes = record {
          steps = answered (at_lock c touch w) w w.slots.info w.memory c 1 (page_of_touch touch) (Settle touch) reply locks (omega arith)
              fault.here refl fault.alone (refl, sym (failure (to c (Settle touch) (with_event (later 1 (pages w))))));
          cores = refl;
          phases = refl;
          events = omega arith;
          edges = refl;
        };
      })

  -- or goes on by it
  settles : (b : Phase) (s : Settled) → found_at w touch ≡ s → ((m : World) → after_finding c touch s m ≡ to c b m)
      → StepsTo (at_lock c touch w) c 2 (to c b (later 2 (pages w)))
  settles b s found finds =
      let m = to c (Settle touch) (with_event (later 1 (pages w))) in (
        to c (Settle touch) (later 1 (pages w)),
        locks,
        goes (pages w) (pages w) c 1 (Settle touch) b (omega arith) fault.here
            (refl, sym (ap (λ s. after_finding c touch s m) found ∙ finds m)),
      )

  -- it has to take a frame, and none is free
  pub unserved : (v : World) (s : Settled) → found_at w touch ≡ s → wants_frame s ≡ true → NoneFree w.memory.is_free
      → v ≡ logged_later c NoFrame 3 w → Makes w c touch (Some NoFrame) v
  unserved v s found wants none now =
      let want = wanting c touch s wants in
      let want_phase = Want touch want.0 in
      subst (Makes w c touch (Some NoFrame)) (sym now) (record {
        steps = 4;
        few = omega arith;
        passes = record {
          steps = answered (at_lock c touch w) w w.slots.info w.memory c 2 (page_of_touch touch) want_phase NoFrame
              (settles want_phase s found want.1) (omega arith) fault.here refl fault.alone (inl (none, (refl, refl)));
          cores = refl;
          phases = refl;
          events = omega arith;
          edges = refl;
        };
      })

  said : (s : Settled) → found_at w touch ≡ s → Says (w.slots.info touch.page) touch.access (file_frame w.memory.cached (back_of (w.slots.info touch.page))) s
  said s found =
      let o = w.slots.info touch.page in
      let shown = file_frame w.memory.cached (back_of o) in
      subst (Says o touch.access shown) found (says o touch.access (is_past_end w.made.file o) shown)

  -- ---- the page, which has this, gets a frame from there

  module _ (info : PageInfo) (e : w.slots.info touch.page ≡ Some info) where
    abbrev Comes : Source → Type 0
    Comes = IsSource touch.access (found_at w touch) info.meta.back w.memory.is_free

    -- what is known of a file page that is to be read
    module _ {f n k : ℕ} (h : Comes (Read f n k)) where
      abbrev back : Back
      back = back_of (w.slots.info touch.page)

      known : (is_past_end w.made.file (w.slots.info touch.page) ≡ false)
          × (is_private_store back touch.access ≡ false → is_anonymous back ≡ false → file_frame w.memory.cached back ≡ None)
      known = wanted (w.slots.info touch.page) touch.access (is_past_end w.made.file (w.slots.info touch.page)) (file_frame w.memory.cached back) h.wants

      backed : IsOfFile back n k
      backed = subst (λ b. IsOfFile b n k) (sym (ap back_of e)) h.backed

      shared : is_private_store back touch.access ≡ false
      shared = ap (λ b. is_private_store b touch.access) (ap back_of e) ∙ h.shared

      uncached : w.memory.cached n k ≡ None
      uncached = sym (of_file_frame w.memory.cached back n k backed) ∙ known.1 shared (named back n k backed)

    pub can_take : (from : Source) → Comes from → CanTake w c from
    can_take (Own f) h = tt
    can_take (Cached f) h =
        let m = at_lock c touch w in
        let back = back_of (w.slots.info touch.page) in
        let shown = (said (Found.Cached f) h).1 in
        record {
          here = at.counted;
          object = at.objects f (shown_here m back f at.well shown);
          used = shown_used m back f at.well shown;
          few = counted_few m f at.well;
        }
    can_take (Free f) h =
        let m = at_lock c touch w in
        let here = free_below m at.well f h.2.free in
        record { here = here; free = h.2.free; object = at.objects f here; unused = free_unused m f at.well h.2.free }
    can_take (Read f n k) h =
        let m = at_lock c touch w in
        let here = free_below m at.well f h.least.free in
        record {
          frame = record { here = here; free = h.least.free; object = at.objects f here; unused = free_unused m f at.well h.least.free };
          there = there w.made.file info.meta.back n k h.backed (ap (is_past_end w.made.file) (sym e) ∙ (known h).0);
          uncached = uncached h;
        }
    can_take (Shown f g) h =
        let m = at_lock c touch w in
        let here = free_below m at.well f h.1.free in
        let had = said (Found.Copies g) h.0 in
        let counted = page_counted m touch.page g at.well had in
        record {
          frame = record { here = here; free = h.1.free; object = at.objects f here; unused = free_unused m f at.well h.1.free };
          shown = ∥∥₁_elim at.well (hlevel props) (λ k. (k.order.pages touch.page).frame g had);
          here = at.counted;
          object = counted.object;
          used = λ counts begun. page_frame_used m touch.page f g counts at.well had begun;
        }
    can_take (First f n k) h =
        let m = at_lock c touch w in
        let here = free_below m at.well f h.least.free in
        let o = w.slots.info touch.page in
        record {
          frame = record { here = here; free = h.least.free; object = at.objects f here; unused = free_unused m f at.well h.least.free };
          there = there w.made.file info.meta.back n k (inr h.backed) (ap (is_past_end w.made.file) (sym e)
              ∙ (wanted o touch.access (is_past_end w.made.file o) (file_frame w.memory.cached (back_of o)) h.wants).0);
          below = cached_below m at.well n k;
        }

    -- the core has dropped the page before a copy shows
    abbrev hardware_at : Source → Hardware
    hardware_at (Shown f g) = after_shot w.hardware c (recorded_cores (w.slots.info touch.page)) (page_of_touch touch)
    hardware_at _ = w.hardware

    -- with the frame, and where this is the memory then
    abbrev filled : Source → Memory → World
    filled from m = record w {
      slots = with_info w.slots touch.page (info_after from (w.slots.info touch.page));
      hardware = hardware_at from;
      memory = m;
      calls = record w.calls { log = log_from c touch.page from w.calls };
    }

    -- as a copy that this step logged
    abbrev copied : ℕ → ℕ → Memory → World
    copied f step m = record w {
      slots = with_info w.slots touch.page (info_with_frame f (w.slots.info touch.page));
      memory = m;
      calls = record w.calls { log = w.calls.log ++ EntryOf.Detach step (w.calls.number c) touch.page ∷ [] };
    }

    -- as a copy of the frame that the page had
    abbrev copied_at : ℕ → ℕ → Memory → World
    copied_at f step m = record w {
      slots = with_info w.slots touch.page (info_with_copy f (w.slots.info touch.page));
      hardware = after_shot w.hardware c (recorded_cores (w.slots.info touch.page)) (page_of_touch touch);
      memory = m;
      calls = record w.calls { log = w.calls.log ++ EntryOf.Detach step (w.calls.number c) touch.page ∷ [] };
    }

    -- no other core is recorded on the page
    only_own : IsAlone info.cores c → IsAlone (recorded_cores (w.slots.info touch.page)) c
    only_own = subst (λ (o : Option PageInfo). IsAlone (recorded_cores o) c) (sym e)

    -- with this entry of the page the core's tables are the same
    abbrev hardware_left : Source → Option Translation → Hardware
    hardware_left from entry = hardware_from c touch.page from (with_table w.hardware c (put (w.hardware.table c) touch.page entry))

    same_hardware : (from : Source) → IsUntold from c info.cores → (entry : Option Translation)
        → hardware_left from entry ≡ with_table (hardware_at from) c (put ((hardware_at from).table c) touch.page entry)
    same_hardware (Shown f g) alone entry =
        let h = w.hardware in
        let r = page_of_touch touch in
        let none = over (h.table c) (has r) None in
        let own = tlb_invalidated (tables_cleared h c r) c r in
        let gone = own_dropped h c (recorded_cores (w.slots.info touch.page)) r (only_own alone) in
        ap (λ t. record own { table = t }) (ap (put h.table c) (sym (cleared_set (h.table c) None entry touch.page))
        ∙ (put_twice h.table c none (put none touch.page entry)
        ∙ ap (λ t. put (put h.table c none) c (put t touch.page entry)) (sym (put_same h.table c none))))
        ∙ ap (λ (h : Hardware). with_table h c (put (h.table c) touch.page entry)) (sym gone)
    same_hardware (Own f) alone entry = refl
    same_hardware (Cached f) alone entry = refl
    same_hardware (Free f) alone entry = refl
    same_hardware (Read f n k) alone entry = refl
    same_hardware (First f n k) alone entry = refl

    fetches : (from : Source) (m : Memory) → Comes from → IsUntold from c info.cores → TakesFrom w.made.file w.memory c from m
        → StepsTo (at_lock c touch w) c (steps_from from + 2) (to c (Install touch) (later (steps_from from + 2) (pages (filled from m))))
    fetches (Own f) m h alone t =
        let same = put_id w.slots.info touch.page _ (framed (w.slots.info touch.page) f (said (Found.Has f) h)) in
        subst (λ (x : World). StepsTo (at_lock c touch w) c 2 (to c (Install touch) (later 2 (pages x))))
        (sym (ap (filled (Own f)) t ∙ ap (λ i. record w { slots = record w.slots { info = i } }) same)) (settles (Install touch) (Found.Has f) h (λ m. refl))
    fetches (Cached f) m h alone t =
        let fill = Fill touch None in
        let known = said (Found.Cached f) h in (
          to c fill (later 2 (pages w)),
          settles fill (Found.Cached f) h (λ m. refl),
          goes (pages w) (pages (filled (Cached f) m)) c 2 fill (Install touch) (omega arith) fault.here
              (shares (to c fill (with_event (later 2 (pages w)))) _ c touch f (back_of (w.slots.info touch.page)) touch.access known.0 known.1
              (t.0, t.1, (refl, ap (λ (m : Memory). to c (Install touch) (to c fill (with_event (later 2 (pages (filled (Cached f) m)))))) t.2))),
        )
    fetches (Free f) m h alone t =
        let fill = Fill touch (Some f) in
        let taken = record w { memory = record w.memory { is_free = put w.memory.is_free f false } } in
        let x = to c fill (with_event (later 3 (pages taken))) in
        let back : back_of (w.slots.info touch.page) ≡ Anon = ap back_of e ∙ h.1 in (
          to c fill (later 3 (pages taken)),
          (
            to c (Want touch None) (later 2 (pages w)),
            settles (Want touch None) Found.Wants h.0 (λ m. refl),
            goes (pages w) (pages taken) c 2 (Want touch None) fill (omega arith) fault.here
                (inr (f, record { free = h.2.free; least = h.2.least }, (refl, refl))),
          ),
          goes (pages taken) (pages (filled (Free f) m)) c 3 fill (Install touch) (omega arith) fault.here
              (fills_zeros x _ c touch (Some f) Stepped back (zeroed x _ c touch f t.0 back t.1
              (ap (λ (m : Memory). to c (Install touch) (to c fill (with_event (later 3 (pages (filled (Free f) m)))))) t.2))),
        )
    fetches (Read f n k) m h alone t =
        let fill = Fill touch (Some f) in
        let taken = record w { memory = record w.memory { is_free = put w.memory.is_free f false } } in
        let x = to c fill (with_event (later 3 (pages taken))) in (
          to c fill (later 3 (pages taken)),
          (
            to c (Want touch None) (later 2 (pages w)),
            settles (Want touch None) Found.Wants h.wants (λ m. refl),
            goes (pages w) (pages taken) c 2 (Want touch None) fill (omega arith) fault.here
                (inr (f, record { free = h.least.free; least = h.least.least }, (refl, refl))),
          ),
          goes (pages taken) (pages (filled (Read f n k) m)) c 3 fill (Install touch) (omega arith) fault.here
              (reads x _ c touch (Some f) (back_of (w.slots.info touch.page)) touch.access n k (shared h) (backed h) (uncached h)
              (cached_anew x _ c touch f n k t.0 (backed h) t.1
              (ap (λ (m : Memory). to c (Install touch) (to c fill (with_event (later 3 (pages (filled (Read f n k) m)))))) t.2))),
        )
    fetches (First f n k) m h alone t =
        let fill = Fill touch (Some f) in
        let taken = record w { memory = record w.memory { is_free = put w.memory.is_free f false } } in
        let x = to c fill (with_event (later 3 (pages taken))) in
        let back : back_of (w.slots.info touch.page) ≡ Private n k = ap back_of e ∙ h.backed in
        let step : w.calls.events + 4 ≡ suc (w.calls.events + 3) = omega arith in (
          to c fill (later 3 (pages taken)),
          (
            to c (Want touch None) (later 2 (pages w)),
            settles (Want touch None) Found.Wants h.wants (λ m. refl),
            goes (pages w) (pages taken) c 2 (Want touch None) fill (omega arith) fault.here
                (inr (f, record { free = h.least.free; least = h.least.least }, (refl, refl))),
          ),
          goes (pages taken) (pages (filled (First f n k) m)) c 3 fill (Install touch) (omega arith) fault.here
              (copies x _ c touch (Some f) (back_of (w.slots.info touch.page)) touch.access n k back h.stores
              (first_copied x _ c touch f n k t.0 back t.1
              (ap (λ s. to c (Install touch) (to c fill (with_event (later 3 (pages (copied f s m)))))) step
              ∙ ap (λ (m : Memory). to c (Install touch) (to c fill (with_event (later 3 (pages (copied f (suc (w.calls.events + 3)) m)))))) t.2))),
        )
    fetches (Shown f g) m h alone t =
        let acks = CopyAcks touch f in
        let taken = record w { memory = record w.memory { is_free = put w.memory.is_free f false } } in
        let told = with_hardware (hardware_at (Shown f g)) taken in
        let step : w.calls.events + 5 ≡ suc (w.calls.events + 4) = omega arith in (
          to c acks (later 4 (pages told)),
          (
            to c (CopyPost touch f) (later 3 (pages taken)),
            (
              to c (Want touch (Some g)) (later 2 (pages w)),
              settles (Want touch (Some g)) (Found.Copies g) h.0 (λ m. refl),
              goes (pages w) (pages taken) c 2 (Want touch (Some g)) (CopyPost touch f) (omega arith) fault.here
                  (inr (f, record { free = h.1.free; least = h.1.least }, (refl, refl))),
            ),
            goes (pages taken) (pages told) c 3 (CopyPost touch f) acks (omega arith) fault.here (refl, refl),
          ),
          goes (pages told) (pages (filled (Shown f g) m)) c 4 acks (Install touch) (omega arith) fault.here (inl (
            -- the call awaits nobody, as before
            subst (λ h. AwaitsNobody h c) (sym (own_dropped w.hardware c (recorded_cores (w.slots.info touch.page)) (page_of_touch touch) (only_own alone)))
                (at.idle refl),
            (
              g,
              t.0,
              said (Found.Copies g) h.0,
              t.1,
              (
                refl,
                ap (λ s. to c (Install touch) (to c acks (with_event (later 4 (pages (copied_at f s m)))))) step
                    ∙ ap (λ (m : Memory). to c (Install touch) (to c acks (with_event (later 4 (pages (copied_at f (suc (w.calls.events + 4)) m))))))
                    t.2,
              ),
            ),
          )),
        )

    abbrev shown : Source → PageInfo
    shown from = shown_from from info

    -- it is installed, and the page let go
    abbrev left : Source → Memory → World
    left from m = record (with_entry_of c touch.page (shown from) (entry_of_page m.cached (Some (shown from))) w) {
      hardware = hardware_left from (entry_of_page m.cached (Some (shown from)));
      memory = m;
      calls = record w.calls { log = log_from c touch.page from w.calls };
    }

    shows : (from : Source) (m : Memory) → Comes from → IsUntold from c info.cores → TakesFrom w.made.file w.memory c from m
        → StepsTo (at_lock c touch w) c (suc (suc (steps_from from + 2))) (to c (Try touch) (later (steps_from from + 2 + 1 + 1) (left from m)))
    shows from m h alone t =
        let k = steps_from from + 2 in
        let x = to c (Install touch) (with_event (later k (pages (filled from m)))) in
        let put_there = put_same w.slots.info touch.page (info_after from (w.slots.info touch.page)) ∙ (ap (info_after from) e ∙ shows_it from info) in
        let twice = put_twice w.slots.info touch.page (info_after from (w.slots.info touch.page)) (info_with_core c (Some (shown from))) in (
          to c (Release touch) (later (k + 1) (pages (left from m))),
          (
            to c (Install touch) (later k (pages (filled from m))),
            fetches from m h alone t,
            goes (pages (filled from m)) (pages (left from m)) c k (Install touch) (Release touch) (omega (arith, few_steps from)) fault.here (
              refl,
              ap (λ h. to c (Release touch) (record x {
                slots = record x.slots { info = put w.slots.info touch.page (info_with_core c (Some (shown from))) };
                hardware = h;
              })) (same_hardware from alone (entry_of_page m.cached (Some (shown from))))
                  ∙ (ap (installs x) twice ∙ installed x c touch (shown from) put_there),
            ),
          ),
          released (left from m) w.slots (put w.slots.info touch.page (info_with_core c (Some (shown from)))) c (k + 1) touch
              (omega (arith, few_steps from)) fault.here fault.alone,
        )
      where
        installs : World → (ℕ → Option PageInfo) → World
        installs x infos = to c (Release touch) (record x {
          slots = record x.slots { info = infos };
          hardware = with_table x.hardware c (put (x.hardware.table c) touch.page (entry_of_page x.memory.cached (Some (shown from))));
        })

    -- ---- the states that the code leaves: it is shown in a, by this entry, and its frame taken in v

    module _ (from : Source) (h : Comes from) (alone : IsUntold from c info.cores) (a v : World) (entry : Option Translation)
        (entered : entry ≡ entry_of_page (cached_from w.memory.cached from) (Some (shown from)))
        (now : a ≡ with_entry_of c touch.page (shown from) entry w)
        (taken : (memory : Memory) × TakesFrom a.made.file a.memory c from memory × (v ≡ detached_from c touch.page from (record a { memory = memory }))) where
      pub gets : Passes w c (locking (To.Access touch)) (suc (suc (steps_from from + 2))) (Try touch) (later (steps_from from + 4) v)
      gets =
          let memory = taken.0 in
          let x = left from memory in
          let takes = subst (λ (x : World). TakesFrom x.made.file x.memory c from memory) now taken.1 in
          let sum : w.calls.events + (steps_from from + 2 + 1 + 1) ≡ w.calls.events + (steps_from from + 4) = omega arith in
          let same = entered ∙ ap (λ cached. entry_of_page cached (Some (shown from))) (sym (caches from c w.made.file w.memory memory takes)) in
          subst (λ (x : World). Passes w c (locking (To.Access touch)) (suc (suc (steps_from from + 2))) (Try touch) (later (steps_from from + 4) x))
          (sym (taken.2 ∙ ap (λ (x : World). detached_from c touch.page from (record x { memory = memory }))
          (now ∙ ap (λ entry. with_entry_of c touch.page (shown from) entry w) same))) (record {
            steps = subst (λ n. StepsTo (at_lock c touch w) c (suc (suc (steps_from from + 2)))
                (to c (Try touch) (record x { calls = record x.calls { events = n } }))) sum (shows from memory h alone takes);
            cores = refl;
            phases = refl;
            events = omega arith;
            edges = refl;
          })

      -- and the access tried
      pub ends : (r : Option Reply) (x : World) → Passes (later (steps_from from + 4) v) c (Try touch) 1 (tried_to touch r) x → Makes w c touch r x
      ends r x tried = record {
        steps = suc (suc (steps_from from + 2)) + 1;
        few = omega (arith, few_steps from);
        passes = passes_join w (later (steps_from from + 4) v) x c (locking (To.Access touch)) (Try touch) (tried_to touch r)
            (suc (suc (steps_from from + 2))) 1 gets tried;
      }

-- the steps that were made, by the number of events
pub made_steps : (w m v : World) (c : ℕ) (touch : Touch) (r : Option Reply) → w.calls.phase c ≡ locking (To.Access touch) → Makes w c touch r m
    → v ≡ to c (tried_to touch r) m → StepsTo w c (v.calls.events - w.calls.events) v
made_steps w m v c touch r at makes left =
    let events = ap (λ (x : World). x.calls.events) left ∙ makes.passes.events in
    let made : makes.steps ≡ v.calls.events - w.calls.events = omega (arith, events) in
    subst (λ k. StepsTo w c k v) made (subst (λ x. StepsTo x c makes.steps v) (to_same w c (locking (To.Access touch)) at)
    (subst (StepsTo (at_lock c touch w) c makes.steps) (sym left) makes.passes.steps))
