-- What the code learns of a page that is to get a frame
use Rattle.machine_model.proofs.Words.{◌≡◌, ℕ, zero, suc, ◌<◌, ◌≤◌, ◌^◌, Bool, true, false, not, List, length, get_or, Option, None, Some, inl, inr, refl, sym}
use Rattle.machine_model.proofs.Words.{ap, subst, arith, ◌∙◌, pos, ◌+ℤ◌, ◌<ℤ◌, ◌==◌, IfSome, if◌then◌else◌, nat_lt, ∥∥₁_elim, props, ints, Back, Anon, Shared}
use Rattle.machine_model.proofs.Words.{Private, PageInfo, Access, put, frame_of, info_with_copy, info_with_frame, Bytes, File, bytes_in, Touch, with_info}
use Rattle.machine_model.proofs.Words.{Counts, true_count, Takes, Begin, true_counts_move, to, with_entry}
use Rattle.machine_model.proofs.Words.{detach_entry, back_of, bytes_shown, file_frame, page_now, with_cached, FillsBacked, FillsFromFile, after_copy}
use Rattle.machine_model.proofs.Words.{after_first_copy, after_zeros, World, Memory}
use Rattle.machine_model.specs.declared.event.Outcome.{Outcome}
use Rattle.machine_model.specs.declared.event.Outcome.TheVariants.{Stepped}
use Rattle.machine_model.specs.declared.phase.Phase.{Phase}
use Rattle.machine_model.specs.declared.phase.Phase.TheVariants.{Free, Fill, Install}
use Rattle.std.proofs.Common.{is_some}
use Rattle.std.proofs.lemmas.Bool.{cond_both, not-false}
use Rattle.std.proofs.lemmas.List.{get_or_read}
use Rattle.vm_base.specs.Plain.{file_bytes}
use Rattle.frames.specs.Files.{bytes_now}
use Rattle.machine_model.specs.Accesses.{lies_past_end}
use Rattle.machine_model.specs.Filling.{FillsFrame, FillsOwn}
use Rattle.machine_model.specs.Counted.{FilePage, is_frame, one_if, pages_with}
use Rattle.machine_model.proofs.CountsKept.{cached_positive}
use Rattle.machine_model.specs.Orderly.{IsUsable}
use Rattle.machine_model.proofs.Moves.{call_at}
use Rattle.machine_model.specs.Invariant.{IsWellFormed}
use Rattle.core_steps.specs.Moving.{IsAt}
use Rattle.core_steps.specs.State.{phase_at}
use Rattle.core_steps.specs.Filling.{IsOfFile}
use Rattle.core_steps.proofs.rows.Known.{if_some, is_at, order, page_counted}

-- ---- pages of files

-- what holds of both backings by a file page
by_file : (P : Back → Type 0) (back : Back) (n k : ℕ) → P (Shared n k) → P (Private n k) → IsOfFile back n k → P back
by_file P back n k a b (inl e) = subst P (sym e) a
by_file P back n k a b (inr e) = subst P (sym e) b

-- its file page is there
within : (file : ℕ → Option File) (access : Access) (frame : Option ℕ) (n k : ℕ) (o : Option PageInfo) → IsUsable file o access frame → IsOfFile (back_of o) n k
    → is_some (file_bytes (file n) k) ≡ true
within file access frame n k None u b = absurd u
within file access frame n k (Some info) u b =
    not-false _ (sym (by_file (λ back. lies_past_end file back ≡ not (is_some (file_bytes (file n) k))) info.meta.back n k refl refl b) ∙ u.1)

pub fill_within : (w : World) (c : ℕ) (touch : Touch) (frame : Option ℕ) (n k : ℕ) → IsAt w c (Fill touch frame)
    → IsOfFile (back_of (w.slots.info touch.page)) n k → is_some (file_bytes (w.made.file n) k) ≡ true
fill_within w c touch frame n k i b =
    ∥∥₁_elim (order i) (hlevel props) (λ g.
    within w.made.file touch.access None n k (w.slots.info touch.page) (call_at w c (Fill touch frame) i.phase g).ready.0 b)

now_in : (o : Option ℕ) (bytes : ℕ → Bytes) (own : Bytes) → bytes_now o bytes own ≡ bytes_in bytes own o
now_in None bytes own = refl
now_in (Some f) bytes own = refl

-- the bytes that the frame gets are those of the file page as they now are
pub filled_bytes : (m : Memory) (n k f : ℕ) (file : Option File) (new : ℕ → Bytes) → is_some (file_bytes file k) ≡ true
    → IfSome (file_bytes file k) (λ own. new ≡ put m.bytes f (bytes_now (m.cached n k) m.bytes own)) → new ≡ put m.bytes f (page_now m file n k)
filled_bytes m n k f None new h b = absurd cc
filled_bytes m n k f (Some file) new h b = go (nat_lt k file.count) h b
  where
    go : (t : Bool) → is_some (if t then Some (file.bytes k) else None) ≡ true
        → IfSome (if t then Some (file.bytes k) else None) (λ own. new ≡ put m.bytes f (bytes_now (m.cached n k) m.bytes own))
        → new ≡ put m.bytes f (page_now m (Some file) n k)
    go true h b = b ∙ ap (put m.bytes f) (now_in (m.cached n k) m.bytes (file.bytes k))
    go false h b = absurd cc

-- ---- frames that cache pages of files

pub cached_below : (w : World) → ∥ IsWellFormed w ∥₁ → (n k : ℕ) → IfSome (w.memory.cached n k) (λ g. g < w.made.frames)
cached_below w t n k = if_some (w.memory.cached n k) _ (λ f e. ∥∥₁_elim t (hlevel props) (λ g. g.order.memory.cached n k f e))

caches_it : (cached : ℕ → ℕ → Option ℕ) (back : Back) (f : ℕ) → file_frame cached back ≡ Some f → (n : ℕ) × (k : ℕ) × (cached n k ≡ Some f)
caches_it cached Anon f h = absurd cc
caches_it cached (Shared n k) f h = (n, k, h)
caches_it cached (Private n k) f h = (n, k, h)

pub shown_here : (w : World) (back : Back) (f : ℕ) → ∥ IsWellFormed w ∥₁ → file_frame w.memory.cached back ≡ Some f → f < w.made.frames
shown_here w back f t h = let at = caches_it w.memory.cached back f h in ∥∥₁_elim t (hlevel props) (λ g. g.order.memory.cached at.0 at.1 f at.2)

pub shown_used : (w : World) (back : Back) (f : ℕ) → ∥ IsWellFormed w ∥₁ → file_frame w.memory.cached back ≡ Some f → pos 0 <ℤ true_count w.memory.counts f
shown_used w back f t h = let at = caches_it w.memory.cached back f h in ∥∥₁_elim t (hlevel props) (λ g. cached_positive w g.counted at.0 at.1 f at.2)

-- no more pages have a frame than there are
few_pages : (info : ℕ → Option PageInfo) (f n : ℕ) → pages_with info f n ≤ n
unfolding pages_with
few_pages info f zero = omega arith
few_pages info f (suc n) = let ih = few_pages info f n in let b = few (is_frame (frame_of (info n)) f) in omega (arith, ih, b)
  where
    few : (b : Bool) → (if b then 1 else 0) ≤ 1
    few true = omega arith
    few false = omega arith

few_files : (o : Option FilePage) → one_if o ≤ 1
few_files None = omega arith
few_files (Some x) = omega arith

pub counted_few : (w : World) (f : ℕ) → ∥ IsWellFormed w ∥₁ → true_count w.memory.counts f <ℤ pos (2 ^ 40)
counted_few w f t = ∥∥₁_elim t (hlevel props) (λ g.
    let a = g.counted.users f in let b = few_pages w.slots.info f (2 ^ 35) in let c = few_files (g.counted.page_in f) in
    omega (arith, ints, a, b, c))

-- a call that has taken no frame finds one that caches the file page, for no private store
pub fill_shown : (w : World) (c : ℕ) (touch : Touch) → IsAt w c (Fill touch None) → file_frame w.memory.cached (back_of (w.slots.info touch.page)) ≡ None → ⊥
fill_shown w c touch i none =
    ∥∥₁_elim (order i) (hlevel props) (λ g. let ready = (call_at w c (Fill touch None) i.phase g).ready.1 in let some = ready.1.1 in absurd cc)

-- ---- a copy

-- the frame of a page is still counted where another frame's count begins
pub page_frame_used : (w : World) (p f g : ℕ) (m : Counts) → ∥ IsWellFormed w ∥₁ → frame_of (w.slots.info p) ≡ Some g → Takes w.memory.counts (Begin f 1) m
    → pos 0 <ℤ true_count m g
page_frame_used w p f g m t h step =
    let had = (page_counted w p g t h).used in
    cond_both (g == f) (pos 1) (pos 0) (λ z. true_count m g ≡ true_count w.memory.counts g +ℤ z → pos 0 <ℤ true_count m g)
    (λ same e. omega (arith, ints, had, e)) (λ other e. omega (arith, ints, had, e)) (true_counts_move w.memory.counts (Begin f 1) m step g)

-- ---- rows

-- the page has the frame, which has the bytes that this backing shows, and these counts, and the call installs it next
abbrev pub framed : World → ℕ → Touch → ℕ → Back → Counts → World
framed w c touch f back counts = to c (Install touch) (record w {
  slots = with_info w.slots touch.page (info_with_frame f (w.slots.info touch.page));
  memory = record w.memory { bytes = put w.memory.bytes f (bytes_shown w.made.file w.memory back); counts = counts };
})

pub zeroed : (w v : World) (c : ℕ) (touch : Touch) (f : ℕ) (counts : Counts) → back_of (w.slots.info touch.page) ≡ Anon
    → Takes w.memory.counts (Begin f 1) counts → v ≡ framed w c touch f Anon counts
    → FillsOwn w (λ f counts. after_zeros c touch f counts w) (Some f) Stepped v
zeroed w v c touch f counts e t now = (counts, t, (refl, subst (λ back. v ≡ framed w c touch f back counts) (sym e) now))

-- and logged
abbrev pub framed_logged : World → ℕ → Touch → ℕ → Back → Counts → World
framed_logged w c touch f back counts = to c (Install touch) (with_entry (detach_entry w c touch.page) (record w {
  slots = with_info w.slots touch.page (info_with_frame f (w.slots.info touch.page));
  memory = record w.memory { bytes = put w.memory.bytes f (bytes_shown w.made.file w.memory back); counts = counts };
}))

pub first_copied : (w v : World) (c : ℕ) (touch : Touch) (f n k : ℕ) (counts : Counts) → back_of (w.slots.info touch.page) ≡ Private n k
    → Takes w.memory.counts (Begin f 1) counts → v ≡ framed_logged w c touch f (Private n k) counts
    → FillsOwn w (λ f counts. after_first_copy c touch f counts w) (Some f) Stepped v
first_copied w v c touch f n k counts e t now = (counts, t, (refl, subst (λ back. v ≡ framed_logged w c touch f back counts) (sym e) now))

-- and caches it
abbrev pub framed_cached : World → ℕ → Touch → ℕ → Back → Counts → World
framed_cached w c touch f back counts = to c (Install touch) (record w {
  slots = with_info w.slots touch.page (info_with_frame f (w.slots.info touch.page));
  memory = record w.memory {
    bytes = put w.memory.bytes f (bytes_shown w.made.file w.memory back);
    counts = counts;
    cached = with_cached w.memory.cached back f;
  };
})

pub cached_anew : (w v : World) (c : ℕ) (touch : Touch) (f n k : ℕ) (counts : Counts) → IsOfFile (back_of (w.slots.info touch.page)) n k
    → Takes w.memory.counts (Begin f 2) counts → v ≡ framed_cached w c touch f (Shared n k) counts
    → FillsFromFile w c touch (Some f) None Stepped v
cached_anew w v c touch f n k counts b t now =
    (counts, t, (refl, by_file (λ back. v ≡ framed_cached w c touch f back counts) (back_of (w.slots.info touch.page)) n k now now b))

-- the frame that caches the file page
pub of_file_frame : (cached : ℕ → ℕ → Option ℕ) (back : Back) (n k : ℕ) → IsOfFile back n k → file_frame cached back ≡ cached n k
of_file_frame cached back n k = by_file (λ back. file_frame cached back ≡ cached n k) back n k refl refl

-- ---- by what backs the page

pub fills_zeros : (w v : World) (c : ℕ) (touch : Touch) (frame : Option ℕ) (o : Outcome) → back_of (w.slots.info touch.page) ≡ Anon
    → FillsOwn w (λ f counts. after_zeros c touch f counts w) frame o v → FillsFrame w c touch frame o v
fills_zeros w v c touch frame o e h = subst (λ back. FillsBacked w c touch frame back touch.access o v) (sym e) h

-- ---- a copy in place of the frame

abbrev pub copied_so : World → ℕ → Touch → ℕ → ℕ → Option PageInfo → Counts → World
copied_so w c touch f g page counts = to c (Install touch) (with_entry (detach_entry w c touch.page) (record w {
  slots = with_info w.slots touch.page page;
  memory = record w.memory { bytes = put w.memory.bytes f (w.memory.bytes g); counts = counts };
}))

pub copied_page : (w v : World) (c : ℕ) (touch : Touch) (f g : ℕ) (counts : Counts) (info : PageInfo) → w.slots.info touch.page ≡ Some info
    → v ≡ copied_so w c touch f g (Some (record info { frame = Some f; cores = 0 })) counts → v ≡ after_copy c touch f g counts w
copied_page w v c touch f g counts info e now = now ∙ ap (λ o. copied_so w c touch f g (info_with_copy f o) counts) (sym e)

-- ---- a phase that was read

pub at_read : {w : World} {c i : ℕ} {x phase : Phase} (phases : List Phase) → (phase_at phases c ≡ phase → w.calls.phase c ≡ phase) → c < length phases
    → c < w.made.cores → ∥ IsWellFormed w ∥₁ → i ≡ c → x ≡ get_or phases i x → x ≡ phase → IsAt w c phase
at_read {w} {c} {i} {x} {phase} phases same below here fine k r e =
    is_at w c here fine phase (same (sym (get_or_read phases c x below (r ∙ ap (λ k. get_or phases k x) k) Free) ∙ e))
