-- The change that a call makes of its pages is the plain page map's.
use Rattle.machine_model.proofs.Words.{◌≡◌, ℕ, ◌<◌, Bool, true, false, cond, refl, sym, subst, Some, None, Option, ◌∙◌, PageInfo, Prot, has, advance, unused}
use Rattle.machine_model.proofs.Words.{frame_of, info_with_prot, File, Plain, Change, Put, Clear, Protect, Goal, goal_range, Slots, Event, Acks, Counts}
use Rattle.machine_model.proofs.Words.{with_counts, slots_after, reply_to, after_commit, is_past_end, World, Memory}
use Rattle.std.specs.Prelude.{◌-◌}
use Rattle.vm_base.specs.Info.{advance_back}
use Rattle.vm_base.specs.Plain.{PageEntry}
use Rattle.vm_base.specs.Apply.{new_entry, with_prot}
use Rattle.machine_model.proofs.Changed.{changed_all}
use Rattle.machine_model.proofs.Moves.{IsCallOf, call_at}
use Rattle.machine_model.proofs.CountsKept.{same_with_prot}
use Rattle.machine_model.specs.Invariant.{ShowsPage, ShowsFile, own_frame}
use Rattle.machine_model.proofs.SoundMoves.{IsShown, Leaves, shows_less, with_counts_shown, tells}
use Rattle.machine_model.proofs.Replies.{reply_is, due_so, made_of, acted, led_goes}

-- ---- what a change makes of pages, on both sides

both_tests : {V W : Type 0} (P : V → W → Type 0) (b : Bool) (x y : V) (a d : W) → (b ≡ true → P x a) → (b ≡ false → P y d) → P (cond b x y) (cond b a d)
both_tests P true x y a d h k = h refl
both_tests P false x y a d h k = k refl

protected_shown : (m : Memory) (prot : Prot) (o : Option PageInfo) (z : Option PageEntry) → ShowsPage m o z → ShowsPage m (info_with_prot prot o) (with_prot prot z)
protected_shown m prot None None h = tt
protected_shown m prot (Some info) (Some page) h = (h.0, refl, h.2)
protected_shown m prot _ _ h = absurd h

pages_changed : (m : Memory) (s : Slots) (t : Plain) (change : Change) → ((p : ℕ) → ShowsPage m (s.info p) (t.entry p))
    → (p : ℕ) → ShowsPage m ((slots_after change s).info p) ((made_of t change).entry p)
pages_changed m s t (Put range meta) h p =
    both_tests (ShowsPage m) (has range p) (Some (unused (advance meta (p - range.first)))) (s.info p)
    (Some (new_entry (advance_back meta.back (p - range.first)) meta.prot)) (t.entry p) (λ i. (refl, refl, refl)) (λ i. h p)
pages_changed m s t (Clear range) h p = both_tests (ShowsPage m) (has range p) None (s.info p) None (t.entry p) (λ i. tt) (λ i. h p)
pages_changed m s t (Protect range prot) h p =
    both_tests (ShowsPage m) (has range p) (info_with_prot prot (s.info p)) (s.info p) (with_prot prot (t.entry p)) (t.entry p)
    (λ i. protected_shown m prot (s.info p) (t.entry p) (h p)) (λ i. h p)

files_changed : (t : Plain) (change : Change) → (made_of t change).file ≡ t.file
files_changed t (Put range meta) = refl
files_changed t _ = refl

protected_own : (cached : ℕ → ℕ → Option ℕ) (prot : Prot) (o : Option PageInfo) → own_frame cached (info_with_prot prot o) ≡ own_frame cached o
protected_own cached prot None = refl
protected_own cached prot (Some info) = refl

protected_whole : (file : ℕ → Option File) (prot : Prot) (o : Option PageInfo) → is_past_end file (info_with_prot prot o) ≡ is_past_end file o
protected_whole file prot None = refl
protected_whole file prot (Some info) = refl

pub fewer_frames : (s : Slots) (change : Change) (p f : ℕ) → frame_of ((slots_after change s).info p) ≡ Some f → frame_of (s.info p) ≡ Some f
fewer_frames s change p f =
    changed_all (λ p o. frame_of o ≡ Some f → frame_of (s.info p) ≡ Some f) s change (λ range meta p e i h. absurd cc) (λ p h. absurd cc)
    (λ prot p old h. sym (same_with_prot prot (s.info p)) ∙ h) (λ p h. h) p

fewer_own : (cached : ℕ → ℕ → Option ℕ) (s : Slots) (change : Change) (p f : ℕ) → own_frame cached ((slots_after change s).info p) ≡ Some f
    → own_frame cached (s.info p) ≡ Some f
fewer_own cached s change p f =
    changed_all (λ p o. own_frame cached o ≡ Some f → own_frame cached (s.info p) ≡ Some f) s change (λ range meta p e i h. absurd cc) (λ p h. absurd cc)
    (λ prot p old h. sym (protected_own cached prot (s.info p)) ∙ h) (λ p h. h) p

-- a page that keeps its frame keeps its file page
whole_still : (file : ℕ → Option File) (s : Slots) (change : Change) → ((p f : ℕ) → frame_of (s.info p) ≡ Some f → is_past_end file (s.info p) ≡ false)
    → (p f : ℕ) → frame_of ((slots_after change s).info p) ≡ Some f → is_past_end file ((slots_after change s).info p) ≡ false
whole_still file s change h p f =
    changed_all (λ p o. frame_of o ≡ Some f → is_past_end file o ≡ false) s change (λ range meta p e i k. absurd cc) (λ p k. absurd cc)
    (λ prot p old k. protected_whole file prot (s.info p) ∙ h p f (sym (same_with_prot prot (s.info p)) ∙ k)) (λ p k. h p f k) p

-- ---- Acks

pub change_committed : (w : World) (event : Event) (c : ℕ) (goal : Goal) (change : Change) (counts : Counts) → c < 64
    → w.calls.phase c ≡ Acks goal change → (well : IsShown w) → Leaves w well.plain event (after_commit c change (goal_range goal) counts w)
change_committed w event c goal change counts few e f =
    tells w event c (Some (goal_range goal)) (reply_to change) (slots_after change w.slots) w.hardware (with_counts counts w).memory f
    (made_of f.plain change) k.asked.request k.asked.number
    (acted w f.plain c k.asked.request goal change f.good
    (record { few = few; passed = k.asked.passed; target = k.ready.0; none = led_goes goal change k.ready.1 }) k.ready.1 k.ready.2)
    (due_so event w.memory.is_free w.calls.events (w.calls.number c) c (reply_to change) (reply_is change))
    (with_counts_shown w.made.file (slots_after change w.slots).info w.memory counts (made_of f.plain change)
    (shows_less w f.plain (made_of f.plain change) (slots_after change w.slots).info w.memory.bytes f.good
    (pages_changed w.memory w.slots f.plain change f.good.pages)
    (subst (λ file. (n : ℕ) → ShowsFile w.memory.bytes (w.memory.cached n) (w.made.file n) (file n)) (sym (files_changed f.plain change)) f.good.files)
    (fewer_frames w.slots change) (fewer_own w.memory.cached w.slots change) (whole_still w.made.file w.slots change f.good.whole)))
  where
    k : IsCallOf w c (Acks goal change)
    k = call_at w c (Acks goal change) e f.order
