-- Whole runs: the library's steps, what hardware takes in, and its accesses, each with the reply of the plain page map
use Rattle.real_mmu.proofs.Words.{Event, Go}
use Rattle.machine_model.proofs.Words.{◌≡◌, ◌≢◌, ℕ, ◌≤◌, Bool, true, false, zero, suc, refl, sym, ap, subst, ◌∙◌, inl, Some, None, Option, List, [], ◌∷◌, ◌++◌}
use Rattle.machine_model.proofs.Words.{◌&&◌, ◌==◌, not, if◌then◌else◌, slice_get, PageRange, put, has, put_all, put_same, Bytes, File}
use Rattle.machine_model.proofs.Words.{Plain, nothing_mapped, Slots, IsNew, Translation, TlbEntry, tlb_without, Message, message_of, asked, some_has}
use Rattle.machine_model.proofs.Words.{World, Made}
use Rattle.machine_model.proofs.Words.{new_world, byte_reply, eq_true, eq_false, put_other}
use Rattle.vm_calls.specs.Plainly.{EntryAnswers, touched_by}
use Rattle.machine_model.specs.World.{new_memory}
use Rattle.machine_model.specs.declared.event.Event.TheVariants as EventOf
use Rattle.machine_model.specs.Coherent.{Every, IsSoundEntry, IsTableClear, HasDropped}
use Rattle.machine_model.specs.Invariant.{ShowsPage, ShowsFile}
use Rattle.machine_model.specs.Invariant as whole
use Rattle.machine_model.proofs.Cores.{IsCore, core_of, of_cores}
use Rattle.machine_model.proofs.Lists.{every_end}
use Rattle.machine_model.proofs.Reaching.{at_place}
use Rattle.machine_model.proofs.SoundKept.{fine_step}
use Rattle.machine_model.proofs.SoundOpening.{fine_opening}
use Rattle.real_mmu.specs.Remembered.{own_range, taken_range, drops}
use Rattle.real_mmu.specs.Steps.{ShowsWith}
use Rattle.real_mmu.specs.Whole.{Whole, Happening, library, takes_in, uses, Happens, HoldsLess, Moment, Runs, Says, IsSeen, Follows, opening}
use Rattle.real_mmu.proofs.Remembered.{Tlbs, IsHeld, with_tlbs, tlbs_without, tlbs_after, step_held, entry_at, Holds}
use Rattle.real_mmu.proofs.Steps.{Led, step_led}
use Rattle.real_mmu.proofs.Uses.{used}

-- ---- lists

pub by_place : (P : TlbEntry → Type 0) (es : List TlbEntry) → ((i : ℕ) (x : TlbEntry) → slice_get es i ≡ Some x → P x) → Every P es
by_place P [] h = tt
by_place P (e ∷ es) h = (h 0 e refl, by_place P es (λ i x at. h (suc i) x at))

-- an entry of none of the pages that a TLB lost
left_at : (P : TlbEntry → Type 0) (s : ℕ → Bool) (es : List TlbEntry) (j : ℕ) (x : TlbEntry) → Every P (tlb_without s es) → slice_get es j ≡ Some x
    → s x.page ≡ false → P x
left_at P s [] j x h at out = absurd cc
left_at P s (e ∷ es) j x h at out = go (λ j rest at. left_at P s es j x rest at out) j at (s e.page) refl h
  where
    go : ((j : ℕ) → Every P (tlb_without s es) → slice_get es j ≡ Some x → P x) → (j : ℕ) → slice_get (e ∷ es) j ≡ Some x
        → (b : Bool) → s e.page ≡ b → Every P (if not b then e ∷ tlb_without s es else tlb_without s es) → P x
    go rest zero at true i k = absurd (let same : e ≡ x = cc in let a = ap (λ (e : TlbEntry). s e.page) same in cc)
    go rest zero at false i k = let same : e ≡ x = cc in subst P same k.0
    go rest (suc j) at true i k = rest j k at
    go rest (suc j) at false i k = rest j k.1 at

-- ---- TLBs of which each has less

-- what holds of all that one has holds of all that the other has
fewer_held : (v : World) (g k : Tlbs) → ((P : TlbEntry → Type 0) (c : ℕ) → Every P (g c) → Every P (k c)) → IsHeld g v → IsHeld k v
fewer_held v g k less h = of_cores v.memory.cached v.slots.info v.calls.phase (with_tlbs k v).hardware (λ d.
    let core = core_of d h in
    record {
      tables = core.tables;
      tlbs = less (IsSoundEntry v.memory.cached v.slots.info d (v.hardware.table d) (v.hardware.inbox d)) d core.tlbs;
      asked = core.asked;
      dropped = λ c range a. left d range (message_of (v.hardware.inbox d) c) (core.dropped c range a);
    })
  where
    left : (d : ℕ) (range : PageRange) (o : Option Message) → HasDropped (v.hardware.table d) (g d) range o → HasDropped (v.hardware.table d) (k d) range o
    left d range None h = (h.0, less (λ e. has range e.page ≡ false) d h.1)
    left d range (Some m) h = h

kept_at : (P : TlbEntry → Type 0) (c d : ℕ) (range : Option PageRange) (g : Tlbs) (j : ℕ) (x : TlbEntry) → Every P (tlbs_without d range g c)
    → slice_get (g c) j ≡ Some x → ((c == d) && some_has range x.page) ≢ true → P x
kept_at P c d None g j x h at out = at_place P (g c) j x h at
kept_at P c d (Some range) g j x h at out = go (c == d) refl
  where
    go : (b : Bool) → (c == d) ≡ b → P x
    go true i =
        let same : c ≡ d = eq_true c d i in
        left_at P (has range) (g d) j x
        (subst (Every P) (put_same g d (tlb_without (has range) (g d))) (subst (λ y. Every P (tlbs_without d (Some range) g y)) same h))
        (subst (λ y. slice_get (g y) j ≡ Some x) same at) (off (has range x.page) refl i)
      where
        off : (b : Bool) → has range x.page ≡ b → (c == d) ≡ true → has range x.page ≡ false
        off false k i = k
        off true k i = absurd (out (ap (λ b. b && has range x.page) i ∙ k))
    go false i = at_place P (g c) j x (subst (Every P) (put_other g d (tlb_without (has range) (g d)) c (eq_false c d i)) h) at

pub after_at : (P : TlbEntry → Type 0) (w : World) (e : Event) (g : Tlbs) (c j : ℕ) (x : TlbEntry) → Every P (tlbs_after w e g c)
    → slice_get (g c) j ≡ Some x → drops w e c x.page ≢ true → P x
after_at P w (Go d) g c j x h at out = kept_at P c d (own_range (w.calls.phase d)) g j x h at out
after_at P w (EventOf.Frame d f) g c j x h at out = kept_at P c d (own_range (w.calls.phase d)) g j x h at out
after_at P w (EventOf.Take d) g c j x h at out = kept_at P c d (taken_range (asked (w.hardware.inbox d))) g j x h at out
after_at P w _ g c j x h at out = at_place P (g c) j x h at

-- what hardware has left after a step of the library
step_left : (w v : World) (e : Event) (g k : Tlbs) → ((c : ℕ) → HoldsLess w e c (g c) (k c)) → IsHeld (tlbs_after w e g) v → IsHeld k v
step_left w v e g k less h = fewer_held v (tlbs_after w e g) k (λ P c all.
    by_place P (k c) (λ i x at. let z = less c i x at in after_at P w e g c z.0.0 x all z.0.1 z.1)) h

-- ---- hardware takes an entry in

pub taken_held : (w : World) (g : Tlbs) (c p : ℕ) (x : Translation) → w.hardware.table c p ≡ Some x → IsHeld g w
    → IsHeld (put g c (g c ++ entry_at p x ∷ [])) w
taken_held w g c p x at h =
    of_cores w.memory.cached w.slots.info w.calls.phase (with_tlbs (put g c (g c ++ entry_at p x ∷ [])) w).hardware
    (put_all (λ d tlb. IsCore w.memory.cached w.slots.info w.calls.phase d (w.hardware.table d) tlb (w.hardware.inbox d)) g c
    (g c ++ entry_at p x ∷ []) (record {
      tables = core.tables;
      tlbs = every_end (IsSoundEntry w.memory.cached w.slots.info c (w.hardware.table c) (w.hardware.inbox c)) (g c) (entry_at p x) core.tlbs
          (core.tables p x at, inl at);
      asked = core.asked;
      dropped = λ y range a. more range (message_of (w.hardware.inbox c) y) (core.dropped y range a);
    }) (λ d ne. core_of d h))
  where
    core : IsCore w.memory.cached w.slots.info w.calls.phase c (w.hardware.table c) (g c) (w.hardware.inbox c)
    core = core_of c h

    off : (range : PageRange) → IsTableClear (w.hardware.table c) range → (b : Bool) → has range p ≡ b → has range p ≡ false
    off range clear true i = absurd (let a = clear p i in cc)
    off range clear false i = i

    more : (range : PageRange) (o : Option Message) → HasDropped (w.hardware.table c) (g c) range o
        → HasDropped (w.hardware.table c) (g c ++ entry_at p x ∷ []) range o
    more range None k = (k.0, every_end (λ e. has range e.page ≡ false) (g c) (entry_at p x) k.1 (off range k.0 (has range p) refl))
    more range (Some m) k = k

-- ---- one that it has

pub held_one : (w : World) (g : Tlbs) (c p i : ℕ) (x : Translation) → slice_get (g c) i ≡ Some (entry_at p x) → whole.IsWellFormed w → IsHeld g w → Holds w c p x
held_one w g c p i x at well h = record {
  well = well;
  tlbs = put none c (entry_at p x ∷ []);
  held = fewer_held w g (put none c (entry_at p x ∷ [])) less h;
  one = put_same none c (entry_at p x ∷ []);
}
  where
    none : Tlbs
    none d = []

    less : (P : TlbEntry → Type 0) (d : ℕ) → Every P (g d) → Every P (put none c (entry_at p x ∷ []) d)
    less P = put_all (λ d es. Every P (g d) → Every P es) none c (entry_at p x ∷ []) (λ all. (at_place P (g c) i (entry_at p x) all at, tt)) (λ d ne all. tt)

-- ---- whole runs

-- the library is well formed, all that hardware has is coherent with it, and slots and bytes show this plain page map
pub record IsPlainly (w : Whole) (t : Plain) : Type 0 where
  pub well : whole.IsWellFormed w.inside
  pub held : IsHeld w.held w.inside
  pub shown : ShowsWith w.inside w.bytes t

pub record GoesOn (w : Whole) (h : Happening) (v : Whole) (t : Plain) : Type 0 where
  pub plain : Plain
  pub says : Says w h v t plain
  pub after : IsPlainly v plain

pub happens_plainly : (w : Whole) (h : Happening) (v : Whole) (t : Plain) → IsPlainly w t → Happens w h v → GoesOn w h v t
happens_plainly w (library e o) v t k h =
    let l : Led w.inside v.inside w.bytes t = step_led w.inside v.inside e o k.well h.0 w.bytes t k.shown in
    record {
      plain = l.plain;
      says = l.leads;
      after = record {
        well = (fine_step w.inside v.inside e o k.well h.0).0;
        held = step_left w.inside v.inside e w.held v.held h.2 (step_held w.inside v.inside e o w.held k.well k.held h.0);
        shown = subst (λ bytes. ShowsWith v.inside bytes l.plain) (sym (l.told.only v.bytes h.1)) l.shown;
      };
    }
happens_plainly w (takes_in c p) v t k h = record {
  plain = t;
  says = refl;
  after = subst (λ x. IsPlainly x t) (sym h.2) (record {
    well = k.well;
    held = taken_held w.inside w.held c p h.0 h.1 k.held;
    shown = k.shown;
  });
}
happens_plainly w (uses c touch reply) v t k h =
    let z = used w.inside c h.1 touch (held_one w.inside w.held c touch.page h.0 h.1 h.2 k.well k.held) w.bytes t k.shown h.3 in
    record {
      plain = touched_by t touch (byte_reply touch.access (w.bytes h.1.frame touch.offset));
      says = subst (λ y. EntryAnswers t touch y (touched_by t touch (byte_reply touch.access (w.bytes h.1.frame touch.offset)))) (sym h.4) z.0;
      after = subst (λ x. IsPlainly x (touched_by t touch (byte_reply touch.access (w.bytes h.1.frame touch.offset)))) (sym h.5) (record {
        well = k.well;
        held = k.held;
        shown = z.1;
      });
    }

seen : (w : Whole) (t : Plain) → IsPlainly w t → IsSeen w t
seen w t k = record {
  shows = k.shown;
  now = λ c i x at.
      (at_place (IsSoundEntry w.inside.memory.cached w.inside.slots.info c (w.inside.hardware.table c) (w.inside.hardware.inbox c)) (w.held c) i x
      (k.held.tlbs c) at).0.entry;
}

run_plainly : (w : Whole) (t : Plain) (run : List Moment) → IsPlainly w t → Runs w run → Follows w t run
run_plainly w t [] k r = seen w t k
run_plainly w t (m ∷ ms) k r =
    let z = happens_plainly w m.what m.after t k r.0 in (seen w t k, (z.plain, z.says, run_plainly m.after z.plain ms z.after r.1))

pub opens_plainly : (made : Made) (slots : Slots) (bytes : ℕ → Bytes) → made.cores ≤ 64 → IsNew slots
    → IsPlainly (opening made slots bytes) (nothing_mapped made.file)
opens_plainly made slots bytes few new = record {
  well = well;
  held = well.coherent;
  shown = record {
    pages = λ p. subst (λ o. ShowsPage (record (new_memory made) { bytes = bytes }) o None) (sym (new.unmapped p)) tt;
    files = λ n. itself (made.file n);
    apart = well.good.apart;
    unfiled = well.good.unfiled;
    whole = well.good.whole;
  };
}
  where
    well : whole.IsWellFormed (new_world made slots)
    well = fine_opening made slots few new

    itself : (o : Option File) → ShowsFile bytes (λ k. None) o o
    itself None = tt
    itself (Some f) = (refl, refl, λ k. refl)

pub whole_runs_plain : (made : Made) (slots : Slots) (bytes : ℕ → Bytes) (run : List Moment) → made.cores ≤ 64 → IsNew slots
    → Runs (opening made slots bytes) run → Follows (opening made slots bytes) (nothing_mapped made.file) run
whole_runs_plain made slots bytes run few new r =
    run_plainly (opening made slots bytes) (nothing_mapped made.file) run (opens_plainly made slots bytes few new) r
