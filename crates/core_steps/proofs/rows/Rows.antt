-- Rows of the model that turn on one test
use Rattle.machine_model.proofs.Words.{◌≡◌, ℕ, Bool, true, false, not, List, [], ◌∷◌, Option, None, Some, cond, refl, sym, ap, subst, add-one, if◌then◌else◌}
use Rattle.machine_model.proofs.Words.{put, Touch, Translation, TlbEntry, tlb_walked, tlb_at, Message, asked, remaining, Acts}
use Rattle.machine_model.proofs.Words.{with_event, World, Hardware, PageInfo, with_info, after_install, info_with_core, to, after_walk, can_walk}
use Rattle.machine_model.proofs.Words.{with_inbox, with_table, entry_of_page}
use Rattle.machine_model.specs.declared.event.Event.{Event}
use Rattle.machine_model.specs.declared.event.Outcome.{Outcome}
use Rattle.machine_model.specs.declared.event.Outcome.TheVariants.{Idle}
use Rattle.machine_model.specs.declared.phase.Phase.TheVariants.{Release}
use Rattle.std.proofs.Common.{◌&&◌}
use Rattle.std.proofs.Common.{is_some}
use Rattle.std.proofs.lemmas.Bool.{and_right}
use Rattle.std.specs.Prelude.{◌+◌}
use Rattle.mmu.specs.declared.message.Took.TheVariants as TookOf
use Rattle.core_steps.specs.OnePage.{with_translation}
use Rattle.machine_model.specs.Translating.{Walks}
use Rattle.core_steps.proofs.engine.Each.{put_id}

pub if_true : (b : Bool) (x y : Type 0) → b ≡ true → x → cond b x y
if_true true x y e h = h
if_true false x y e h = absurd (cc)

-- ---- a TLB

pub not_walked : (w v : World) (c p : ℕ) → can_walk w.hardware c p ≡ false → v ≡ w → Walks w c p Idle v
not_walked w v c p e h = rw e (refl, h)

-- without an entry, or with a translation, there is nothing to walk
same_tlb : (cached entry : Option Translation) (p : ℕ) (es : List TlbEntry) → (not (is_some cached) && is_some entry) ≡ false
    → tlb_walked cached entry p es ≡ es
same_tlb (Some t) entry p es h = refl
same_tlb None None p es h = refl
same_tlb None (Some t) p es h = absurd cc

pub walk_none : (h : Hardware) (c p : ℕ) → can_walk h c p ≡ false → after_walk h c p ≡ h
walk_none h c p e = ap (λ f. record h { tlb = f }) (put_id h.tlb c _ (same_tlb (tlb_at (h.tlb c) p) (h.table c p) p (h.tlb c) e))

pub no_entry : (h : Hardware) (c p : ℕ) → h.table c p ≡ None → can_walk h c p ≡ false
no_entry h c p e = and_right (not (is_some (tlb_at (h.tlb c) p))) (is_some (h.table c p)) (ap is_some e)

-- ---- a message

pub none_left : (h : Hardware) (c : ℕ) → asked (h.inbox c) ≡ TookOf.Idle → with_inbox h c (remaining (h.inbox c)) ≡ h
none_left h c e = ap (λ f. record h { inbox = f }) (put_id h.inbox c _ (same (h.inbox c) e))
  where
    acts : (m : Message) (b : Bool) → (if b then TookOf.Invalidate m.range else TookOf.Clear m.range) ≡ TookOf.Idle → ⊥
    acts m true i = absurd cc
    acts m false i = absurd cc

    same : (ms : List Message) → asked ms ≡ TookOf.Idle → remaining ms ≡ ms
    same [] i = refl
    same (m ∷ ms) i = absurd (acts m m.is_cleared i)

-- ---- a page's translation is installed

pub installed : (w : World) (c : ℕ) (touch : Touch) (info : PageInfo) → w.slots.info touch.page ≡ Some info
    → to c (Release touch) (with_translation c touch.page info w) ≡ after_install c touch w
installed w c touch info e =
    ap (λ o. to c (Release touch) (record w {
      slots = with_info w.slots touch.page (info_with_core c o);
      hardware = with_table w.hardware c (put (w.hardware.table c) touch.page (entry_of_page w.memory.cached o));
    })) (sym e)

-- ---- an event is counted

pub counted : (w v : World) (e : Event) (o : Outcome) → Acts (record w { calls = record w.calls { events = w.calls.events + 1 } }) e o v
    → Acts (with_event w) e o v
counted w v e o = subst (λ n. Acts (record w { calls = record w.calls { events = n } }) e o v) (add-one w.calls.events)
