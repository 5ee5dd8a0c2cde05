-- Mappings that a step leaves as they are
use Rattle.machine_model.proofs.Words.{◌≡◌, ℕ, ◌≤◌, false, List, Option, None, Some, refl, sym, ap, subst, ◌∙◌, ∥∥₁_elim, fun_ext, props}
use Rattle.machine_model.proofs.Words.{Back, PageInfo, PageRange, Prot, Plain, MapLine, IsMapList, plain_metas, World, Made, Memory, Step, some_has}
use Rattle.machine_model.specs.declared.event.Event.{Event}
use Rattle.machine_model.specs.declared.event.Outcome.{Outcome}
use Rattle.std.specs.Option.{is_some}
use Rattle.vm_base.specs.Plain.{PageEntry}
use Rattle.slot_lock.specs.MapList.{entry_meta}
use Rattle.slot_lock.specs.MapWalks.{info_meta, slot_metas}
use Rattle.machine_model.specs.Invariant.{ShowsPage}
use Rattle.machine_model.specs.Log.{LeadsTo}
use Rattle.machine_model.specs.Sound.{IsReached}
use Rattle.machine_model.proofs.OneMap.{log_leads_to_one}
use Rattle.machine_model.proofs.SoundKept.{reached_fine, reached_step}
use Rattle.core_steps.specs.Changing.{may_change}
use Rattle.core_steps.specs.MapLines.{ListsMaps}
use Rattle.core_steps.proofs.Keeping.{keeps, step_made}

-- a page of the slots and the page of the plain page map that they show
meta_shown : (m : Memory) (o : Option PageInfo) (e : Option PageEntry) → ShowsPage m o e → info_meta o ≡ entry_meta e
meta_shown m None None h = refl
meta_shown m (Some info) (Some page) h =
    ap (λ (b : Back). Some (record { back = b; prot = info.meta.prot })) h.0 ∙ ap (λ (r : Prot). Some (record { back = page.back; prot = r })) h.1
meta_shown m None (Some page) h = absurd h
meta_shown m (Some info) None h = absurd h

same_metas : (w : World) (r : IsReached w) (t : Plain) → LeadsTo w t → slot_metas w.slots ≡ plain_metas t
same_metas w r t leads =
    let g = reached_fine w r in
    let same : g.plain ≡ t = log_leads_to_one w.calls.requests w.calls.log _ g.plain t g.log leads in
    fun_ext (λ p. meta_shown w.memory (w.slots.info p) (t.entry p) (subst (λ (u : Plain). ShowsPage w.memory (w.slots.info p) (u.entry p)) same
    (g.good.pages p)))

-- the lines of the slots' pages are those of the plain page map's, and the other way
pub listed_maps : (w : World) (r : IsReached w) (maps : List MapLine) → IsMapList (slot_metas w.slots) maps → ListsMaps w maps
listed_maps w r maps h = λ t leads. subst (λ metas. IsMapList metas maps) (same_metas w r t leads) h

pub listed_slots : (w : World) (r : IsReached w) (maps : List MapLine) → ListsMaps w maps → IsMapList (slot_metas w.slots) maps
listed_slots w r maps h =
    let g = reached_fine w r in
    subst (λ metas. IsMapList metas maps) (sym (same_metas w r g.plain g.log)) (h g.plain g.log)

-- ---- a step

-- a step from here, or what it leads to, tells that some run led here
abbrev pub AsReached : World → Type 0
AsReached w = w.made.cores ≤ 64 → IsReached w

pub reached_now : (w v : World) (e : Event) (o : Outcome) → Step w e o v → ∥ IsReached v ∥₁ → AsReached w → IsReached v
reached_now w v e o step r led =
    let few : v.made.cores ≤ 64 = ∥∥₁_elim r (hlevel props) (λ h. (reached_fine v h).order.few) in
    reached_step w v e o (led (subst (λ (m : Made). m.cores ≤ 64) (step_made w e o v step) few)) step

none_has : (o : Option PageRange) (p : ℕ) → is_some o ≡ false → some_has o p ≡ false
none_has None p h = refl
none_has (Some range) p h = absurd (cc)

-- a step that may change no page leaves all mappings
pub kept_slots : (w v : World) (e : Event) (o : Outcome) (maps : List MapLine) → Step w e o v → is_some (may_change w e) ≡ false
    → IsMapList (slot_metas w.slots) maps → IsMapList (slot_metas v.slots) maps
kept_slots w v e o maps step none h =
    let same : slot_metas v.slots ≡ slot_metas w.slots = fun_ext (λ p. ap info_meta (keeps w v e o step p (none_has (may_change w e) p none))) in
    subst (λ metas. IsMapList metas maps) (sym same) h
