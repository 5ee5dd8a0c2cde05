-- Slots show what the pages of the plain page map are mapped to
use Rattle.machine_model.proofs.Words.{◌≡◌, ℕ, ◌-◌, ◌^◌, ⊎_elim, Option, None, Some, Result, Ok, Err, refl, sym, ap, ◌∙◌, subst, arith, ∥∥₁_elim, fun_ext}
use Rattle.machine_model.proofs.Words.{props, IfOk, IfSome, IfNone, Back, PageInfo, Prot, IsPage, Plain, IsSlotMap, MapLine, IsMapList, plain_metas, World}
use Rattle.machine_model.proofs.Words.{Memory}
use Rattle.std.proofs.Common.{Vec}
use Rattle.std.specs.Prelude.{OnErr}
use Rattle.vm_base.specs.declared.memory.NoMemory.{NoMemory}
use Rattle.vm_base.specs.Plain.{PageEntry}
use Rattle.vm_base.specs.Runs.{NoneIn}
use Rattle.slot_lock.specs.MapList.{GoesOn, IsNextLine, entry_meta}
use Rattle.slot_lock.specs.MapWalks.{info_meta, slot_metas}
use Rattle.machine_model.specs.Invariant.{ShowsPage}
use Rattle.machine_model.specs.Sound.{IsReached}
use Rattle.machine_model.proofs.OneMap.{log_leads_to_one}
use Rattle.core_steps.specs.MapLines.{HasNoMap, IsLineStart, IsNextMap, ListsMaps}
use Rattle.machine_model.specs.Log.{LeadsTo}
use Rattle.core_steps.proofs.Reached.{well, legal}

-- a page of the slots and the page of the plain page map that they show
meta_shown : (m : Memory) (o : Option PageInfo) (e : Option PageEntry) → ShowsPage m o e → info_meta o ≡ entry_meta e
meta_shown m None None h = refl
meta_shown m (Some info) (Some page) h =
    ap (λ (b : Back). Some (record { back = b; prot = info.meta.prot })) h.0 ∙ ap (λ (r : Prot). Some (record { back = page.back; prot = r })) h.1
meta_shown m None (Some page) h = absurd h
meta_shown m (Some info) None h = absurd h

-- all pages
same_metas : (w : World) → ∥ IsReached w ∥₁ → (t : Plain) → LeadsTo w t → slot_metas w.slots ≡ plain_metas t
same_metas w r t leads = fun_ext (λ p. ∥∥₁_elim (well w r) (hlevel props) (λ g.
    let same : g.plain ≡ t = log_leads_to_one w.calls.requests w.calls.log _ g.plain t g.log leads in
    meta_shown w.memory (w.slots.info p) (t.entry p) (subst (λ (u : Plain). ShowsPage w.memory (w.slots.info p) (u.entry p)) same (g.good.pages p))))

-- what is said of the slots' pages is said of the plain page map's
pub lists_maps : {B : Type 0} (w : World) → ∥ IsReached w ∥₁ → (result : Result (Vec MapLine B) NoMemory)
    → IfOk result (λ lines. IsMapList (slot_metas w.slots) lines.items) → IfOk result (λ lines. ListsMaps w lines.items)
lists_maps w r (Ok lines) h = λ t leads. subst (λ metas. IsMapList metas lines.items) (same_metas w r t leads) h
lists_maps w r (Err none) h = tt

pub next_map : (w : World) → ∥ IsReached w ∥₁ → (from : ℕ) (result : Option MapLine) → IfSome result (IsNextLine (slot_metas w.slots) from)
    → IfSome result (IsNextMap w from)
next_map w r from None h = tt
next_map w r from (Some line) h = λ t leads. subst (λ metas. IsNextLine metas from line) (same_metas w r t leads) h

pub no_map : (w : World) → ∥ IsReached w ∥₁ → (from : ℕ) (result : Option MapLine) → IfNone result (NoneIn (slot_metas w.slots) from (2 ^ 35))
    → IfNone result (HasNoMap w from)
no_map w r from None h = λ t leads. subst (λ metas. NoneIn metas from (2 ^ 35)) (same_metas w r t leads) h
no_map w r from (Some line) h = tt

-- and the other way
pub some_map : {V : Type 0} (w : World) → ∥ IsReached w ∥₁ → (result : Result V NoMemory)
    → OnErr result (¬ NoneIn (slot_metas w.slots) 1 (2 ^ 35)) → OnErr result (¬ HasNoMap w 1)
some_map w r (Ok lines) h = tt
some_map w r (Err none) h = λ nothing. ∥∥₁_elim (legal w r).sound (hlevel props) (λ s.
    h (subst (λ metas. NoneIn metas 1 (2 ^ 35)) (sym (same_metas w r s.0 s.1.log)) (nothing s.0 s.1.log)))

pub line_start : (w : World) → ∥ IsReached w ∥₁ → IsSlotMap w.slots → (from : ℕ) → IsLineStart w from
    → ¬ GoesOn (slot_metas w.slots (from - 1)) (slot_metas w.slots from)
line_start w r laws from start = ⊎_elim
    (λ (e : from ≡ 1). λ go.
    let none : slot_metas w.slots (from - 1) ≡ None = ap info_meta (laws.unmapped (from - 1) (λ (h : IsPage (from - 1)). omega (arith, h.0, e))) in
    subst (λ o. GoesOn o (slot_metas w.slots from)) none go)
    (λ across. ∥∥₁_elim (legal w r).sound (hlevel props) (λ s.
    subst (λ metas. ¬ GoesOn (metas (from - 1)) (metas from)) (sym (same_metas w r s.0 s.1.log)) (across s.0 s.1.log)))
    start
