-- A frame that an access reached is reached from then on
use Rattle.std.proofs.Common.{◌≡◌, ◌⊎◌, inl, inr, ℕ, ◌++◌, [], ◌∷◌, List, Bool, true, false, Option, Some, None, drop, length, ◌==◌, if◌then◌else◌}
use Rattle.std.proofs.Common.{refl, ap, sym, ◌∙◌, subst, arith}
use Rattle.std.proofs.lemmas.Bool.Decides.{nat_tests}
use Rattle.vm_base.specs.declared.rights.Access.{Access}
use Rattle.mmu.specs.declared.entry.Translation.{Translation}
use Rattle.mmu.specs.declared.tlb.TlbEntry.{TlbEntry}
use Rattle.mmu.specs.declared.translated.Translated.{Translated}
use Rattle.mmu.specs.declared.translated.Translated.TheVariants.{Hit, Fill, Fault}
use Rattle.mmu.specs.Entry.{permits}
use Rattle.mmu.specs.Tables.{fill, hit, tlb_after, translated}
use Rattle.mmu.specs.Tlb.{tlb_at, tlb_filled}
use Rattle.mmu.proofs.Distinct.{absent_drop}
use Rattle.machine_model.specs.Translating.{frame_reached}

last_at : (es : List TlbEntry) (p : ℕ) (t : Translation) → tlb_at es p ≡ None → tlb_at (es ++ record { page = p; translation = t } ∷ []) p ≡ Some t
last_at [] p t absent =
    let same : (p == p) ≡ true = grind (arith, nat_tests) in
    ap (λ (b : Bool). if b then Some t else None) same
last_at (e ∷ es) p t absent = go (e.page == p) refl (λ left. last_at es p t left)
  where
    go : (b : Bool) → (e.page == p) ≡ b
        → (tlb_at es p ≡ None → tlb_at (es ++ record { page = p; translation = t } ∷ []) p ≡ Some t)
        → tlb_at (e ∷ es ++ record { page = p; translation = t } ∷ []) p ≡ Some t
    go true is more = absurd (let some : Some e.translation ≡ None = sym (ap (λ (b : Bool). if b then Some e.translation else tlb_at es p) is) ∙ absent in cc)
    go false is more =
        let left : tlb_at es p ≡ None = sym (ap (λ (b : Bool). if b then Some e.translation else tlb_at es p) is) ∙ absent in
        ap (λ (b : Bool). if b then Some e.translation else tlb_at (es ++ record { page = p; translation = t } ∷ []) p) is ∙ more left

filled_at : (es : List TlbEntry) (p : ℕ) (t : Translation) → tlb_at es p ≡ None → tlb_at (tlb_filled p t es) p ≡ Some t
filled_at es p t absent = go (length es == 64)
  where
    go : (b : Bool) → tlb_at ((if b then drop 1 es else es) ++ record { page = p; translation = t } ∷ []) p ≡ Some t
    go true = last_at (drop 1 es) p t (absent_drop es p absent)
    go false = last_at es p t absent

-- what was reached by the tables is reached by the TLB then
reached_again : (cached entry : Option Translation) (es : List TlbEntry) (p f : ℕ) (access : Access) → tlb_at es p ≡ cached
    → frame_reached (translated cached entry access) ≡ Some f
    → frame_reached (translated (tlb_at (tlb_after (translated cached entry access) p entry es) p) entry access) ≡ Some f
reached_again (Some t) entry es p f access is reached = go (permits t access) refl
  where
    go : (b : Bool) → permits t access ≡ b
        → frame_reached (translated (tlb_at (tlb_after (hit t access) p entry es) p) entry access) ≡ Some f
    go true may =
        let stays : tlb_at (tlb_after (hit t access) p entry es) p ≡ Some t = ap (λ (b : Bool). tlb_at (tlb_after
        (if b then Hit t.frame else Fault) p entry es) p) may ∙ is in
        ap (λ c. frame_reached (translated c entry access)) stays ∙ reached
    go false may = absurd (let none : None ≡ Some f = sym (ap (λ (b : Bool). frame_reached (if b then Hit t.frame else Fault)) may) ∙ reached in cc)
reached_again None None es p f access is reached = absurd (let none : None ≡ Some f = reached in cc)
reached_again None (Some t) es p f access is reached = go (permits t access) refl
  where
    go : (b : Bool) → permits t access ≡ b
        → frame_reached (translated (tlb_at (tlb_after (fill (Some t) access) p (Some t) es) p) (Some t) access) ≡ Some f
    go true may =
        let now : tlb_at (tlb_after (fill (Some t) access) p (Some t) es) p ≡ Some t =
        ap (λ (b : Bool). tlb_at (tlb_after (if b then Fill t.frame else Fault) p (Some t) es) p) may ∙ filled_at es p t is in
        let same : frame_reached (hit t access) ≡ frame_reached (fill (Some t) access) =
        ap (λ (b : Bool). frame_reached (if b then Hit t.frame else Fault)) may ∙ sym (ap (λ (b : Bool). frame_reached
        (if b then Fill t.frame else Fault)) may) in
        ap (λ c. frame_reached (translated c (Some t) access)) now ∙ (same ∙ reached)
    go false may = absurd (let none : None ≡ Some f = sym (ap (λ (b : Bool). frame_reached (if b then Fill t.frame else Fault)) may) ∙ reached in cc)

-- a hit and a fill reach their frame
pub reached_by : (r t : Translated) (f : ℕ) → r ≡ t → (r ≡ Hit f) ⊎ (r ≡ Fill f) → frame_reached t ≡ Some f
reached_by r t f e (inl h) = ap frame_reached (sym e ∙ h)
reached_by r t f e (inr h) = ap frame_reached (sym e ∙ h)

pub reaches_hit : (entry : Option Translation) (es : List TlbEntry) (p f : ℕ) (access : Access) (now : List TlbEntry)
    → frame_reached (translated (tlb_at es p) entry access) ≡ Some f → now ≡ tlb_after (translated (tlb_at es p) entry access) p entry es
    → frame_reached (translated (tlb_at now p) entry access) ≡ Some f
reaches_hit entry es p f access now reached is =
    subst (λ l. frame_reached (translated (tlb_at l p) entry access) ≡ Some f) (sym is) (reached_again (tlb_at es p) entry es p f access refl reached)
