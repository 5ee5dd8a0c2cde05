-- A translation leads an access to its page's frame, where the page's protection allows the access.
use Rattle.machine_model.proofs.Words.{◌≡◌, ℕ, zero, suc, Bool, true, false, refl, sym, ap, subst, arith, Some, None, Option, List, [], ◌∷◌, ◌∙◌, ◌&&◌}
use Rattle.machine_model.proofs.Words.{if◌then◌else◌, nat_tests, PageInfo, Access, Prot, is_allowed, Touch, Translation, TlbEntry, permits, has_right}
use Rattle.machine_model.proofs.Words.{translation_of, translated, tlb_at, Phase, is_private, prot_shown, prot_installed, shows_file, shows_some}
use Rattle.machine_model.proofs.Words.{translated_by, frame_reached, entry_for, Hardware}
use Rattle.std.specs.Prelude.{◌==◌, slice_get}
use Rattle.vm_base.specs.declared.rights.Access.TheVariants.{Load, Store, Fetch}
use Rattle.mmu.specs.declared.translated.Translated.TheVariants as By
use Rattle.mmu.specs.Tables.{hit, fill}
use Rattle.machine_model.specs.Coherent.{Every, IsBacked, IsCoherent, IsSoundEntry}

-- ---- a translation that a page backs

-- every access that the translation permits is allowed
permits_allowed : (shown : Bool) (prot : Prot) (f : ℕ) (access : Access) → has_right prot ≡ true
    → permits (translation_of f (prot_shown shown prot)) access ≡ true → is_allowed prot access ≡ true
permits_allowed shown prot f Load right h = right
permits_allowed true prot f Store right h = absurd cc
permits_allowed false prot f Store right h = h
permits_allowed true prot f Fetch right h = h
permits_allowed false prot f Fetch right h = h

-- and a store only where the page doesn't show its file's page as a private one
writes_unshown : (shown : Bool) (prot : Prot) (f : ℕ) → permits (translation_of f (prot_shown shown prot)) Store ≡ true → shown ≡ false
writes_unshown true prot f h = absurd cc
writes_unshown false prot f h = refl

-- the page is mapped, with the translation's frame and rights
pub record HasPage (cached : ℕ → ℕ → Option ℕ) (o : Option PageInfo) (t : Translation) : Type 0 where
  pub info : PageInfo
  pub mapped : o ≡ Some info
  pub frame : info.frame ≡ Some t.frame
  pub rights : t ≡ translation_of t.frame (prot_installed cached info)
  pub right : has_right info.meta.prot ≡ true

pub backs : (cached : ℕ → ℕ → Option ℕ) (o : Option PageInfo) (c : ℕ) (t : Translation) → IsBacked cached o c t → HasPage cached o t
backs cached None c t b = absurd b.right
backs cached (Some info) c t b = go info.frame refl b.entry
  where
    go : (frame : Option ℕ) → info.frame ≡ frame → entry_for (prot_installed cached info) frame ≡ Some t → HasPage cached (Some info) t
    go None e h = absurd cc
    go (Some f) e h =
        let same : translation_of f (prot_installed cached info) ≡ t = cc in
        record {
          info = info;
          mapped = refl;
          frame = e ∙ ap (λ (t : Translation). Some t.frame) same;
          rights = sym same ∙ ap (λ (x : Translation). translation_of x.frame (prot_installed cached info)) same;
          right = b.right;
        }

pub allows : (cached : ℕ → ℕ → Option ℕ) (o : Option PageInfo) (t : Translation) (k : HasPage cached o t) (access : Access) → permits t access ≡ true
    → is_allowed k.info.meta.prot access ≡ true
allows cached o t k access h =
    permits_allowed (is_private k.info.meta.back && shows_some cached k.info.meta.back k.info.frame) k.info.meta.prot t.frame access k.right
    (subst (λ x. permits x access ≡ true) k.rights h)

-- ---- an access

-- the page is mapped with this frame, and its protection allows the access
pub record ReachesFrame (cached : ℕ → ℕ → Option ℕ) (o : Option PageInfo) (access : Access) (f : ℕ) : Type 0 where
  pub page : PageInfo
  pub mapped : o ≡ Some page
  pub frame : page.frame ≡ Some f
  pub allowed : is_allowed page.meta.prot access ≡ true
  pub writes : access ≡ Store → (is_private page.meta.back && shows_file cached page.meta.back f) ≡ false

-- by a translation that permits it
by_translation : (cached : ℕ → ℕ → Option ℕ) (o : Option PageInfo) (c : ℕ) (t : Translation) (access : Access) (f : ℕ) → IsBacked cached o c t
    → permits t access ≡ true → t.frame ≡ f → ReachesFrame cached o access f
by_translation cached o c t access f backed e same =
    let k : HasPage cached o t = backs cached o c t backed in
    let at : k.info.frame ≡ Some f = k.frame ∙ ap Some same in
    record {
      page = k.info;
      mapped = k.mapped;
      frame = at;
      allowed = allows cached o t k access e;
      writes = λ store.
          ap (λ x. is_private k.info.meta.back && shows_some cached k.info.meta.back x) (sym at)
          ∙ writes_unshown (is_private k.info.meta.back && shows_some cached k.info.meta.back k.info.frame) k.info.meta.prot t.frame
          (subst (λ x. permits x Store ≡ true) k.rights (subst (λ a. permits t a ≡ true) store e));
    }

hits : (cached : ℕ → ℕ → Option ℕ) (o : Option PageInfo) (c : ℕ) (t : Translation) (access : Access) (f : ℕ) → IsBacked cached o c t
    → frame_reached (hit t access) ≡ Some f → ReachesFrame cached o access f
hits cached o c t access f backed h = go (permits t access) refl h
  where
    go : (b : Bool) → permits t access ≡ b → frame_reached (if b then By.Hit t.frame else By.Fault) ≡ Some f → ReachesFrame cached o access f
    go true e k = by_translation cached o c t access f backed e cc
    go false e k = absurd cc

fills : (cached : ℕ → ℕ → Option ℕ) (o : Option PageInfo) (c : ℕ) (t : Translation) (access : Access) (f : ℕ) → IsBacked cached o c t
    → frame_reached (fill (Some t) access) ≡ Some f → ReachesFrame cached o access f
fills cached o c t access f backed h = go (permits t access) refl h
  where
    go : (b : Bool) → permits t access ≡ b → frame_reached (if b then By.Fill t.frame else By.Fault) ≡ Some f → ReachesFrame cached o access f
    go true e k = by_translation cached o c t access f backed e cc
    go false e k = absurd cc

-- what holds of all entries of a TLB holds of the one of a page
pub at_page : (P : TlbEntry → Type 0) (es : List TlbEntry) (p : ℕ) (t : Translation) → Every P es → tlb_at es p ≡ Some t
    → P (record { page = p; translation = t })
at_page P [] p t h e = absurd cc
at_page P (x ∷ es) p t h e = go (λ k. at_page P es p t h.1 k) (x.page == p) refl e
  where
    go : (tlb_at es p ≡ Some t → P (record { page = p; translation = t })) → (b : Bool) → (x.page == p) ≡ b
        → (if b then Some x.translation else tlb_at es p) ≡ Some t → P (record { page = p; translation = t })
    go rest true i k =
        let same : x.page ≡ p = grind (arith, nat_tests) in
        let its : x.translation ≡ t = cc in
        subst (λ q. P (record { page = q; translation = t })) same (subst (λ y. P (record { page = x.page; translation = y })) its h.0)
    go rest false i k = rest k

pub reaches : (cached : ℕ → ℕ → Option ℕ) (pages : ℕ → Option PageInfo) (phase : ℕ → Phase) (h : Hardware) (c : ℕ) (touch : Touch) (f : ℕ)
    → IsCoherent cached pages phase h
    → frame_reached (translated_by h c touch) ≡ Some f → ReachesFrame cached (pages touch.page) touch.access f
reaches cached pages phase h c touch f k e = go (tlb_at (h.tlb c) touch.page) (h.table c touch.page) refl refl e
  where
    go : (held entry : Option Translation) → tlb_at (h.tlb c) touch.page ≡ held → h.table c touch.page ≡ entry
        → frame_reached (translated held entry touch.access) ≡ Some f → ReachesFrame cached (pages touch.page) touch.access f
    go (Some t) entry i j r =
        hits cached (pages touch.page) c t touch.access f
        (at_page (IsSoundEntry cached pages c (h.table c) (h.inbox c)) (h.tlb c) touch.page t (k.tlbs c) i).0 r
    go None (Some t) i j r = fills cached (pages touch.page) c t touch.access f (k.tables c touch.page t j) r
    go None None i j r = absurd cc

-- an entry at a place of a TLB
pub at_place : (P : TlbEntry → Type 0) (es : List TlbEntry) (i : ℕ) (x : TlbEntry) → Every P es → slice_get es i ≡ Some x → P x
at_place P [] i x h e = absurd cc
at_place P (y ∷ es) zero x h e = let same : y ≡ x = cc in subst P same h.0
at_place P (y ∷ es) (suc i) x h e = at_place P es i x h.1 e
