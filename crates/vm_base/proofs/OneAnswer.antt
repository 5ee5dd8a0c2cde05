use Rattle.std.proofs.Common.{◌≡◌, ℕ, ◌<◌, Bool, true, false, refl, sym, ap, subst, arith, Some, None, Option, ◌∙◌}
use Rattle.vm_base.specs.declared.info.Back.{Back}
use Rattle.vm_base.specs.declared.page.PageRange.{PageRange}
use Rattle.vm_base.specs.declared.replies.Reply.{Reply}
use Rattle.vm_base.specs.declared.requests.Request.{Request}
use Rattle.vm_base.specs.declared.requests.Request.TheVariants.{Mmap, Munmap, Mprotect, Load as LoadOf, Store as StoreOf, Fetch as FetchOf}
use Rattle.vm_base.specs.declared.rights.Prot.{Prot}
use Rattle.vm_base.specs.declared.rights.Access.{Access}
use Rattle.vm_base.specs.Pages.{page_count, page_of, window_of}
use Rattle.vm_base.specs.Places.{IsFirstPlace, IsLeastRoom}
use Rattle.vm_base.specs.Places.IsFirstPlace.{at_hint, in_window}
use Rattle.vm_base.specs.Plain.{Plain, mode_of, is_mapped}
use Rattle.vm_base.specs.Refusals.{refusal}
use Rattle.vm_base.specs.Apply.{AppliesAfter, NewMapping, Performs, Maps, MapsAt, Protects, Accesses, range_at, meta_of, accessed, Applies}
use Rattle.vm_base.specs.Apply.Protects.{no_page, no_write, done}

least_one : (m : ℕ → Bool) (w : PageRange) (n : ℕ) (a b : Option ℕ) → IsLeastRoom m w n a → IsLeastRoom m w n b → a ≡ b
least_one m w n None None l k = refl
least_one m w n None (Some s) l k = absurd (l s k.0)
least_one m w n (Some s) None l k = absurd (k s l.0)
least_one m w n (Some s) (Some r) l k =
    let not_below : ¬ r < s = λ h. l.1 r h k.0 in
    let not_above : ¬ s < r = λ h. k.1 s h l.0 in
    let same : s ≡ r = omega (arith, not_below, not_above) in
    ap Some same

place_one : (m : ℕ → Bool) (w : PageRange) (h n : ℕ) (a b : Option ℕ) → IsFirstPlace m w h n a → IsFirstPlace m w h n b → a ≡ b
place_one m w h n a b p q = elim p [
  | at_hint x e ↦ elim q [
    | at_hint y f ↦ e ∙ sym f
    | in_window none l ↦ absurd (none x)
  ]
  | in_window none l ↦ elim q [
    | at_hint y f ↦ absurd (none y)
    | in_window other k ↦ least_one m w n a b l k
  ]
]

maps_one : (t u v : Plain) (o : Option PageRange) (back : Back) (prot : Prot) (y z : Reply) → Maps t o back prot y u
    → Maps t o back prot z v → (y ≡ z) × (u ≡ v)
maps_one t u v None back prot y z h k = (h.0 ∙ sym k.0, h.1 ∙ sym k.1)
maps_one t u v (Some r) back prot y z h k = (h.0 ∙ sym k.0, h.1 ∙ sym k.1)

maps_at_one : (fixed : Bool) (t u v : Plain) (m : NewMapping) (y z : Reply)
    → MapsAt IsFirstPlace fixed t m y u → MapsAt IsFirstPlace fixed t m z v → (y ≡ z) × (u ≡ v)
maps_at_one true t u v m y z h k = (h.0 ∙ sym k.0, h.1 ∙ sym k.1)
maps_at_one false t u v m y z h k =
    let same : h.0 ≡ k.0 = place_one (is_mapped t.entry) (window_of m.core) (page_of m.addr) (page_count m.len) h.0 k.0 h.1 k.1 in
    maps_one t u v (range_at k.0 (page_count m.len)) m.meta.back m.meta.prot y z
    (subst (λ (o : Option ℕ). Maps t (range_at o (page_count m.len)) m.meta.back m.meta.prot y u) same h.2) k.2

protects_one : (t u v : Plain) (r : PageRange) (prot : Prot) (y z : Reply) → Protects t r prot y u → Protects t r prot z v → (y ≡ z) × (u ≡ v)
protects_one t u v r prot y z h k = elim h [
  | no_page a b c ↦ elim k [
    | no_page d e f ↦ (b ∙ sym e, c ∙ sym f)
    | no_write d e f g i ↦ absurd (d a)
    | done d e f g ↦ absurd (d a)
  ]
  | no_write a w b c x ↦ elim k [
    | no_page d e f ↦ absurd (a d)
    | no_write d e f g i ↦ (c ∙ sym g, x ∙ sym i)
    | done d e f g ↦ absurd (e w b)
  ]
  | done a b c x ↦ elim k [
    | no_page d e f ↦ absurd (a d)
    | no_write d e f g i ↦ absurd (b e f)
    | done d e f g ↦ (c ∙ sym f, x ∙ sym g)
  ]
]

accesses_one : (t u v : Plain) (addr : ℕ) (a : Access) (byte : ℕ) (y z : Reply) → Accesses t addr a byte y u → Accesses t addr a byte z v → (y ≡ z) × (u ≡ v)
accesses_one t u v addr a byte y z h k =
    let e : Some y ≡ Some z = sym h.0 ∙ k.0 in
    let same : y ≡ z = cc in
    (same, h.1 ∙ (ap (λ (r : Reply). accessed t addr byte r) same ∙ sym k.1))

performs_one : (t u v : Plain) (core : ℕ) (request : Request) (y z : Reply) → Performs IsFirstPlace t core request y u
    → Performs IsFirstPlace t core request z v → (y ≡ z) × (u ≡ v)
performs_one t u v core (Mmap addr len prot flags file off) y z h k =
    maps_at_one flags.fixed t u v (record { core = core; addr = addr; len = len; meta = meta_of prot flags file off }) y z h k
performs_one t u v core (Munmap addr len) y z h k = (h.0 ∙ sym k.0, h.1 ∙ sym k.1)
performs_one t u v core (Mprotect addr len prot) y z h k = protects_one t u v _ prot y z h k
performs_one t u v core (LoadOf addr) y z h k = accesses_one t u v addr _ _ y z h k
performs_one t u v core (StoreOf addr byte) y z h k = accesses_one t u v addr _ _ y z h k
performs_one t u v core (FetchOf addr) y z h k = accesses_one t u v addr _ _ y z h k

after_one : (t u v : Plain) (core : ℕ) (request : Request) (y z : Reply) (o : Option Reply) → AppliesAfter IsFirstPlace o t core request y u
    → AppliesAfter IsFirstPlace o t core request z v → (y ≡ z) × (u ≡ v)
after_one t u v core request y z None h k = performs_one t u v core request y z h k
after_one t u v core request y z (Some refused) h k = (h.0 ∙ sym k.0, h.1 ∙ sym k.1)

pub one_answer : (t u v : Plain) (core : ℕ) (request : Request) (y z : Reply) → Applies IsFirstPlace t core request y u → Applies IsFirstPlace t core request z v
    → (y ≡ z) × (u ≡ v)
one_answer t u v core request y z h k = after_one t u v core request y z (refusal (λ n. mode_of (t.file n)) request) h k
