-- The plain page map that is kept, once pages were changed
use Rattle.slot_lock.proofs.Words.{◌≡◌, ℕ, ◌-◌, Bool, true, false, List, Option, Some, None, is_some, refl, ◌∙◌, ap, fun_ext, Back, Anon, Shared, Private}
use Rattle.slot_lock.proofs.Words.{Meta, PageInfo, PageRange, Mode, Prot, has, advance, advance_back, frame_of, info_with_prot, unused, Bytes, PageEntry, File}
use Rattle.slot_lock.proofs.Words.{Plain, is_mapped, mode_of}
use Rattle.std.specs.Prelude.{cond}
use Rattle.vm_base.specs.Plain.{nothing_mapped}
use Rattle.vm_base.specs.Apply.{first_own, new_entry, with_prot}
use Rattle.slot_lock.specs.declared.plan.Change.{Change}
use Rattle.slot_lock.specs.declared.plan.Change.TheVariants.{Put, Clear, Protect}
use Rattle.slot_lock.specs.declared.plan.Goal.TheVariants as To
use Rattle.slot_lock.specs.Plan.{range_of}
use Rattle.slot_lock.specs.Changes.{changed}
use Rattle.slot_lock.specs.Framed.{frames_in}
use Rattle.slot_lock.specs.Slots.{Slots, IsNew}
use Rattle.frames.specs.Parts.{FrameParts, frame_bytes}
use Rattle.frames.specs.Files.{FileParts, files_of, cached_in}
use Rattle.vm_calls.specs.Checks.{HasModes}
use Rattle.vm_calls.specs.Decisions.{entries, entry_of}
use Rattle.vm_calls.specs.Plainly.{IsShown, ShowsPage, left_by}
use Rattle.audit.specs.Keeping.{Keeps, entry_kept, file_kept, frame_at, own_kept, plain_kept}

-- ---- what the slots and the files show of it

mode_kept : (b : ℕ → Bytes) (c : ℕ → Option ℕ) (file : Option File) → mode_of (file_kept b c file) ≡ mode_of file
mode_kept b c None = refl
mode_kept b c (Some f) = refl

pub has_modes : (s : Slots) (o : List FileParts) (f : FrameParts) → HasModes (plain_kept s o f) (files_of o)
has_modes s o f n = mode_kept (frame_bytes f) (cached_in o n) (files_of o n)

pub modes_kept : (s : Slots) (o : List FileParts) (f : FrameParts)
    → ◌≡◌ {A = ℕ → Option Mode} (λ n. mode_of ((plain_kept s o f).file n)) (λ n. mode_of (files_of o n))
modes_kept s o f = fun_ext (has_modes s o f)

pub shown_kept : (s : Slots) (o : List FileParts) (f : FrameParts) (r : PageRange) → IsShown (plain_kept s o f) (files_of o) s r
shown_kept s o f r = record { pages = λ p e. shows (s.info p); modes = has_modes s o f }
  where
    shows : (i : Option PageInfo) → ShowsPage (entry_kept (frame_bytes f) i) i
    shows None = tt
    shows (Some info) = (refl, refl)

-- the same pages are mapped
pub mapped_kept : (s : Slots) (o : List FileParts) (f : FrameParts) → is_mapped (plain_kept s o f).entry ≡ is_mapped (entries s)
mapped_kept s o f = fun_ext (λ p. same (s.info p))
  where
    same : (i : Option PageInfo) → is_some (entry_kept (frame_bytes f) i) ≡ is_some (entry_of i)
    same None = refl
    same (Some info) = refl

-- ---- changes

abbrev state : (ℕ → Bytes) → (ℕ → Option PageInfo) → List FileParts → Plain
state b info o = record { entry = λ p. entry_kept b (info p); file = λ n. file_kept b (cached_in o n) (files_of o n) }

abbrev to_plain : (ℕ → Option File) → (ℕ → Option PageEntry) → Plain
to_plain file entry = record { entry = entry; file = file }

own_first : (b : ℕ → Bytes) (back : Back) → own_kept b back None ≡ first_own back
own_first b Anon = refl
own_first b (Shared file page) = refl
own_first b (Private file page) = refl

new_page : (b : ℕ → Bytes) (meta : Meta) (n : ℕ) → entry_kept b (Some (unused (advance meta n))) ≡ Some (new_entry (advance_back meta.back n) meta.prot)
new_page b meta n =
    ap (λ own. Some (record { back = advance_back meta.back n; prot = meta.prot; own = own })) (own_first b (advance_back meta.back n))

put_page : (b : ℕ → Bytes) (meta : Meta) (n : ℕ) (i : Option PageInfo) (t : Bool)
    → entry_kept b (cond t (Some (unused (advance meta n))) i) ≡ cond t (Some (new_entry (advance_back meta.back n) meta.prot)) (entry_kept b i)
put_page b meta n i true = new_page b meta n
put_page b meta n i false = refl

clear_page : (b : ℕ → Bytes) (i : Option PageInfo) (t : Bool) → entry_kept b (cond t None i) ≡ cond t None (entry_kept b i)
clear_page b i true = refl
clear_page b i false = refl

protect_page : (b : ℕ → Bytes) (prot : Prot) (i : Option PageInfo) (t : Bool)
    → entry_kept b (cond t (info_with_prot prot i) i) ≡ cond t (with_prot prot (entry_kept b i)) (entry_kept b i)
protect_page b prot None true = refl
protect_page b prot (Some info) true = refl
protect_page b prot i false = refl

state_changed : (b : ℕ → Bytes) (s : Slots) (o : List FileParts) (c : Change)
    → state b (changed s c).info o ≡ left_by (state b s.info o) (To.Change c) (range_of c)
state_changed b s o (Put range meta) =
    ap (to_plain (λ n. file_kept b (cached_in o n) (files_of o n))) (fun_ext (λ p. put_page b meta (p - range.first) (s.info p) (has range p)))
state_changed b s o (Clear range) =
    ap (to_plain (λ n. file_kept b (cached_in o n) (files_of o n))) (fun_ext (λ p. clear_page b (s.info p) (has range p)))
state_changed b s o (Protect range prot) =
    ap (to_plain (λ n. file_kept b (cached_in o n) (files_of o n))) (fun_ext (λ p. protect_page b prot (s.info p) (has range p)))

pub plain_changed : (s t : Slots) (o : List FileParts) (f g : FrameParts) (c : Change) → t.info ≡ (changed s c).info → frame_bytes g ≡ frame_bytes f
    → plain_kept t o g ≡ left_by (plain_kept s o f) (To.Change c) (range_of c)
plain_changed s t o f g c info bytes =
    ap (λ b. state b t.info o) bytes ∙ (ap (λ i. state (frame_bytes f) i o) info ∙ state_changed (frame_bytes f) s o c)

pub plain_same : (s t : Slots) (o : List FileParts) (f g : FrameParts) → t.info ≡ s.info → frame_bytes g ≡ frame_bytes f
    → plain_kept t o g ≡ plain_kept s o f
plain_same s t o f g info bytes = ap (λ b. state b t.info o) bytes ∙ ap (λ i. state (frame_bytes f) i o) info

-- ---- the beginning

pub new_plain : (s : Slots) (o : List FileParts) (f : FrameParts) (files : ℕ → Option File) → IsNew s → cached_in o ≡ (λ n k. None) → files_of o ≡ files
    → plain_kept s o f ≡ nothing_mapped files
new_plain s o f files new none given =
    ap (λ e. to_plain (λ n. file_kept (frame_bytes f) (cached_in o n) (files_of o n)) e) (fun_ext (λ p. ap (entry_kept (frame_bytes f)) (new.unmapped p)))
    ∙ (ap (λ (c : ℕ → ℕ → Option ℕ). to_plain (λ n. file_kept (frame_bytes f) (c n) (files_of o n)) (λ p. None)) none
    ∙ (ap (λ (g : ℕ → Option File). to_plain g (λ p. None)) (fun_ext (λ n. first (files_of o n)))
    ∙ ap (λ (g : ℕ → Option File). to_plain g (λ p. None)) given))
  where
    first : (file : Option File) → file_kept (frame_bytes f) (λ k. None) file ≡ file
    first None = refl
    first (Some file) = refl

pub new_kept : (s : Slots) (o : List FileParts) (f : FrameParts) → IsNew s → cached_in o ≡ (λ n k. None) → Keeps s (cached_in o) f
new_kept s o f new none = record {
  taken = λ a p x e. absurd (nobody a p x e);
  one = λ a b p q x e h. absurd (nobody a p x e);
}
  where
    nobody : (a : Option ℕ) (p x : ℕ) → frame_at (frames_in s) (cached_in o) a p ≡ Some x → ⊥
    nobody None p x e =
        let h : frame_of (s.info p) ≡ Some x = e in
        let z : frame_of (s.info p) ≡ None = ap frame_of (new.unmapped p) in
        absurd cc
    nobody (Some n) p x e =
        let h : cached_in o n p ≡ Some x = e in
        let z : cached_in o n p ≡ None = ap (λ (c : ℕ → ℕ → Option ℕ). c n p) none in
        absurd cc
