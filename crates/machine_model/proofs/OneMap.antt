-- A log leads to one plain page map.
use Rattle.machine_model.proofs.Words.{◌≡◌, ℕ, Bool, true, false, sym, ap, subst, arith, Option, None, Some, List, [], ◌∷◌, ◌∙◌, Back, PageRange, Prot, Mmap}
use Rattle.machine_model.proofs.Words.{Mprotect, page_count, pages_from, Reply, Mapped, Done, Byte, Refused, Segv, Bus, NoFrame, NoMemory, Request}
use Rattle.machine_model.proofs.Words.{Plain, mode_of, refusal, IsPlace, range_at, meta_of, Applies, Entry, Detach, Stands, EntryLeads, Replays}
use Rattle.std.specs.Prelude.{◌*◌}
use Rattle.vm_base.specs.Apply.{AppliesAfter, NewMapping, Performs, Maps, MapsAt, Protects, after_mapping}
use Rattle.vm_base.specs.Apply.Protects.{no_page, no_write, done}
use Rattle.vm_base.specs.declared.log.Entry.TheVariants.{Answer}

-- ---- answers: the reply says what is left, also where a mapping may have more than one place

maps_one : (t u v : Plain) (n : ℕ) (a b : Option ℕ) (back : Back) (prot : Prot) (y : Reply) → Maps t (range_at a n) back prot y u
    → Maps t (range_at b n) back prot y v → u ≡ v
maps_one t u v n None None back prot y h k = h.1 ∙ sym k.1
maps_one t u v n None (Some r) back prot y h k = absurd (let e = sym h.0 ∙ k.0 in cc)
maps_one t u v n (Some s) None back prot y h k = absurd (let e = sym h.0 ∙ k.0 in cc)
maps_one t u v n (Some s) (Some r) back prot y h k =
    let e : Mapped (s * 4096) ≡ Mapped (r * 4096) = sym h.0 ∙ k.0 in
    let at : s * 4096 ≡ r * 4096 = cc in
    let same : s ≡ r = omega (arith, at) in
    h.1 ∙ (ap (λ (p : ℕ). after_mapping t (pages_from p n) back prot) same ∙ sym k.1)

maps_at_one : (fixed : Bool) (t u v : Plain) (m : NewMapping) (y : Reply)
    → MapsAt IsPlace fixed t m y u → MapsAt IsPlace fixed t m y v → u ≡ v
maps_at_one true t u v m y h k = h.1 ∙ sym k.1
maps_at_one false t u v m y h k = maps_one t u v (page_count m.len) h.0 k.0 m.meta.back m.meta.prot y h.2 k.2

protects_one : (t u v : Plain) (r : PageRange) (prot : Prot) (y : Reply) → Protects t r prot y u → Protects t r prot y v → u ≡ v
protects_one t u v r prot y h k = elim h [
  | no_page a b c ↦ elim k [
    | no_page d e f ↦ c ∙ sym f
    | no_write d e f g i ↦ absurd (d a)
    | done d e f g ↦ absurd (d a)
  ]
  | no_write a w b c x ↦ elim k [
    | no_page d e f ↦ absurd (a d)
    | no_write d e f g i ↦ x ∙ sym i
    | done d e f g ↦ absurd (e w b)
  ]
  | done a b c x ↦ elim k [
    | no_page d e f ↦ absurd (a d)
    | no_write d e f g i ↦ absurd (b e f)
    | done d e f g ↦ x ∙ sym g
  ]
]

performs_one : (t u v : Plain) (core : ℕ) (request : Request) (y : Reply) → Performs IsPlace t core request y u → Performs IsPlace t core request y v → u ≡ v
performs_one t u v core (Mmap addr len prot flags file off) y h k =
    maps_at_one flags.fixed t u v (record { core = core; addr = addr; len = len; meta = meta_of prot flags file off }) y h k
performs_one t u v core (Mprotect addr len prot) y h k = protects_one t u v _ prot y h k
performs_one t u v core _ y h k = h.1 ∙ sym k.1

leaves_one : (t u v : Plain) (core : ℕ) (request : Request) (y : Reply) → Applies IsPlace t core request y u → Applies IsPlace t core request y v → u ≡ v
leaves_one t u v core request y h k = go (refusal (λ n. mode_of (t.file n)) request) h k
  where
    go : (o : Option Reply) → AppliesAfter IsPlace o t core request y u → AppliesAfter IsPlace o t core request y v → u ≡ v
    go None h k = performs_one t u v core request y h k
    go (Some refused) h k = h.1 ∙ sym k.1

-- ---- entries

stands_one : (t u v : Plain) (core : ℕ) (request : Request) (y : Reply) → Stands IsPlace t core request y u → Stands IsPlace t core request y v → u ≡ v
stands_one t u v core request (Mapped a) h k = leaves_one t u v core request (Mapped a) h k
stands_one t u v core request Done h k = leaves_one t u v core request Done h k
stands_one t u v core request (Byte b) h k = leaves_one t u v core request (Byte b) h k
stands_one t u v core request (Refused e) h k = leaves_one t u v core request (Refused e) h k
stands_one t u v core request (Segv s) h k = leaves_one t u v core request (Segv s) h k
stands_one t u v core request Bus h k = leaves_one t u v core request Bus h k
stands_one t u v core request NoFrame h k = h.1 ∙ sym k.1
stands_one t u v core request NoMemory h k = h ∙ sym k

entry_one : (rs : List Request) (t u v : Plain) (e : Entry) → EntryLeads rs t e u → EntryLeads rs t e v → u ≡ v
entry_one rs t u v (Answer step call core reply) h k =
    let same : h.0 ≡ k.0 = let a : Some h.0 ≡ Some k.0 = sym h.1 ∙ k.1 in cc in
    stands_one t u v core k.0 reply (subst (λ r. Stands IsPlace t core r reply u) same h.2) k.2
entry_one rs t u v (Detach step call page) h k = let same : Some u ≡ Some v = sym h.1 ∙ k.1 in cc

pub log_leads_to_one : (requests : List Request) (log : List Entry) (t u v : Plain) → Replays requests t log u → Replays requests t log v → u ≡ v
log_leads_to_one rs [] t u v h k = h ∙ sym k
log_leads_to_one rs (e ∷ es) t u v h k =
    let same : h.0 ≡ k.0 = entry_one rs t h.0 k.0 e h.1 k.1 in
    log_leads_to_one rs es k.0 u v (subst (λ m. Replays rs m es u) same h.2) k.2
