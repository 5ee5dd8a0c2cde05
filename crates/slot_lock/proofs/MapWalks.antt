-- Walks from slot to slot, with one page of each looked at
use Rattle.slot_lock.proofs.Words.{◌≡◌, ℕ, ◌+◌, ◌-◌, ◌^◌, ◌<◌, ◌≤◌, ⊎_elim, true, Option, Some, None, refl, ◌∙◌, ap, subst, arith, cases_lt, Back, Meta}
use Rattle.slot_lock.proofs.Words.{PageInfo, PageRange, has, advance, info_from, IsPage, has_in, NoneIn}
use Rattle.std.specs.Prelude.{◌≢◌}
use Rattle.slot_lock.specs.Slots.{Slots, IsSlot, IsSlotMap}
use Rattle.slot_lock.proofs.SlotLaws.{info_on}
use Rattle.slot_lock.proofs.Steps.{slot_by_edge}
use Rattle.slot_lock.proofs.ListLaws.{advance_back_twice}
use Rattle.slot_lock.specs.MapList.{GoesOn, IsNextLine}
use Rattle.slot_lock.specs.MapWalks.{info_meta, slot_metas, IsFirstMapped, IsRun}

-- ---- what the pages of a mapping are mapped to

pub twice : (meta : Meta) (m n : ℕ) → advance (advance meta m) n ≡ advance meta (m + n)
twice meta m n = ap (λ (b : Back). record { back = b; prot = meta.prot }) (advance_back_twice meta.back m n)

meta_from : (o : Option PageInfo) (n : ℕ) (meta : Meta) → info_meta o ≡ Some meta → info_meta (info_from o n) ≡ Some (advance meta n)
meta_from None n meta e = absurd cc
meta_from (Some info) n meta e = let same : info.meta ≡ meta = cc in ap (λ (m : Meta). Some (advance m n)) same

unmapped_from : (o : Option PageInfo) (n : ℕ) → info_meta o ≡ None → info_meta (info_from o n) ≡ None
unmapped_from None n e = refl
unmapped_from (Some info) n e = absurd cc

-- what is no page isn't mapped
limit_unmapped : (s : Slots) → IsSlotMap s → slot_metas s (2 ^ 35) ≡ None
limit_unmapped s laws = ap info_meta (laws.unmapped (2 ^ 35) (λ (h : IsPage (2 ^ 35)). omega (arith, h.1)))

-- ---- a slot

-- the slot has the valid page
pub record Holds (s : Slots) (slot : PageRange) (page : ℕ) : Type 0 where
  pub is : IsSlot s slot.first slot.end
  pub valid : IsPage page
  pub low : slot.first ≤ page
  pub high : page < slot.end

pub holds : (s : Slots) (slot : PageRange) (page : ℕ) → IsSlot s slot.first slot.end → has slot page ≡ true → 1 ≤ page → page < 2 ^ 35
    → Holds s slot page
holds s slot page is here low high =
    let z = has_in slot page here in
    record { is = is; valid = (low, high); low = z.0; high = z.1 }

-- it ends by the last valid page
slot_ends : (s : Slots) → IsSlotMap s → (slot : PageRange) (page : ℕ) → Holds s slot page → slot.end ≤ 2 ^ 35
slot_ends s laws slot page h = slot_by_edge s slot.first slot.end (2 ^ 35) h.is laws.limit (omega (arith, h.low, h.valid.1))

-- its later pages have what goes on from the page
later : (s : Slots) → IsSlotMap s → (slot : PageRange) (page p : ℕ) → Holds s slot page → page ≤ p → p < slot.end
    → s.info p ≡ info_from (s.info page) (p - page)
later s laws slot page p h low high =
    let same : page + (p - page) ≡ p = omega arith in
    let first = h.low in
    subst (λ q. s.info q ≡ info_from (s.info page) (p - page)) same
    (info_on s laws page slot.end (p - page) h.valid.0 (slot_ends s laws slot page h) (λ q a b. h.is.inside q (omega arith) b) (omega arith))

-- ---- unmapped pages

none_at_first : (meta : ℕ → Option Meta) (from : ℕ) → NoneIn meta from from
none_at_first meta from = λ p a b. absurd (omega arith)

-- the slot of an unmapped page is passed
none_next : (s : Slots) → IsSlotMap s → (from page : ℕ) (slot : PageRange) → Holds s slot page → s.info page ≡ None
    → NoneIn (slot_metas s) from page → NoneIn (slot_metas s) from slot.end
none_next s laws from page slot h e before = λ p a b. ⊎_elim
    (λ (l : p < page). before p a l)
    (λ (l : page ≤ p). ap info_meta (later s laws slot page p h l b) ∙ unmapped_from (s.info page) (p - page) (ap info_meta e))
    (cases_lt p page)

-- ---- mapped pages

-- the slot of a mapped page begins a run
pub run_first : (s : Slots) → IsSlotMap s → (first : ℕ) (meta : Meta) (slot : PageRange) → Holds s slot first → slot_metas s first ≡ Some meta
    → IsRun (slot_metas s) first meta slot.end
run_first s laws first meta slot h e = record {
  some = h.high;
  high = slot_ends s laws slot first h;
  mapped = λ p a b. ap info_meta (later s laws slot first p h a b) ∙ meta_from (s.info first) (p - first) meta e;
}

-- and the slot of a page that goes on from it makes it longer
pub run_next : (s : Slots) → IsSlotMap s → (first : ℕ) (meta : Meta) (end : ℕ) (slot : PageRange) → Holds s slot end
    → slot_metas s end ≡ Some (advance meta (end - first)) → IsRun (slot_metas s) first meta end → IsRun (slot_metas s) first meta slot.end
run_next s laws first meta end slot h e run = record {
  some = let a = run.some in let b = h.high in omega arith;
  high = slot_ends s laws slot end h;
  mapped = λ p a b. ⊎_elim
      (λ (l : p < end). run.mapped p a l)
      (λ (l : end ≤ p).
      let next : IsRun (slot_metas s) end (advance meta (end - first)) slot.end = run_first s laws end (advance meta (end - first)) slot h e in
      let order = run.some in
      let sum : (end - first) + (p - end) ≡ p - first = omega arith in
      next.mapped p l b ∙ ap Some (twice meta (end - first) (p - end) ∙ ap (advance meta) sum))
      (cases_lt p end);
}

-- a run ends at the last valid page
pub ends_at_limit : (s : Slots) → IsSlotMap s → (end : ℕ) (meta : Meta) → end ≤ 2 ^ 35 → 2 ^ 35 ≤ end → slot_metas s end ≢ Some meta
ends_at_limit s laws end meta low high e =
    let same : end ≡ 2 ^ 35 = omega arith in
    let none = ap (slot_metas s) same ∙ limit_unmapped s laws in
    absurd cc

-- ---- a line

-- no line goes across the first mapped page
begins : (metas : ℕ → Option Meta) (from first : ℕ) (meta : Meta) → ¬ GoesOn (metas (from - 1)) (metas from)
    → IsFirstMapped metas from first meta → ¬ GoesOn (metas (first - 1)) (metas first)
begins metas from first meta not f go = ⊎_elim
    (λ (l : from < first).
    let none : metas (first - 1) ≡ None = f.before (first - 1) (omega arith) (omega arith) in
    subst (λ o. GoesOn o (metas first)) none go)
    (λ (l : first ≤ from).
    let low = f.low in
    let same : first ≡ from = omega arith in
    not (subst (λ n. GoesOn (metas (n - 1)) (metas n)) same go))
    (cases_lt from first)

-- nor across the end of a run
ends : (metas : ℕ → Option Meta) (first : ℕ) (meta : Meta) (end : ℕ) → IsRun metas first meta end → metas end ≢ Some (advance meta (end - first))
    → ¬ GoesOn (metas (end - 1)) (metas end)
ends metas first meta end run not go =
    let order = run.some in
    let last : metas (end - 1) ≡ Some (advance meta (end - 1 - first)) = run.mapped (end - 1) (omega arith) (omega arith) in
    let next : metas end ≡ Some (advance (advance meta (end - 1 - first)) 1) = subst (λ o. GoesOn o (metas end)) last go in
    let sum : end - 1 - first + 1 ≡ end - first = omega arith in
    not (next ∙ ap Some (twice meta (end - 1 - first) 1 ∙ ap (advance meta) sum))

-- the first mapped page and the run from there on
pub line_is : (metas : ℕ → Option Meta) (from first : ℕ) (meta : Meta) (end : ℕ) → 1 ≤ from → ¬ GoesOn (metas (from - 1)) (metas from)
    → IsFirstMapped metas from first meta → IsRun metas first meta end → metas end ≢ Some (advance meta (end - first))
    → IsNextLine metas from (record { range = record { first = first; end = end }; prot = meta.prot; back = meta.back })
line_is metas from first meta end low not f run more = record {
  is = record {
    pages = record { some = run.some; low = (let a = f.low in omega arith); high = run.high };
    mapped = run.mapped;
    begins = begins metas from first meta not f;
    ends = ends metas first meta end run more;
  };
  low = f.low;
  before = f.before;
}

-- ---- where a walk is

-- no page from a page on up to this one is mapped
pub record NoneBelow (meta : ℕ → Option Meta) (from page : ℕ) : Type 0 where
  pub low : from ≤ page
  pub none : NoneIn meta from page

pub below_first : (meta : ℕ → Option Meta) (from : ℕ) → NoneBelow meta from from
below_first meta from = record { low = omega arith; none = none_at_first meta from }

pub below_next : (s : Slots) → IsSlotMap s → (from page : ℕ) (slot : PageRange) → Holds s slot page → s.info page ≡ None
    → NoneBelow (slot_metas s) from page → NoneBelow (slot_metas s) from slot.end
below_next s laws from page slot h e n = record {
  low = (let a = n.low in let b = h.high in omega arith);
  none = none_next s laws from page slot h e n.none;
}

pub first_is : (s : Slots) (from page : ℕ) (info : PageInfo) → NoneBelow (slot_metas s) from page → page < 2 ^ 35 → s.info page ≡ Some info
    → IsFirstMapped (slot_metas s) from page info.meta
first_is s from page info n high e = record { low = n.low; high = high; before = n.none; mapped = ap info_meta e }

pub none_to_limit : (meta : ℕ → Option Meta) (from page : ℕ) → NoneBelow meta from page → 2 ^ 35 ≤ page → NoneIn meta from (2 ^ 35)
none_to_limit meta from page n high = λ p a b. n.none p a (omega arith)
