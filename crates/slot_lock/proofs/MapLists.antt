-- Lists of lines that grow at their end
use Rattle.slot_lock.proofs.Words.{◌≡◌, ℕ, ◌-◌, ◌^◌, ◌<◌, ◌≤◌, ⊎_elim, List, [], ◌∷◌, ◌++◌, Option, ap, subst, arith, cases_lt, Meta, IsPage, NoneIn}
use Rattle.slot_lock.specs.declared.map_list.MapLine.{MapLine}
use Rattle.slot_lock.specs.Slots.{Slots, IsSlotMap}
use Rattle.slot_lock.specs.MapList.{GoesOn, IsMapList, IsNextLine, ListsLines}
use Rattle.slot_lock.specs.MapWalks.{info_meta, slot_metas}

none_then : (meta : ℕ → Option Meta) (first m end : ℕ) → NoneIn meta first m → NoneIn meta m end → NoneIn meta first end
none_then meta first m end h g = λ p a b. ⊎_elim (λ (l : p < m). h p a l) (λ (l : m ≤ p). g p l b) (cases_lt p m)

-- one more line
pub lists_more : (meta : ℕ → Option Meta) (first m : ℕ) (xs : List MapLine) (y : MapLine) → first ≤ m → ListsLines meta first m xs → IsNextLine meta m y
    → ListsLines meta first y.range.end (xs ++ y ∷ [])
lists_more meta first m [] y l h next = (
  record { is = next.is; low = (let a = next.low in omega arith); before = none_then meta first m y.range.first h next.before },
  omega arith,
  λ p a b. absurd (omega arith),
)
lists_more meta first m (x ∷ xs) y l h next = (
  h.0,
  (let a = h.1 in let b = next.low in let c = next.is.pages.some in omega arith),
  lists_more meta x.range.end m xs y h.1 h.2 next,
)

-- no more lines
pub lists_end : (meta : ℕ → Option Meta) (first m end : ℕ) (xs : List MapLine) → m ≤ end → ListsLines meta first m xs → NoneIn meta m end
    → ListsLines meta first end xs
lists_end meta first m end [] l h none = none_then meta first m end h none
lists_end meta first m end (x ∷ xs) l h none = (h.0, (let a = h.1 in omega arith), lists_end meta x.range.end m end xs l h.2 none)

-- the lines up to a page that no line goes across
pub record ListsTo (meta : ℕ → Option Meta) (lines : List MapLine) (from : ℕ) : Type 0 where
  pub low : 1 ≤ from
  pub high : from ≤ 2 ^ 35
  pub lists : ListsLines meta 1 from lines
  pub begins : ¬ GoesOn (meta (from - 1)) (meta from)

pub to_more : (meta : ℕ → Option Meta) (lines new : List MapLine) (from : ℕ) (line : MapLine) → new ≡ lines ++ line ∷ [] → ListsTo meta lines from
    → IsNextLine meta from line → ListsTo meta new line.range.end
to_more meta lines new from line e h next = record {
  low = (let a = next.is.pages.low in let b = next.is.pages.some in omega arith);
  high = next.is.pages.high;
  lists = rw e (lists_more meta 1 from lines line h.low h.lists next);
  begins = next.is.ends;
}

-- before the first valid page, where no line goes across: page 0 is never mapped
pub to_first : (s : Slots) → IsSlotMap s → ListsTo (slot_metas s) [] 1
to_first s laws = record {
  low = omega arith;
  high = omega arith;
  lists = λ p a b. absurd (omega arith);
  begins = λ go. subst (λ o. GoesOn o (slot_metas s 1)) (ap info_meta (laws.unmapped 0 (λ (h : IsPage 0). omega (arith, h.0)))) go;
}

-- where no more pages are mapped, these are all
pub lists_all : (meta : ℕ → Option Meta) (lines : List MapLine) (from : ℕ) → ListsTo meta lines from → NoneIn meta from (2 ^ 35)
    → IsMapList meta lines
lists_all meta lines from h none = lists_end meta 1 from (2 ^ 35) lines h.high h.lists none
