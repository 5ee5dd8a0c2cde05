-- What a TLB keeps: translations at 64 places, the places in the order of the fills, and those of each hash
use Rattle.std.specs.Prelude.{◌≡◌, ℕ, zero, suc, ◌<◌, ◌≤◌, Bool, true, false, if◌then◌else◌, nat_lt}
use Rattle.std.specs.Prelude.{length, take, List, Option, None, Some, slice_index, slice_index_or}
use Rattle.std.specs.List.{filter_map}
use Rattle.vm_base.specs.Cores.{members}
use Rattle.mmu.specs.declared.tlb.TlbEntry.{TlbEntry}
use Rattle.mmu.specs.Tlb.{page_hash}

-- what stands at a place
abbrev pub entry_at : List TlbEntry → ℕ → TlbEntry
entry_at places b = slice_index_or places b (record {
  page = 0;
  translation = record { frame = 0; write = false; exec = false };
})

-- the translation that a number of the order stands for: one from 64 on is no place
abbrev pub filled_at : List TlbEntry → ℕ → Option TlbEntry
filled_at places b = if nat_lt b 64 then Some (entry_at places b) else None

-- the translations that the TLB holds, the oldest filled first
abbrev pub entries_of : List TlbEntry → List ℕ → List TlbEntry
entries_of places fills = filter_map (filled_at places) fills

abbrev pub page_at : List TlbEntry → ℕ → ℕ
page_at places b = (entry_at places b).page

-- a place that isn't free
abbrev pub IsHeld : ℕ → ℕ → Type 0
IsHeld free b = (b < 64) × (members free b ≡ false)

-- the first n of an order are no places
abbrev pub NoneBefore : ℕ → List ℕ → Type 0
NoneBefore n fills = (i : ℕ) → i < n → i < length fills → 64 ≤ slice_index fills i

-- how many of the numbers below n a set has
unfoldable pub count_below : (ℕ → Bool) → ℕ → ℕ
count_below f zero = 0
count_below f (suc n) = if f n then suc (count_below f n) else count_below f n

-- each place that is held is once in the order, where `at` says, and no other place is
pub record AreOrdered (fills at : List ℕ) (free : ℕ) : Type 0 where
  pub even : length at ≡ 64
  pub held : (b : ℕ) → IsHeld free b
      → (slice_index at b < length fills) × (slice_index fills (slice_index at b) ≡ b)
  pub there : (i : ℕ) → i < length fills → slice_index fills i < 64
      → (members free (slice_index fills i) ≡ false) × (slice_index at (slice_index fills i) ≡ i)

-- the set of each hash has the places that are held by a page with it, and no others
pub record AreSets (sets : List ℕ) (places : List TlbEntry) (free : ℕ) : Type 0 where
  pub even : length sets ≡ 64
  pub full : length places ≡ 64
  pub within : (h b : ℕ) → h < 64 → members (slice_index sets h) b ≡ true
      → IsHeld free b × (page_hash (page_at places b) ≡ h)
  pub all : (b : ℕ) → IsHeld free b → members (slice_index sets (page_hash (page_at places b))) b ≡ true

-- the places among the first n of an order, in a new one; `new` says where they stand in it, as `old` in
-- the other
pub record IsMovedUp (fills old : List ℕ) (n : ℕ) (moved new : List ℕ) : Type 0 where
  pub even : length new ≡ 64
  pub few : length moved ≤ n
  pub there : (k : ℕ) → k < length moved
      → (slice_index moved k < 64) × (slice_index old (slice_index moved k) < n)
      × (slice_index fills (slice_index old (slice_index moved k)) ≡ slice_index moved k)
      × (slice_index new (slice_index moved k) ≡ k)
  pub held : (i : ℕ) → i < n → slice_index fills i < 64
      → (slice_index new (slice_index fills i) < length moved)
      × (slice_index moved (slice_index new (slice_index fills i)) ≡ slice_index fills i)
  pub same : (places : List TlbEntry) → entries_of places moved ≡ entries_of places (take n fills)
