-- The same, nearer to a processor. Real tables and TLBs are apart, and a handler brings them up to date: a word may be there long after the
-- library dropped it, and what a call of its own core dropped is flushed only after the call's step. Stores wait in buffers: on x86 memory
-- sees a core's oldest first, but for string operations and non-temporal stores; here it sees them in any order.
use Rattle.std.specs.Prelude.{◌≡◌, ◌≢◌, ℕ, ◌≤◌, ◌&&◌, ◌||◌, ◌==◌, Bool, true, false, List, [], ◌∷◌, ◌++◌, slice_get, Option, None, Some}
use Rattle.vm_base.specs.declared.page.PageRange.{PageRange}
use Rattle.vm_base.specs.declared.replies.Reply.{Reply}
use Rattle.vm_base.specs.declared.replies.Reply.TheVariants.{Done}
use Rattle.vm_base.specs.declared.rights.Access.TheVariants.{Store}
use Rattle.vm_base.specs.Apply.{byte_reply}
use Rattle.vm_base.specs.Functions.{has, put}
use Rattle.vm_base.specs.Plain.{Bytes, Plain, nothing_mapped}
use Rattle.mmu.specs.declared.entry.Translation.{Translation}
use Rattle.mmu.specs.declared.tlb.TlbEntry.{TlbEntry}
use Rattle.mmu.specs.Entry.{permits}
use Rattle.mmu.specs.Messages.{asked}
use Rattle.slot_lock.specs.declared.plan.Touch.{Touch}
use Rattle.slot_lock.specs.Slots.{Slots, IsNew}
use Rattle.vm_calls.specs.Plainly.{EntryAnswers}
use Rattle.machine_model.specs.declared.event.Event.{Event}
use Rattle.machine_model.specs.declared.event.Event.TheVariants.{Go, Frame, Take}
use Rattle.machine_model.specs.declared.event.Outcome.{Outcome}
use Rattle.machine_model.specs.Accesses.{bytes_after}
use Rattle.machine_model.specs.Holding.{some_has}
use Rattle.machine_model.specs.Step.{Step}
use Rattle.machine_model.specs.World.{World, Made, new_world}
use Rattle.real_mmu.specs.Fills.{Filled}
use Rattle.real_mmu.specs.Remembered.{own_range, taken_range}
use Rattle.real_mmu.specs.Steps.{EntriesLead, ShowsWith}
use Rattle.real_mmu.specs.Waiting.{Waiting, store_of, bytes_ahead, map_ahead, seen_by, HasSeen}

-- ---- what is there

-- what each core's real tables have; its TLB, of any size; what its own calls dropped and it hasn't flushed since; its waiting stores
pub record Driven : Type 0 where
  pub inside : World
  pub bytes : ℕ → Bytes
  pub words : ℕ → ℕ → Option Translation
  pub tlb : ℕ → List TlbEntry
  pub owed : ℕ → List PageRange
  pub waiting : ℕ → List Waiting

-- some range has the page
abbrev pub is_owed : List PageRange → ℕ → Bool
is_owed [] p = false
is_owed (r ∷ rs) p = has r p || is_owed rs p

abbrev pub with_range : Option PageRange → List PageRange → List PageRange
with_range None rs = rs
with_range (Some r) rs = r ∷ rs

-- what is owed after the event: at its own post a core owes the range
abbrev pub owed_after : World → Event → (ℕ → List PageRange) → ℕ → List PageRange
owed_after w (Go d) owed = put owed d (with_range (own_range (w.calls.phase d)) (owed d))
owed_after w (Frame d f) owed = put owed d (with_range (own_range (w.calls.phase d)) (owed d))
owed_after w _ owed = owed

-- the event is core c's second take of a message about the page: its acknowledgement
abbrev pub acknowledges : World → Event → ℕ → ℕ → Bool
acknowledges w (Take d) c p = (c == d) && some_has (taken_range (asked (w.hardware.inbox d))) p
acknowledges w _ c p = false

-- core c has no real word of the page, and nothing of it in its TLB
abbrev pub IsFlushed : Driven → ℕ → ℕ → Type 0
IsFlushed w c p = (w.words c p ≡ None) × ((i : ℕ) (x : TlbEntry) → slice_get (w.tlb c) i ≡ Some x → x.page ≢ p)

-- an access of core c's program, of the page, goes by this translation: its TLB has it, and the core owes no flush of the page
abbrev pub GoesBy : Driven → ℕ → ℕ → Translation → Type 0
GoesBy w c p x = ((i : ℕ) × (slice_get (w.tlb c) i ≡ Some (record { page = p; translation = x }))) × (is_owed (w.owed c) p ≡ false)

-- ---- what happens

-- the library's event; the handler installs a word, clears one, and is done with what it owes; the processor walks its tables, and loses
-- what it flushes or evicts; the program reads, and stores; memory sees a store
pub data Act : Type 0 where
  library : Event → Outcome → Act
  installs : (c p : ℕ) → Act
  clears : (c p : ℕ) → Act
  settles : (c : ℕ) → Act
  walks : (c p : ℕ) → Act
  loses : (c : ℕ) → List TlbEntry → Act
  reads : (c : ℕ) → Touch → Reply → Act
  stores : (c : ℕ) → Waiting → Act
  drains : (c : ℕ) → Waiting → Act

abbrev pub Does : Driven → Act → Driven → Type 0
Does w (library e o) v =
    Step w.inside e o v.inside × Filled w.inside v.inside w.bytes v.bytes
    × ((c p : ℕ) → acknowledges w.inside e c p ≡ true → IsFlushed w c p)
    × ((c : ℕ) → HasSeen w.inside e c (w.waiting c))
    × (v ≡ record w { inside = v.inside; bytes = v.bytes; owed = owed_after w.inside e w.owed })
Does w (installs c p) v =
    (x : Translation) × (w.inside.hardware.table c p ≡ Some x) × (v ≡ record w { words = put w.words c (put (w.words c) p (Some x)) })
Does w (clears c p) v = v ≡ record w { words = put w.words c (put (w.words c) p None) }
Does w (settles c) v = ((p : ℕ) → is_owed (w.owed c) p ≡ true → IsFlushed w c p) × (v ≡ record w { owed = put w.owed c [] })
Does w (walks c p) v =
    (x : Translation) × (w.words c p ≡ Some x) × (v ≡ record w { tlb = put w.tlb c (w.tlb c ++ record { page = p; translation = x } ∷ []) })
Does w (loses c left) v =
    ((i : ℕ) (x : TlbEntry) → slice_get left i ≡ Some x → (j : ℕ) × (slice_get (w.tlb c) j ≡ Some x))
    × (v ≡ record w { tlb = put w.tlb c left })
Does w (reads c touch reply) v =
    (x : Translation) × GoesBy w c touch.page x × (permits x touch.access ≡ true) × (touch.access ≢ Store)
    × (reply ≡ byte_reply touch.access (bytes_ahead w.bytes (seen_by touch.access (w.waiting c)) x.frame touch.offset)) × (v ≡ w)
Does w (stores c s) v =
    GoesBy w c s.page s.by × (permits s.by Store ≡ true) × (v ≡ record w { waiting = put w.waiting c (w.waiting c ++ s ∷ []) })
Does w (drains c s) v =
    (older younger : List Waiting) × (w.waiting c ≡ older ++ s ∷ younger)
    × (v ≡ record w {
      bytes = bytes_after Store s.by.frame s.offset s.byte w.bytes;
      waiting = put w.waiting c (older ++ younger);
    })

pub record Stage : Type 0 where
  pub what : Act
  pub after : Driven

abbrev pub Drives : Driven → List Stage → Type 0
Drives w [] = Unit {0}
Drives w (m ∷ ms) = Does w m.what m.after × Drives m.after ms

-- ---- what the plain page map says of it

-- A load has its reply of the map with the stores of its core that wait, a fetch of the map, and both change nothing. What memory sees is
-- a store that the map answers, and leaves the map after it. What handler and processor do to tables, TLBs and buffers changes nothing.
abbrev pub Tells : Driven → Act → Driven → Plain → Plain → Type 0
Tells w (library e o) v t u = EntriesLead w.inside v.inside t u
Tells w (reads c touch reply) v t u =
    let seen = map_ahead t (seen_by touch.access (w.waiting c)) in EntryAnswers seen touch reply seen × (u ≡ t)
Tells w (drains c s) v t u = EntryAnswers t (store_of s) Done u
Tells w _ v t u = u ≡ t

abbrev pub Shown : Driven → Plain → List Stage → Type 0
Shown w t [] = ShowsWith w.inside w.bytes t
Shown w t (m ∷ ms) = ShowsWith w.inside w.bytes t × ((u : Plain) × Tells w m.what m.after t u × Shown m.after u ms)

-- tables and TLBs are empty at first
abbrev pub opening : Made → Slots → (ℕ → Bytes) → Driven
opening made slots bytes = record {
  inside = new_world made slots;
  bytes = bytes;
  words = λ c p. None;
  tlb = λ c. [];
  owed = λ c. [];
  waiting = λ c. [];
}

-- Whatever the schedule, and however long words lag and stores wait: what cores do over the library is what they do over a plain page map
-- with the same buffers.
abbrev pub AllDrivenRunsArePlain : Type 0
AllDrivenRunsArePlain =
    (made : Made) (slots : Slots) (bytes : ℕ → Bytes) (run : List Stage) → made.cores ≤ 64 → IsNew slots
    → Drives (opening made slots bytes) run → Shown (opening made slots bytes) (nothing_mapped made.file) run
