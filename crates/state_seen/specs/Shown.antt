-- What is shown of a state, and what one who watches its steps knows of it
use Rattle.std.specs.Prelude.{◌≡◌, ◌==◌, ℕ, ◌<◌, Bool, true, false, List, Option, None, Some, cond, nat_lt, length, slice_index_or}
use Rattle.mmu.specs.declared.entry.Translation.{Translation}
use Rattle.vm_base.specs.Functions.{across}
use Rattle.core_steps.specs.Changing.{may_change}
use Rattle.mmu.specs.declared.message.Message.{Message}
use Rattle.machine_model.specs.Events.{core_of}
use Rattle.machine_model.specs.Holding.{some_has}
use Rattle.machine_model.specs.World.{World}
use Rattle.state_seen.specs.declared.list.OfPage.{OfPage}
use Rattle.state_seen.specs.Lists.{at_page}
use Rattle.machine_model.specs.declared.event.Event.{Event}
use Rattle.machine_model.specs.declared.event.Outcome.{Outcome}
use Rattle.machine_model.specs.declared.event.Outcome.TheVariants.{Stepped}
use Rattle.machine_model.specs.declared.phase.Phase.{Phase}
use Rattle.machine_model.specs.declared.phase.Phase.TheVariants.{Free}
use Rattle.state_seen.specs.declared.deed.HardwareStep.{HardwareStep}
use Rattle.state_seen.specs.Deeds.{deed_of}
use Rattle.state_seen.specs.Edits.{after_edit, edit_of, table_at}
use Rattle.state_seen.specs.Held.{Holds, done, held, nothing_held}
use Rattle.state_seen.specs.declared.used.Used.{Used}
use Rattle.state_seen.specs.Used.{used_in}

-- a core's TLB and inbox in a state
abbrev pub holds_of : World → ℕ → Holds
holds_of w c = record { tlb = w.hardware.tlb c; inbox = w.hardware.inbox c }

-- where a core's call stands; a core that isn't there has none
abbrev pub phase_in : World → ℕ → Phase
phase_in w c = cond (nat_lt c w.made.cores) (w.calls.phase c) Free

-- ---- one who watches

-- Whether all was taken in, the epoch, and of each of 64 cores where its call stands, what it holds, and
-- the entries of its tables. And what the pages have that were used
pub record Seen : Type 0 where
  pub whole : Bool
  pub epoch : ℕ
  pub phases : List Phase
  pub cores : List Holds
  pub tables : List (List (OfPage Translation))
  pub pages : List (OfPage Used)

abbrev pub phase_at : Seen → ℕ → Phase
phase_at r c = slice_index_or r.phases c Free

abbrev pub inboxes : List Holds → ℕ → List Message
inboxes cores c = (held cores c).inbox

-- one who hasn't seen a step
pub record IsNothing (r : Seen) : Type 0 where
  pub whole : r.whole ≡ true
  pub holds : (c : ℕ) → held r.cores c ≡ nothing_held
  pub tables : (c p : ℕ) → table_at r.tables c p ≡ None
  pub pages : (p : ℕ) → at_page r.pages p ≡ None
  pub phases : (c : ℕ) → phase_at r c ≡ Free
  pub epoch : r.epoch ≡ 0
  pub full : length r.phases ≡ 64

-- that is what the state has
pub record IsShown (r : Seen) (w : World) : Type 0 where
  pub holds : (c : ℕ) → c < 64 → held r.cores c ≡ holds_of w c
  pub tables : (c p : ℕ) → c < 64 → table_at r.tables c p ≡ w.hardware.table c p
  pub pages : (p : ℕ) → at_page r.pages p ≡ used_in w p
  pub phases : (c : ℕ) → c < 64 → phase_at r c ≡ phase_in w c
  pub epoch : r.epoch ≡ w.memory.counts.epoch

-- ---- a step

-- only a plain step does something
abbrev pub after_step : Outcome → HardwareStep → (ℕ → Holds) → ℕ → Holds
after_step Stepped deed h = done deed h
after_step _ deed h = h

-- the event is of the core
abbrev pub is_core : Option ℕ → ℕ → Bool
is_core None c = false
is_core (Some d) c = c == d

abbrev pub is_of : Event → ℕ → Bool
is_of e c = is_core (core_of e) c

-- what one who watches is after the step, where all was taken in
pub record Follows (one : Seen) (w : World) (e : Event) (o : Outcome) (v : World) (other : Seen) : Type 0 where
  pub whole : other.whole ≡ true → one.whole ≡ true
  pub holds : other.whole ≡ true → (c : ℕ) → c < 64
      → held other.cores c ≡ after_step o (deed_of w e) (held one.cores) c
  pub tables : other.whole ≡ true → (c p : ℕ) → c < 64 → table_at other.tables c p
      ≡ after_edit o (edit_of w e) (inboxes one.cores) v.hardware.table (table_at one.tables) c p
  pub pages : other.whole ≡ true → (p : ℕ)
      → at_page other.pages p ≡ across (at_page one.pages) (some_has (may_change w e)) (used_in v) p
  pub phases : (c : ℕ) → c < 64 → phase_at other c ≡ cond (is_of e c) (phase_in v c) (phase_at one c)
  pub epoch : other.epoch ≡ v.memory.counts.epoch
