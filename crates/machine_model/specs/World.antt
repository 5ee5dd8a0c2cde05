-- The state of the machine: what each core, page, frame and file has.
use Rattle.std.specs.Prelude.{ℕ, Bool, nat_lt, List, [], Option, None}
use Rattle.vm_base.specs.declared.requests.Request.{Request}
use Rattle.vm_base.specs.Plain.{Bytes, File, zeros}
use Rattle.slot_lock.specs.Slots.{Slots}
use Rattle.mmu.specs.declared.entry.Translation.{Translation}
use Rattle.mmu.specs.declared.tlb.TlbEntry.{TlbEntry}
use Rattle.mmu.specs.declared.message.Message.{Message}
use Rattle.refcache.specs.Counts.{Counts, no_counts}
use Rattle.vm_base.specs.declared.log.Entry.{Entry}
use Rattle.machine_model.specs.declared.phase.Phase.{Phase}
use Rattle.machine_model.specs.declared.phase.Phase.TheVariants.{Free}

-- what a machine is made with, and never changes: a file's bytes are those that it has at the start
pub record Made : Type 0 where
  pub cores : ℕ
  pub frames : ℕ
  pub calls : ℕ
  pub file : ℕ → Option File

-- of each core: its tables' entry of each page, its TLB from the oldest filled on, and its inbox
-- from the oldest message on
pub record Hardware : Type 0 where
  pub table : ℕ → ℕ → Option Translation
  pub tlb : ℕ → List TlbEntry
  pub inbox : ℕ → List Message

-- of each frame: its bytes, whether it is free, and its counts; of each file and each page of it:
-- the frame that caches it
pub record Memory : Type 0 where
  pub bytes : ℕ → Bytes
  pub is_free : ℕ → Bool
  pub counts : Counts
  pub cached : ℕ → ℕ → Option ℕ

-- Of each core: where its call stands, and the number of its latest call. And the requests of the
-- calls begun, the log, and how many events were taken.
pub record Calls : Type 0 where
  pub phase : ℕ → Phase
  pub number : ℕ → ℕ
  pub requests : List Request
  pub log : List Entry
  pub events : ℕ

-- all that the machine is made of
pub record World : Type 0 where
  pub made : Made
  pub slots : Slots
  pub hardware : Hardware
  pub memory : Memory
  pub calls : Calls

-- tables, TLBs and inboxes of a machine at its start
abbrev pub no_translations : Hardware
no_translations = record { table = λ c p. None; tlb = λ c. []; inbox = λ c. [] }

-- frames of zeros, all free, and nothing cached
abbrev pub new_memory : Made → Memory
new_memory made = record {
  bytes = λ f. zeros;
  is_free = λ f. nat_lt f made.frames;
  counts = no_counts made.cores made.frames;
  cached = λ n k. None;
}

-- no call was made yet
abbrev pub no_calls : Calls
no_calls = record { phase = λ c. Free; number = λ c. 0; requests = []; log = []; events = 0 }

-- a machine over new slots
abbrev pub new_world : Made → Slots → World
new_world made slots = record {
  made = made;
  slots = slots;
  hardware = no_translations;
  memory = new_memory made;
  calls = no_calls;
}
