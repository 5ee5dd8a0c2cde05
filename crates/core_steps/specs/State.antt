-- Which state of the abstract machine an engine has
use Rattle.std.specs.Prelude.{ℕ, List, length, slice_index, slice_index_or}
use Rattle.slot_lock.specs.Slots.{Slots}
use Rattle.frames.specs.Files.{FileParts, files_of, cached_in}
use Rattle.frames.specs.Parts.{FrameParts, frame_bytes, free_frames}
use Rattle.refcache.specs.Counts.{Counts}
use Rattle.refcache.specs.Parts.{counts_of}
use Rattle.machine_model.specs.declared.phase.Phase.{Phase}
use Rattle.machine_model.specs.declared.phase.Phase.TheVariants.{Free}
use Rattle.machine_model.specs.World.{World, Hardware, Calls}
use Rattle.core_steps.specs.declared.engine.calls.CallTable.{CallTable}
use Rattle.core_steps.specs.declared.engine.Engine.{Engine}
use Rattle.machine_log.specs.declared.ledger.Ledger.{Ghosts as LedgerGhosts}
use Rattle.core_steps.specs.Parts.{parts}

-- ---- the calls

abbrev pub phase_at : List Phase → ℕ → Phase
phase_at phases c = slice_index_or phases c Free

abbrev pub number_at : List ℕ → ℕ → ℕ
number_at numbers c = slice_index numbers c

abbrev pub calls_in : {A L : Type 0} {ledger : LedgerGhosts L} → CallTable A L ledger → Calls
calls_in {ledger = ledger} it = record {
  phase = phase_at it.phases.items;
  number = number_at it.numbers.items;
  requests = ledger.requests it.ledger;
  log = ledger.entries it.ledger;
  events = it.events;
}

-- ---- the whole

-- of slots, hardware, frames, counts and files, for so many cores and calls, and of calls
abbrev pub world_with : Slots → Hardware → FrameParts → Counts → List FileParts → ℕ → ℕ → Calls
    → World
world_with slots hardware frames counts files cores limit calls = record {
  made = record { cores = cores; frames = frames.count; calls = limit; file = files_of files };
  slots = slots;
  hardware = hardware;
  memory = record {
    bytes = frame_bytes frames;
    is_free = free_frames frames;
    counts = counts;
    cached = cached_in files;
  };
  calls = calls;
}

-- of the table of calls
abbrev pub world_of : {A L : Type 0} {ledger : LedgerGhosts L} → Slots → Hardware → FrameParts
    → Counts → List FileParts → CallTable A L ledger → World
world_of slots hardware frames counts files calls =
    world_with slots hardware frames counts files (length calls.phases.items) calls.limit
    (calls_in calls)

-- the state that the engine has, by what its map says of slots
abbrev pub world : {M H A L : Type 0} {map : _} {read : _} {cpu : _} {ledger : _} → (M → Slots)
    → Engine M H A L map read cpu ledger → World
world slots it =
    world_of (slots it.map) (parts it.cores).hardware it.frames (counts_of it.counts) it.objects
    it.calls

-- where the call of a core stands
abbrev pub phase_of : {M H A L : Type 0} {map : _} {read : _} {cpu : _} {ledger : _}
    → Engine M H A L map read cpu ledger → ℕ → Phase
phase_of it = phase_at it.calls.phases.items
