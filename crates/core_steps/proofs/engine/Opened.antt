-- A new engine has the state of a new machine
use Rattle.machine_model.proofs.Words.{◌≡◌, List, length, None, refl, zeros, Slots, given_files, Counts, no_counts, Hardware, new_world}
use Rattle.std.proofs.Common.{nat_lt}
use Rattle.frames.specs.Files.{FileParts, files_of, cached_in}
use Rattle.frames.specs.Parts.{FrameParts, frame_bytes, free_frames}
use Rattle.machine_model.specs.World.{no_calls, no_translations}
use Rattle.core_steps.specs.declared.engine.calls.CallTable.{CallTable}
use Rattle.machine_log.specs.declared.ledger.Ledger.{Ghosts as LedgerGhosts}
use Rattle.machine_model.specs.declared.setup.Setup.{Setup}
use Rattle.machine_model.specs.Setups.{made_of}
use Rattle.core_steps.specs.State.{world_of, calls_in}

pub opened : {A L : Type 0} {ledger : LedgerGhosts L} (slots : Slots) (hardware : Hardware) (frames : FrameParts) (counts : Counts) (files : List FileParts)
    (calls : CallTable A L ledger) (s : Setup A)
    → hardware ≡ no_translations → frames.count ≡ s.frames → frame_bytes frames ≡ (λ f. zeros) → free_frames frames ≡ (λ f. nat_lt f s.frames)
    → counts ≡ no_counts s.cores s.frames → files_of files ≡ given_files s.files.items → cached_in files ≡ (λ n k. None) → calls_in calls ≡ no_calls
    → length calls.phases.items ≡ s.cores → calls.limit ≡ s.calls
    → world_of slots hardware frames counts files calls ≡ new_world (made_of s) slots
opened slots hardware frames counts files calls s bare count bytes free uncounted file cached started cores limit =
    rw (bare, count, bytes, free, uncounted, file, cached, started, cores, limit) refl
