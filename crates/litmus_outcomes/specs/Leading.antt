-- The plain page map to which a log leads
use Rattle.std.specs.Prelude.{◌≡◌, ℕ, List}
use Rattle.vm_base.specs.declared.log.Entry.{Entry}
use Rattle.vm_base.specs.declared.replies.Reply.{Reply}
use Rattle.vm_base.specs.declared.requests.Request.{Request}
use Rattle.vm_base.specs.Log.{EntryLeads, Replays, Stands}
use Rattle.vm_base.specs.Places.{IsPlace}
use Rattle.vm_base.specs.Plain.{Plain, nothing_mapped}
use Rattle.frames.specs.Files.{FileParts, files_of}
use Rattle.litmus_merges.specs.declared.change.MapChange.{MapChange}
use Rattle.litmus_merges.specs.Steps.{AreSound, map_of}

-- whatever map the request leaves with this reply, it is this one
abbrev pub LeavesOne : Plain → ℕ → Request → Reply → Plain → Type 0
LeavesOne t core request reply v = (u : Plain) → Stands IsPlace t core request reply u → u ≡ v

-- the same of an entry of a log
abbrev pub LeadsToOne : List Request → Plain → Entry → Plain → Type 0
LeadsToOne requests t entry v = (u : Plain) → EntryLeads requests t entry u → u ≡ v

-- These steps are those of the log: whatever map it leads to is theirs.
pub record AreOfLog (objects : List FileParts) (requests : List Request) (log : List Entry) (steps : List MapChange) : Type 0
  where
    pub sound : AreSound steps
    pub one : (t : Plain) → Replays requests (nothing_mapped (files_of objects)) log t → t ≡ map_of objects steps
