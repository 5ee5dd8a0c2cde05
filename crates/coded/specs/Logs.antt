-- The log of a machine that keeps it, as C reads it
use Rattle.std.specs.Prelude.{◌≡◌, ℕ, true, false, List, ◌++◌, length, map, take, drop}
use Rattle.std.specs.Prelude.{Option, None, Some, Result, Ok, Err}
use Rattle.vm_base.specs.declared.requests.Request.{Request}
use Rattle.vm_base.specs.declared.log.Entry.{Entry}
use Rattle.vm_base.specs.declared.log.Entry.TheVariants.{Answer, Detach}
use Rattle.vm_base.specs.Log.{nth}
use Rattle.coded.specs.declared.codes.RawEvent.{RawEvent}
use Rattle.coded.specs.declared.opening.Refusal.{Refusal}
use Rattle.coded.specs.declared.opening.Refusal.TheVariants as By
use Rattle.coded.specs.declared.batch.BatchEnd.{BatchEnd}
use Rattle.coded.specs.declared.batch.Done.{Done}
use Rattle.coded.specs.declared.logs.RawEntry.{RawEntry}
use Rattle.coded.specs.Codes.{nothing, call_code, coded, reply_code}
use Rattle.coded.specs.Batches.{is_past, done_of}
use Rattle.coded.specs.Holding.{HeldState, empty_done}

-- ---- entries

-- the call of a request, as C writes it
abbrev pub asked_code : ℕ → Option Request → RawEvent
asked_code core None = nothing
asked_code core (Some request) = call_code core request

-- an answer is told with its request, which the call's number says, and a copy with its page
abbrev pub entry_code : List Request → Entry → RawEntry
entry_code requests (Answer step call core reply) = record {
  kind = 1;
  core = core;
  step = step;
  call = call;
  page = 0;
  asked = asked_code core (nth requests call);
  reply = reply_code reply;
}
entry_code requests (Detach step call page) = record {
  kind = 2;
  core = 0;
  step = step;
  call = call;
  page = page;
  asked = nothing;
  reply = coded 0 0;
}

-- as many entries as there is room for are told, and the other places are as they were
abbrev pub told_entries : List Request → List Entry → List RawEntry → List RawEntry
told_entries requests log was =
    map (entry_code requests) (take (length was) log) ++ drop (length log) was

-- ---- the log

-- the log is told as far as there is room, and how many entries it has; or the buffer is said to be
-- too long, or no log is kept, and nothing is told
abbrev pub ShowsLog : HeldState → List RawEntry → Result BatchEnd Refusal → List RawEntry → Type 0
ShowsLog h was (Ok ended) told = (is_past (length was) ≡ false) × (h.keeps ≡ true)
    × (ended ≡ record { stop = None; count = length h.world.calls.log })
    × (told ≡ told_entries h.world.calls.requests h.world.calls.log was)
ShowsLog h was (Err By.TooLong) told = (is_past (length was) ≡ true) × (told ≡ was)
ShowsLog h was (Err By.NoLog) told =
    (is_past (length was) ≡ false) × (h.keeps ≡ false) × (told ≡ was)
ShowsLog h was (Err _) told = ⊥

-- what C reads of the log
abbrev pub TellsLog : Option HeldState → List RawEntry → Done → List RawEntry → Type 0
TellsLog None was done told = (done ≡ empty_done) × (told ≡ was)
TellsLog (Some h) was done told =
    (r : Result BatchEnd Refusal) × (done ≡ done_of r) × ShowsLog h was r told
