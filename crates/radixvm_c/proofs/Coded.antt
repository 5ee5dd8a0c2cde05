-- What is written for an event is read as it was meant, and what is told tells outcomes apart
use Rattle.machine_model.proofs.Words.{◌≡◌, ℕ, List, ◌+◌, ◌<◌, Bool, true, false, cond, refl, sym, ap, ◌∙◌, ◌==◌, arith, nat_lt, if◌then◌else◌, nat_tests}
use Rattle.machine_model.proofs.Words.{Prot, Flags, Request, Entry, Errno, EINVAL, ENOMEM, EACCES, EBADF, EOVERFLOW, MapErr, Reply}
use Rattle.machine_model.specs.declared.event.Event.{Event}
use Rattle.machine_model.specs.declared.event.Outcome.TheVariants.{Stepped, Wait, Idle, Answered, Full}
use Rattle.std.specs.Prelude.{Option, None, Some, Result, Ok, Err}
use Rattle.vm_base.specs.declared.requests.Request.TheVariants as Asks
use Rattle.vm_base.specs.declared.log.Entry.TheVariants as In
use Rattle.vm_base.specs.declared.replies.SegvCode.TheVariants.{AccErr}
use Rattle.vm_base.specs.declared.replies.Reply.TheVariants as By
use Rattle.machine_model.specs.declared.event.Event.TheVariants as Ev
use Rattle.machine_model.specs.declared.event.Blocker.TheVariants as On
use Rattle.machine_model.specs.Events.{core_of as core_that_takes}
use Rattle.core_steps.specs.declared.machine.Finished.{Finished}
use Rattle.core_steps.specs.declared.machine.Finished.TheVariants.{Last, Stuck}
use Rattle.machine_model.specs.declared.setup.SetupFault.TheVariants as Fault
use Rattle.coded.specs.declared.codes.RawOutcome.{RawOutcome}
use Rattle.coded.specs.declared.codes.BatchItem.{BatchItem}
use Rattle.coded.specs.declared.codes.BatchItem.TheVariants as To
use Rattle.coded.specs.declared.logs.RawEntry.{RawEntry}
use Rattle.coded.specs.declared.batch.BatchEnd.{BatchEnd}
use Rattle.coded.specs.declared.batch.Done.{Done}
use Rattle.coded.specs.declared.batch.BatchStop.{BatchStop}
use Rattle.coded.specs.declared.batch.BatchStop.TheVariants.{BadEvent, NoMemory}
use Rattle.coded.specs.declared.opening.Refusal.{Refusal}
use Rattle.coded.specs.declared.opening.Refusal.TheVariants as No
use Rattle.coded.specs.Bits.{prot_of, flags_of, bits_of_prot, bits_of_flags}
use Rattle.coded.specs.Codes.{core_of, event_of, item_of, finished_code}
use Rattle.coded.specs.Batches.{done_of}
use Rattle.coded.specs.Logs.{entry_code}
use Rattle.radixvm_c.specs.Laws.{event_code, item_code, IsCore, HasByte, IsSound}

-- ---- rights and flags

rights : (r w x : Bool) → prot_of (cond r 1 0 + cond w 2 0 + cond x 4 0) ≡ Some (record { read = r; write = w; exec = x })
rights true true true = refl
rights true true false = refl
rights true false true = refl
rights true false false = refl
rights false true true = refl
rights false true false = refl
rights false false true = refl
rights false false false = refl

prot_read : (p : Prot) → prot_of (bits_of_prot p) ≡ Some p
prot_read p = rights p.read p.write p.exec

signs : (s p f a : Bool) → flags_of (cond s 1 0 + cond p 2 0 + cond f 16 0 + cond a 32 0) ≡ Some (record { private = p; shared = s; fixed = f; anon = a })
signs true true true true = refl
signs true true true false = refl
signs true true false true = refl
signs true true false false = refl
signs true false true true = refl
signs true false true false = refl
signs true false false true = refl
signs true false false false = refl
signs false true true true = refl
signs false true true false = refl
signs false true false true = refl
signs false true false false = refl
signs false false true true = refl
signs false false true false = refl
signs false false false true = refl
signs false false false false = refl

flags_read : (f : Flags) → flags_of (bits_of_flags f) ≡ Some f
flags_read f = signs f.shared f.private f.fixed f.anon

-- ---- events

core_read : (core : ℕ) → core < 64 → core_of core ≡ Some core
core_read core h = let low : nat_lt core 64 ≡ true = grind (arith, nat_tests, h) in rw low refl

byte_low : (byte : ℕ) → byte < 256 → nat_lt byte 256 ≡ true
byte_low byte h = grind (arith, nat_tests, h)

pub event_read : (e : Event) → IsCore (core_that_takes e) → HasByte e → event_of (event_code e) ≡ Some e
event_read (Ev.Call core (Asks.Mmap addr len prot flags file off)) h b = rw (core_read core h, prot_read prot, flags_read flags) refl
event_read (Ev.Call core (Asks.Munmap addr len)) h b = rw (core_read core h) refl
event_read (Ev.Call core (Asks.Mprotect addr len prot)) h b = rw (core_read core h, prot_read prot) refl
event_read (Ev.Call core (Asks.Load addr)) h b = rw (core_read core h) refl
event_read (Ev.Call core (Asks.Store addr byte)) h b = rw (core_read core h, byte_low byte b) refl
event_read (Ev.Call core (Asks.Fetch addr)) h b = rw (core_read core h) refl
event_read (Ev.Go core) h b = rw (core_read core h) refl
event_read (Ev.Frame core frame) h b = rw (core_read core h) refl
event_read (Ev.Guess core page) h b = rw (core_read core h) refl
event_read (Ev.Whole core) h b = rw (core_read core h) refl
event_read (Ev.Take core) h b = rw (core_read core h) refl
event_read (Ev.Walk core page) h b = rw (core_read core h) refl
event_read (Ev.Evict core page) h b = rw (core_read core h) refl
event_read (Ev.Flush core) h b = rw (core_read core h) refl
event_read (Ev.Review core) h b = rw (core_read core h) refl
event_read (Ev.Fold page) h b = refl
event_read (Ev.GiveUp core) h b = rw (core_read core h) refl

pub item_read : (i : BatchItem) → IsSound i → item_of (item_code i) ≡ Some i
item_read (To.Call core (Asks.Mmap addr len prot flags file off)) h = rw (core_read core h.0, prot_read prot, flags_read flags) refl
item_read (To.Call core (Asks.Munmap addr len)) h = rw (core_read core h.0) refl
item_read (To.Call core (Asks.Mprotect addr len prot)) h = rw (core_read core h.0, prot_read prot) refl
item_read (To.Call core (Asks.Load addr)) h = rw (core_read core h.0) refl
item_read (To.Call core (Asks.Store addr byte)) h = rw (core_read core h.0, byte_low byte h.1) refl
item_read (To.Call core (Asks.Fetch addr)) h = rw (core_read core h.0) refl
item_read (To.Finish core) h = rw (core_read core h) refl
item_read (To.Step (Ev.Call core (Asks.Mmap addr len prot flags file off))) h = rw (core_read core h.0, prot_read prot, flags_read flags) refl
item_read (To.Step (Ev.Call core (Asks.Munmap addr len))) h = rw (core_read core h.0) refl
item_read (To.Step (Ev.Call core (Asks.Mprotect addr len prot))) h = rw (core_read core h.0, prot_read prot) refl
item_read (To.Step (Ev.Call core (Asks.Load addr))) h = rw (core_read core h.0) refl
item_read (To.Step (Ev.Call core (Asks.Store addr byte))) h = rw (core_read core h.0, byte_low byte h.1) refl
item_read (To.Step (Ev.Call core (Asks.Fetch addr))) h = rw (core_read core h.0) refl
item_read (To.Step (Ev.Go core)) h = rw (core_read core h.0) refl
item_read (To.Step (Ev.Frame core frame)) h = rw (core_read core h.0) refl
item_read (To.Step (Ev.Guess core page)) h = rw (core_read core h.0) refl
item_read (To.Step (Ev.Whole core)) h = rw (core_read core h.0) refl
item_read (To.Step (Ev.Take core)) h = rw (core_read core h.0) refl
item_read (To.Step (Ev.Walk core page)) h = rw (core_read core h.0) refl
item_read (To.Step (Ev.Evict core page)) h = rw (core_read core h.0) refl
item_read (To.Step (Ev.Flush core)) h = rw (core_read core h.0) refl
item_read (To.Step (Ev.Review core)) h = rw (core_read core h.0) refl
item_read (To.Step (Ev.Fold page)) h = refl
item_read (To.Step (Ev.GiveUp core)) h = rw (core_read core h.0) refl

-- ---- outcomes: a reader of codes tells them apart

abbrev errno_in : ℕ → Errno
errno_in value = if value == 9 then EBADF else if value == 12 then ENOMEM else if value == 13 then EACCES else if value == 22 then EINVAL else EOVERFLOW

abbrev outcome_in : RawOutcome → Finished
outcome_in r =
    if r.kind == 1 then Last Stepped
    else if r.kind == 2 then Last (Wait (On.Slot r.value))
    else if r.kind == 3 then Last (Wait (On.Acks r.value))
    else if r.kind == 4 then Last Idle
    else if r.kind == 5 then Last Full
    else if r.kind == 6 then Last (Answered (By.Mapped r.value))
    else if r.kind == 7 then Last (Answered By.Done)
    else if r.kind == 8 then Last (Answered (By.Byte r.value))
    else if r.kind == 9 then Last (Answered (By.Refused (errno_in r.value)))
    else if r.kind == 10 then Last (Answered (By.Segv MapErr))
    else if r.kind == 11 then Last (Answered (By.Segv AccErr))
    else if r.kind == 12 then Last (Answered By.Bus)
    else if r.kind == 13 then Last (Answered By.NoFrame)
    else if r.kind == 14 then Last (Answered By.NoMemory)
    else Stuck

outcome_read : (f : Finished) → outcome_in (finished_code f) ≡ f
outcome_read (Last Stepped) = refl
outcome_read (Last (Wait (On.Slot core))) = refl
outcome_read (Last (Wait (On.Acks cores))) = refl
outcome_read (Last Idle) = refl
outcome_read (Last Full) = refl
outcome_read (Last (Answered (By.Mapped at))) = refl
outcome_read (Last (Answered By.Done)) = refl
outcome_read (Last (Answered (By.Byte byte))) = refl
outcome_read (Last (Answered (By.Refused EBADF))) = refl
outcome_read (Last (Answered (By.Refused ENOMEM))) = refl
outcome_read (Last (Answered (By.Refused EACCES))) = refl
outcome_read (Last (Answered (By.Refused EINVAL))) = refl
outcome_read (Last (Answered (By.Refused EOVERFLOW))) = refl
outcome_read (Last (Answered (By.Segv MapErr))) = refl
outcome_read (Last (Answered (By.Segv AccErr))) = refl
outcome_read (Last (Answered By.Bus)) = refl
outcome_read (Last (Answered By.NoFrame)) = refl
outcome_read (Last (Answered By.NoMemory)) = refl
outcome_read Stuck = refl

pub outcomes_apart : (f g : Finished) → finished_code f ≡ finished_code g → f ≡ g
outcomes_apart f g e = sym (outcome_read f) ∙ ap outcome_in e ∙ outcome_read g

-- ---- entries

abbrev reply_of : Finished → Reply
reply_of (Last (Answered reply)) = reply
reply_of _ = By.NoFrame

abbrev entry_in : RawEntry → Entry
entry_in r = if r.kind == 1 then In.Answer r.step r.call r.core (reply_of (outcome_in r.reply)) else In.Detach r.step r.call r.page

entry_read : (requests : List Request) (e : Entry) → entry_in (entry_code requests e) ≡ e
entry_read requests (In.Answer step call core reply) = ap (λ f. In.Answer step call core (reply_of f)) (outcome_read (Last (Answered reply)))
entry_read requests (In.Detach step call page) = refl

pub entries_apart : (requests : List Request) (d e : Entry) → entry_code requests d ≡ entry_code requests e → d ≡ e
entries_apart requests d e same = sym (entry_read requests d) ∙ ap entry_in same ∙ entry_read requests e

-- ---- ends

abbrev end_in : Done → Result BatchEnd Refusal
end_in d =
    if d.status == 0 then Ok (record { stop = None; count = d.count })
    else if d.status == 1 then Ok (record { stop = Some BadEvent; count = d.count })
    else if d.status == 2 then Ok (record { stop = Some NoMemory; count = d.count })
    else if d.status == 3 then Err No.NoRoom
    else if d.status == 4 then Err No.TooLong
    else if d.status == 5 then Err (No.BadFile d.count)
    else if d.status == 7 then Err No.Empty
    else if d.status == 8 then Err No.InUse
    else if d.status == 10 then Err No.NoLog
    else if d.status == 11 then Err (No.Setup Fault.Cores)
    else if d.status == 12 then Err (No.Setup Fault.Frames)
    else if d.status == 13 then Err (No.Setup Fault.TooManyFiles)
    else if d.status == 14 then Err (No.Setup Fault.FileTooLong)
    else if d.status == 15 then Err (No.Setup Fault.Calls)
    else Err (No.Setup Fault.NoMemory)

ended_read : (stop : Option BatchStop) (count : ℕ) → end_in (done_of (Ok (record { stop = stop; count = count }))) ≡ Ok (record { stop = stop; count = count })
ended_read None count = refl
ended_read (Some BadEvent) count = refl
ended_read (Some NoMemory) count = refl

end_read : (r : Result BatchEnd Refusal) → end_in (done_of r) ≡ r
end_read (Ok ended) = ended_read ended.stop ended.count
end_read (Err No.NoRoom) = refl
end_read (Err No.TooLong) = refl
end_read (Err (No.BadFile at)) = refl
end_read (Err No.Empty) = refl
end_read (Err No.InUse) = refl
end_read (Err No.NoLog) = refl
end_read (Err (No.Setup Fault.Cores)) = refl
end_read (Err (No.Setup Fault.Frames)) = refl
end_read (Err (No.Setup Fault.TooManyFiles)) = refl
end_read (Err (No.Setup Fault.FileTooLong)) = refl
end_read (Err (No.Setup Fault.Calls)) = refl
end_read (Err (No.Setup Fault.NoMemory)) = refl

pub ends_apart : (r s : Result BatchEnd Refusal) → done_of r ≡ done_of s → r ≡ s
ends_apart r s e = sym (end_read r) ∙ ap end_in e ∙ end_read s
