-- The numbers of notes: how many there are of each kind
use Rattle.std.specs.Prelude.{ℕ, ◌+◌, ◌-◌, ◌^◌, Bool, true, false, cond, min, List, length}
use Rattle.std.specs.List.{filter}
use Rattle.vm_base.specs.declared.replies.Reply.{Reply}
use Rattle.vm_base.specs.declared.replies.Reply.TheVariants as By
use Rattle.vm_base.specs.declared.replies.SegvCode.TheVariants.{MapErr, AccErr}
use Rattle.vm_base.specs.declared.requests.Request.{Request}
use Rattle.vm_base.specs.declared.requests.Request.TheVariants as For
use Rattle.machine_model.specs.declared.event.Event.{Event}
use Rattle.machine_model.specs.declared.event.Event.TheVariants.{Call, Take}
use Rattle.machine_model.specs.declared.event.Outcome.{Outcome}
use Rattle.machine_model.specs.declared.event.Outcome.TheVariants.{Answered}
use Rattle.watched.specs.declared.summary.Replies.{Replies}
use Rattle.seats.specs.declared.noted.Noted.{Noted}
use Rattle.live_script.specs.declared.sums.Requests.{Requests}
use Rattle.live_script.specs.declared.sums.Segvs.{Segvs}
use Rattle.live_script.specs.declared.sums.Sums.{Sums}

-- ---- kinds of steps

abbrev pub is_mmap : Request → Bool
is_mmap (For.Mmap addr len prot flags file off) = true
is_mmap request = false

abbrev pub is_munmap : Request → Bool
is_munmap (For.Munmap addr len) = true
is_munmap request = false

abbrev pub is_mprotect : Request → Bool
is_mprotect (For.Mprotect addr len prot) = true
is_mprotect request = false

abbrev pub is_load : Request → Bool
is_load (For.Load addr) = true
is_load request = false

abbrev pub is_store : Request → Bool
is_store (For.Store addr byte) = true
is_store request = false

abbrev pub is_fetch : Request → Bool
is_fetch (For.Fetch addr) = true
is_fetch request = false

abbrev pub is_mapped : Reply → Bool
is_mapped (By.Mapped addr) = true
is_mapped reply = false

abbrev pub is_done : Reply → Bool
is_done By.Done = true
is_done reply = false

abbrev pub is_byte : Reply → Bool
is_byte (By.Byte byte) = true
is_byte reply = false

abbrev pub is_refused : Reply → Bool
is_refused (By.Refused errno) = true
is_refused reply = false

abbrev pub is_segv : Reply → Bool
is_segv (By.Segv code) = true
is_segv reply = false

abbrev pub is_maperr : Reply → Bool
is_maperr (By.Segv MapErr) = true
is_maperr reply = false

abbrev pub is_accerr : Reply → Bool
is_accerr (By.Segv AccErr) = true
is_accerr reply = false

abbrev pub is_bus : Reply → Bool
is_bus By.Bus = true
is_bus reply = false

abbrev pub is_no_frame : Reply → Bool
is_no_frame By.NoFrame = true
is_no_frame reply = false

abbrev pub is_no_memory : Reply → Bool
is_no_memory By.NoMemory = true
is_no_memory reply = false

-- a call begins, whose request is so
abbrev pub asks : (Request → Bool) → Event → Bool
asks is (Call core request) = is request
asks is event = false

-- a call is answered, by a reply that is so
abbrev pub answers : (Reply → Bool) → Outcome → Bool
answers is (Answered reply) = is reply
answers is outcome = false

-- a message is acted on
abbrev pub is_take : Event → Bool
is_take (Take core) = true
is_take event = false

-- ---- the numbers

-- a number, up to 2^64 - 1
abbrev pub limited : ℕ → ℕ
limited n = min n (2 ^ 64 - 1)

-- how many of the notes are so
abbrev pub count : (Noted → Bool) → List Noted → ℕ
count is notes = limited (length (filter is notes))

-- the calls that began with a request that is so, and those that were answered by such a reply
abbrev pub asked : (Request → Bool) → List Noted → ℕ
asked is notes = count (λ n. asks is n.event) notes

abbrev pub answered : (Reply → Bool) → List Noted → ℕ
answered is notes = count (λ n. answers is n.outcome) notes

abbrev pub requests_in : List Noted → Requests
requests_in notes = record {
  mmap = asked is_mmap notes;
  munmap = asked is_munmap notes;
  mprotect = asked is_mprotect notes;
  load = asked is_load notes;
  store = asked is_store notes;
  fetch = asked is_fetch notes;
}

abbrev pub replies_in : List Noted → Replies
replies_in notes = record {
  mapped = answered is_mapped notes;
  done = answered is_done notes;
  byte = answered is_byte notes;
  refused = answered is_refused notes;
  segv = answered is_segv notes;
  bus = answered is_bus notes;
  no_frame = answered is_no_frame notes;
  no_memory = answered is_no_memory notes;
}

abbrev pub segvs_in : List Noted → Segvs
segvs_in notes = record { maperr = answered is_maperr notes; accerr = answered is_accerr notes }

abbrev pub sums_of : List Noted → Sums
sums_of notes = record {
  requests = requests_in notes;
  replies = replies_in notes;
  segvs = segvs_in notes;
  takes = count (λ n. is_take n.event) notes;
  notes = limited (length notes);
}

-- ---- one note more

-- one more, where that is so
abbrev pub one_if : Bool → ℕ → ℕ
one_if is n = cond is (limited (n + 1)) n

abbrev pub with_request : Requests → Request → Requests
with_request r q = record {
  mmap = one_if (is_mmap q) r.mmap;
  munmap = one_if (is_munmap q) r.munmap;
  mprotect = one_if (is_mprotect q) r.mprotect;
  load = one_if (is_load q) r.load;
  store = one_if (is_store q) r.store;
  fetch = one_if (is_fetch q) r.fetch;
}

abbrev pub with_reply : Replies → Reply → Replies
with_reply r reply = record {
  mapped = one_if (is_mapped reply) r.mapped;
  done = one_if (is_done reply) r.done;
  byte = one_if (is_byte reply) r.byte;
  refused = one_if (is_refused reply) r.refused;
  segv = one_if (is_segv reply) r.segv;
  bus = one_if (is_bus reply) r.bus;
  no_frame = one_if (is_no_frame reply) r.no_frame;
  no_memory = one_if (is_no_memory reply) r.no_memory;
}

abbrev pub with_segv : Segvs → Reply → Segvs
with_segv s reply = record {
  maperr = one_if (is_maperr reply) s.maperr;
  accerr = one_if (is_accerr reply) s.accerr;
}

abbrev pub requests_after : Requests → Event → Requests
requests_after r (Call core request) = with_request r request
requests_after r event = r

abbrev pub replies_after : Replies → Outcome → Replies
replies_after r (Answered reply) = with_reply r reply
replies_after r outcome = r

abbrev pub segvs_after : Segvs → Outcome → Segvs
segvs_after s (Answered reply) = with_segv s reply
segvs_after s outcome = s
