-- What a packed entry of the log says
use Rattle.std.specs.Prelude.{◌≡◌, ℕ, ◌+◌, ◌*◌, ◌^◌, ◌<◌, Bool, true, false, List, [], ◌∷◌, map, get_or, All}
use Rattle.vm_base.specs.declared.log.Entry.{Entry}
use Rattle.vm_base.specs.declared.log.Entry.TheVariants.{Answer, Detach}
use Rattle.vm_base.specs.declared.replies.Reply.{Reply}
use Rattle.vm_base.specs.declared.replies.Errno.TheVariants.{EINVAL, ENOMEM, EACCES, EBADF, EOVERFLOW}
use Rattle.vm_base.specs.declared.replies.SegvCode.TheVariants as Segv
use Rattle.machine_log.specs.declared.ledger.packing.EntryKind.{EntryKind}
use Rattle.machine_log.specs.declared.ledger.packing.PackedEntry.{PackedEntry}
use Rattle.machine_log.specs.declared.ledger.logged_entries.LoggedEntries.{LoggedEntries}

-- a number by its lower 32 bits and those above
abbrev pub number_said : ℕ → ℕ → ℕ
number_said low high = low + 2 ^ 32 * high

-- the reply of an entry of this kind: a mapping's first page is the number, a byte the part above
abbrev pub reply_said : EntryKind → ℕ → ℕ → Reply
reply_said EntryKind.Mapped low high = Reply.Mapped (4096 * number_said low high)
reply_said EntryKind.Byte low high = Reply.Byte high
reply_said EntryKind.Einval low high = Reply.Refused EINVAL
reply_said EntryKind.Enomem low high = Reply.Refused ENOMEM
reply_said EntryKind.Eacces low high = Reply.Refused EACCES
reply_said EntryKind.Ebadf low high = Reply.Refused EBADF
reply_said EntryKind.Eoverflow low high = Reply.Refused EOVERFLOW
reply_said EntryKind.MapErr low high = Reply.Segv Segv.MapErr
reply_said EntryKind.AccErr low high = Reply.Segv Segv.AccErr
reply_said EntryKind.Bus low high = Reply.Bus
reply_said EntryKind.NoFrame low high = Reply.NoFrame
reply_said EntryKind.NoMemory low high = Reply.NoMemory
reply_said kind low high = Reply.Done

abbrev pub is_copy : EntryKind → Bool
is_copy EntryKind.Copy = true
is_copy kind = false

abbrev pub is_in_full : EntryKind → Bool
is_in_full EntryKind.InFull = true
is_in_full kind = false

-- an entry that doesn't stand in full
abbrev pub short_by : Bool → PackedEntry → Entry
short_by true p = Detach (number_said p.step p.step_high) p.call (number_said p.low p.high)
short_by false p = Answer (number_said p.step p.step_high) p.call p.core (reply_said p.kind p.low p.high)

-- what stands where there is no entry
abbrev pub nothing : Entry
nothing = Detach 0 0 0

-- one that stands in full has its place in the list of those in the fields of the step and the call
abbrev pub place_said : PackedEntry → ℕ
place_said p = number_said p.step p.call

-- the entry, beside those that stand in full
abbrev pub entry_by : Bool → List Entry → PackedEntry → Entry
entry_by true in_full p = get_or in_full (place_said p) nothing
entry_by false in_full p = short_by (is_copy p.kind) p

abbrev pub entry_of : List Entry → PackedEntry → Entry
entry_of in_full p = entry_by (is_in_full p.kind) in_full p

-- all entries
abbrev pub unpacked : List Entry → List PackedEntry → List Entry
unpacked in_full ps = map (entry_of in_full) ps

-- those that stand in full have places below n
abbrev pub IsWithin : ℕ → PackedEntry → Type 0
IsWithin n p = is_in_full p.kind ≡ true → place_said p < n

abbrev pub AreWithin : ℕ → List PackedEntry → Type 0
AreWithin n ps = All (IsWithin n) ps

-- the packed entries, or else the plain ones
abbrev pub packed_or : List PackedEntry → List Entry → List Entry → List Entry
packed_or [] in_full plain = plain
packed_or (p ∷ ps) in_full plain = unpacked in_full (p ∷ ps)

-- the entries that are lent
abbrev pub listed : LoggedEntries → List Entry
listed l = packed_or l.packed.now l.in_full.now l.plain.now
