-- What is mapped where, as the requests of a trace say: ranges with their rights, flags and files.
use Rattle.std.specs.Prelude.{ℕ, ◌+◌, ◌-◌, ◌*◌, ◌^◌, ◌/◌, Bool, true, false, ◌&&◌, List, [], ◌∷◌, ◌++◌, Option, None, Some, if◌then◌else◌, ◌==◌}
use Rattle.std.specs.Prelude.{max, min, nat_le, nat_lt}
use Rattle.std.specs.List.{flat_map}
use Rattle.vm_base.specs.declared.rights.Prot.{Prot}
use Rattle.vm_base.specs.declared.requests.Flags.{Flags}
use Rattle.vm_base.specs.declared.requests.Request.{Request}
use Rattle.vm_base.specs.declared.requests.Request.TheVariants.{Mmap, Munmap, Mprotect, Load, Store, Fetch}
use Rattle.import_maps.specs.Steps.{flag_bits, prot_bits}
use Rattle.import_maps.specs.declared.names.Name.{Name}
use Rattle.import_maps.specs.declared.ranges.MappedRange.{MappedRange}
use Rattle.import_maps.specs.declared.steps.TraceRequest.{TraceRequest}

-- a length in whole pages
abbrev pub whole : ℕ → ℕ
whole len = (len + 4095) / 4096 * 4096

-- a program may have such a range
abbrev pub fits : ℕ → ℕ → Bool
fits addr len = nat_le addr (2 ^ 47) && nat_le len (2 ^ 47)

-- it is of anonymous pages for no file
abbrev pub is_plain : MappedRange → Bool
is_plain r = r.flags.anon && (r.name.len == 0)

-- the offset so many bytes behind that of its first address; anonymous pages have none
abbrev pub past : MappedRange → ℕ → ℕ
past r n = if is_plain r then r.off else min (r.off + n) (2 ^ 64 - 1)

abbrev pub end_of : MappedRange → ℕ
end_of r = min (r.addr + r.len) (2 ^ 64 - 1)

-- what it has from one address on, so many bytes
abbrev pub between : MappedRange → ℕ → ℕ → MappedRange
between r from len = record {
  addr = from;
  len = len;
  prot = r.prot;
  flags = r.flags;
  file = r.file;
  off = past r (from - r.addr);
  name = r.name;
}

-- what it has of the addresses from one on, up to another
abbrev pub part : ℕ → ℕ → MappedRange → Option MappedRange
part from end r = if nat_lt (max from r.addr) (min end (end_of r))
    then Some (between r (max from r.addr) (min end (end_of r) - max from r.addr))
    else None

abbrev pub listed : Option MappedRange → List MappedRange
listed None = []
listed (Some r) = r ∷ []

-- it, but what it has of these addresses
abbrev pub cut : ℕ → ℕ → MappedRange → List MappedRange
cut from end r = listed (part 0 from r) ++ listed (part end (2 ^ 64 - 1) r)

abbrev pub with_prot : Prot → MappedRange → MappedRange
with_prot prot r = record { addr = r.addr; len = r.len; prot = prot; flags = r.flags; file = r.file; off = r.off; name = r.name }

-- it, of which these addresses have other rights
abbrev pub guarded : ℕ → ℕ → Prot → MappedRange → List MappedRange
guarded from end prot r =
    listed (part 0 from r) ++ listed (part from end (with_prot prot r)) ++ listed (part end (2 ^ 64 - 1) r)

-- both have the same rights and flags
abbrev pub is_alike : MappedRange → MappedRange → Bool
is_alike r q = (prot_bits r.prot == prot_bits q.prot) && (flag_bits r.flags == flag_bits q.flags)

abbrev pub is_same : MappedRange → MappedRange → Bool
is_same r q = (r.addr == q.addr) && (r.len == q.len) && is_alike r q && (r.file == q.file) && (r.off == q.off)
    && (r.name.from == q.name.from) && (r.name.len == q.name.len)

abbrev pub is_some_same : MappedRange → Option MappedRange → Bool
is_some_same q None = false
is_some_same q (Some p) = is_same p q

-- one range is a part of another
abbrev pub holds : MappedRange → MappedRange → Bool
holds q r = is_some_same q (part q.addr (end_of q) r)

-- it is a part of one of them
abbrev pub has : MappedRange → List MappedRange → Bool
has q [] = false
has q (r ∷ rs) = if holds q r then true else has q rs

-- these and one more, in the place of what they have of its addresses
abbrev pub with_range : MappedRange → List MappedRange → List MappedRange
with_range q rs = if has q rs then rs else flat_map (cut q.addr (end_of q)) rs ++ q ∷ []

-- what a request maps
abbrev pub mapped_by : Name → ℕ → ℕ → Prot → Flags → ℕ → ℕ → MappedRange
mapped_by name addr len prot flags file off =
    record { addr = addr; len = whole len; prot = prot; flags = flags; file = file; off = off; name = name }

abbrev pub changed_by : List MappedRange → Name → Request → List MappedRange
changed_by rs name (Mmap addr len prot flags file off) = if fits addr len
    then with_range (mapped_by name addr len prot flags file off) rs else rs
changed_by rs name (Munmap addr len) = if fits addr len then flat_map (cut addr (addr + whole len)) rs else rs
changed_by rs name (Mprotect addr len prot) = if fits addr len then flat_map (guarded addr (addr + whole len) prot) rs else rs
changed_by rs name (Load addr) = rs
changed_by rs name (Store addr value) = rs
changed_by rs name (Fetch addr) = rs

-- what is mapped after a request
abbrev pub changed : List MappedRange → TraceRequest → List MappedRange
changed rs step = changed_by rs step.name step.request

-- and after several
abbrev pub changed_all : List MappedRange → List TraceRequest → List MappedRange
changed_all rs [] = rs
changed_all rs (s ∷ ss) = changed_all (changed rs s) ss

-- what is mapped after all requests of a trace
abbrev pub ranges_of : List TraceRequest → List MappedRange
ranges_of steps = changed_all [] steps

-- what some ranges have of the addresses from one on, up to another
abbrev pub parts_of : ℕ → ℕ → List MappedRange → List MappedRange
parts_of from end rs = flat_map (λ r. listed (part from end r)) rs

-- how many bytes they have, at most 2^64 - 1
abbrev pub bytes_of : List MappedRange → ℕ
bytes_of [] = 0
bytes_of (r ∷ rs) = min (bytes_of rs + r.len) (2 ^ 64 - 1)
