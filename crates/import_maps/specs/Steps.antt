-- The requests of a trace, as they are kept.
use Rattle.std.specs.Prelude.{ℕ, ◌+◌, ◌/◌, ◌%◌, Bool, not, ◌&&◌, List, [], ◌∷◌, if◌then◌else◌, ◌==◌, drop, slice_index_or}
use Rattle.vm_base.specs.declared.rights.Prot.{Prot}
use Rattle.vm_base.specs.declared.requests.Flags.{Flags}
use Rattle.vm_base.specs.declared.requests.Request.{Request}
use Rattle.vm_base.specs.declared.requests.Request.TheVariants as Asks
use Rattle.import_maps.specs.declared.names.Name.{Name}
use Rattle.import_maps.specs.declared.steps.Head.{Head}
use Rattle.import_maps.specs.declared.steps.Kind.{Kind}
use Rattle.import_maps.specs.declared.steps.Kind.TheVariants.{Pages, Map, Unmap, Protect, Load, Store, Fetch}
use Rattle.import_maps.specs.declared.steps.Shape.{Shape}
use Rattle.import_maps.specs.declared.steps.TraceRequest.{TraceRequest}

-- ---- what is kept of a request

-- the bit of this value, where it is set
abbrev pub bit : Bool → ℕ → ℕ
bit b n = if b then n else 0

-- rights and flags as bits
abbrev pub prot_bits : Prot → ℕ
prot_bits p = bit p.read 1 + bit p.write 2 + bit p.exec 4

abbrev pub prot_of : ℕ → Prot
prot_of n = record { read = n % 2 == 1; write = n / 2 % 2 == 1; exec = n / 4 % 2 == 1 }

abbrev pub flag_bits : Flags → ℕ
flag_bits f = bit f.private 1 + bit f.shared 2 + bit f.fixed 4 + bit f.anon 8

abbrev pub flags_of : ℕ → Flags
flags_of n = record { private = n % 2 == 1; shared = n / 2 % 2 == 1; fixed = n / 4 % 2 == 1; anon = n / 8 % 2 == 1 }

-- There is a name. Where there is none it stands at 0 and has no byte.
abbrev pub is_name : Name → Bool
is_name name = not ((name.from == 0) && (name.len == 0))

abbrev pub kind_of_map : Bool → ℕ → ℕ → Kind
kind_of_map named file off = if not named && (file == 0) && (off == 0) then Pages else Map

abbrev pub shape_of : Bool → Request → Shape
shape_of named (Asks.Mmap addr len prot flags file off) =
    record { kind = kind_of_map named file off; named = named; prot = prot_bits prot; flags = flag_bits flags; byte = 0 }
shape_of named (Asks.Munmap addr len) = record { kind = Unmap; named = named; prot = 0; flags = 0; byte = 0 }
shape_of named (Asks.Mprotect addr len prot) = record { kind = Protect; named = named; prot = prot_bits prot; flags = 0; byte = 0 }
shape_of named (Asks.Load addr) = record { kind = Load; named = named; prot = 0; flags = 0; byte = 0 }
shape_of named (Asks.Store addr byte) = record { kind = Store; named = named; prot = 0; flags = 0; byte = byte }
shape_of named (Asks.Fetch addr) = record { kind = Fetch; named = named; prot = 0; flags = 0; byte = 0 }

abbrev pub head_of : TraceRequest → Head
head_of step = record { core = step.core; shape = shape_of (is_name step.name) step.request }

-- all numbers that a request may have, and where its name stands
abbrev pub six_of : Request → Name → List ℕ
six_of (Asks.Mmap addr len prot flags file off) name = addr ∷ len ∷ file ∷ off ∷ name.from ∷ name.len ∷ []
six_of (Asks.Munmap addr len) name = addr ∷ len ∷ 0 ∷ 0 ∷ name.from ∷ name.len ∷ []
six_of (Asks.Mprotect addr len prot) name = addr ∷ len ∷ 0 ∷ 0 ∷ name.from ∷ name.len ∷ []
six_of (Asks.Load addr) name = addr ∷ 0 ∷ 0 ∷ 0 ∷ name.from ∷ name.len ∷ []
six_of (Asks.Store addr byte) name = addr ∷ 0 ∷ 0 ∷ 0 ∷ name.from ∷ name.len ∷ []
six_of (Asks.Fetch addr) name = addr ∷ 0 ∷ 0 ∷ 0 ∷ name.from ∷ name.len ∷ []

-- how many of them are kept
abbrev pub kind_width : Kind → ℕ
kind_width Pages = 2
kind_width Map = 4
kind_width Unmap = 2
kind_width Protect = 2
kind_width Load = 1
kind_width Store = 1
kind_width Fetch = 1

abbrev pub shape_width : Shape → ℕ
shape_width h = if h.named then 6 else kind_width h.kind

-- ---- what a head and numbers say

abbrev pub name_kept : Bool → List ℕ → Name
name_kept named ns = if named then record { from = slice_index_or ns 4 0; len = slice_index_or ns 5 0 } else record { from = 0; len = 0 }

abbrev pub request_kept : Kind → Prot → Flags → ℕ → List ℕ → Request
request_kept Pages prot flags byte ns = Asks.Mmap (slice_index_or ns 0 0) (slice_index_or ns 1 0) prot flags 0 0
request_kept Map prot flags byte ns =
    Asks.Mmap (slice_index_or ns 0 0) (slice_index_or ns 1 0) prot flags (slice_index_or ns 2 0) (slice_index_or ns 3 0)
request_kept Unmap prot flags byte ns = Asks.Munmap (slice_index_or ns 0 0) (slice_index_or ns 1 0)
request_kept Protect prot flags byte ns = Asks.Mprotect (slice_index_or ns 0 0) (slice_index_or ns 1 0) prot
request_kept Load prot flags byte ns = Asks.Load (slice_index_or ns 0 0)
request_kept Store prot flags byte ns = Asks.Store (slice_index_or ns 0 0) byte
request_kept Fetch prot flags byte ns = Asks.Fetch (slice_index_or ns 0 0)

abbrev pub step_kept : Head → List ℕ → TraceRequest
step_kept h ns =
    let s = h.shape in
    record { core = h.core; name = name_kept s.named ns; request = request_kept s.kind (prot_of s.prot) (flags_of s.flags) s.byte ns }

-- the requests with these heads, whose numbers stand one behind another
abbrev pub steps_kept : List Head → List ℕ → List TraceRequest
steps_kept [] ns = []
steps_kept (h ∷ hs) ns = step_kept h ns ∷ steps_kept hs (drop (shape_width h.shape) ns)

-- how many numbers they have
abbrev pub widths : List Head → ℕ
widths [] = 0
widths (h ∷ hs) = shape_width h.shape + widths hs
