-- Kinds of requests
use Rattle.std.specs.Prelude.{not, Bool, true, false}
use Rattle.vm_base.specs.declared.requests.Request.{Request}
use Rattle.vm_base.specs.declared.requests.Request.TheVariants.{Mmap, Load, Store, Fetch}

-- a load, a store or a fetch
abbrev pub is_access : Request → Bool
is_access (Load addr) = true
is_access (Store addr byte) = true
is_access (Fetch addr) = true
is_access request = false

-- an mmap that leaves its place open
abbrev pub is_placed : Request → Bool
is_placed (Mmap addr len prot flags file off) = not flags.fixed
is_placed _ = false
