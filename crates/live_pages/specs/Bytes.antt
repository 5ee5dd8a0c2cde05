-- What an access does to the bytes of a frame
use Rattle.std.specs.Prelude.{ℕ}
use Rattle.vm_base.specs.declared.rights.Access.{Access}
use Rattle.vm_base.specs.declared.rights.Access.TheVariants.{Load, Store, Fetch}
use Rattle.vm_base.specs.Functions.{put}
use Rattle.vm_base.specs.Plain.{Bytes}

-- a store changes the byte at the offset, and no other
abbrev pub after_access : Access → ℕ → ℕ → Bytes → Bytes
after_access Load offset byte bytes = bytes
after_access Store offset byte bytes = put bytes offset byte
after_access Fetch offset byte bytes = bytes
