-- Table entries (Intel SDM volume 3A, 4-level paging)
use Rattle.std.specs.Prelude.{ℕ, ◌+◌, ◌*◌, ◌/◌, ◌%◌, ◌^◌, ◌||◌, ◌==◌, nat_lt, Bool, true, Option, None}
use Rattle.std.specs.Prelude.{Some, if◌then◌else◌}
use Rattle.vm_base.specs.declared.rights.Prot.{Prot}
use Rattle.vm_base.specs.declared.rights.Access.{Access}
use Rattle.vm_base.specs.declared.rights.Access.TheVariants.{Load, Store, Fetch}
use Rattle.mmu.specs.declared.entry.Translation.{Translation}

-- some access is allowed; without a right there is no entry
abbrev pub has_right : Prot → Bool
has_right prot = prot.read || prot.write || prot.exec

abbrev pub translation_of : ℕ → Prot → Translation
translation_of frame prot = record { frame = frame; write = prot.write; exec = prot.exec }

-- every present entry permits loads
abbrev pub permits : Translation → Access → Bool
permits t Load = true
permits t Store = t.write
permits t Fetch = t.exec

-- the frame's address, P (bit 0), R/W (bit 1), U/S (bit 2), and XD (bit 63) where the page isn't
-- executable
abbrev pub entry_word : Translation → ℕ
entry_word t = t.frame * 4096 + 1 + (if t.write then 2 else 0) + 4 + (if t.exec then 0 else 2 ^ 63)

-- what the bits of an entry say; without P it says nothing
abbrev pub decode : ℕ → Option Translation
decode w = if w % 2 == 0 then None else Some (record {
  frame = w / 4096 % 2 ^ 32;
  write = w / 2 % 2 == 1;
  exec = nat_lt w (2 ^ 63);
})

-- the nine bits of an address from this one on
abbrev pub level_index : ℕ → ℕ → ℕ
level_index bit addr = addr / 2 ^ bit % 512
