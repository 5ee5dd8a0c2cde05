-- Rights and flags as numbers, whose bits are those of Linux on x86-64 (asm-generic/mman-common.h)
use Rattle.std.specs.Prelude.{ℕ, ◌+◌, Bool, ◌==◌, ◌&&◌, not, nat_lt, cond, if◌then◌else◌, Option, None, Some}
use Rattle.std.specs.Int.{bit_at}
use Rattle.vm_base.specs.declared.rights.Prot.{Prot}
use Rattle.vm_base.specs.declared.requests.Flags.{Flags}

abbrev pub has_bit : ℕ → ℕ → Bool
has_bit bits place = bit_at bits place == 1

-- bit 0 reads, bit 1 writes, bit 2 executes; there is no other
abbrev pub prot_of : ℕ → Option Prot
prot_of bits =
    if nat_lt bits 8
    then Some (record { read = has_bit bits 0; write = has_bit bits 1; exec = has_bit bits 2 })
    else None

abbrev pub bits_of_prot : Prot → ℕ
bits_of_prot p = cond p.read 1 0 + cond p.write 2 0 + cond p.exec 4 0

-- bit 0 is shared, bit 1 private, bit 4 fixed, bit 5 anonymous; there is no other
abbrev pub flags_of : ℕ → Option Flags
flags_of bits =
    if nat_lt bits 64 && not (has_bit bits 2) && not (has_bit bits 3) then Some (record {
      private = has_bit bits 1;
      shared = has_bit bits 0;
      fixed = has_bit bits 4;
      anon = has_bit bits 5;
    }) else None

abbrev pub bits_of_flags : Flags → ℕ
bits_of_flags f = cond f.shared 1 0 + cond f.private 2 0 + cond f.fixed 16 0 + cond f.anon 32 0
