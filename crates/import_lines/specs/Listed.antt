-- What a line of a list of mappings says: START-END RIGHTS OFFSET DEVICE INODE NAME.
use Rattle.std.specs.Prelude.{ℕ, Bool, ◌||◌, List, [], ◌∷◌, Option, Some, if◌then◌else◌, ◌==◌, codes, length}
use Rattle.std.specs.Str.{bytes_eq}
use Rattle.trace_text.specs.Request.{◌>>=◌}
use Rattle.trace_text.specs.Words.{byte}
use Rattle.vm_base.specs.declared.rights.Prot.{Prot}
use Rattle.import_forms.specs.Tokens.{Token, begins_by, front_token, hexadecimal, occurs, split_at_last}
use Rattle.import_lines.specs.declared.listed.Listed.{Listed}
use Rattle.import_lines.specs.declared.listed.MappingKind.{MappingKind}
use Rattle.import_lines.specs.declared.listed.MappingKind.TheVariants.{Kernel, Anonymous, File}

-- a line without where its bytes lie
pub record Entry : Type 0 where
  pub start : ℕ
  pub end : ℕ
  pub prot : Prot
  pub shared : Bool
  pub off : ℕ
  pub name : List ℕ

-- what the code keeps of a line, as a value of bytes
abbrev pub entry_of : Listed → Entry
entry_of l = record { start = l.start; end = l.end; prot = l.prot; shared = l.shared; off = l.off; name = l.name.now }

-- the rights that a token such as rw-p names
abbrev pub rights_said : Token → Prot
rights_said token = record { read = occurs (codes "r") token; write = occurs (codes "w") token; exec = occurs (codes "x") token }

-- the bytes behind the first spaces
abbrev pub from_name : List ℕ → List ℕ
from_name [] = []
from_name (x ∷ xs) = if x == byte (codes " ") then from_name xs else x ∷ xs

unfoldable pub entry_said : List ℕ → Option Entry
entry_said line = do
  range ← front_token line
  ends ← split_at_last (byte (codes "-")) range.0
  start ← hexadecimal ends.0
  end ← hexadecimal ends.1
  rights ← front_token range.1
  offset ← front_token rights.1
  off ← hexadecimal offset.0
  device ← front_token offset.1
  inode ← front_token device.1
  Some (record { start = start; end = end; prot = rights_said rights.0; shared = occurs (codes "s") rights.0; off = off; name = from_name inode.1 })

-- what a mapping of this name is of: the kernel's own pages are [vvar] and [vdso]; no file is named by no name, by
-- another one in brackets, or as shared pages of no file are
abbrev pub kind_named : List ℕ → MappingKind
kind_named name = if begins_by (codes "[v") name then Kernel
    else if (length name == 0) || begins_by (codes "[") name then Anonymous
    else if bytes_eq name (codes "/dev/zero (deleted)") then Anonymous else File
