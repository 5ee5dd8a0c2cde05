-- What the vm and file lines of a trace ask for
use Rattle.std.specs.Prelude.{ℕ, suc, ◌^◌, ◌==◌, ◌&&◌, Bool, nat_lt, if◌then◌else◌, List, []}
use Rattle.std.specs.Prelude.{◌∷◌, ◌++◌, length, slice_get, Option, None, Some}
use Rattle.std.specs.List.{list_any}
use Rattle.vm_base.specs.Plain.{File, file_with}
use Rattle.machine_model.specs.World.{Made}
use Rattle.machine_model.specs.declared.setup.CallLimit.{CallLimit}
use Rattle.machine_model.specs.declared.setup.CallLimit.TheVariants.{Usual}
use Rattle.machine_model.specs.declared.setup.SetupFault.{SetupFault}
use Rattle.machine_model.specs.Setups.{first_fault_within, is_too_long}
use Rattle.trace_text.specs.Line.{seeded}
use Rattle.trace_words.specs.declared.declaration.FileLine.{FileLine}

-- The cores, frames and calls that the vm line asks for, the number that the next file has, and the
-- files so far: of more than a space may have as many as show that there are too many.
pub record DeclarationView : Type 0 where
  pub cores : ℕ
  pub frames : ℕ
  pub calls : ℕ
  pub next : ℕ
  pub files : List FileLine

-- by the vm line alone
abbrev pub asks_for : ℕ → ℕ → ℕ → DeclarationView
asks_for cores frames calls =
    record { cores = cores; frames = frames; calls = calls; next = 0; files = [] }

-- the files' numbers are 0, 1, 2 and so on, below 2^64 - 1
abbrev pub is_next : DeclarationView → ℕ → Bool
is_next asked number = number == asked.next && nat_lt (suc number) (2 ^ 64)

-- with the next file
abbrev pub with_file : DeclarationView → FileLine → DeclarationView
with_file asked file = record asked {
  next = suc asked.next;
  files = if nat_lt (length asked.files) 17 then asked.files ++ file ∷ [] else asked.files;
}

-- ---- the files

abbrev pub bytes_of : FileLine → List ℕ
bytes_of file = seeded file.len file.seed

-- the file that a line asks for, with its seeded bytes
abbrev pub declared_file : Option FileLine → Option File
declared_file None = None
declared_file (Some file) = Some (file_with file.mode (bytes_of file))

-- the files by their numbers
abbrev pub file_at : List FileLine → ℕ → Option File
file_at files n = declared_file (slice_get files n)

-- ---- the machine

-- one of the files has too many bytes
abbrev pub has_long : List FileLine → Bool
has_long files = list_any (λ file. is_too_long file.len) files

-- what is wrong with it first, but for want of memory, where this limit of calls holds
abbrev pub asked_fault_within : CallLimit → DeclarationView → Option SetupFault
asked_fault_within limit asked = first_fault_within limit asked.cores asked.frames
    (length asked.files) (has_long asked.files) asked.calls

-- where no longer limit is asked for
abbrev pub asked_fault : DeclarationView → Option SetupFault
asked_fault asked = asked_fault_within Usual asked

-- what a machine is made with
abbrev pub made_by : DeclarationView → Made
made_by asked = record {
  cores = asked.cores;
  frames = asked.frames;
  calls = asked.calls;
  file = file_at asked.files;
}
