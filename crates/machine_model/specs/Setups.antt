-- What a machine is made with, and what is wrong with a setup: the first that holds
use Rattle.std.specs.Prelude.{◌≡◌, ◌⊎◌, ◌||◌, ◌^◌, ℕ, Bool, false, nat_lt, List, length, Option}
use Rattle.std.specs.Prelude.{None, Some, if◌then◌else◌}
use Rattle.std.specs.List.{list_any}
use Rattle.frames.specs.declared.file_spec.FileSpec.{FileSpec}
use Rattle.frames.specs.Given.{given_files}
use Rattle.machine_model.specs.declared.setup.CallLimit.{CallLimit}
use Rattle.machine_model.specs.declared.setup.CallLimit.TheVariants.{Usual, Long}
use Rattle.machine_model.specs.declared.setup.Setup.{Setup}
use Rattle.machine_model.specs.declared.setup.SetupFault.{SetupFault}
use Rattle.machine_model.specs.declared.setup.SetupFault.TheVariants.{Cores, Frames, TooManyFiles}
use Rattle.machine_model.specs.declared.setup.SetupFault.TheVariants.{FileTooLong, Calls, NoMemory}
use Rattle.machine_model.specs.World.{Made}

-- a file has more than 1,048,576 bytes
abbrev pub is_too_long : ℕ → Bool
is_too_long len = nat_lt 1048576 len

abbrev pub has_long : {A : Type 0} → List (FileSpec A) → Bool
has_long files = list_any (λ file. is_too_long (length file.bytes.items)) files

-- ---- calls

-- how many calls a setup may ask for at the most: 1,048,576, or 2^40
abbrev pub most_calls : CallLimit → ℕ
most_calls Usual = 1048576
most_calls Long = 2 ^ 40

-- the longer limit is only for a ledger that keeps nothing
abbrev pub Fits : Bool → CallLimit → Type 0
Fits keeps limit = limit ≡ Long → keeps ≡ false

-- ---- faults

-- 1 to 64 cores, at most 65,536 frames, at most 16 files, none of them too long, no more calls than
-- the limit
abbrev pub first_fault_within : CallLimit → ℕ → ℕ → ℕ → Bool → ℕ → Option SetupFault
first_fault_within limit cores frames files long calls =
    if nat_lt cores 1 || nat_lt 64 cores then Some Cores
    else if nat_lt 65536 frames then Some Frames
    else if nat_lt 16 files then Some TooManyFiles
    else if long then Some FileTooLong
    else if nat_lt (most_calls limit) calls then Some Calls
    else None

abbrev pub fault_within : {A : Type 0} → CallLimit → Setup A → Option SetupFault
fault_within limit s = first_fault_within limit s.cores s.frames (length s.files.items)
    (has_long s.files.items) s.calls

-- the fault is the first of the setup, or else that there was no memory
abbrev pub IsFirstWithin : {A : Type 0} → CallLimit → Setup A → SetupFault → Type 0
IsFirstWithin limit s fault = (fault_within limit s ≡ Some fault)
    ⊎ ((fault_within limit s ≡ None) × (fault ≡ NoMemory))

-- where no longer limit is asked for, there are at most 1,048,576 calls

abbrev pub first_fault : ℕ → ℕ → ℕ → Bool → ℕ → Option SetupFault
first_fault cores frames files long calls = first_fault_within Usual cores frames files long calls

abbrev pub fault_of : {A : Type 0} → Setup A → Option SetupFault
fault_of s = fault_within Usual s

abbrev pub IsFirstFault : {A : Type 0} → Setup A → SetupFault → Type 0
IsFirstFault s fault = IsFirstWithin Usual s fault

-- ---- what is made

-- the machine's files are those of the setup, each with its own bytes
abbrev pub made_of : {A : Type 0} → Setup A → Made
made_of s =
    record { cores = s.cores; frames = s.frames; calls = s.calls; file = given_files s.files.items }
