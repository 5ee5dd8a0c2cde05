-- What C asks a machine to be made with
use Rattle.std.specs.Prelude.{◌≡◌, ℕ, zero, suc, ◌+◌, ◌≤◌, ◌<◌, ◌⊎◌, List, [], ◌∷◌, length, take, drop}
use Rattle.std.specs.Prelude.{Option, None, Some, slice_get, Bool, not, ◌==◌, if◌then◌else◌}
use Rattle.std.specs.List.{list_any}
use Rattle.vm_base.specs.declared.rights.Mode.{Mode}
use Rattle.vm_base.specs.declared.rights.Mode.TheVariants.{R, W, RW}
use Rattle.vm_base.specs.Plain.{File, file_with}
use Rattle.frames.specs.declared.file_spec.FileSpec.{FileSpec}
use Rattle.slot_lock.specs.Slots.{Slots, IsNew}
use Rattle.machine_model.specs.declared.setup.CallLimit.{CallLimit}
use Rattle.machine_model.specs.declared.setup.CallLimit.TheVariants.{Usual, Long}
use Rattle.machine_model.specs.declared.setup.SetupFault.{SetupFault}
use Rattle.machine_model.specs.declared.setup.SetupFault.TheVariants as Fault
use Rattle.machine_model.specs.Setups.{first_fault_within, is_too_long}
use Rattle.machine_model.specs.World.{World, Made, new_world}
use Rattle.coded.specs.declared.opening.RawSetup.{RawSetup}
use Rattle.coded.specs.declared.opening.RawFile.{RawFile}
use Rattle.coded.specs.declared.opening.Refusal.{Refusal}
use Rattle.coded.specs.declared.opening.Refusal.TheVariants as By

-- ---- files

-- for what a file is open: 1 for reading, 2 for writing, 3 for both
abbrev pub modes : List Mode
modes = R ∷ W ∷ RW ∷ []

abbrev pub mode_of : ℕ → Option Mode
mode_of zero = None
mode_of (suc n) = slice_get modes n

-- the file has this mode, and these bytes of the buffer
pub record IsFile (buffer : List ℕ) (r : RawFile) (open_for : Mode) (items : List ℕ) : Type 0 where
  pub mode : mode_of r.mode ≡ Some open_for
  pub within : r.start + r.len ≤ length buffer
  pub bytes : items ≡ take r.len (drop r.start buffer)

-- its mode is none, or its bytes don't lie in a buffer of so many
abbrev pub IsNoFile : ℕ → RawFile → Type 0
IsNoFile room r = (mode_of r.mode ≡ None) ⊎ (room < r.start + r.len)

-- the files, one by one
abbrev pub AreFiles : {A : Type 0} → List ℕ → List RawFile → List (FileSpec A) → Type 0
AreFiles buffer [] [] = Unit {0}
AreFiles buffer (r ∷ rs) (s ∷ ss) =
    IsFile buffer r s.mode s.bytes.items × AreFiles buffer rs ss
AreFiles buffer [] (s ∷ ss) = ⊥
AreFiles buffer (r ∷ rs) [] = ⊥

-- the machine's file is what was asked for, if one was
abbrev pub IsGiven : List ℕ → Option RawFile → Option File → Type 0
IsGiven buffer None file = file ≡ None
IsGiven buffer (Some r) file = (mode : Mode) × (bytes : List ℕ) × IsFile buffer r mode bytes
    × (file ≡ Some (file_with mode bytes))

-- each of these files can be opened
abbrev pub AreThere : List ℕ → List RawFile → Type 0
AreThere buffer [] = Unit {0}
AreThere buffer (r ∷ rs) =
    ((mode : Mode) × (bytes : List ℕ) × IsFile buffer r mode bytes) × AreThere buffer rs

-- the first file that isn't there, or there was no memory
abbrev pub RefusesFiles : List ℕ → List RawFile → Refusal → Type 0
RefusesFiles buffer files (By.BadFile at) =
    (r : RawFile) × (slice_get files at ≡ Some r) × IsNoFile (length buffer) r
    × AreThere buffer (take at files)
RefusesFiles buffer files (By.Setup fault) = fault ≡ Fault.NoMemory
RefusesFiles buffer files By.TooLong = ⊥
RefusesFiles buffer files By.NoRoom = ⊥
RefusesFiles buffer files By.Empty = ⊥
RefusesFiles buffer files By.InUse = ⊥
RefusesFiles buffer files By.NoLog = ⊥

-- ---- the machine

-- a new machine has this
pub record IsMade (setup : RawSetup) (files : List RawFile) (buffer : List ℕ)
    (made : Made) : Type 0 where
  pub cores : made.cores ≡ setup.cores
  pub few : made.cores ≤ 64
  pub frames : made.frames ≡ setup.frames
  pub calls : made.calls ≡ setup.calls
  pub file : (n : ℕ) → IsGiven buffer (slice_get files n) (made.file n)

-- it is one with that, on which nothing happened yet
abbrev pub OpensAs : RawSetup → List RawFile → List ℕ → World → Type 0
OpensAs setup files buffer w = (made : Made) × (slots : Slots) × IsMade setup files buffer made
    × IsNew slots × (w ≡ new_world made slots)

-- ---- what was asked for

-- whether a log is to be kept
abbrev pub wants_log : RawSetup → Bool
wants_log setup = not (setup.log == 0)

-- how many calls it may ask for: 1,048,576 with a log, else 2^40
abbrev pub limit_of : RawSetup → CallLimit
limit_of setup = if setup.log == 0 then Long else Usual

-- its first fault
abbrev pub fault_of : RawSetup → List RawFile → Option SetupFault
fault_of setup files =
    first_fault_within (limit_of setup) setup.cores setup.frames (length files)
    (list_any (λ (r : RawFile). is_too_long r.len) files) setup.calls

-- the setup has this fault first, or has none, and then a file isn't there, or there was no memory
abbrev pub Refuses : RawSetup → List RawFile → List ℕ → Refusal → Type 0
Refuses setup files buffer (By.Setup fault) =
    (fault_of setup files ≡ Some fault) ⊎ ((fault_of setup files ≡ None) × (fault ≡ Fault.NoMemory))
Refuses setup files buffer (By.BadFile at) =
    (fault_of setup files ≡ None) × RefusesFiles buffer files (By.BadFile at)
Refuses setup files buffer By.TooLong = ⊥
Refuses setup files buffer By.NoRoom = ⊥
Refuses setup files buffer By.Empty = ⊥
Refuses setup files buffer By.InUse = ⊥
Refuses setup files buffer By.NoLog = ⊥
