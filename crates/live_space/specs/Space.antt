-- What a clause sees of a space that threads share, and how it begins
use Rattle.std.specs.Prelude.{◌≡◌, ℕ, ◌<◌, ◌/◌, List, [], length, get_or, None}
use Rattle.atomic_table.specs.Seated.{TableId}
use Rattle.frames.specs.Files.{FileParts, files_of}
use Rattle.frames.specs.Given.{given_files}
use Rattle.machine_model.specs.declared.event.Event.TheVariants.{Go}
use Rattle.machine_model.specs.declared.setup.Setup.{Setup}
use Rattle.machine_model.specs.Setups.{fault_of}
use Rattle.seats.specs.Gathered.{AreAll}
use Rattle.seats.specs.Notes.{SeatView}

-- the word from which tickets are drawn, which no other space has, how many cores and frames there are, the files, and how
-- many calls each seat may begin
pub record LiveView : Type 0 where
  pub word : TableId
  pub cores : ℕ
  pub frames : ℕ
  pub files : List FileParts
  pub share : ℕ

-- a seat of the core that has noted nothing, whose plain steps are those of the core's call
pub record IsFresh (w : TableId) (c : ℕ) (s : SeatView) : Type 0 where
  pub word : s.word ≡ w
  pub core : s.core ≡ c
  pub notes : s.notes ≡ []
  pub begun : s.begun ≡ 0
  pub plain : s.plain ≡ Go c

-- a fresh seat for each of so many cores, in their order
pub record AreFresh (word : TableId) (cores : ℕ) (seats : List SeatView) : Type 0 where
  pub count : length seats ≡ cores
  pub each : (k : ℕ) (d : SeatView) → k < cores → IsFresh word k (get_or seats k d)

-- the space of a setup without a fault, with all its seats: the calls are shared out evenly
pub record IsMade {A : Type 0} (setup : Setup A) (l : LiveView) (ss : List SeatView) : Type 0 where
  pub sound : fault_of setup ≡ None
  pub cores : l.cores ≡ setup.cores
  pub frames : l.frames ≡ setup.frames
  pub file : files_of l.files ≡ given_files setup.files.items
  pub share : l.share ≡ setup.calls / setup.cores
  pub seats : AreFresh l.word setup.cores ss
  pub all : AreAll l.word ss

-- the seat is of the space: it draws from the space's word, its core is one of the space's, and its
-- plain steps are those of the core's call
pub record IsOf (l : LiveView) (s : SeatView) : Type 0 where
  pub word : s.word ≡ l.word
  pub core : s.core < l.cores
  pub plain : s.plain ≡ Go s.core
