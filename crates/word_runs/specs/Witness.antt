-- The picture of a witness of a litmus test, and how it ends.
use Rattle.std.specs.Prelude.{◌≡◌, ◌⊎◌, ℕ, true, List, Option, Result, Err}
use Rattle.std.specs.declared.alloc.Global.{Global}
use Rattle.word_runs.specs.Litmus.{litmus_status}
use Rattle.word_pictures.specs.Picture.{PictureEnds}
use Rattle.word_pictures.specs.Words.{picture_status}
use Rattle.word_parts.specs.declared.asked.WitnessPicture.{WitnessPicture}
use Rattle.litmus.specs.Tells.{Fails, Tells}
use Rattle.litmus.specs.declared.faults.TestFault.{TestFault}
use Rattle.litmus.specs.declared.telling.Listing.TheVariants.{Witness}
use Rattle.trace_words.specs.declared.fault.TraceFault.{TraceFault}
use Rattle.trace_words.specs.declared.fault.TraceFault.TheVariants.{WriteFailed}
use Rattle.trace_io.specs.Io.{ReadFrom, WrittenTo}
use Rattle.trace_io.specs.Lines.{lines_of}
use Rattle.trace_io.specs.Source.{HasStopped, Reads}

-- A text is told of the test as its witness, what was written is the picture of it, and how that ended gives the status.
pub record IsPictured (asked : WitnessPicture) (input : List ℕ) (out : WrittenTo) (n : ℕ) : Type 0 where
  pub name : List ℕ
  pub text : List ℕ
  pub status : ℕ
  pub tells : Tells Global name (Witness asked.number) asked.limit (lines_of input) text status
  pub ended : Result (Option ℕ) TraceFault
  pub pictures : PictureEnds asked.drawing text out.before out.after ended
  pub write : ended ≡ Err WriteFailed → out.failed ≡ true
  pub all : (ended ≡ Err WriteFailed) ⊎ ((out.failed ≡ out.had_failed) × (out.is_flushed ≡ true))
  pub status_is : n ≡ picture_status asked.drawing ended

-- nothing was written, for a fault for which no witness is told
pub record IsUnpictured (asked : WitnessPicture) (input : List ℕ) (out : WrittenTo) (n : ℕ) : Type 0 where
  pub fault : TestFault
  pub fails : Fails Global (Witness asked.number) (lines_of input) fault
  pub same : out.after ≡ out.before
  pub status_is : n ≡ litmus_status fault

-- the witness is pictured, or why it isn't
abbrev pub WitnessEnds : WitnessPicture → List ℕ → WrittenTo → ℕ → Type 0
WitnessEnds asked input out n = IsPictured asked input out n ⊎ IsUnpictured asked input out n

-- that of what was read; or a read failed, or was one too many
abbrev pub PicturesWitness : WitnessPicture → ReadFrom → WrittenTo → ℕ → Type 0
PicturesWitness asked text out n = Reads text.before text.after (λ input unread. WitnessEnds asked input out n)
    ⊎ ((n ≡ 3) × HasStopped text.failed text.reads)
