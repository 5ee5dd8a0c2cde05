-- What the words that show a trace do: how they end, what is read and written by then, and the status.
use Rattle.word_pictures.specs.Picture.{PictureEnds, pictured_text}
use Rattle.word_parts.specs.declared.asked.Drawing.{Drawing}
use Rattle.word_parts.specs.declared.asked.Drawing.TheVariants.{Answer}
use Rattle.word_parts.specs.declared.asked.Question.TheVariants.{First}
use Rattle.trace_words.specs.Faults.{TellsFaults}
use Rattle.trace_io.specs.Io.{ReadFrom, WrittenTo}
use Rattle.word_parts.specs.Ends.{EndsInOneWay}
use Rattle.std.specs.Prelude.{ℕ, Option, None, Some, Result, Ok, Err}
use Rattle.trace_words.specs.Status.{fault_status}
use Rattle.trace_words.specs.declared.fault.TraceFault.{TraceFault}

-- 1 where no state is what is asked for, and 2 where the trace ends before the first step, or the line, that is asked for
abbrev pub lacking_status : Drawing → ℕ
lacking_status (Answer (First condition)) = 1
lacking_status _ = 2

abbrev pub picture_status : Drawing → Result (Option ℕ) TraceFault → ℕ
picture_status drawing (Ok None) = 0
picture_status drawing (Ok (Some steps)) = lacking_status drawing
picture_status drawing (Err f) = fault_status f

-- a picture of a trace, of its steps or of lives
abbrev pub PicturesTrace : Drawing → ReadFrom → WrittenTo → ℕ → Type 0
PicturesTrace drawing text out n = EndsInOneWay (picture_status drawing) (λ input unread. PictureEnds drawing (pictured_text drawing input)) TellsFaults text out n
