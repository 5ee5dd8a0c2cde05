-- The pictures of a trace, and how they end
use Rattle.std.specs.Prelude.{◌≡◌, ℕ, ◌⊎◌, min, List, Option, None, Some, Result, Ok, Err, nat_lt, if◌then◌else◌, ◌&&◌}
use Rattle.std.specs.Io.KnownBytes.{Keeps, Appends}
use Rattle.machine_model.specs.declared.setup.CallLimit.{CallLimit}
use Rattle.machine_model.specs.declared.setup.CallLimit.TheVariants.{Usual, Long}
use Rattle.draw_lives.specs.Calls.{has_calls}
use Rattle.draw_lives.specs.Histories.{history_text}
use Rattle.draw_lives.specs.Lives.{lives_text}
use Rattle.machine_model.specs.World.{World}
use Rattle.machine_model.specs.declared.event.Event.{Event}
use Rattle.machine_model.specs.declared.event.Outcome.{Outcome}
use Rattle.draw_steps.specs.Canvas.{picture_text}
use Rattle.draw_steps.specs.Places.{view_of}
use Rattle.word_parts.specs.declared.asked.Drawing.{Drawing}
use Rattle.word_parts.specs.declared.asked.Drawing.TheVariants.{Lines, Steps, Lives, State, Objects, History, Answer, Page, Changes as Changed, Listing}
use Rattle.word_parts.specs.declared.asked.Question.{Question}
use Rattle.word_parts.specs.declared.asked.Question.TheVariants.{Between, First, Page as OfPage}
use Rattle.word_pictures.specs.Saying.{FailsBetween, FailsKnown, SaysBetween, SaysFirst, SaysKnown, lacking_said, text_said}
use Rattle.word_pictures.specs.Changing.{SaysStates, as_it_is, lacking_change}
use Rattle.word_pictures.specs.Lining.{FailsUpTo, Lined, lacking_of, picture_drawn}
use Rattle.word_pictures.specs.Listing.{FailsToList, Listed, lacking_nothing}
use Rattle.word_pictures.specs.Lists.{named_list}
use Rattle.word_pictures.specs.Notes.{traced_text}
use Rattle.draw_records.specs.Changes.{Changes, ChangesRecorded, nothing_changed}
use Rattle.draw_records.specs.Looking.{recorded}
use Rattle.draw_records.specs.Recording.{Recording, nothing_recorded}
use Rattle.trace_words.specs.declared.fault.TraceFault.{TraceFault}
use Rattle.trace_words.specs.declared.fault.TraceFault.TheVariants.{BadLine, TooLong, NoVmLine, Setup, NoMemory, ReadFailed, WriteFailed}
use Rattle.trace_words.specs.declared.show.Show.{Show}
use Rattle.trace_words.specs.declared.show.Show.TheVariants.{Outcomes}
use Rattle.trace.specs.Ends.{Completes, Stops}
use Rattle.trace.specs.Seen.{IsSeen}
use Rattle.state_text.specs.declared.form.Form.TheVariants.{Json, Text}
use Rattle.state_text.specs.Traces.{told_text}
use Rattle.state_changes.specs.Leads.{IsTold}
use Rattle.state_text.specs.Fronts.{lines_to}
use Rattle.word_pictures.specs.Stepping.{Paged, lacking_page, page_written}
use Rattle.word_pictures.specs.State.{FailsTo, lacking_state}
use Rattle.trace_io.specs.Lines.{lines_of}
use Rattle.trace_io.specs.Sink.{AppendsFront}
use Rattle.watched.specs.Watching.{makes}

-- the picture of what was recorded of the steps from the first to the last, or to that of the run, with names that the trace has
abbrev pub picture_of : ℕ → ℕ → List ℕ → Recording → List ℕ
picture_of first last trace r = picture_text (view_of (min r.cores 64) first (min last r.step)) trace r.moments

-- the lives of what was mapped in the run
abbrev pub lives_of : List ℕ → Changes → List ℕ
lives_of trace r = lives_text r.steps trace r.moments

-- How many steps there are, where the first of those that are asked for is behind them all. A picture from step 1 on is never
-- without steps in this sense.
abbrev pub lacking : ℕ → Recording → Option ℕ
lacking first r = if nat_lt 1 first && nat_lt r.step first then Some r.step else None

-- there are always lives to show
abbrev pub lacking_none : Changes → Option ℕ
lacking_none r = None

-- the text goes out, but where the steps that are asked for are lacking
abbrev pub ShowsText : Option ℕ → List ℕ → Option (List ℕ) → Option (List ℕ) → Type 0
ShowsText None text old new = Appends old new text
ShowsText (Some steps) text old new = Keeps old new

-- no picture comes of the trace: for a fault of it, for want of memory, or since it couldn't be read
abbrev pub Fails : CallLimit → List ℕ → TraceFault → Type 0
Fails limit input f = ((unread : List ℕ) × Stops limit Outcomes input unread None None f) ⊎ ((f ≡ NoMemory) ⊎ (f ≡ ReadFailed))

-- The text of what came of all lines was written, or told how many steps there are, where those asked for are lacking. After a fault of
-- the trace, or where memory was wanting, nothing was; after a write or a flush that failed nothing was, or a front of the text.
abbrev pub TextEnds : {S : Type 0} → (S → Type 0) → (TraceFault → Type 0) → (S → Option ℕ) → (S → List ℕ)
    → Option (List ℕ) → Option (List ℕ) → Result (Option ℕ) TraceFault → Type 0
TextEnds {S} Comes Faults lacks text old new (Ok x) = (r : S) × Comes r × (x ≡ lacks r) × ShowsText x (text r) old new
TextEnds {S} Comes Faults lacks text old new (Err f) = (Faults f × Keeps old new)
    ⊎ ((f ≡ WriteFailed) × (Keeps old new ⊎ ((r : S) × Comes r × AppendsFront old new (text r))))

-- all lines were acted on beside one who began so, and is this at the end
abbrev pub Watched : {S : Type 0} → (S → World → Event → Outcome → World → S → Type 0) → S → List ℕ → S → Type 0
Watched after one input r = IsSeen after one r Outcomes input None None

-- of a history: the picture of its calls; there is none for want of memory, or since the text couldn't be read, or has no call
abbrev pub IsHistory : List ℕ → List ℕ → Type 0
IsHistory input text = text ≡ history_text input

abbrev pub lacking_calls : List ℕ → List ℕ → Option ℕ
lacking_calls input text = if has_calls input then None else Some 0

abbrev pub LacksMemory : TraceFault → Type 0
LacksMemory f = (f ≡ NoMemory) ⊎ (f ≡ ReadFailed)

-- the answer to a question about the states: what differs between two of them, what has to do with a page, or the first that is like this
abbrev pub AnswerEnds : Question → List ℕ → Option (List ℕ) → Option (List ℕ) → Result (Option ℕ) TraceFault → Type 0
AnswerEnds (Between pair) input old new r = TextEnds (SaysBetween pair input) (FailsBetween pair input) lacking_said text_said old new r
AnswerEnds (OfPage page) input old new r = TextEnds (SaysKnown page input) (FailsKnown page input) lacking_said text_said old new r
AnswerEnds (First condition) input old new r = TextEnds (SaysFirst condition input) (Fails Usual input) lacking_said text_said old new r

-- beside a recorder of columns it is the picture of the lines up to the last, from the first on; beside one of some steps that of what
-- happened in them, beside one of changes that of lives; in place of a picture
-- there may be the text of the state to which the lines, or the first of them, lead, or the same as JSON, the page that steps through them,
-- each of them with what it changes, or a list of the mappings at the end
-- with the names of files
abbrev pub PictureEnds : Drawing → List ℕ → Option (List ℕ) → Option (List ℕ) → Result (Option ℕ) TraceFault → Type 0
PictureEnds (Lines lines) input old new r = TextEnds (Lined lines input) (FailsUpTo (Some lines.last) input) (lacking_of lines) picture_drawn old new r
PictureEnds (Steps steps) input old new r = TextEnds (Watched (makes recorded) (nothing_recorded steps.first steps.last) input) (Fails Usual input)
    (lacking steps.first) (picture_of steps.first steps.last input) old new r
PictureEnds (State at) input old new r = TextEnds (IsTold (lines_to at (lines_of input))) (FailsTo at input)
    (lacking_state at (lines_of input)) (told_text Text) old new r
PictureEnds (Objects at) input old new r = TextEnds (IsTold (lines_to at (lines_of input))) (FailsTo at input)
    (lacking_state at (lines_of input)) (told_text Json) old new r
PictureEnds History input old new r = TextEnds (IsHistory input) LacksMemory (lacking_calls input) as_it_is old new r
PictureEnds (Answer question) input old new r = AnswerEnds question input old new r
PictureEnds Page input old new r = TextEnds (Paged input) (Fails Usual input) lacking_page (page_written input) old new r
PictureEnds (Changed shows) input old new r = TextEnds (SaysStates shows input) (Fails Usual input) lacking_change as_it_is old new r
PictureEnds Lives input old new r = TextEnds (Watched ChangesRecorded nothing_changed input) (Fails Long input) lacking_none (lives_of input) old new r
PictureEnds (Listing limit) input old new r = TextEnds (Listed limit input) (FailsToList limit input) lacking_nothing (named_list input) old new r

-- the trace that is pictured: for a picture of lines, of steps or of lives, what the text tells, which may have notes
abbrev pub pictured_text : Drawing → List ℕ → List ℕ
pictured_text (Lines lines) text = traced_text text
pictured_text (Steps steps) text = traced_text text
pictured_text Lives text = traced_text text
pictured_text (State at) text = text
pictured_text (Objects at) text = text
pictured_text History text = text
pictured_text (Answer question) text = text
pictured_text Page text = text
pictured_text (Changed shows) text = text
pictured_text (Listing limit) text = text

-- the fault of a replay in memory: it can be read and written, so where it can't, there was no memory
abbrev pub in_memory : TraceFault → TraceFault
in_memory (BadLine number) = BadLine number
in_memory (TooLong number) = TooLong number
in_memory NoVmLine = NoVmLine
in_memory (Setup fault) = Setup fault
in_memory ReadFailed = NoMemory
in_memory NoMemory = NoMemory
in_memory WriteFailed = NoMemory

-- what a watching of the trace came to
abbrev pub Records : {S : Type 0} → (S → World → Event → Outcome → World → S → Type 0) → S → CallLimit → List ℕ
    → Result S TraceFault → Type 0
Records after one limit input (Ok r) = Watched after one input r
Records after one limit input (Err f) = Fails limit input f

-- the same of a replay that shows this
abbrev pub RecordsShown : {S : Type 0} → (S → World → Event → Outcome → World → S → Type 0) → S → Show → CallLimit → List ℕ
    → Option (List ℕ) → Option (List ℕ) → Result S TraceFault → Type 0
RecordsShown after one show limit input old new (Ok r) = IsSeen after one r show input old new × Completes limit show input old new
RecordsShown after one show limit input old new (Err f) = Fails limit input f
