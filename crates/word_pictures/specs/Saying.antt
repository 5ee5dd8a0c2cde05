-- What is said of a trace's states in place of a picture: what differs between two, what has to do with a page, and the first of a kind
use Rattle.std.specs.Prelude.{◌≡◌, ℕ, ◌^◌, ◌⊎◌, ◌++◌, Bool, true, false, List, [], Option, None, Some, codes, decimal, length, max, take}
use Rattle.machine_model.specs.declared.setup.CallLimit.TheVariants.{Usual}
use Rattle.state_changes.specs.Behind.{SaysChanges}
use Rattle.state_changes.specs.Knowing.{known_text}
use Rattle.state_changes.specs.Leads.{IsTold}
use Rattle.state_changes.specs.Marks.{SaysDifference}
use Rattle.state_changes.specs.Pages.{text_behind}
use Rattle.state_changes.specs.Recorded.{Recorded}
use Rattle.state_changes.specs.Seeking.{Seeks}
use Rattle.state_changes.specs.declared.seeking.Sought.{Sought}
use Rattle.state_text.specs.Fronts.{lacking_line, lines_to}
use Rattle.state_text.specs.Traces.{Told, told_text}
use Rattle.state_text.specs.declared.form.Form.TheVariants.{Text}
use Rattle.trace_io.specs.Lines.{lines_of}
use Rattle.trace_words.specs.declared.fault.TraceFault.{TraceFault}
use Rattle.word_parts.specs.declared.asked.LinePair.{LinePair}
use Rattle.word_parts.specs.declared.asked.PageAsked.{PageAsked}
use Rattle.word_parts.specs.declared.asked.Condition.{Condition}
use Rattle.word_parts.specs.declared.asked.Condition.TheVariants.{Stale, Unused, Waits}
use Rattle.word_pictures.specs.Lining.{FailsUpTo}
use Rattle.word_pictures.specs.State.{FailsTo}
use Rattle.word_pictures.specs.declared.saying.Say.{Say}

abbrev pub text_said : Say → List ℕ
text_said s = s.text.items

abbrev pub lacking_said : Say → Option ℕ
lacking_said s = s.lacking

-- ---- two states

-- the text is that of a state to which the lines up to this one lead, or all lines
abbrev pub TellsState : Option ℕ → List ℕ → List ℕ → Type 0
TellsState at input text = (t : Told) × IsTold (lines_to at (lines_of input)) t × (text ≡ told_text Text t)

-- Which lines go and which come between the state behind one line and that behind another, both as `state --at` writes them. A
-- line is lacking where one of both is behind all lines.
pub record SaysBetween (pair : LinePair) (input : List ℕ) (s : Say) : Type 0 where
  pub old : List ℕ
  pub new : List ℕ
  pub is_old : TellsState (Some pair.before) input old
  pub is_new : TellsState (Some pair.after) input new
  pub says : SaysDifference s.text.items old new
  pub lacking : s.lacking ≡ lacking_line (Some (max pair.before pair.after)) (lines_of input)

-- nothing is said for a fault of the lines up to either
abbrev pub FailsBetween : LinePair → List ℕ → TraceFault → Type 0
FailsBetween pair input f = FailsTo (Some pair.before) input f ⊎ FailsTo (Some pair.after) input f

-- ---- a page

-- The lines of the state's text that have to do with the page, each behind the number of the last line of the trace at which it came: below
-- that one `run --state` shows it with a plus.
pub record SaysKnown (page : PageAsked) (input : List ℕ) (s : Say) : Type 0 where
  pub state : List ℕ
  pub is_state : TellsState page.at input state
  pub changes : List (List ℕ)
  pub says_changes : SaysChanges (lines_to page.at (lines_of input)) changes
  pub is : s.text.items ≡ known_text page.addr changes state
  pub lacking : s.lacking ≡ lacking_line page.at (lines_of input)

abbrev pub FailsKnown : PageAsked → List ℕ → TraceFault → Type 0
FailsKnown page input f = FailsTo page.at input f ⊎ FailsUpTo page.at input f

-- ---- the first state of a kind

-- the words by which a state's text shows it: a translation that a message is to take away, a call that awaits other cores, a frame in use
-- that nothing counts any more
abbrev pub words_for : Condition → List ℕ
words_for Stale = codes " stale: "
words_for Waits = codes " awaits cores"
words_for Unused = codes " count 0 global"

-- how many lines there are, where behind none of them the state is such
abbrev pub lacking_sought : Bool → ℕ → Option ℕ
lacking_sought true lines = None
lacking_sought false lines = Some lines

-- the number of lines, and below it the text of the state behind them
abbrev pub sought_text : Sought → List ℕ
sought_text s = codes "line " ++ decimal s.lines ++ codes "\n" ++ s.text.items

abbrev pub TellsSought : Sought → Say → Type 0
TellsSought s say = (say.text.items ≡ sought_text s) × (say.lacking ≡ lacking_sought s.has s.lines)

-- of the states that were recorded
abbrev pub SeeksIn : Condition → List ℕ → Recorded → Say → Type 0
SeeksIn condition input r say = (s : Sought)
    × Seeks (words_for condition) (length (lines_of input)) (λ n. text_behind n (lines_of input) r.moments r.first) s × TellsSought s say

-- The number of the first line behind which the state is such, and below it the text of that state, as `state --at` writes it.
pub record SaysFirst (condition : Condition) (input : List ℕ) (say : Say) : Type 0 where
  pub behind : ℕ → Told
  pub told : (n : ℕ) → IsTold (take n (lines_of input)) (behind n)
  pub sought : Sought
  pub seeks : Seeks (words_for condition) (length (lines_of input)) (λ n. told_text Text (behind n)) sought
  pub tells : TellsSought sought say
