-- What comes of words that were parsed: what is read, written and saved in files, and the status.
use Rattle.std.specs.Prelude.{◌≡◌, ◌≢◌, ◌⊎◌, ◌≤◌, ℕ, true, List, [], Option, None, Some, IfSome, IsSome, Result, Ok, Err, length, map, option_map}
use Rattle.clap.specs.Words.{kind_of}
use Rattle.clap.specs.declared.error.Error.{Error}
use Rattle.clap.specs.declared.error.kind.ErrorKind.TheVariants.{DisplayHelp, DisplayVersion}
use Rattle.either.specs.Either.{either}
use Rattle.either.specs.declared.Either.{Either}
use Rattle.import_log.specs.Each.{parted, parts_of}
use Rattle.import_log.specs.declared.each.ProcessTrace.{ProcessTrace}
use Rattle.import_steps.specs.Taking.{nothing_taken}
use Rattle.std.specs.Io.KnownBytes.{Appends}
use Rattle.trace_io.specs.Io.{ReadFrom, WrittenTo}
use Rattle.trace_io.specs.Source.{Reads, Stream}
use Rattle.word_grammar.specs.declared.asking.Command.{Command}
use Rattle.word_grammar.specs.declared.asking.Usage.{Usage}
use Rattle.word_grammar.specs.declared.asking.Usage.TheVariants.{Words, Page, Front, NoSteps, NoLine, NoAddress, ManyFiles}
use Rattle.word_grammar.specs.declared.asking.Work.{Work}
use Rattle.word_grammar.specs.declared.asking.Work.TheVariants.{ImportEach}
use Rattle.word_help.specs.Help.{IsFront, page_of}
use Rattle.word_import.specs.Gathered.{AreSaved, AreUntold, Gathers, thread_of}
use Rattle.word_parts.specs.Input.{IsInput, NamesStandard}
use denote.Ref.{Bor}

-- nothing was written
abbrev pub IsSilent : WrittenTo → Type 0
IsSilent out = (out.after ≡ out.before) × (out.failed ≡ out.had_failed)

-- the status of a write that failed: 141 where the reader of the output has gone, as a shell tells of SIGPIPE
abbrev pub IsFailed : WrittenTo → ℕ → Type 0
IsFailed out n = ((n ≡ 3) ⊎ (n ≡ 141)) × (out.failed ≡ true)

-- a text was written, or a write failed
abbrev pub Shows : List ℕ → WrittenTo → ℕ → Type 0
Shows text out n = ((n ≡ 0) × Appends out.before out.after text) ⊎ IsFailed out n

-- what the words ask the parser for was written; or they are wrong, or memory was refused, and nothing was
abbrev pub TellsWords : Error → WrittenTo → ℕ → Type 0
TellsWords e out n = (((kind_of e ≡ DisplayHelp) ⊎ (kind_of e ≡ DisplayVersion)) × ((text : List ℕ) × Shows text out n))
    ⊎ (IsSilent out × ((n ≡ 2) ⊎ (n ≡ 3)))

-- what is printed in place of what is asked for
abbrev pub TellsUsage : Usage → WrittenTo → ℕ → Type 0
TellsUsage (Words e) out n = TellsWords e out n
TellsUsage (Page topic) out n = Shows (page_of topic) out n
TellsUsage (Front topic) out n = (text : List ℕ) × IsFront (page_of topic) text × Shows text out n
TellsUsage (NoSteps steps) out n = IsSilent out × (n ≡ 2)
TellsUsage NoLine out n = IsSilent out × (n ≡ 2)
TellsUsage NoAddress out n = IsSilent out × (n ≡ 2)
TellsUsage ManyFiles out n = IsSilent out × (n ≡ 2)

-- the text that a name gives, as the words have it
abbrev pub named : Option (Bor (List ℕ)) → Option (List ℕ)
named name = option_map (λ n. n.now) name

-- The bytes to come of a text: of standard input or the file with this name, or of the log that files come to.
abbrev pub Comes : {I O : Type 0} → (I → Option (List ℕ)) → (O → Option (List ℕ)) → I → (List ℕ → O → Type 0)
    → Option (List ℕ) → List (Bor (List ℕ)) → Option (List ℕ) → Type 0
Comes {I} {O} rest rest_of standard Opens name names coming =
    ((i : Either I O) × IsInput standard Opens name i × (coming ≡ either rest rest_of i))
    ⊎ ((text : List ℕ) × Gathers (map thread_of names) text × (coming ≡ Some text))

-- The bytes to come of a list: none, or those of the file with this name.
abbrev pub Lists : {O : Type 0} → (O → Option (List ℕ)) → (List ℕ → O → Type 0) → Option (List ℕ) → Option (List ℕ) → Type 0
Lists {O} rest_of Opens name coming = ((name ≡ None) × (coming ≡ Some []))
    ⊎ ((path : List ℕ) × (file : O) × (name ≡ Some path) × Opens path file × (coming ≡ rest_of file))

-- A task was done: what was read and written is as `Does` says. Where the status is 0, what is saved in files is there,
-- as `Saved` says: an order, and the trace of each process.
pub record Did (Does : ReadFrom → ReadFrom → WrittenTo → ℕ → Type 0) (Saved : List ℕ → List ℕ → Type 0)
    (task : Command) (list text : ReadFrom) (out : WrittenTo) (n : ℕ) : Type 0 where
  pub status : ℕ
  pub parts : List ProcessTrace
  pub does : Does list text out status
  pub order : n ≡ 0 → IfSome task.order (λ name. (order : List ℕ) × (order ≢ []) × Saved name.now order)
  pub found : task.work ≡ ImportEach → status ≢ 3
      → Reads text.before text.after (λ input unread. map parted parts ≡ parts_of nothing_taken input)
  pub saved : n ≡ 0 → IfSome task.folder (λ name. AreSaved Saved name.now parts)
  pub status_is : (n ≡ status) ⊎ (((n ≡ 3) × (status ≡ 0) × (IsSome task.order ⊎ IsSome task.folder)) ⊎ ((n ≡ 141) × (status ≡ 3) × (out.failed ≡ true)))

-- nothing was read yet, and these bytes are to come
abbrev pub IsNew : (Option (List ℕ) → Type 0) → Stream → Type 0
IsNew Coming s = (s.given ≡ []) × Coming s.coming

-- it was done, on a list and a text of which these bytes were to come
pub record IsDone (Does : ReadFrom → ReadFrom → WrittenTo → ℕ → Type 0) (Listed Coming : Option (List ℕ) → Type 0)
    (Saved : List ℕ → List ℕ → Type 0) (task : Command) (out : WrittenTo) (n : ℕ) : Type 0 where
  pub list : ReadFrom
  pub text : ReadFrom
  pub listed : IsNew Listed list.before
  pub read : IsNew Coming text.before
  pub did : Did Does Saved task list text out n

-- A file that is named couldn't be read, or it isn't told of all lines of several files where they belong, and nothing
-- was done.
abbrev pub IsLost : Command → List (Bor (List ℕ)) → WrittenTo → ℕ → Type 0
IsLost task names out n = IsSilent out
    × (((n ≡ 3) × ((NamesStandard (named task.file) → ⊥) ⊎ (IsSome task.maps ⊎ (1 ≤ length names)))) ⊎ ((n ≡ 2) × AreUntold (map thread_of names)))

-- It was done with output of its own, which begins empty. Unless the text or the system failed, all of it is saved.
pub record Saves (Done : WrittenTo → ℕ → Type 0) (Saved : List ℕ → Type 0) (n : ℕ) : Type 0 where
  pub own : WrittenTo
  pub empty : own.before ≡ Some []
  pub status : ℕ
  pub done : Done own status
  pub saved : n ≢ 2 → n ≢ 3 → (text : List ℕ) × (own.after ≡ Some text) × Saved text
  pub status_is : (n ≡ status) ⊎ (n ≡ 3)

-- what may come of a name that the words have: which bytes, of a list by its name, and of a text by its name and those
-- of several files
abbrev pub ListComes : Type 1
ListComes = Option (List ℕ) → Option (List ℕ) → Type 0

abbrev pub TextComes : Type 1
TextComes = Option (List ℕ) → List (Bor (List ℕ)) → Option (List ℕ) → Type 0

-- it ends with its output there, or in the file that is named for it
abbrev pub EndsIn : (WrittenTo → ℕ → Type 0) → (List ℕ → List ℕ → Type 0) → WrittenTo → ℕ → Option (Bor (List ℕ)) → Type 0
EndsIn Done Saved out n None = Done out n
EndsIn Done Saved out n (Some name) = IsSilent out × Saves Done (Saved name.now) n

-- The words were parsed, once, and to a task, which was done or named a file that couldn't be read; or to what is
-- printed in its place.
abbrev pub Ends : (Work → ReadFrom → ReadFrom → WrittenTo → ℕ → Type 0) → ListComes → TextComes
    → (List ℕ → List ℕ → Type 0) → List (Bor (List ℕ)) → WrittenTo → ℕ → Result Command Usage → Type 0
Ends Does Listed Coming Saved names out n (Ok task) =
    EndsIn (λ o k. IsDone (Does task.work) (Listed (named task.maps)) (Coming (named task.file) names) Saved task o k ⊎ IsLost task names o k)
    Saved out n task.output
Ends Does Listed Coming Saved names out n (Err usage) = TellsUsage usage out n

abbrev pub Answers : (Work → ReadFrom → ReadFrom → WrittenTo → ℕ → Type 0) → ListComes → TextComes
    → (List ℕ → List ℕ → Type 0) → WrittenTo → ℕ → Type 0
Answers Does Listed Coming Saved out n = (parsed : Result Command Usage) × (names : List (Bor (List ℕ)))
    × Ends Does Listed Coming Saved names out n parsed
