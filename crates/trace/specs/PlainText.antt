-- The text of a trace up to where a call runs beside another, as the plain page map and the users of
-- its pages give it; and what comes behind that text, the log or the list of mappings
use Rattle.std.specs.Prelude.{◌≡◌, ◌≢◌, ℕ, ◌+◌, pred, ◌<◌, ◌⊎◌, ◌↔◌, ◌==◌, nat_lt, cond, if◌then◌else◌}
use Rattle.std.specs.Prelude.{true, false, List, [], ◌∷◌, ◌++◌, length, Option, None, Some}
use Rattle.vm_base.specs.declared.log.Entry.{Entry}
use Rattle.vm_base.specs.declared.log.Entry.TheVariants.{Answer, Detach}
use Rattle.vm_base.specs.declared.replies.Reply.{Reply}
use Rattle.vm_base.specs.declared.replies.Reply.TheVariants.{NoFrame, NoMemory}
use Rattle.vm_base.specs.declared.requests.Request.{Request}
use Rattle.vm_base.specs.Cores.{members}
use Rattle.vm_base.specs.Functions.{put}
use Rattle.vm_base.specs.Log.{Replays, RepliesBy}
use Rattle.vm_base.specs.Plain.{File as OpenFile, Plain, file_with, nothing_mapped}
use Rattle.vm_base.specs.Requests.{is_access}
use Rattle.vm_base.specs.Users.{Users, users_after}
use Rattle.slot_lock.specs.declared.map_list.MapLine.{MapLine}
use Rattle.slot_lock.specs.MapList.{IsMapList, plain_metas}
use Rattle.trace_text.specs.Grammar.{BytesSay}
use Rattle.trace_text.specs.Line.{seeded}
use Rattle.trace_text.specs.Lists.{log_text}
use Rattle.trace_text.specs.Printing.{acks_text, full_text, idle_text, reply_text, step_text}
use Rattle.trace_text.specs.declared.action.Action.{Action}
use Rattle.trace_text.specs.declared.action.Action.TheVariants as By
use Rattle.trace_text.specs.declared.line.Line.{Line}
use Rattle.trace_text.specs.declared.line.Line.TheVariants.{Blank, Space, File, Act, Fold, Finish, Now}
use Rattle.trace_words.specs.declared.show.Show.{Show}
use Rattle.trace_words.specs.declared.show.Show.TheVariants.{Outcomes, OutcomesAndLog, Maps}
use Rattle.trace_text.specs.Listing.{maps_text}
use Rattle.vm_base.specs.Places.{IsFirstPlace}

-- A call that waits: whose it is, what it asks for, and how many takes each core still has before
-- it
pub record Open : Type 0 where
  pub core : ℕ
  pub request : Request
  pub takes : ℕ → ℕ

-- How far a trace has come: the cores, the frames and the calls that its vm line allows, the files
-- as their lines open them, the requests of the calls begun and the replies handed out, both in
-- order, how many of those requests are loads, stores and fetches, the plain page map, the users of
-- its pages, and the call that waits, if there is one.
pub record Reached : Type 0 where
  pub cores : ℕ
  pub frames : ℕ
  pub calls : ℕ
  pub files : ℕ → Option OpenFile
  pub requests : List Request
  pub replies : List Reply
  pub accesses : ℕ
  pub plain : Plain
  pub users : Users
  pub waiting : Option Open

-- before the first line
abbrev pub nothing_reached : Reached
nothing_reached = record {
  cores = 0;
  frames = 0;
  calls = 0;
  files = λ n. None;
  requests = [];
  replies = [];
  accesses = 0;
  plain = nothing_mapped (λ n. None);
  users = λ p c. false;
  waiting = None;
}

-- nothing happens
abbrev pub Idles : Reached → Reached → List ℕ → Type 0
Idles s r text = (r ≡ s) × (text ≡ idle_text)

-- ---- a call

-- The request has this reply, and the plain map and the users go on. The reply is the first of that
-- map's: a private page that has shown its file's page gets a copy before a store to it that is
-- done, and a mapping that leaves its place open is at its hint, if that is free, else at the least
-- room of its core's window. It is never "no memory". "No frame" may answer an access that the map
-- would serve, and changes nothing; it comes only where more accesses were made than there are
-- frames.
pub record IsAnswered (s : Reached) (core : ℕ) (request : Request) (reply : Reply) (r : Reached)
    (text : List ℕ) : Type 0 where
  pub after : Plain
  pub replies : RepliesBy IsFirstPlace s.plain core request reply after
  pub given : reply ≢ NoMemory
  pub framed : reply ≡ NoFrame → s.frames < s.accesses
  pub next : r ≡ record s {
    replies = s.replies ++ reply ∷ [];
    plain = after;
    users = users_after s.plain core request reply s.users;
    waiting = None;
  }
  pub tells : text ≡ reply_text reply

-- core d, another one, uses a page that the reply leaves without users
abbrev pub IsDropped : Reached → ℕ → Request → Reply → ℕ → Type 0
IsDropped s core request reply d = (d ≢ core) × ((p : ℕ) × (s.users p d ≡ true)
    × (users_after s.plain core request reply s.users p d ≡ false))

-- the reply drops no other core: it is given at once
abbrev pub AnswersAtOnce : Reached → ℕ → Request → Reached → List ℕ → Type 0
AnswersAtOnce s core request r text =
    (reply : Reply) × IsAnswered s core request reply r text
    × ((d : ℕ) → IsDropped s core request reply d → ⊥)

-- The reply that the map would give drops some cores: the call waits for two takes of each of them.
-- (A store whose page is to get a copy drops just the other users of the page.)
pub record IsHeldUp (s : Reached) (core : ℕ) (request : Request) (r : Reached)
    (text : List ℕ) : Type 0 where
  pub reply : Reply
  pub after : Plain
  pub replies : RepliesBy IsFirstPlace s.plain core request reply after
  pub set : ℕ
  pub some : (d : ℕ) × (members set d ≡ true)
  pub exact : (d : ℕ) → (members set d ≡ true) ↔ IsDropped s core request reply d
  pub next : r ≡ record s {
    waiting = Some
        (record { core = core; request = request; takes = λ d. if members set d then 2 else 0 });
  }
  pub tells : text ≡ acks_text set

-- one call more has begun
abbrev pub one_more : Reached → Request → Reached
one_more s request = record s {
  requests = s.requests ++ request ∷ [];
  accesses = s.accesses + (if is_access request then 1 else 0);
}

-- a core that the space lacks begins no call, and past the limit of calls none begins
abbrev pub NowAnswers : Reached → ℕ → Request → Reached → List ℕ → Type 0
NowAnswers s core request r text =
    cond (nat_lt core s.cores)
    (cond (nat_lt (length s.requests) s.calls)
    (AnswersAtOnce (one_more s request) core request r text
    ⊎ IsHeldUp (one_more s request) core request r text)
    ((r ≡ s) × (text ≡ full_text)))
    (Idles s r text)

-- ---- a call that waits

-- it goes on to wait for the cores that have a take before them
pub record IsStillHeldUp (s : Reached) (o : Open) (r : Reached) (text : List ℕ) : Type 0 where
  pub set : ℕ
  pub some : (d : ℕ) × (members set d ≡ true)
  pub exact : (d : ℕ) → (members set d ≡ true) ↔ (0 < o.takes d)
  pub next : r ≡ s
  pub tells : text ≡ acks_text set

-- no core has a take before it any more
abbrev pub AwaitsNobody : Open → Type 0
AwaitsNobody o = (d : ℕ) → o.takes d ≡ 0

-- once it awaits nobody, it is answered: it has a frame if it needs one
abbrev pub OpenAnswers : Reached → Open → Reached → List ℕ → Type 0
OpenAnswers s o r text =
    ((reply : Reply) × IsAnswered s o.core o.request reply r text × (reply ≢ NoFrame)
    × AwaitsNobody o)
    ⊎ IsStillHeldUp s o r text

-- only the core whose call waits has something to finish
abbrev pub FinishAnswers : Reached → Option Open → ℕ → Reached → List ℕ → Type 0
FinishAnswers s None core r text = Idles s r text
FinishAnswers s (Some o) core r text =
    cond (core == o.core) (OpenAnswers s o r text) (Idles s r text)

-- only a core that has a take before it takes
abbrev pub TakeAnswers : Reached → Option Open → ℕ → Reached → List ℕ → Type 0
TakeAnswers s None core r text = Idles s r text
TakeAnswers s (Some o) core r text =
    cond (nat_lt 0 (o.takes core))
    ((r ≡ record s { waiting = Some (record o { takes = put o.takes core (pred (o.takes core)) }) })
    × (text ≡ step_text))
    (Idles s r text)

-- ---- a line

-- a step or none: no part of the map tells which
abbrev pub MayStep : Reached → Reached → List ℕ → Type 0
MayStep s r text = (r ≡ s) × ((text ≡ step_text) ⊎ (text ≡ idle_text))

-- the same of a core; one that the space lacks does nothing
abbrev pub CoreMayStep : Reached → ℕ → Reached → List ℕ → Type 0
CoreMayStep s core r text = cond (nat_lt core s.cores) (MayStep s r text) (Idles s r text)

-- what an event of a core gives, if it is no step of a call
abbrev pub ActAnswers : Reached → ℕ → Action → Reached → List ℕ → Type 0
ActAnswers s core (By.Call request) r text = ⊥
ActAnswers s core By.Go r text = ⊥
ActAnswers s core By.Take r text = TakeAnswers s s.waiting core r text
ActAnswers s core (By.Frame frame) r text = Idles s r text
ActAnswers s core By.GiveUp r text = Idles s r text
ActAnswers s core By.Flush r text = CoreMayStep s core r text
ActAnswers s core By.Review r text = CoreMayStep s core r text
ActAnswers s core (By.Guess page) r text = Idles s r text
ActAnswers s core By.Whole r text = Idles s r text
ActAnswers s core (By.Walk page) r text = CoreMayStep s core r text
ActAnswers s core (By.Evict page) r text = CoreMayStep s core r text

-- the files, and the map's, with the one that a line opens
abbrev pub with_opened : Reached → ℕ → OpenFile → Reached
with_opened s n file = record s {
  files = put s.files n (Some file);
  plain = record s.plain { file = put s.plain.file n (Some file) };
}

-- What a line gives, and how far the trace has come then. No line gives `stuck`: in each case the
-- text is none, or that of a step, of a reply, of a wait for acknowledgements, `idle` or `full`.
abbrev pub LineAnswers : Reached → Line → Reached → List ℕ → Type 0
LineAnswers s Blank r text = (r ≡ s) × (text ≡ [])
LineAnswers s (Space cores frames calls) r text =
    (r ≡ record s { cores = cores; frames = frames; calls = calls }) × (text ≡ [])
LineAnswers s (File n mode len seed) r text =
    (r ≡ with_opened s n (file_with mode (seeded len seed))) × (text ≡ [])
LineAnswers s (Finish core) r text = FinishAnswers s s.waiting core r text
LineAnswers s (Now core request) r text = NowAnswers s core request r text
LineAnswers s (Act core action) r text = ActAnswers s core action r text
LineAnswers s (Fold page) r text = MayStep s r text

-- A line that takes a call apart; a call of a line while another waits; or a store that awaits
-- nobody any more (no other access waits) is given up.
abbrev pub Disturbs : Option Open → Line → Type 0
Disturbs waiting (Act core (By.Call request)) = Unit {0}
Disturbs waiting (Act core By.Go) = Unit {0}
Disturbs (Some o) (Now core request) = Unit {0}
Disturbs (Some o) (Act core By.GiveUp) =
    (core ≡ o.core) × (is_access o.request ≡ true) × AwaitsNobody o
Disturbs waiting line = ⊥

-- The text of the lines, one after another, and what holds of how far the trace has come at its end
-- (End). From the first line on that disturbs a call, nothing is said.
abbrev pub AllAnswer : (Reached → Type 0) → Reached → List (List ℕ) → List ℕ → Type 0
AllAnswer End s [] text = (text ≡ []) × End s
AllAnswer End s (line ∷ lines) text = (said : Line) × BytesSay said line × (Disturbs s.waiting said
    ⊎ ((r : Reached) × (front : List ℕ) × (rest : List ℕ) × (text ≡ front ++ rest)
    × LineAnswers s said r front × AllAnswer End r lines rest))

-- ---- behind the lines

-- the replies in a log, in order
abbrev pub replies_in : List Entry → List Reply
replies_in [] = []
replies_in (Answer step call core reply ∷ log) = reply ∷ replies_in log
replies_in (Detach step call page ∷ log) = replies_in log

-- The log of such a trace: its replies are those that the lines gave, in order. And it is legal:
-- applied entry by entry to no mappings and the files as they were opened, each reply as that to
-- its call's request, it leads to the plain page map that the lines reach.
pub record IsLogOf (r : Reached) (log : List Entry) : Type 0 where
  pub replies : replies_in log ≡ r.replies
  pub legal : Replays r.requests (nothing_mapped r.files) log r.plain

-- What comes behind the text, where the machine has this log: nothing, the lines of that log, or the
-- list of all mappings of that plain page map.
abbrev pub IsPlainBehind : Show → List Entry → List ℕ → Reached → Type 0
IsPlainBehind Outcomes log behind r = behind ≡ []
IsPlainBehind OutcomesAndLog log behind r = (behind ≡ log_text log) × IsLogOf r log
IsPlainBehind Maps log behind r =
    (lines : List MapLine) × IsMapList (plain_metas r.plain) lines × (behind ≡ maps_text lines)
