-- Which threads were made, and by whom; and whose address space a line is about.
use Rattle.std.specs.Prelude.{ℕ, zero, suc, Bool, true, false, ◌&&◌, ◌||◌, List, [], ◌∷◌, ◌++◌, Option, None, Some, if◌then◌else◌, ◌==◌, length}
use Rattle.std.specs.Prelude.{nat_lt, option_map, unwrap_or}
use Rattle.import_lines.specs.Joining.{call_at, speech_at}
use Rattle.import_forms.specs.Said.{said_of}
use Rattle.import_forms.specs.Speech.{Spoken, returned_of}
use Rattle.import_lines.specs.declared.made.Making.{Making}
use Rattle.import_lines.specs.declared.told.CloneLine.{CloneLine}
use Rattle.import_forms.specs.declared.said.Said.{Said}
use Rattle.import_forms.specs.declared.said.Said.TheVariants as Says

-- what the call says that acts at line k
abbrev pub said_at : List Spoken → ℕ → Option Said
said_at all k = option_map said_of (call_at all k)

-- whose line k is
abbrev pub thread_at : List Spoken → ℕ → ℕ
thread_at all k = (speech_at all k).0

-- the thread's last line among the first n
abbrev pub last_line : List Spoken → ℕ → ℕ → Option ℕ
last_line all zero thread = None
last_line all (suc n) thread = if thread_at all n == thread then Some n else last_line all n thread

-- a program begins
abbrev pub starts : Option Said → Bool
starts None = false
starts (Some (Says.Asks request)) = false
starts (Some (Says.Breaks to)) = false
starts (Some (Says.Moves from old to new stays)) = false
starts (Some (Says.Makes thread shares joins)) = false
starts (Some Says.Begins) = true
starts (Some (Says.Keyed request)) = false
starts (Some (Says.Sizes number len)) = false
starts (Some (Says.Attaches number addr prot)) = false
starts (Some (Says.Detaches addr)) = false
starts (Some (Says.Clears addr len)) = false
starts (Some (Says.Loses lost)) = false
starts (Some Says.Ends) = false
starts (Some Says.Fails) = false
starts (Some Says.Unread) = false
starts (Some Says.Other) = false

-- the thread begins a program at line k
abbrev pub starts_at : List Spoken → ℕ → ℕ → Bool
starts_at all thread k = (thread_at all k == thread) && starts (said_at all k)

-- the earlier line, if there is one, and else this one if it will do
abbrev pub or_here : Option ℕ → Bool → ℕ → Option ℕ
or_here (Some earlier) b k = Some earlier
or_here None b k = if b then Some k else None

-- the first line among the first n at which the thread begins a program
abbrev pub first_start : List Spoken → ℕ → ℕ → Option ℕ
first_start all zero thread = None
first_start all (suc n) thread = or_here (first_start all n thread) (starts_at all thread n) n

-- ---- what lines tell of threads that were made

abbrev pub began_by : {T : Type 0} → List Spoken → ℕ → Option T → ℕ
began_by all k None = k
began_by all k (Some r) = unwrap_or (last_line all k (thread_at all k)) k

-- the line in which the call began that acts at line k: where that tells a return, its thread's last line before it
abbrev pub began_at : List Spoken → ℕ → ℕ
began_at all k = began_by all k (returned_of (speech_at all k).1)

-- what line k tells of a thread that was made
abbrev pub telling_of : List Spoken → ℕ → Option Said → Option CloneLine
telling_of all k None = None
telling_of all k (Some (Says.Makes thread shares joins)) =
    Some (record { child = thread; parent = thread_at all k; shares = shares; joins = joins; began = began_at all k })
telling_of all k (Some (Says.Asks request)) = None
telling_of all k (Some (Says.Breaks to)) = None
telling_of all k (Some (Says.Moves from old to new stays)) = None
telling_of all k (Some Says.Begins) = None
telling_of all k (Some (Says.Keyed request)) = None
telling_of all k (Some (Says.Sizes number len)) = None
telling_of all k (Some (Says.Attaches number addr prot)) = None
telling_of all k (Some (Says.Detaches addr)) = None
telling_of all k (Some (Says.Clears addr len)) = None
telling_of all k (Some (Says.Loses lost)) = None
telling_of all k (Some Says.Ends) = None
telling_of all k (Some Says.Fails) = None
telling_of all k (Some Says.Unread) = None
telling_of all k (Some Says.Other) = None

abbrev pub with_telling : List CloneLine → Option CloneLine → List CloneLine
with_telling ts None = ts
with_telling ts (Some t) = ts ++ t ∷ []

-- what the first n lines tell of threads that were made, in order
abbrev pub tellings : List Spoken → ℕ → List CloneLine
tellings all zero = []
tellings all (suc n) = with_telling (tellings all n) (telling_of all n (said_at all n))

-- ---- who made which thread

-- who made a thread, where the list says so
abbrev pub maker_of : List Making → ℕ → Option Making
maker_of [] thread = None
maker_of (m ∷ made) thread = if m.child == thread then Some m else maker_of made thread

abbrev pub first_made : List Making → Making → Option Making → List Making
first_made made m None = made ++ m ∷ []
first_made made m (Some earlier) = made

-- with who made one more thread; of each thread the first that is told counts
abbrev pub with_making : List Making → Making → List Making
with_making made m = first_made made m (maker_of made m.child)

-- a thread with a number is of its maker's process
abbrev pub shares_space : Making → Bool
shares_space m = if m.child == 0 then false else m.shares

-- one of them is
abbrev pub shares_any : List Making → Bool
shares_any [] = false
shares_any (m ∷ made) = if shares_space m then true else shares_any made

-- The line from which on a child has an address space of its own: that in which the call began that made it; or, where it shares its
-- maker's memory, the first line at which it begins a program, and none of the log's where it begins none.
abbrev pub own_from : List Spoken → CloneLine → ℕ
own_from all t = if t.joins then unwrap_or (first_start all (length all) t.child) (length all) else t.began

abbrev pub making_by : List Spoken → CloneLine → Making
making_by all t = record { child = t.child; parent = t.parent; shares = t.shares; joins = t.joins; at = own_from all t }

abbrev pub with_makings : List Spoken → List Making → List CloneLine → List Making
with_makings all made [] = made
with_makings all made (t ∷ ts) = with_makings all (with_making made (making_by all t)) ts

-- those that the lines tell of, each once
abbrev pub makings : List Spoken → List Making
makings all = with_makings all [] (tellings all (length all))

-- a thread of which no line says who made it, as one of process 0
abbrev pub adopted_one : ℕ → Making
adopted_one thread = record { child = thread; parent = 0; shares = true; joins = false; at = 0 }

-- with each thread of the first n lines of which no line says who made it
abbrev pub adopted : List Spoken → List Making → ℕ → List Making
adopted all made zero = made
adopted all made (suc n) = with_making (adopted all made n) (adopted_one (thread_at all n))

-- who made which thread, as all lines say; those of which none says so are of one process only where that was asked for
abbrev pub all_makings : Bool → List Spoken → List Making
all_makings joined all = if joined then adopted all (makings all) (length all) else makings all

-- ---- processes

-- the process of a thread that was made so: its own, or that of its maker
abbrev pub process_by : (ℕ → ℕ) → ℕ → Option Making → ℕ
process_by process thread None = thread
process_by process thread (Some m) = if m.shares then process m.parent else thread

-- after at most n makers: the number of the process's first thread
abbrev pub process_within : List Making → ℕ → ℕ → ℕ
process_within made zero thread = thread
process_within made (suc n) thread = process_by (process_within made n) thread (maker_of made thread)

-- The first thread of a thread's process. So two threads of which no line says who made them are two processes.
abbrev pub process_of : List Making → ℕ → ℕ
process_of made thread = process_within made (length made) thread

-- how a process was made whose address space is its own
abbrev pub fork_of : Option Making → Option Making
fork_of None = None
fork_of (Some m) = if m.shares then None else Some m

-- ---- whose address space a line is about

-- the process itself, or what is said of its maker's where it was made so, and has no address space of its own at line k
abbrev pub space_by : Bool → (ℕ → ℕ) → List Making → ℕ → ℕ → Option Making → ℕ
space_by copies maker made process k None = process
space_by copies maker made process k (Some m) = if (copies || m.joins) && nat_lt k m.at then maker (process_of made m.parent) else process

-- after at most n makers
abbrev pub space_within : Bool → List Making → ℕ → ℕ → ℕ → ℕ
space_within copies made k zero process = process
space_within copies made k (suc n) process =
    space_by copies (space_within copies made k n) made process k (fork_of (maker_of made process))

-- Whose address space the calls of a process change at line k: its own. But a child that shares memory maps for its maker until it
-- begins a program.
abbrev pub space_of : List Making → ℕ → ℕ → ℕ
space_of made k process = space_within false made k (length made) process

-- Whose address space a process has at line k: before it has one of its own, its maker's, whether it shares or copies that.
abbrev pub past_of : List Making → ℕ → ℕ → ℕ
past_of made k process = space_within true made k (length made) process
