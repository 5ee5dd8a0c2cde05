-- What the lines of a litmus test come to.
use Rattle.std.specs.Prelude.{◌≡◌, ◌⊎◌, ℕ, suc, Bool, true, false, not, ◌||◌, List, [], ◌∷◌, ◌++◌, length, map, filter}
use Rattle.std.specs.Prelude.{Option, None, Some, Result, Ok, Err, option_map, if◌then◌else◌, ◌==◌, nat_lt, codes, is_some}
use Rattle.std.specs.List.{flat_map, list_any, range_with_len}
use Rattle.vm_base.specs.declared.requests.Request.{Request}
use Rattle.vm_base.specs.Requests.{is_placed}
use Rattle.litmus_merges.specs.declared.asked.Asked.{Asked as Call}
use Rattle.machine_model.specs.declared.setup.SetupFault.{SetupFault}
use Rattle.trace_io.specs.declared.fault.IoFault.TheVariants.{NoMemory}
use Rattle.trace_text.specs.Action.{number_alone}
use Rattle.trace_text.specs.Line.{are_printable, line_of}
use Rattle.trace_text.specs.Words.{Word, words_of}
use Rattle.trace_text.specs.declared.line.Line.{Line}
use Rattle.trace_text.specs.declared.line.Line.TheVariants as Of
use Rattle.trace_words.specs.Declarations.{DeclarationView, asks_for, is_next, with_file, asked_fault}
use Rattle.litmus_text.specs.Facts.{terms_of}
use Rattle.litmus_text.specs.Kinds.{args_of, has_none, has_together, is_maps, kind_of}
use Rattle.litmus_text.specs.Places.{call_at}
use Rattle.litmus_text.specs.declared.facts.Fact.{Fact}
use Rattle.litmus_text.specs.declared.facts.Fact.TheVariants.{Has, Lacks, Shows}
use Rattle.litmus_text.specs.declared.facts.Term.{Term}
use Rattle.litmus_text.specs.declared.faults.LitmusFault.{LitmusFault}
use Rattle.litmus_text.specs.declared.faults.LitmusFault.TheVariants.{BadLine, TooLong, Placed, NoCall, NoFinal, NoVmLine, Setup, NoCalls, Io}
use Rattle.litmus_text.specs.declared.kinds.LineKind.{LineKind}
use Rattle.litmus_text.specs.declared.kinds.LineKind.TheVariants.{Space, File, Together, Final, Clause, Event}
use Rattle.litmus_text.specs.declared.kinds.Quantifier.{Quantifier}
use Rattle.litmus_text.specs.declared.script.Clause.{Clause as KeptClause}
use Rattle.litmus_text.specs.declared.script.LitmusTest.{LitmusTest}

-- a clause: the number of its line, of which outcomes it speaks, and what it says of them
pub record Claim : Type 0 where
  pub line : ℕ
  pub quantifier : Quantifier
  pub terms : List Term

-- What the lines so far say: what they declare; whether a line stands behind the declaration; whether the lists have begun, or the text has
-- no opening; the lines of the declaration and of the opening as they stand; the opening; the calls of the lists; the
-- addresses of `final` lines, and whether one asks for the mappings; and the clauses.
pub record Read : Type 0 where
  pub asked : Option DeclarationView
  pub begun : Bool
  pub together : Bool
  pub front : List ℕ
  pub opening : List Line
  pub calls : List Call
  pub finals : List ℕ
  pub maps : Bool
  pub clauses : List Claim

-- nothing yet, and whether the text has no opening
abbrev pub unread : Bool → Read
unread together = record {
  asked = None;
  begun = false;
  together = together;
  front = [];
  opening = [];
  calls = [];
  finals = [];
  maps = false;
  clauses = [];
}

-- ---- one line

-- the next, if there is no fault
abbrev pub unless : {A : Type 0} → Option LitmusFault → Result A LitmusFault → Result A LitmusFault
unless None next = next
unless (Some f) next = Err f

-- why no machine is made of what is declared
abbrev pub unmade : Option DeclarationView → Option LitmusFault
unmade None = Some NoVmLine
unmade (Some asked) = option_map Setup (asked_fault asked)

abbrev pub cores_of : Option DeclarationView → ℕ
cores_of None = 0
cores_of (Some asked) = asked.cores

-- a line as it stood, behind others
abbrev pub with_line : List ℕ → List ℕ → List ℕ
with_line front line = front ++ line ++ codes "\n"

-- with the line of a declaration
abbrev pub declares : Read → DeclarationView → List ℕ → Read
declares r asked line = record {
  asked = Some asked;
  begun = r.begun;
  together = r.together;
  front = with_line r.front line;
  opening = r.opening;
  calls = r.calls;
  finals = r.finals;
  maps = r.maps;
  clauses = r.clauses;
}

-- with a line of the opening
abbrev pub opens : Read → Line → List ℕ → Read
opens r said line = record {
  asked = r.asked;
  begun = true;
  together = r.together;
  front = with_line r.front line;
  opening = r.opening ++ said ∷ [];
  calls = r.calls;
  finals = r.finals;
  maps = r.maps;
  clauses = r.clauses;
}

-- with what is said behind the opening: that the lists begin, a call of a list, an address, or a clause
abbrev pub goes_on : Read → List Call → List ℕ → List Claim → Read
goes_on r calls finals clauses = record {
  asked = r.asked;
  begun = true;
  together = true;
  front = r.front;
  opening = r.opening;
  calls = r.calls ++ calls;
  finals = r.finals ++ finals;
  maps = r.maps;
  clauses = r.clauses ++ clauses;
}

-- with that the mappings are asked for
abbrev pub asks_maps : Read → Read
asks_maps r = record {
  asked = r.asked;
  begun = true;
  together = true;
  front = r.front;
  opening = r.opening;
  calls = r.calls;
  finals = r.finals;
  maps = true;
  clauses = r.clauses;
}

-- the `vm` line is the first, and else there may be a fault of what is declared
abbrev pub space_after : ℕ → Read → List ℕ → Option DeclarationView → Option Line → Result Read LitmusFault
space_after number r line (Some asked) said = unless (option_map Setup (asked_fault asked)) (Err (BadLine number))
space_after number r line None (Some (Of.Space cores frames calls)) = Ok (declares r (asks_for cores frames calls) line)
space_after number r line None said = Err (BadLine number)

-- the `file` lines stand behind it, in front of all others
abbrev pub file_after : ℕ → Read → List ℕ → Option DeclarationView → Option Line → Result Read LitmusFault
file_after number r line None said = Err NoVmLine
file_after number r line (Some asked) (Some (Of.File n mode len seed)) = if r.begun then Err (BadLine number)
    else if is_next asked n then Ok (declares r (with_file asked (record { mode = mode; len = len; seed = seed })) line)
    else Err (BadLine number)
file_after number r line (Some asked) said = Err (BadLine number)

abbrev pub together_after : ℕ → Read → List Word → Result Read LitmusFault
together_after number r args = if r.together then Err (BadLine number)
    else if has_none args then Ok (goes_on r [] [] []) else Err (BadLine number)

abbrev pub final_after : ℕ → Read → Option ℕ → Result Read LitmusFault
final_after number r None = Err (BadLine number)
final_after number r (Some addr) = if r.together then Ok (goes_on r [] (addr ∷ []) []) else Err (BadLine number)

-- that the mappings are asked for, perhaps once more
abbrev pub maps_after : ℕ → Read → Result Read LitmusFault
maps_after number r = if r.together then Ok (asks_maps r) else Err (BadLine number)

abbrev pub ends_after : ℕ → Read → List Word → Result Read LitmusFault
ends_after number r args = if is_maps args then maps_after number r else final_after number r (number_alone args)

abbrev pub clause_after : ℕ → Read → Quantifier → Option (List Term) → Result Read LitmusFault
clause_after number r quantifier None = Err (BadLine number)
clause_after number r quantifier (Some terms) =
    if r.together then Ok (goes_on r [] [] (record { line = number; quantifier = quantifier; terms = terms } ∷ []))
    else Err (BadLine number)

-- a call of a core's list
abbrev pub call_after : ℕ → Read → ℕ → Request → Result Read LitmusFault
call_after number r core request = if nat_lt core (cores_of r.asked)
    then (if is_placed request then Err (Placed number) else Ok (goes_on r (record { core = core; request = request } ∷ []) [] []))
    else Err (BadLine number)

-- the line of a call, behind the opening
abbrev pub listed_after : ℕ → Read → Option Line → Result Read LitmusFault
listed_after number r (Some (Of.Now core request)) = call_after number r core request
listed_after number r said = Err (BadLine number)

-- the line of an event, in the opening
abbrev pub opened_after : ℕ → Read → List ℕ → Option Line → Result Read LitmusFault
opened_after number r line (Some (Of.Act core action)) = Ok (opens r (Of.Act core action) line)
opened_after number r line (Some (Of.Fold page)) = Ok (opens r (Of.Fold page) line)
opened_after number r line (Some (Of.Finish core)) = Ok (opens r (Of.Finish core) line)
opened_after number r line (Some (Of.Now core request)) = Ok (opens r (Of.Now core request) line)
opened_after number r line said = Err (BadLine number)

abbrev pub event_after : ℕ → Read → List ℕ → Option Line → Result Read LitmusFault
event_after number r line said = if r.together then listed_after number r said else opened_after number r line said

-- by what the line is
abbrev pub kind_after : ℕ → Read → List ℕ → LineKind → Result Read LitmusFault
kind_after number r line Space = space_after number r line r.asked (line_of line)
kind_after number r line File = file_after number r line r.asked (line_of line)
kind_after number r line Together = unless (unmade r.asked) (together_after number r (args_of (words_of line)))
kind_after number r line Final = unless (unmade r.asked) (ends_after number r (args_of (words_of line)))
kind_after number r line (Clause quantifier) =
    unless (unmade r.asked) (clause_after number r quantifier (terms_of (args_of (words_of line))))
kind_after number r line Event = unless (unmade r.asked) (event_after number r line (line_of line))

-- it says nothing
abbrev pub is_blank : Option Line → Bool
is_blank (Some Of.Blank) = true
is_blank said = false

-- what the lines say with one more, which has this number, or why it may not stand there
abbrev pub line_after : ℕ → Read → List ℕ → Result Read LitmusFault
line_after number r line = if nat_lt 256 (length line) then Err (TooLong number)
    else if not (are_printable line) then Err (BadLine number)
    else if is_blank (line_of line) then Ok r else kind_after number r line (kind_of (words_of line))

-- ---- all lines

-- what comes next, if there was no fault
abbrev pub then_on : {A B : Type 0} → Result A LitmusFault → (A → Result B LitmusFault) → Result B LitmusFault
then_on (Err f) next = Err f
then_on (Ok x) next = next x

-- line by line, of which the first has this number
abbrev pub lines_after : ℕ → Read → List (List ℕ) → Result Read LitmusFault
lines_after number r [] = Ok r
lines_after number r (line ∷ lines) = then_on (line_after number r line) (λ s. lines_after (suc number) s lines)

-- those of one core
abbrev pub calls_of : List Call → ℕ → List Call
calls_of calls core = filter (λ call. call.core == core) calls

-- the calls, one core's after another's
abbrev pub by_core : List Call → List Call
by_core calls = flat_map (calls_of calls) (range_with_len 0 64)

abbrev pub with_calls : Read → List Call → Read
with_calls r calls = record {
  asked = r.asked;
  begun = r.begun;
  together = r.together;
  front = r.front;
  opening = r.opening;
  calls = calls;
  finals = r.finals;
  maps = r.maps;
  clauses = r.clauses;
}

-- ---- what clauses name

abbrev pub fact_fault : List Call → List ℕ → ℕ → Fact → Option LitmusFault
fact_fault calls finals line (Has core number reply) = if is_some (call_at calls core number) then None else Some (NoCall line)
fact_fault calls finals line (Lacks core number reply) = if is_some (call_at calls core number) then None else Some (NoCall line)
fact_fault calls finals line (Shows addr shown) = if list_any (λ a. a == addr) finals then None else Some (NoFinal line)

-- the first of two
abbrev pub either : Option LitmusFault → Option LitmusFault → Option LitmusFault
either None other = other
either (Some f) other = Some f

-- of the first that names what isn't there
abbrev pub terms_fault : List Call → List ℕ → ℕ → List Term → Option LitmusFault
terms_fault calls finals line [] = None
terms_fault calls finals line (t ∷ ts) = either (fact_fault calls finals line t.fact) (terms_fault calls finals line ts)

abbrev pub claims_fault : List Call → List ℕ → List Claim → Option LitmusFault
claims_fault calls finals [] = None
claims_fault calls finals (c ∷ cs) = either (terms_fault calls finals c.line c.terms) (claims_fault calls finals cs)

abbrev pub calls_fault : List Call → Option LitmusFault
calls_fault [] = Some NoCalls
calls_fault (c ∷ cs) = None

-- all of it: a machine can be made, the lists have a call, and what clauses name is there
abbrev pub whole : Read → Result Read LitmusFault
whole r = unless (unmade r.asked) (unless (calls_fault r.calls) (unless (claims_fault (by_core r.calls) r.finals r.clauses)
    (Ok (with_calls r (by_core r.calls)))))

-- The litmus test of the lines, or why they are none.
abbrev pub litmus_of : List (List ℕ) → Result Read LitmusFault
litmus_of lines = then_on (lines_after 1 (unread (not (has_together lines))) lines) whole

-- ---- what is kept of it

abbrev pub claim_of : {A : Type 0} → KeptClause A → Claim
claim_of c = record { line = c.line; quantifier = c.quantifier; terms = c.terms.items }

abbrev pub read_of : {A : Type 0} → LitmusTest A → Read
read_of s = record {
  asked = s.declaration;
  begun = s.begun;
  together = s.together;
  front = s.front.items;
  opening = s.opening.items;
  calls = s.calls.items;
  finals = s.finals.items;
  maps = s.maps;
  clauses = map claim_of s.clauses.items;
}

-- what should come comes, but for want of memory
abbrev pub Comes : {T : Type 0} → Result T LitmusFault → Read → Result Read LitmusFault → Type 0
Comes (Ok t) new due = due ≡ Ok new
Comes (Err f) new due = (f ≡ Io NoMemory) ⊎ (due ≡ Err f)
