-- Which programs the processes of a log ran.
use Rattle.std.specs.Prelude.{ℕ, zero, suc, Bool, true, false, List, [], Option, None, Some, if◌then◌else◌, ◌==◌, ◌&&◌, is_some, length, map, nat_lt}
use Rattle.std.specs.Prelude.{slice_index_or, unwrap_or}
use Rattle.import_forms.specs.Said.{said_of}
use Rattle.import_forms.specs.Speech.{Spoken}
use Rattle.import_forms.specs.declared.said.Said.{Said}
use Rattle.import_forms.specs.declared.said.Said.TheVariants as Says
use Rattle.import_log.specs.Imported.{processes_all, speeches_of}
use Rattle.import_lines.specs.Joining.{call_at}
use Rattle.import_lines.specs.Made.{all_makings, process_of}
use Rattle.import_steps.specs.Names.{name_shown}
use Rattle.import_lines.specs.Quotes.{quoted}
use Rattle.import_lines.specs.declared.made.Making.{Making}
use Rattle.import_log.specs.declared.processes.Process.{Process}
use Rattle.import_log.specs.declared.programs.ProgramFile.{ProgramFile}

-- a program begins
abbrev pub begins : Said → Bool
begins (Says.Asks request) = false
begins (Says.Breaks to) = false
begins (Says.Moves from old to new stays) = false
begins (Says.Makes thread shares joins) = false
begins Says.Begins = true
begins (Says.Keyed request) = false
begins (Says.Sizes number len) = false
begins (Says.Attaches number addr prot) = false
begins (Says.Detaches addr) = false
begins (Says.Clears addr len) = false
begins (Says.Loses lost) = false
begins Says.Ends = false
begins Says.Fails = false
begins Says.Unread = false
begins Says.Other = false

-- the file of the program that a call begins, if it does so
abbrev pub program_in : Option (List ℕ) → Option (List ℕ)
program_in None = None
program_in (Some text) = if begins (said_of text) then Some (quoted text) else None

-- of which process each line's thread is
abbrev pub owners : List Making → List Spoken → List ℕ
owners made all = map (λ s. process_of made s.0) all

-- the process begins a program at line k
abbrev pub begins_at : List Spoken → List ℕ → ℕ → ℕ → Bool
begins_at all owned k number = (slice_index_or owned k 0 == number) && is_some (program_in (call_at all k))

-- the last line among the first n at which the process begins a program
abbrev pub last_begun : List Spoken → List ℕ → ℕ → ℕ → Option ℕ
last_begun all owned zero number = None
last_begun all owned (suc n) number = if begins_at all owned n number then Some n else last_begun all owned n number

-- the file of the program that begins at this line, nothing where there is none
abbrev pub program_at : List Spoken → Option ℕ → List ℕ
program_at all None = []
program_at all (Some k) = unwrap_or (program_in (call_at all k)) []

-- what is shown, in 80 bytes, of the file of the program that the process began last
abbrev pub program_of : List Spoken → List ℕ → ℕ → List ℕ
program_of all owned number = name_shown 80 (program_at all (last_begun all owned (length all) number))

-- that of each process
abbrev pub programs_of : List Spoken → List ℕ → List Process → List (List ℕ)
programs_of all owned ps = map (λ p. program_of all owned p.number) ps

-- where there are several
abbrev pub programs_for : List Spoken → List Making → List Process → List (List ℕ)
programs_for all made ps = if nat_lt (length ps) 2 then [] else programs_of all (owners made all) ps

abbrev pub programs_all : Bool → List Spoken → List (List ℕ)
programs_all joined all = programs_for all (all_makings joined all) (processes_all joined all)

-- of a log
abbrev pub programs_in : Bool → List ℕ → List (List ℕ)
programs_in joined log = programs_all joined (speeches_of log)

-- what the code keeps of a program, as bytes
abbrev pub program_name : ProgramFile → List ℕ
program_name p = p.name.items
