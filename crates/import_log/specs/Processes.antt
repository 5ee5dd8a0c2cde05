-- The processes of a log, and how much each asks of its address space.
use Rattle.std.specs.Prelude.{ℕ, zero, suc, ◌+◌, ◌-◌, ◌^◌, Bool, true, false, List, [], ◌∷◌, Option, None, Some, if◌then◌else◌, ◌==◌, min, nat_lt, slice_get}
use Rattle.import_forms.specs.Speech.{Spoken}
use Rattle.import_lines.specs.Joining.{speech_at}
use Rattle.import_lines.specs.Made.{process_of, said_at}
use Rattle.import_lines.specs.declared.made.Making.{Making}
use Rattle.import_log.specs.declared.processes.Process.{Process}
use Rattle.import_forms.specs.declared.said.Said.{Said}
use Rattle.import_forms.specs.declared.said.Said.TheVariants as Says

-- mmap, munmap, mprotect, brk, mremap, shmat and shmdt ask for something of the address space
abbrev pub asks : Option Said → Bool
asks None = false
asks (Some (Says.Asks request)) = true
asks (Some (Says.Breaks to)) = true
asks (Some (Says.Moves from old to new stays)) = true
asks (Some (Says.Makes thread shares joins)) = false
asks (Some Says.Begins) = false
asks (Some (Says.Keyed request)) = true
asks (Some (Says.Sizes number len)) = false
asks (Some (Says.Attaches number addr prot)) = true
asks (Some (Says.Detaches addr)) = true
asks (Some (Says.Clears addr len)) = false
asks (Some (Says.Loses lost)) = false
asks (Some Says.Ends) = false
asks (Some Says.Fails) = false
asks (Some Says.Unread) = false
asks (Some Says.Other) = false

-- one request more, if the line makes one
abbrev pub with_request : Process → Bool → Process
with_request p asks = if asks then record { number = p.number; requests = min (p.requests + 1) (2 ^ 64 - 1) } else p

abbrev pub one_later : Option ℕ → Option ℕ
one_later None = None
one_later (Some n) = Some (suc n)

-- where the process stands, if it is there
abbrev pub place_of : ℕ → List Process → Option ℕ
place_of number [] = None
place_of number (p ∷ ps) = if p.number == number then Some 0 else one_later (place_of number ps)

-- with a line of the process
abbrev pub with_line : List Process → ℕ → Bool → List Process
with_line [] number asks = with_request (record { number = number; requests = 0 }) asks ∷ []
with_line (p ∷ ps) number asks = if p.number == number then with_request p asks ∷ ps else p ∷ with_line ps number asks

-- the processes of the first n lines, in the order of their first lines
abbrev pub processes : List Spoken → List Making → ℕ → List Process
processes all made zero = []
processes all made (suc n) = with_line (processes all made n) (process_of made (speech_at all n).0) (asks (said_at all n))

-- the one with more requests, the first of two with as many
abbrev pub best_of : Process → List Process → Process
best_of best [] = best
best_of best (p ∷ ps) = best_of (if nat_lt best.requests p.requests then p else best) ps

abbrev pub process_at : Option Process → Process
process_at None = record { number = 0; requests = 0 }
process_at (Some p) = p

-- the number of the one with the most requests, the first of several
abbrev pub busiest : List Process → ℕ
busiest ps = (best_of (process_at (slice_get ps 0)) ps).number

-- the process of the thread that was named, else the one with the most requests
abbrev pub chosen : Option ℕ → List Making → List Process → ℕ
chosen (Some thread) made ps = process_of made thread
chosen None made ps = busiest ps

-- a line is about the thread that was named
abbrev pub is_there : Option ℕ → List Spoken → Bool
is_there None all = true
is_there (Some thread) [] = false
is_there (Some thread) (s ∷ later) = if s.0 == thread then true else is_there (Some thread) later
