-- Several files that an import reads as one log, and the files that it writes.
use Rattle.std.specs.Prelude.{◌≡◌, ◌≢◌, ℕ, ◌≤◌, List, ◌++◌, All, Option, codes, decimal, length, map}
use Rattle.word_import.specs.Joined.{IsJoined, all_lines, thread_in, unplaced, untimed}
use Rattle.import_log.specs.declared.each.ProcessTrace.{ProcessTrace}
use Rattle.import_log.specs.declared.import.Ending.TheVariants.{Written}
use denote.Ref.{Bor}

-- The text has the lines of logs of these threads in the order of their times; so many lines have no time, and of so many it isn't told
-- where they belong.
pub record IsGathered (threads : List (Option ℕ)) (text : List ℕ) (count loose : ℕ) : Type 0 where
  pub logs : List (Option ℕ × List ℕ)
  pub named : map (λ f. f.0) logs ≡ threads
  pub joined : IsJoined logs text
  pub timeless : count ≡ untimed (all_lines logs)
  pub placeless : loose ≡ unplaced (all_lines logs)

-- the text is the log that files of these threads come to, of which there is one, or it is told of all lines where they belong
pub record Gathers (threads : List (Option ℕ)) (text : List ℕ) : Type 0 where
  pub count : ℕ
  pub loose : ℕ
  pub whole : IsGathered threads text count loose
  pub some : 1 ≤ length threads
  pub told : 2 ≤ length threads → loose ≡ 0

-- it isn't told of all lines of several files where they belong
pub record AreUntold (threads : List (Option ℕ)) : Type 0 where
  pub text : List ℕ
  pub count : ℕ
  pub loose : ℕ
  pub whole : IsGathered threads text count loose
  pub several : 2 ≤ length threads
  pub untold : loose ≢ 0

-- the thread that a file's name ends with
abbrev pub thread_of : Bor (List ℕ) → Option ℕ
thread_of name = thread_in name.now

-- the trace of a process in a folder
abbrev pub path_in : List ℕ → ℕ → List ℕ
path_in folder number = folder ++ codes "/" ++ decimal number ++ codes ".trace"

-- where a process has a trace, the file of it in the folder has that
abbrev pub IsSaved : (List ℕ → List ℕ → Type 0) → List ℕ → ProcessTrace → Type 0
IsSaved Has folder p = p.ending ≡ Written → Has (path_in folder p.process.number) p.text.items

abbrev pub AreSaved : (List ℕ → List ℕ → Type 0) → List ℕ → List ProcessTrace → Type 0
AreSaved Has folder parts = All (IsSaved Has folder) parts
