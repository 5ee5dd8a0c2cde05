-- What the words behind a core's name say.
use Rattle.std.specs.Prelude.{ℕ, List, Option, None, Some, if◌then◌else◌, codes}
use Rattle.std.specs.Str.{bytes_eq}
use Rattle.vm_base.specs.Pages.{page_of}
use Rattle.trace_text.specs.Words.{Word}
use Rattle.trace_text.specs.Request.{◌>>=◌, ended, front_number, request_of}
use Rattle.trace_text.specs.declared.action.Action.{Action}
use Rattle.trace_text.specs.declared.action.Action.TheVariants.{Call, Go, Take, Flush, Review, GiveUp}
use Rattle.trace_text.specs.declared.action.Action.TheVariants.{Frame, Guess, Whole, Walk, Evict}

-- the number that is the last word
unfoldable pub number_alone : List Word → Option ℕ
number_alone words = do
  first ← front_number words
  ended first.1 first.0

-- the page of the address that is the last word
unfoldable pub page_alone : List Word → Option ℕ
page_alone words = do
  addr ← number_alone words
  Some (page_of addr)

unfoldable pub call_of : List Word → Option Action
call_of words = do
  request ← request_of words
  Some (Call request)

unfoldable pub frame_of : List Word → Option Action
frame_of words = do
  frame ← number_alone words
  Some (Frame frame)

unfoldable pub guess_of : List Word → Option Action
guess_of words = do
  page ← page_alone words
  Some (Guess page)

unfoldable pub walk_of : List Word → Option Action
walk_of words = do
  page ← page_alone words
  Some (Walk page)

unfoldable pub evict_of : List Word → Option Action
evict_of words = do
  page ← page_alone words
  Some (Evict page)

-- an action that one word says
abbrev pub bare_of : Word → Option Action
bare_of name = if bytes_eq name (codes "go") then Some Go
    else if bytes_eq name (codes "take") then Some Take
    else if bytes_eq name (codes "flush") then Some Flush
    else if bytes_eq name (codes "review") then Some Review
    else if bytes_eq name (codes "giveup") then Some GiveUp
    else if bytes_eq name (codes "whole") then Some Whole else None

-- an action, by its name and the words behind it
unfoldable pub action_of : Word → List Word → Option Action
action_of name args = if bytes_eq name (codes "call") then call_of args
    else if bytes_eq name (codes "frame") then frame_of args
    else if bytes_eq name (codes "guess") then guess_of args
    else if bytes_eq name (codes "walk") then walk_of args
    else if bytes_eq name (codes "evict") then evict_of args
    else (bare_of name >>= λ action. ended args action)
