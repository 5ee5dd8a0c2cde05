-- What a line is for, by its first word.
use Rattle.std.specs.Prelude.{List, if◌then◌else◌}
use Rattle.trace_text.specs.Words.{Word}
use Rattle.trace_text.specs.Line.{begins_with_file, begins_with_vm}

-- the first word of a line is `vm`, it is `file`, or the line is of events
pub data FirstWord : Type 0 where
  OfSpace : FirstWord
  OfFile : FirstWord
  OfEvents : FirstWord

-- a line declares a space, or a file, or says an event
abbrev pub kind_of : List Word → FirstWord
kind_of words =
    if begins_with_vm words then OfSpace else if begins_with_file words then OfFile else OfEvents
