use Rattle.std.proofs.Common.{◌≡◌, ◌++◌, length, map}
use Rattle.trace_io.specs.Lines.{lines_of}
use Rattle.import_forms.specs.Speech.{speech_of, spoken}
use Rattle.import_forms.proofs.speech.read_speeches.Given as goal

-- those that were read, and then those of the rest
abbrev pub invariant-lines : goal.invariant-lines
invariant-lines l = map spoken l.all.items ++ map speech_of (lines_of l.rest) ≡ map speech_of (lines_of l.log)

abbrev pub decreases-lines : goal.decreases-lines
decreases-lines l = length l.rest
