use Rattle.std.proofs.Common.{◌≡◌, ◌++◌, length}
use Rattle.std.specs.List.{flat_map}
use Rattle.trace_io.specs.Lines.{lines_of}
use Rattle.word_pictures.specs.Lists.{named_line, named_list}
use Rattle.word_pictures.proofs.lists.put_named.Given as goal

abbrev pub invariant-lines : goal.invariant-lines
invariant-lines l = l.out.items ++ flat_map (named_line l.trace) (lines_of l.rest) ≡ l.initial.out.items ++ named_list l.trace l.list

abbrev pub decreases-lines : goal.decreases-lines
decreases-lines l = length l.rest
