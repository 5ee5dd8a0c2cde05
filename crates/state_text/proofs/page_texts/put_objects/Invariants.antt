use Rattle.std.proofs.Common.{◌≡◌, ◌++◌, length}
use Rattle.std.specs.List.{flat_map}
use Rattle.trace_io.specs.Lines.{lines_of}
use Rattle.state_text.specs.PageTexts.{mapping_json}
use Rattle.state_text.proofs.page_texts.put_objects.Given as goal

abbrev pub invariant-lines : goal.invariant-lines
invariant-lines l = record {
  written : l.out.items ++ flat_map mapping_json (lines_of l.rest) ≡ l.initial.out.items ++ flat_map mapping_json (lines_of l.maps);
}

abbrev pub decreases-lines : goal.decreases-lines
decreases-lines l = length l.rest
