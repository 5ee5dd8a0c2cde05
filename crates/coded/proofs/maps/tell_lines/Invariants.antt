use Rattle.std.proofs.Common.{◌≡◌, length}
use Rattle.coded.specs.Maps.{line_code}
use Rattle.coded.proofs.Listing.{TellsFirst}
use Rattle.coded.proofs.maps.tell_lines.Given as goal

-- the lines so far
abbrev pub invariant-lines : goal.invariant-lines
invariant-lines l = record {
  told : TellsFirst line_code l.lines l.at l.initial.told l.told;
  room : length l.told ≡ length l.initial.told;
}
