use Rattle.std.proofs.Common.{◌≡◌, length}
use Rattle.coded.specs.Logs.{entry_code}
use Rattle.coded.proofs.Listing.{TellsFirst}
use Rattle.coded.proofs.logs.tell_entries.Given as goal

-- the entries so far
abbrev pub invariant-entries : goal.invariant-entries
invariant-entries l = record {
  told : TellsFirst (entry_code l.requests) l.log l.at l.initial.told l.told;
  room : length l.told ≡ length l.initial.told;
}
