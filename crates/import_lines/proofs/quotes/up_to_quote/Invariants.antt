use Rattle.std.proofs.Common.{◌≡◌, ◌≤◌, ◌-◌, ◌++◌, length, drop, take}
use Rattle.import_lines.specs.Quotes.{up_to_quote}
use Rattle.import_lines.proofs.quotes.up_to_quote.Given as goal

abbrev pub invariant-bytes : goal.invariant-bytes
invariant-bytes l = record {
  within : l.count ≤ length l.text;
  same : take l.count l.text ++ up_to_quote (drop l.count l.text) ≡ up_to_quote l.text;
}

abbrev pub decreases-bytes : goal.decreases-bytes
decreases-bytes l = length l.text - l.count
