use Rattle.std.proofs.Common.{◌≡◌, ◌≤◌, length}
use Rattle.std.specs.Prelude.{vec_len, vec_capacity}
use Rattle.live_space.proofs.making.new_pages.Given as goal

abbrev pub invariant-files : goal.invariant-files
invariant-files g l = record {
  count : vec_len l.pages ≡ l.file-index;
  room : length l.fn.files ≤ vec_capacity l.pages;
}
