use Rattle.std.proofs.Common.{◌≡◌, ◌≤◌}
use Rattle.std.specs.Prelude.{vec_len, vec_capacity}
use Rattle.live_space.proofs.making.new_file_pages.Given as goal

abbrev pub invariant-pages : goal.invariant-pages
invariant-pages g l = record {
  count : vec_len l.pages ≡ l.page;
  room : l.count ≤ vec_capacity l.pages;
}
