use Rattle.std.proofs.Common.{◌≡◌, ◌++◌}
use Rattle.orders.specs.Pages.{pages_below}
use Rattle.orders.proofs.splitting.push_pages.Given as goal

-- the pages so far
abbrev pub invariant-pages : goal.invariant-pages
invariant-pages g l = l.parts.items ≡ l.fn.parts.items ++ pages_below l.of l.timed l.page
