use Rattle.std.proofs.Common.{◌≡◌, ◌++◌, drop}
use Rattle.litmus.specs.Lists.{cells_text}
use Rattle.litmus.proofs.lists.add_cells.Given as goal

-- those so far, and those that are left, are all
abbrev pub invariant-loop-reply : goal.invariant-loop-reply
invariant-loop-reply g l = l.out.items ++ cells_text l.at_front (drop l.reply-index l.replies) ≡ l.fn.out.items ++ cells_text l.is_first l.replies
