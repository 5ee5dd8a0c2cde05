use Rattle.std.proofs.Common.{ℕ, List, arith, rules, subst}
use Rattle.live_tree.specs.Deciding.{Loses}
use Rattle.live_tree.specs.Shown.{shown}
use Rattle.live_space.proofs.in_call.InCall.commit_acked.Goals as goal

pub commit_frameless-requires : goal.commit_frameless-requires
commit_frameless-requires g c = (
  omega arith,
  (
    c.requires.ready,
    (
      subst (λ (ns : List ℕ). Loses (shown c.args.self.now.held.slots) c.args.change ns) (c.is_empty.ensures.0 (search rules)) c.requires.lost,
      omega (arith, c.requires.room),
    ),
  ),
)
