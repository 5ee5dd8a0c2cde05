use Rattle.std.proofs.Common.{None, arith, rules}
use Rattle.live_pages.proofs.filling.copy_shown.Goals as goal

pub give_copy-requires : goal.give_copy-requires
give_copy-requires g c = (
  omega arith,
  (
    omega arith,
    (
      search rules,
      (
        search rules,
        (
          c.in-Some-lock_these.ensures.each 1 None (omega arith),
          (c.in-Some-lock_these.ensures.each 0 None (omega arith), (search rules, (c.requires.backed, c.requires.caches))),
        ),
      ),
    ),
  ),
)
