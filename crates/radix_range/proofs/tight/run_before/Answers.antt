use Rattle.std.proofs.Common.{◌+◌, ◌≤◌, ◌<◌, ◌⊎◌, inl, inr, ⊎_elim, arith}
use Rattle.std.proofs.lemmas.Bool.{cases_lt}
use Rattle.radix_range.specs.Tree.{tree_slots}
use Rattle.radix_range.proofs.NoRoom.{beyond_none, least_among}
use Rattle.radix_range.proofs.tight.run_before.Goals as goal

pub returns-clause-least : goal.returns-clause-least
returns-clause-least g c =
    least_among (tree_slots c.args.root.now) c.args.range c.args.n c.args.range.first c.min-end.result c.first_free_run.result
    (λ r f. f.inside.low) c.first_free_run.ensures.found c.first_free_run.ensures.least

pub returns-clause-none : goal.returns-clause-none
returns-clause-none g c =
    beyond_none (tree_slots c.args.root.now) c.args.range c.args.tight c.args.n c.min-end.result c.first_free_run.result c.requires.tight
    c.requires.few c.requires.pages far c.first_free_run.ensures.none
  where
    far : (c.args.range.end ≤ c.min-end.result) ⊎ (c.args.tight.first + c.args.tight.n ≤ c.min-end.result)
    far = ⊎_elim
        (λ (u : c.min-end.result < c.args.range.end). inr (omega (arith, u, c.requires.high, c.min-end.ensures, c.saturating_add.ensures)))
        (λ (u : c.args.range.end ≤ c.min-end.result). inl u)
        (cases_lt c.min-end.result c.args.range.end)
