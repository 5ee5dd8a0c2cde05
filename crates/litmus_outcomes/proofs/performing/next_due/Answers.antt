use Rattle.std.proofs.Common.{◌≡◌, ◌<◌, ◌⊎◌, inl, inr, ℕ, Some, ap, arith, slice_get, subst, sym, ◌∙◌}
use Rattle.litmus_outcomes.specs.declared.performing.Due.{Due}
use Rattle.litmus_outcomes.specs.declared.performing.Stage.TheVariants.{Over}
use Rattle.litmus_merges.proofs.Lists.{below, get_one, get_read}
use Rattle.litmus_outcomes.proofs.performing.next_due.Goals as goal

pub dues-init : goal.dues-init
dues-init c = λ j other l e same. absurd (omega (arith, l))

pub dues-preserved : goal.dues-preserved
dues-preserved c = λ j other l e same. by j other e same (below j c.dues.k l)
  where
    by : (j : ℕ) (other : Due) → slice_get c.args.dues.now j ≡ Some other → other.core ≡ c.args.core → (j < c.dues.k) ⊎ (j ≡ c.dues.k) → other.stage ≡ Over
    by j other e same (inl lt) = c.dues.invariant j other lt e same
    by j other e same (inr eq) =
        let is = get_one c.args.dues.now c.dues.k c.index-dues-k.result other (get_read c.args.dues.now c.dues.k c.index-dues-k.result c.dues-test.true c.index-dues-k.is)
        (subst (λ (n : ℕ). slice_get c.args.dues.now n ≡ Some other) eq e) in
        ap (λ (x : Due). x.stage) (sym is) ∙ c.is_next.ensures.no c.if-is_next.false (ap (λ (x : Due). x.core) is ∙ same)

pub returns-then-is_next : goal.returns-then-is_next
returns-then-is_next c = (
  c.index-dues-k.result,
  record {
    is = get_read c.args.dues.now c.dues.k c.index-dues-k.result c.dues-test.true c.index-dues-k.is;
    of = c.is_next.ensures.yes c.if-is_next.true;
    earlier = c.dues.invariant;
  },
)
