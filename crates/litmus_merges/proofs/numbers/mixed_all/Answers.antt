use Rattle.litmus_merges.proofs.Numbered.{mixed_next}
use Rattle.litmus_merges.proofs.numbers.mixed_all.Goals as goal

pub replies-preserved : goal.replies-preserved
replies-preserved c = record {
  value = mixed_next c.args.number _ _ c.args.replies.now c.replies.k _ c.replies-test.true c.mixed-all.ensures.value c.replies.invariant.value;
  small = c.mixed-all.ensures.small;
}
