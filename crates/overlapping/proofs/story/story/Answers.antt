use Rattle.std.proofs.Common.{arith, false, inr, is_some, true, ◌≡◌}
use Rattle.vm_base.specs.Plain.{nothing_mapped}
use Rattle.frames.specs.Given.{given_files}
use Rattle.audit.specs.Placing.{rule_of}
use Rattle.overlapping.specs.Story.{most_first}
use Rattle.overlapping.proofs.StoryLemmas.{is_there, never_none, still_wrong, was_wrong}
use Rattle.overlapping.proofs.story.story.Goals as goal

pub returns-then-is_told-clause-long : goal.returns-then-is_told-clause-long
returns-then-is_told-clause-long g c = let there : is_some c.in_ok-found.found ≡ true = cc in is_there c.in_ok-found.found _ there

pub returns-then-count-eq0-clause-long : goal.returns-then-count-eq0-clause-long
returns-then-count-eq0-clause-long g c = never_none c.in_ok-found.found _ (rule_of c.args.any_place) (nothing_mapped (given_files c.args.files.now))
    c.args.calls.now c.counts.count c.if-count-eq0.true c.in_ok-found.ensures.wrong

pub counts-preserved : goal.counts-preserved
counts-preserved g c =
    let none : is_some c.in_ok-found.found ≡ false = cc in
    record {
      few = omega arith;
      most = inr (still_wrong (rule_of c.args.any_place) (nothing_mapped (given_files c.args.files.now)) c.args.calls.now c.counts.count
          (most_first c.args.calls.now c.args.numbers.now) c.counts.invariant.most (was_wrong c.in_ok-found.found _ none c.in_ok-found.ensures.wrong));
    }
