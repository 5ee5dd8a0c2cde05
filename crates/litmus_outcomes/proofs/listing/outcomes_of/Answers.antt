use Rattle.std.proofs.Common.{◌≡◌, Some, rules, slice_get, subst, sym}
use Rattle.trace_words.specs.Declarations.{made_by}
use Rattle.litmus_merges.proofs.Lists.{get_read}
use Rattle.litmus_outcomes.proofs.Assembled.{listed_more, listed_none, seen_more, seen_none}
use Rattle.litmus_outcomes.proofs.listing.outcomes_of.Goals as goal

pub ends-init : goal.ends-init
ends-init g c = record {
  count = search rules;
  each = listed_none c.args.ends.now c.new-list.result.items (search rules);
  seen = λ t leads. seen_none (made_by c.args.declared.now) c.args.opening.now t c.args.calls.now c.args.loads.now c.args.maps c.new-list.result.items (search rules);
}

pub ends-preserved : goal.ends-preserved
ends-preserved g c =
    let is = get_read c.args.ends.now c.ends.k c.index-ends-k.result c.ends-test.true c.index-ends-k.is in
    record {
      count = search rules;
      each = listed_more c.args.ends.now c.ends.list.items c.push.new.self.items c.index-ends-k.result c.in-Ok-outcome_of.one c.in_ok-push.ensures.items c.ends.invariant.each
          (subst (λ k. slice_get c.args.ends.now k ≡ Some c.index-ends-k.result) (sym c.ends.invariant.count) is) c.in-Ok-outcome_of.ensures.is;
      seen = λ t leads. seen_more (made_by c.args.declared.now) c.args.opening.now t c.args.calls.now c.args.loads.now c.args.maps c.ends.list.items c.push.new.self.items c.in-Ok-outcome_of.one
          c.in_ok-push.ensures.items (c.ends.invariant.seen t leads) (c.in-Ok-outcome_of.ensures.reached t leads);
    }
