use Rattle.std.proofs.Common.{Ok, ap, arith, length, rules}
use Rattle.std.proofs.lemmas.Result.{IfOk-at_ok, IfOk-from_err}
use Rattle.litmus_merges.proofs.Grown.{fewer, keeps_refl, keeps_trans}
use Rattle.litmus_merges.proofs.exploring.run.Goals as goal

pub returns-then-next-len-clause-whole : goal.returns-then-next-len-clause-whole
returns-then-next-len-clause-whole g c = λ e. fewer c.args.objects.now c.args.calls.now c.nodes.nodes.items c.nodes.next (length c.nodes.nodes.items)
    (search (rules, arith)) c.nodes.invariant.explored

pub returns-clause-whole : goal.returns-clause-whole
returns-clause-whole g c = λ e. fewer c.args.objects.now c.args.calls.now c.nodes.nodes.items c.nodes.next (length c.nodes.nodes.items)
    (search (rules, arith)) c.nodes.invariant.explored

pub nodes-init : goal.nodes-init
nodes-init g c = record { explored = c.requires.explored; keeps = keeps_refl c.args.nodes.now.items }

pub nodes-preserved : goal.nodes-preserved
nodes-preserved g c = record {
  explored = c.in_ok-more.ensures.more (ap Ok c.if-not-more.false);
  keeps = keeps_trans c.args.nodes.now.items c.nodes.nodes.items c.expand.new.nodes.items c.nodes.invariant.keeps c.expand.ensures.keeps;
}

pub returns-in_err-more-clause-explored : goal.returns-in_err-more-clause-explored
returns-in_err-more-clause-explored g c =
    fewer c.args.objects.now c.args.calls.now c.expand.new.nodes.items c.nodes.next 0 (omega arith) c.expand.ensures.explored

pub returns-in_err-more-clause-keeps : goal.returns-in_err-more-clause-keeps
returns-in_err-more-clause-keeps g c =
    keeps_trans c.args.nodes.now.items c.nodes.nodes.items c.expand.new.nodes.items c.nodes.invariant.keeps c.expand.ensures.keeps

pub returns-in_err-more-clause-whole : goal.returns-in_err-more-clause-whole
returns-in_err-more-clause-whole g c = λ e. absurd (IfOk-at_ok (λ _. ⊥) e (IfOk-from_err _ (λ _. ⊥) c.from_residual.ensures.0))

pub returns-then-not-more-clause-explored : goal.returns-then-not-more-clause-explored
returns-then-not-more-clause-explored g c =
    fewer c.args.objects.now c.args.calls.now c.expand.new.nodes.items c.nodes.next 0 (omega arith) c.expand.ensures.explored

pub returns-then-not-more-clause-keeps : goal.returns-then-not-more-clause-keeps
returns-then-not-more-clause-keeps g c =
    keeps_trans c.args.nodes.now.items c.nodes.nodes.items c.expand.new.nodes.items c.nodes.invariant.keeps c.expand.ensures.keeps

pub returns-then-next-len-clause-explored : goal.returns-then-next-len-clause-explored
returns-then-next-len-clause-explored g c =
    fewer c.args.objects.now c.args.calls.now c.nodes.nodes.items c.nodes.next 0 (omega arith) c.nodes.invariant.explored

pub returns-clause-explored : goal.returns-clause-explored
returns-clause-explored g c =
    fewer c.args.objects.now c.args.calls.now c.nodes.nodes.items c.nodes.next 0 (omega arith) c.nodes.invariant.explored
