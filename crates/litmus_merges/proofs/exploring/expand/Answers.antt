use Rattle.std.proofs.Common.{Ok, ap, arith}
use Rattle.std.proofs.lemmas.Result.{IfOk-at_ok, IfOk-from_err}
use Rattle.litmus_merges.proofs.Grown.{keeps_refl, keeps_trans, kept_within, turned_all}
use Rattle.litmus_merges.proofs.exploring.expand.Goals as goal

pub calls-init : goal.calls-init
calls-init g c = record {
  explored = c.requires.explored;
  keeps = keeps_refl c.args.nodes.now.items;
  turned = λ node at q l e turn. absurd (omega (arith, l));
}

pub take_turn-requires-clause-within : goal.take_turn-requires-clause-within
take_turn-requires-clause-within g c = kept_within c.args.nodes.now.items c.calls.nodes.items c.args.from c.calls.invariant.keeps c.requires.within

pub returns-clause-more : goal.returns-clause-more
returns-clause-more g c = λ e. turned_all c.args.objects.now c.args.calls.now c.calls.nodes.items c.args.from c.calls.at
    (omega (arith, c.calls-test.false)) c.calls.invariant.explored c.calls.invariant.turned

pub calls-preserved : goal.calls-preserved
calls-preserved g c = record {
  explored = c.take_turn.ensures.explored;
  keeps = keeps_trans c.args.nodes.now.items c.calls.nodes.items c.take_turn.new.nodes.items c.calls.invariant.keeps c.take_turn.ensures.keeps;
  turned = c.in_ok-more.ensures.turned (ap Ok c.if-not-more.false);
}

pub returns-in_err-more-clause-keeps : goal.returns-in_err-more-clause-keeps
returns-in_err-more-clause-keeps g c =
    keeps_trans c.args.nodes.now.items c.calls.nodes.items c.take_turn.new.nodes.items c.calls.invariant.keeps c.take_turn.ensures.keeps

pub returns-in_err-more-clause-more : goal.returns-in_err-more-clause-more
returns-in_err-more-clause-more g c = λ e. absurd (IfOk-at_ok (λ _. ⊥) e (IfOk-from_err _ (λ _. ⊥) c.from_residual.ensures.0))

pub returns-then-not-more-clause-keeps : goal.returns-then-not-more-clause-keeps
returns-then-not-more-clause-keeps g c =
    keeps_trans c.args.nodes.now.items c.calls.nodes.items c.take_turn.new.nodes.items c.calls.invariant.keeps c.take_turn.ensures.keeps
