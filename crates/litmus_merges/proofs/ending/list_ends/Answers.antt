use Rattle.std.proofs.Common.{arith}
use Rattle.std.proofs.lemmas.Result.{IfOk-from_err}
use Rattle.litmus_merges.proofs.Ended.{have_all}
use Rattle.litmus_merges.proofs.ending.list_ends.Goals as goal

pub returns-clause-have : goal.returns-clause-have
returns-clause-have g c =
    let end = c.nodes-test.false in
    have_all c.args.objects.now c.args.addrs.now c.args.maps c.args.nodes.now c.nodes.ends.items c.nodes.last (omega (arith, end)) c.nodes.invariant.have

pub add_end-requires : goal.add_end-requires
add_end-requires g c =
    let i = c.nodes.invariant in
    record {
      numbered = i.numbered;
      within = c.nodes-test.true;
      backward = c.requires.backward;
      sound = c.requires.sound;
      ends = i.are;
      once = i.once;
      have = i.have;
    }

pub nodes-preserved : goal.nodes-preserved
nodes-preserved g c = record {
  numbered = c.in_ok-add_end.ensures.numbered;
  are = c.in_ok-add_end.ensures.ends;
  once = c.in_ok-add_end.ensures.once;
  have = c.in_ok-add_end.ensures.have;
}

pub returns-in_err-clone-clause-ends : goal.returns-in_err-clone-clause-ends
returns-in_err-clone-clause-ends g c = IfOk-from_err _ _ c.from_residual.ensures.0

pub returns-in_err-clone-clause-once : goal.returns-in_err-clone-clause-once
returns-in_err-clone-clause-once g c = IfOk-from_err _ _ c.from_residual.ensures.0

pub returns-in_err-clone-clause-have : goal.returns-in_err-clone-clause-have
returns-in_err-clone-clause-have g c = IfOk-from_err _ _ c.from_residual.ensures.0

pub returns-in_err-clone-2-clause-ends : goal.returns-in_err-clone-2-clause-ends
returns-in_err-clone-2-clause-ends g c = IfOk-from_err _ _ c.from_residual-in_err-clone-2.ensures.0

pub returns-in_err-clone-2-clause-once : goal.returns-in_err-clone-2-clause-once
returns-in_err-clone-2-clause-once g c = IfOk-from_err _ _ c.from_residual-in_err-clone-2.ensures.0

pub returns-in_err-clone-2-clause-have : goal.returns-in_err-clone-2-clause-have
returns-in_err-clone-2-clause-have g c = IfOk-from_err _ _ c.from_residual-in_err-clone-2.ensures.0

pub returns-in_err-add_end-clause-ends : goal.returns-in_err-add_end-clause-ends
returns-in_err-add_end-clause-ends g c = IfOk-from_err _ _ c.from_residual-in_err-add_end.ensures.0

pub returns-in_err-add_end-clause-once : goal.returns-in_err-add_end-clause-once
returns-in_err-add_end-clause-once g c = IfOk-from_err _ _ c.from_residual-in_err-add_end.ensures.0

pub returns-in_err-add_end-clause-have : goal.returns-in_err-add_end-clause-have
returns-in_err-add_end-clause-have g c = IfOk-from_err _ _ c.from_residual-in_err-add_end.ensures.0
