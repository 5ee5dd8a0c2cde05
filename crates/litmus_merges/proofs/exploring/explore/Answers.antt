use Rattle.std.proofs.Common.{rules, subst, sym, zero}
use Rattle.std.proofs.lemmas.Result.{IfOk-from_err}
use Rattle.litmus_merges.specs.Nodes.{AreAllSound, AreBackward, AreEnds, HaveEnds}
use Rattle.std.proofs.Common.{length}
use Rattle.litmus_merges.proofs.Grown.{all_found, all_sound, backward, reached, start_explored, start_kept}
use Rattle.litmus_merges.proofs.exploring.explore.Goals as goal

pub run-requires-clause-explored : goal.run-requires-clause-explored
run-requires-clause-explored g c = start_explored c.args.objects.now c.args.calls.now c.args.opening.now c.push.new.self.items c.in_ok-first.first (search rules)
    c.in_ok-first.ensures.told c.in_ok-first.ensures.steps c.requires.sound

pub list_ends-requires : goal.list_ends-requires
list_ends-requires g c = record {
  backward = subst (λ xs. AreBackward xs) (sym c.as_slice.ensures.value)
      (backward c.args.objects.now c.args.calls.now c.run.new.nodes.items zero c.run.ensures.explored);
  sound = subst (λ xs. AreAllSound xs) (sym c.as_slice.ensures.value)
      (all_sound c.args.objects.now c.args.calls.now c.run.new.nodes.items zero c.run.ensures.explored);
}

pub returns-clause-reached : goal.returns-clause-reached
returns-clause-reached g c = reached c.args.objects.now c.args.calls.now c.args.finals.now c.args.maps c.args.opening.now c.run.new.nodes.items c.in_ok-ends.ends.items zero
    c.in_ok-first.first c.in_ok-first.ensures.told c.in_ok-first.ensures.steps
    (start_kept c.push.new.self.items c.run.new.nodes.items c.in_ok-first.first (search rules) c.run.ensures.keeps)
    c.run.ensures.explored
    (subst (λ xs. AreEnds c.args.objects.now c.args.finals.now c.args.maps xs c.in_ok-ends.ends.items) c.as_slice.ensures.value c.in_ok-ends.ensures.ends)

pub returns-clause-all : goal.returns-clause-all
returns-clause-all g c = λ e. all_found c.args.objects.now c.args.calls.now c.args.finals.now c.args.maps c.args.opening.now c.run.new.nodes.items c.in_ok-ends.ends.items
    c.in_ok-first.first c.in_ok-first.ensures.told c.in_ok-first.ensures.steps
    (start_kept c.push.new.self.items c.run.new.nodes.items c.in_ok-first.first (search rules) c.run.ensures.keeps)
    (c.in_ok-whole.ensures.whole (search (rules, e)))
    (subst (λ xs. HaveEnds c.args.objects.now c.args.finals.now c.args.maps xs (length xs) c.in_ok-ends.ends.items) c.as_slice.ensures.value c.in_ok-ends.ensures.have)

pub returns-in_err-clone-clause-reached : goal.returns-in_err-clone-clause-reached
returns-in_err-clone-clause-reached g c = IfOk-from_err _ _ c.from_residual.ensures.0

pub returns-in_err-clone-clause-once : goal.returns-in_err-clone-clause-once
returns-in_err-clone-clause-once g c = IfOk-from_err _ _ c.from_residual.ensures.0

pub returns-in_err-clone-clause-all : goal.returns-in_err-clone-clause-all
returns-in_err-clone-clause-all g c = IfOk-from_err _ _ c.from_residual.ensures.0

pub returns-in_err-first-clause-reached : goal.returns-in_err-first-clause-reached
returns-in_err-first-clause-reached g c = IfOk-from_err _ _ c.from_residual-in_err-first.ensures.0

pub returns-in_err-first-clause-once : goal.returns-in_err-first-clause-once
returns-in_err-first-clause-once g c = IfOk-from_err _ _ c.from_residual-in_err-first.ensures.0

pub returns-in_err-first-clause-all : goal.returns-in_err-first-clause-all
returns-in_err-first-clause-all g c = IfOk-from_err _ _ c.from_residual-in_err-first.ensures.0

pub returns-in_err-push-clause-reached : goal.returns-in_err-push-clause-reached
returns-in_err-push-clause-reached g c = IfOk-from_err _ _ c.from_residual-in_err-push.ensures.0

pub returns-in_err-push-clause-once : goal.returns-in_err-push-clause-once
returns-in_err-push-clause-once g c = IfOk-from_err _ _ c.from_residual-in_err-push.ensures.0

pub returns-in_err-push-clause-all : goal.returns-in_err-push-clause-all
returns-in_err-push-clause-all g c = IfOk-from_err _ _ c.from_residual-in_err-push.ensures.0

pub returns-in_err-clone-2-clause-reached : goal.returns-in_err-clone-2-clause-reached
returns-in_err-clone-2-clause-reached g c = IfOk-from_err _ _ c.from_residual-in_err-clone-2.ensures.0

pub returns-in_err-clone-2-clause-once : goal.returns-in_err-clone-2-clause-once
returns-in_err-clone-2-clause-once g c = IfOk-from_err _ _ c.from_residual-in_err-clone-2.ensures.0

pub returns-in_err-clone-2-clause-all : goal.returns-in_err-clone-2-clause-all
returns-in_err-clone-2-clause-all g c = IfOk-from_err _ _ c.from_residual-in_err-clone-2.ensures.0

pub returns-in_err-seats-clause-reached : goal.returns-in_err-seats-clause-reached
returns-in_err-seats-clause-reached g c = IfOk-from_err _ _ c.from_residual-in_err-seats.ensures.0

pub returns-in_err-seats-clause-once : goal.returns-in_err-seats-clause-once
returns-in_err-seats-clause-once g c = IfOk-from_err _ _ c.from_residual-in_err-seats.ensures.0

pub returns-in_err-seats-clause-all : goal.returns-in_err-seats-clause-all
returns-in_err-seats-clause-all g c = IfOk-from_err _ _ c.from_residual-in_err-seats.ensures.0

pub returns-in_err-whole-clause-reached : goal.returns-in_err-whole-clause-reached
returns-in_err-whole-clause-reached g c = IfOk-from_err _ _ c.from_residual-in_err-whole.ensures.0

pub returns-in_err-whole-clause-once : goal.returns-in_err-whole-clause-once
returns-in_err-whole-clause-once g c = IfOk-from_err _ _ c.from_residual-in_err-whole.ensures.0

pub returns-in_err-whole-clause-all : goal.returns-in_err-whole-clause-all
returns-in_err-whole-clause-all g c = IfOk-from_err _ _ c.from_residual-in_err-whole.ensures.0

pub returns-in_err-ends-clause-reached : goal.returns-in_err-ends-clause-reached
returns-in_err-ends-clause-reached g c = IfOk-from_err _ _ c.from_residual-in_err-ends.ensures.0

pub returns-in_err-ends-clause-once : goal.returns-in_err-ends-clause-once
returns-in_err-ends-clause-once g c = IfOk-from_err _ _ c.from_residual-in_err-ends.ensures.0

pub returns-in_err-ends-clause-all : goal.returns-in_err-ends-clause-all
returns-in_err-ends-clause-all g c = IfOk-from_err _ _ c.from_residual-in_err-ends.ensures.0
