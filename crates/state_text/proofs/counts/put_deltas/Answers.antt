use Rattle.std.proofs.Common.{◌≡◌, ℕ, List, arith, ap, ◌∙◌, ◌++◌, [], cond, append-nil, sym}
use Rattle.core_steps.specs.Machine.{state}
use Rattle.state_seen.specs.PageTexts.{texts_below}
use Rattle.state_seen.proofs.PageTexts.{texts_more, texts_none}
use Rattle.state_text.specs.Counts.{delta_text}
use Rattle.state_text.proofs.UsedFrames.{texts_end}
use Rattle.state_text.proofs.counts.put_deltas.Goals as goal

pub frames-init : goal.frames-init
frames-init g c = record {
  written = sym (ap (λ l. c.args.out.now.items ++ l) (texts_none (λ f. cond ((state c.args.machine.now).memory.is_free f) []
      (delta_text c.args.form c.args.core f ((state c.args.machine.now).memory.counts.delta c.args.core f)))) ∙ append-nil c.args.out.now.items);
}

pub frames-preserved : goal.frames-preserved
frames-preserved g c = record {
  written = texts_more (λ f. cond ((state c.args.machine.now).memory.is_free f) []
      (delta_text c.args.form c.args.core f ((state c.args.machine.now).memory.counts.delta c.args.core f)))
      c.frames.frame c.args.out.now.items c.frames.out.items c.put_used_delta.new.out.items c.frames.invariant.written c.in_ok-put_used_delta.ensures;
}

pub returns : goal.returns
returns g c =
    let here : c.frames.frame ≡ c.args.end = omega (arith, c.frames-test.false, c.frames.auto.frame-end) in
    let text : ℕ → List ℕ = (λ f. cond ((state c.args.machine.now).memory.is_free f) []
    (delta_text c.args.form c.args.core f ((state c.args.machine.now).memory.counts.delta c.args.core f))) in
    c.frames.invariant.written ∙ ap (λ n. c.args.out.now.items ++ texts_below text n) here
    ∙ ap (λ l. c.args.out.now.items ++ l) (sym (texts_end text c.args.end _ c.requires.end.0
    (λ k from below. ap (λ b. cond b [] (delta_text c.args.form c.args.core k ((state c.args.machine.now).memory.counts.delta c.args.core k))) (c.requires.end.1 k from below))))
