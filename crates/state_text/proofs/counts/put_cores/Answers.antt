use Rattle.std.proofs.Common.{ap, ◌∙◌, ◌++◌, append-nil, sym, ◌≡◌, arith}
use Rattle.core_steps.specs.Machine.{state}
use Rattle.state_seen.specs.PageTexts.{texts_below}
use Rattle.state_seen.proofs.PageTexts.{texts_more, texts_none}
use Rattle.state_text.specs.Counts.{core_counts}
use Rattle.state_text.proofs.counts.put_cores.Goals as goal

pub cores-init : goal.cores-init
cores-init g c = record {
  written = sym (ap (λ l. c.args.out.now.items ++ l) (texts_none (core_counts c.args.form (state c.args.machine.now))) ∙ append-nil c.args.out.now.items);
}

pub cores-preserved : goal.cores-preserved
cores-preserved g c = record {
  written = texts_more (core_counts c.args.form (state c.args.machine.now)) c.cores.core c.args.out.now.items c.cores.out.items c.put_core.new.out.items
      c.cores.invariant.written
      (c.in_ok-put_core.ensures ∙ ap (λ k. c.cores.out.items ++ core_counts c.args.form (state c.args.machine.now) k) c.new.ensures);
}

pub returns : goal.returns
returns g c =
    let all : c.cores.core ≡ (state c.args.machine.now).made.cores = omega (arith, c.cores-test.false, c.cores.auto.core-end, c.cores-cores.ensures) in
    c.cores.invariant.written ∙ ap (λ n. c.args.out.now.items ++ texts_below (core_counts c.args.form (state c.args.machine.now)) n) all
