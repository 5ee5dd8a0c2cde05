use Rattle.machine_model.proofs.Words.{◌≡◌, ◌∙◌, sym, ap, false, rules}
use Rattle.std.specs.Prelude.{◌≢◌}
use Rattle.machine_model.specs.declared.event.Outcome.TheVariants.{Stepped}
use Rattle.core_steps.specs.State.{world}
use Rattle.driven.specs.Telling.{is_second}
use Rattle.driven.proofs.Tellings.{last, more, refused, tried_made}
use Rattle.driven.proofs.telling.go_telling.Goals as goal

pub returns-in_default-clause-goes : goal.returns-in_default-clause-goes
returns-in_default-clause-goes g c =
    refused (world g.M.SlotRead.slots c.args.machine.now.engine) (world g.M.SlotRead.slots c.steps.machine.engine)
    (world g.M.SlotRead.slots c.step_telling.new.machine.engine) c.args.core c.steps._step c.steps.told c.step_telling.new.told c.in_default.field-0
    g.L.Ledger.keeps c.steps.invariant.tells c.in_default.ensures

pub returns-then-ne-clause-goes : goal.returns-then-ne-clause-goes
returns-then-ne-clause-goes g c =
    let m = world g.M.SlotRead.slots c.steps.machine.engine in
    let apart : is_second c.steps.told (m.calls.phase c.args.core) ≡ false =
    sym (ap (is_second c.steps.told) c.phase.ensures) ∙ (sym c.is_second.ensures ∙ c.if-is_second.false) in
    let other : c.in-Ok.outcome ≢ Stepped = search rules in
    last (world g.M.SlotRead.slots c.args.machine.now.engine) m (world g.M.SlotRead.slots c.step_telling.new.machine.engine) c.args.core c.steps._step
    c.steps.told c.step_telling.new.told c.in-Ok.outcome g.L.Ledger.keeps other apart c.steps.invariant.tells c.in-Ok.ensures

pub returns-then-ne-clause-made : goal.returns-then-ne-clause-made
returns-then-ne-clause-made g c =
    tried_made (world g.M.SlotRead.slots c.steps.machine.engine) (world g.M.SlotRead.slots c.step_telling.new.machine.engine) c.args.core c.steps.told
    c.step_telling.new.told c.step_telling.result g.L.Ledger.keeps c.step_telling.ensures
    ∙ c.steps.invariant.made

pub steps-preserved : goal.steps-preserved
steps-preserved g c =
    let m = world g.M.SlotRead.slots c.steps.machine.engine in
    let apart : is_second c.steps.told (m.calls.phase c.args.core) ≡ false =
    sym (ap (is_second c.steps.told) c.phase.ensures) ∙ (sym c.is_second.ensures ∙ c.if-is_second.false) in
    let plain : c.in-Ok.outcome ≡ Stepped = search rules in
    record {
      tells = more (world g.M.SlotRead.slots c.args.machine.now.engine) m (world g.M.SlotRead.slots c.step_telling.new.machine.engine) c.args.core
          c.steps._step c.steps.told c.step_telling.new.told c.in-Ok.outcome g.L.Ledger.keeps plain apart c.steps.invariant.tells c.in-Ok.ensures;
      made =
          tried_made m (world g.M.SlotRead.slots c.step_telling.new.machine.engine) c.args.core c.steps.told c.step_telling.new.told
          c.step_telling.result g.L.Ledger.keeps c.step_telling.ensures
          ∙ c.steps.invariant.made;
    }
