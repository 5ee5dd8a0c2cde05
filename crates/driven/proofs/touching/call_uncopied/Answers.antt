use Rattle.machine_model.proofs.Words.{subst, Ok, Err}
use Rattle.core_steps.specs.Finishing.{Calls}
use Rattle.core_steps.specs.State.{world}
use Rattle.machine_model.specs.declared.event.Outcome.TheVariants.{Stepped}
use Rattle.driven.specs.Telling.{CallsTelling}
use Rattle.driven.proofs.Gotten.{told_since, known_last, known_stuck, known_refused}
use Rattle.driven.proofs.touching.call_uncopied.Goals as goal

pub returns-in-Ok-Last : goal.returns-in-Ok-Last
returns-in-Ok-Last g c =
    let w = world g.M.SlotRead.slots c.args.machine.now.engine in
    let v = world g.M.SlotRead.slots c.call-ended.new.self.engine in
    let h = c.requires.access.0 in
    subst (λ t. CallsTelling g.L.Ledger.keeps w c.args.core c.args.request t (Ok c.in-Ok-Last.outcome) v)
    (told_since w v c.args.page c.page-info.result c.missing_from-missing.result c.gotten-told.result c.args.told.now h.touch.page
    c.requires.nothing c.page-info.ensures c.missing_from-missing.ensures c.gotten-told.ensures c.requires.access.1)
    (known_last g.L.Ledger.keeps w v c.args.core c.args.request c.in-Ok-Last.outcome c.args.machine.now.reached h
    (subst (λ f. Calls w c.args.core c.args.request f v) c.in-Ok-Last.field-0-is c.in-Ok-Last.ensures.ends))

pub returns-in-Ok-Stuck : goal.returns-in-Ok-Stuck
returns-in-Ok-Stuck g c =
    let w = world g.M.SlotRead.slots c.args.machine.now.engine in
    let v = world g.M.SlotRead.slots c.call-ended.new.self.engine in
    let h = c.requires.access.0 in
    subst (λ t. CallsTelling g.L.Ledger.keeps w c.args.core c.args.request t (Ok Stepped) v)
    (told_since w v c.args.page c.page-info.result c.missing_from-missing.result c.gotten-told.result c.args.told.now h.touch.page
    c.requires.nothing c.page-info.ensures c.missing_from-missing.ensures c.gotten-told.ensures c.requires.access.1)
    (known_stuck g.L.Ledger.keeps w v c.args.core c.args.request c.args.machine.now.reached h
    (subst (λ f. Calls w c.args.core c.args.request f v) c.in-Ok-Stuck.field-0-is c.in-Ok-Stuck.ensures.ends))

pub returns-in-Err : goal.returns-in-Err
returns-in-Err g c =
    let w = world g.M.SlotRead.slots c.args.machine.now.engine in
    let v = world g.M.SlotRead.slots c.call-ended.new.self.engine in
    let h = c.requires.access.0 in
    subst (λ t. CallsTelling g.L.Ledger.keeps w c.args.core c.args.request t (Err c.in-Err.refused) v)
    (told_since w v c.args.page c.page-info.result c.missing_from-missing.result c.gotten-told.result c.args.told.now h.touch.page
    c.requires.nothing c.page-info.ensures c.missing_from-missing.ensures c.gotten-told.ensures c.requires.access.1)
    (known_refused g.L.Ledger.keeps w v c.args.core c.args.request c.in-Err.refused c.args.machine.now.reached h c.in-Err.ensures.err)
