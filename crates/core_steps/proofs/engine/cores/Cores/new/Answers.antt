use Rattle.machine_model.proofs.Words.{None, [], rules, fun_ext}
use Rattle.core_steps.proofs.engine.Each.{bare_parts, one_more}
use Rattle.core_steps.proofs.engine.cores.Cores.new.Goals as goal

pub cores-preserved : goal.cores-preserved
cores-preserved g c = record {
  count = search rules;
  room = search rules;
  tables = one_more g.H.Hardware.table (λ p. None) _ _ _ c.push_reserved.ensures.items (fun_ext c.in_ok-cpu.ensures.table) c.cores.invariant.tables;
  tlbs = one_more g.H.Hardware.tlb [] _ _ _ c.push_reserved.ensures.items c.in_ok-cpu.ensures.tlb c.cores.invariant.tlbs;
}

pub returns-clause-empty : goal.returns-clause-empty
returns-clause-empty g c = bare_parts g.H.Hardware.table g.H.Hardware.tlb _ _ c.cores.invariant.tables c.cores.invariant.tlbs
    c.in_ok-inboxes.ensures.empty
