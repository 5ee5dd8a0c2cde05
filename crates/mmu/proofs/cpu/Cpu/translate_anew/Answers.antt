use Rattle.mmu.specs.Fills.{entries_of}
use Rattle.mmu.proofs.Distinct.{none_dropped}
use Rattle.mmu.proofs.cpu.Cpu.translate_anew.Goals as goal

pub returns-else-permits-clause-tlb : goal.returns-else-permits-clause-tlb
returns-else-permits-clause-tlb g c =
    let t = c.args.self.now.tlb in none_dropped (entries_of t.places t.fills.items) c.args.page c.requires.absent

pub returns-in_default-clause-tlb : goal.returns-in_default-clause-tlb
returns-in_default-clause-tlb g c =
    let t = c.args.self.now.tlb in none_dropped (entries_of t.places t.fills.items) c.args.page c.requires.absent
