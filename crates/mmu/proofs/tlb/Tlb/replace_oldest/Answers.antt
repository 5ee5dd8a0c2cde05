use Rattle.std.proofs.Common.{[], ◌∷◌, ◌++◌, length, ap, ◌∙◌, arith}
use Rattle.mmu.specs.Tlb.{tlb_at}
use Rattle.mmu.specs.Fills.{entries_of}
use Rattle.mmu.proofs.Distinct.{absent_drop}
use Rattle.mmu.proofs.Orders.{one_dropped}
use Rattle.mmu.proofs.tlb.Tlb.replace_oldest.Goals as goal

pub push-requires-clause-few : goal.push-requires-clause-few
push-requires-clause-few c =
    let es = entries_of c.args.self.now.places c.args.self.now.fills.items in
    omega (arith, ap length c.drop_oldest.ensures.entries, one_dropped es (omega (arith, c.requires.full)), c.requires.full)

pub push-requires-clause-absent : goal.push-requires-clause-absent
push-requires-clause-absent c =
    ap (λ es. tlb_at es c.args.page) c.drop_oldest.ensures.entries
    ∙ absent_drop (entries_of c.args.self.now.places c.args.self.now.fills.items) c.args.page c.requires.absent

pub returns : goal.returns
returns c =
    c.push.ensures ∙ ap (λ es. es ++ record { page = c.args.page; translation = c.args.translation } ∷ []) c.drop_oldest.ensures.entries
