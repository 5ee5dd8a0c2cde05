use Rattle.std.proofs.Common.{ap, ◌∙◌, get_or}
use Rattle.mmu.specs.Entry.{decode}
use Rattle.mmu.proofs.Empty.{get_or-replicate_default}
use Rattle.mmu.proofs.level.LeafLevel.make.Goals as goal

pub returns-in-Ok-clause-entries : goal.returns-in-Ok-clause-entries
returns-in-Ok-clause-entries g c = λ page. ap (λ xs. decode (get_or xs page 0)) c.in-Ok.ensures.ok ∙ ap decode (get_or-replicate_default 512 0 page)
