use Rattle.std.proofs.Common.{◌∙◌, ap, rules}
use Rattle.trace_words.specs.Declarations.{asked_fault_within}
use Rattle.trace_words.proofs.DeclarationLemmas.{same_fault}
use Rattle.trace_words.proofs.declaration.Declaration.setup_as_asked.Goals as goal

pub returns-clause-faults : goal.returns-clause-faults
returns-clause-faults g c = λ limit.
    same_fault limit c.self.inside.cores c.self.inside.frames c.self.inside.calls c.in_ok-files.files.items c.as_slice.result.now c.self.inside.files.items
    (search rules) c.in_ok-files.ensures.lengths ∙ ap (asked_fault_within limit) c.self.view_is
