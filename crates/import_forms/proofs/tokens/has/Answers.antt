use Rattle.import_forms.proofs.TokenLemmas.{nothing_occurs}
use Rattle.import_forms.proofs.tokens.has.Goals as goal

pub returns-then-is_empty : goal.returns-then-is_empty
returns-then-is_empty c = nothing_occurs _ _ _ _ c.is_empty.ensures c.if-is_empty.true c.is_empty-then-is_empty.ensures
