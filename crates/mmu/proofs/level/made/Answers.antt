use Rattle.std.proofs.lemmas.Result.{IfOk-from_err}
use Rattle.mmu.proofs.level.made.Goals as goal

pub returns-in_err-table-clause-there : goal.returns-in_err-table-clause-there
returns-in_err-table-clause-there g c = IfOk-from_err _ _ c.from_residual.ensures.0

pub returns-in_err-table-clause-others : goal.returns-in_err-table-clause-others
returns-in_err-table-clause-others g c = IfOk-from_err _ _ c.from_residual.ensures.0

pub returns-in_err-table-clause-tables : goal.returns-in_err-table-clause-tables
returns-in_err-table-clause-tables g c = IfOk-from_err _ _ c.from_residual.ensures.0

pub returns-in_err-install-clause-there : goal.returns-in_err-install-clause-there
returns-in_err-install-clause-there g c = IfOk-from_err _ _ c.from_residual-in_err-install.ensures.0

pub returns-in_err-install-clause-others : goal.returns-in_err-install-clause-others
returns-in_err-install-clause-others g c = IfOk-from_err _ _ c.from_residual-in_err-install.ensures.0

pub returns-in_err-install-clause-tables : goal.returns-in_err-install-clause-tables
returns-in_err-install-clause-tables g c = IfOk-from_err _ _ c.from_residual-in_err-install.ensures.0
