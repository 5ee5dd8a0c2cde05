use Rattle.std.proofs.Common.{◌∙◌, ◌+◌, ap}
use Rattle.std.proofs.lemmas.Result.{IfOk-from_err}
use Rattle.refcache.specs.Parts.{Parts, counts_of}
use Rattle.refcache.proofs.PartsOf.{whole_opened}
use Rattle.refcache.proofs.table.CountTable.new.Goals as goal

pub returns-clause-opening : goal.returns-clause-opening
returns-clause-opening g c =
    ap (λ e. let p : Parts = record { objects = c.in_ok-cells.cells.items; cores = c.in_ok-parts.parts.items; epochs = e } in counts_of p) c.new.ensures
    ∙ whole_opened c.in_ok-cells.cells.items c.in_ok-parts.parts.items c.args.cores c.args.objects (c.args.objects + 1)
    c.in_ok-cells.ensures.count c.in_ok-cells.ensures.zero c.in_ok-parts.ensures.count c.in_ok-parts.ensures.cores

pub returns-in_err-clone-clause-opening : goal.returns-in_err-clone-clause-opening
returns-in_err-clone-clause-opening g c = IfOk-from_err _ _ c.from_residual.ensures.0

pub returns-in_err-clone-clause-room : goal.returns-in_err-clone-clause-room
returns-in_err-clone-clause-room g c = IfOk-from_err _ _ c.from_residual.ensures.0

pub returns-in_err-clone-clause-epochs : goal.returns-in_err-clone-clause-epochs
returns-in_err-clone-clause-epochs g c = IfOk-from_err _ _ c.from_residual.ensures.0

pub returns-in_err-cells-clause-opening : goal.returns-in_err-cells-clause-opening
returns-in_err-cells-clause-opening g c = IfOk-from_err _ _ c.from_residual-in_err-cells.ensures.0

pub returns-in_err-cells-clause-room : goal.returns-in_err-cells-clause-room
returns-in_err-cells-clause-room g c = IfOk-from_err _ _ c.from_residual-in_err-cells.ensures.0

pub returns-in_err-cells-clause-epochs : goal.returns-in_err-cells-clause-epochs
returns-in_err-cells-clause-epochs g c = IfOk-from_err _ _ c.from_residual-in_err-cells.ensures.0

pub returns-in_err-parts-clause-opening : goal.returns-in_err-parts-clause-opening
returns-in_err-parts-clause-opening g c = IfOk-from_err _ _ c.from_residual-in_err-parts.ensures.0

pub returns-in_err-parts-clause-room : goal.returns-in_err-parts-clause-room
returns-in_err-parts-clause-room g c = IfOk-from_err _ _ c.from_residual-in_err-parts.ensures.0

pub returns-in_err-parts-clause-epochs : goal.returns-in_err-parts-clause-epochs
returns-in_err-parts-clause-epochs g c = IfOk-from_err _ _ c.from_residual-in_err-parts.ensures.0
