use Rattle.std.proofs.Common.{◌∙◌, sym}
use Rattle.machine_log.proofs.ledger.Unpacking.{behind_is}
use Rattle.machine_log.proofs.ledger.logged_entries.LoggedEntries.behind.Goals as goal

pub returns : goal.returns
returns c =
    let self = c.args.self.now in
    behind_is self.packed.now self.in_full.now self.plain.now c.args.first (sym c.is_empty.ensures ∙ c.if-is_empty.false)
