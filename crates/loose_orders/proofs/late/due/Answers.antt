use Rattle.std.proofs.Common.{sym}
use Rattle.audit.specs.Auditor.{plain_of}
use Rattle.loose_orders.proofs.LateLemmas.{uncopied_finds}
use Rattle.loose_orders.proofs.late.due.Goals as goal

pub returns-in-Private-2 : goal.returns-in-Private-2
returns-in-Private-2 g c =
    uncopied_finds (plain_of c.args.auditor.now).file c.args.offset c.in-Private-2.file c.in-Private-2.page _ _ c.args.was c.in-Private-2.prot
    c.in-Private.prot c.args.access c.file_byte-shown.result c.uncopied_due.result c.in-Private-2.is c.in-Private.is (sym c.if-not-allows-3.ensures)
    c.file_byte-shown.ensures c.uncopied_due.ensures
