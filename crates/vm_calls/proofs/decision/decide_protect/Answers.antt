use Rattle.std.proofs.Common.{◌≡◌, true, false, refl}
use Rattle.vm_calls.specs.Decisions.DecidesProtect.{no_page, no_write}
use Rattle.vm_calls.proofs.Absent.{absent-page, no-absent}
use Rattle.vm_calls.proofs.decision.decide_protect.Goals as goal

pub returns-then-not-all_mapped : goal.returns-then-not-all_mapped
returns-then-not-all_mapped g c = no_page (absent-page (g.M.SlotRead.slots c.args.map.now) c.args.range
    (λ all. let wrong : false ≡ true = (c.if-not-all_mapped.ensures {u = tt}).1 all in absurd cc)) refl

pub returns-then-has_read_only : goal.returns-then-has_read_only
returns-then-has_read_only g c =
    no_write (no-absent (g.M.SlotRead.slots c.args.map.now) c.args.range ((c.if-not-all_mapped.ensures {u = tt}).0 refl)) c.if-prot.true
    ((c.if-has_read_only.ensures {u = tt}).0 refl) refl
