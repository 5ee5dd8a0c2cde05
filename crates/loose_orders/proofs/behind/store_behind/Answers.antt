use Rattle.std.proofs.Common.{ap, ℕ, ◌∙◌}
use Rattle.vm_base.specs.declared.info.Back.TheVariants.{Shared}
use Rattle.vm_base.specs.Apply.{stored_back}
use Rattle.audit.specs.Auditor.{plain_of}
use Rattle.loose_orders.proofs.BehindLemmas.{store_file_behind, store_own_behind}
use Rattle.loose_orders.proofs.LateLemmas.{shared_there, store_uncopied, store_unmapped}
use Rattle.loose_orders.proofs.behind.store_behind.Goals as goal

pub returns-in-Unmapped-clause-ok : goal.returns-in-Unmapped-clause-ok
returns-in-Unmapped-clause-ok g c =
    absurd (store_unmapped (plain_of c.args.auditor.now).file c.args.one.was _ c.in-Unmapped.is c.requires.due)

pub returns-in-Private-clause-ok : goal.returns-in-Private-clause-ok
returns-in-Private-clause-ok g c =
    absurd (store_uncopied (plain_of c.args.auditor.now).file c.args.one.was _ _ _ _ c.in-Private.is c.requires.due)

pub returns-in-Own-clause-ok : goal.returns-in-Own-clause-ok
returns-in-Own-clause-ok g c =
    store_own_behind (plain_of c.args.auditor.now) c.args.call c.args.addr c.args.byte c.args.one c.args.kept.now.items c.store.new.kept.items _ _
    c.requires.request c.requires.done c.requires.page c.requires.offset c.requires.kept c.requires.due c.in-Own.is c.store.ensures

pub store_to_file-requires-clause-page : goal.store_to_file-requires-clause-page
store_to_file-requires-clause-page g c =
    shared_there (plain_of c.args.auditor.now).file c.args.one.was c.in-Shared.file c.in-Shared.page _ _ c.in-Shared.is c.requires.due

pub returns-in_ok-store_to_file-in-Shared-clause-ok : goal.returns-in_ok-store_to_file-in-Shared-clause-ok
returns-in_ok-store_to_file-in-Shared-clause-ok g c =
    store_file_behind (plain_of c.args.auditor.now) (plain_of c.store_to_file.new.self) c.args.call c.args.addr c.args.byte c.args.one c.args.kept.now.items
    c.in-Shared.file c.in-Shared.page _ c.requires.request c.requires.done c.requires.page c.requires.offset c.requires.kept c.requires.due c.in-Shared.is
    (c.in_ok-store_to_file-in-Shared.ensures.ok
    ∙ ap (λ (i : ℕ). stored_back (plain_of c.args.auditor.now) (Shared c.in-Shared.file c.in-Shared.page) i c.args.byte) c.offset_of.ensures.value)
