use Rattle.std.proofs.Common.{List, subst, sym, ℕ}
use Rattle.vm_base.specs.Pages.{page_of}
use Rattle.audit.specs.Auditor.{plain_of}
use Rattle.loose_orders.specs.declared.keeping.Kept.{Kept}
use Rattle.loose_orders.specs.Kept.{AllKept}
use Rattle.loose_orders.specs.Moved.{GoesBehind}
use Rattle.loose_orders.proofs.behind.stores.Goals as goal

pub store_behind-requires-clause-kept : goal.store_behind-requires-clause-kept
store_behind-requires-clause-kept g c = λ old all.
    c.in-Some.ensures.kept old (subst (λ (ks : List Kept). AllKept old ks) (sym c.as_slice.ensures.value) all)

pub returns-in_ok-store_behind-in-Some-clause-yes : goal.returns-in_ok-store_behind-in-Some-clause-yes
returns-in_ok-store_behind-in-Some-clause-yes g c = λ e.
    subst (λ (of : ℕ). GoesBehind of (page_of c.args.addr) (plain_of c.args.auditor.now) c.args.kept.now.items (plain_of c.store_behind.new.auditor)
    c.store_behind.new.kept.items c.args.call) c.in-Some.ensures.call c.in_ok-store_behind-in-Some.ensures.ok
