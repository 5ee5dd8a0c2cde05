use Rattle.std.proofs.Common.{List, refl, subst, ℕ}
use Rattle.vm_base.specs.declared.requests.Request.TheVariants as RequestOf
use Rattle.vm_base.specs.Pages.{page_of}
use Rattle.audit.specs.Auditor.{plain_of}
use Rattle.loose_orders.specs.declared.keeping.Kept.{Kept}
use Rattle.loose_orders.specs.Moved.{GoesBehind}
use Rattle.loose_orders.proofs.BehindLemmas.{at_page}
use Rattle.loose_orders.proofs.behind.goes_behind.Goals as goal

pub returns-in-Load-clause-yes : goal.returns-in-Load-clause-yes
returns-in-Load-clause-yes g c = λ page e at.
    let t = plain_of c.args.auditor.now in
    let here = subst (λ (ks : List Kept). GoesBehind c.args.of (page_of c.in-Load.addr) t ks t ks c.args.call) c.as_slice.ensures.value (c.loads.ensures cc) in
    subst (λ (p : ℕ). GoesBehind c.args.of p t c.args.kept.now.items t c.args.kept.now.items c.args.call)
    (at_page c.args.call.request (RequestOf.Load c.in-Load.addr) page (page_of c.in-Load.addr) c.in-Load.is refl at) here

pub returns-in-Fetch-clause-yes : goal.returns-in-Fetch-clause-yes
returns-in-Fetch-clause-yes g c = λ page e at.
    let t = plain_of c.args.auditor.now in
    let here = subst (λ (ks : List Kept). GoesBehind c.args.of (page_of c.in-Fetch.addr) t ks t ks c.args.call) c.as_slice-in-Fetch.ensures.value
    (c.fetches.ensures cc) in
    subst (λ (p : ℕ). GoesBehind c.args.of p t c.args.kept.now.items t c.args.kept.now.items c.args.call)
    (at_page c.args.call.request (RequestOf.Fetch c.in-Fetch.addr) page (page_of c.in-Fetch.addr) c.in-Fetch.is refl at) here

pub returns-in_ok-goes-in-Store-clause-yes : goal.returns-in_ok-goes-in-Store-clause-yes
returns-in_ok-goes-in-Store-clause-yes g c = λ page e at.
    subst (λ (p : ℕ). GoesBehind c.args.of p (plain_of c.args.auditor.now) c.args.kept.now.items
    (plain_of c.stores.new.auditor) c.stores.new.kept.items c.args.call)
    (at_page c.args.call.request (RequestOf.Store c.in-Store.addr c.in-Store.byte) page (page_of c.in-Store.addr) c.in-Store.is refl at)
    (c.in_ok-goes-in-Store.ensures.yes e)
