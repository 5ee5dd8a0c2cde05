use Rattle.std.proofs.Common.{◌≡◌, ◌≢◌, ◌<◌, sym, subst, slice_index, arith}
use Rattle.std.proofs.lemmas.Bool.Decides.{nat_tests}
use Rattle.mmu.specs.Tlb.{page_hash}
use Rattle.mmu.specs.Fills.{page_at}
use Rattle.mmu.proofs.Filings.{IsPassed, none_passed, one_passed, all_passed, set_missing, page_missing}
use Rattle.mmu.proofs.tlb.Tlb.place_of.Goals as goal

pub set-init : goal.set-init
set-init c =
    let t = c.args.self.now in
    subst (λ h. IsPassed (slice_index t.sets (page_hash c.args.page)) t.places c.args.page (slice_index t.sets h))
    (sym c.hash.ensures.value) (none_passed (slice_index t.sets (page_hash c.args.page)) t.places c.args.page)

pub returns-then-self-place-clause-held : goal.returns-then-self-place-clause-held
returns-then-self-place-clause-held c =
    let t = c.args.self.now in
    (t.filed.within (page_hash c.args.page) c.first-place.result (subst (λ h. h < 64) c.hash.ensures.value c.hash.ensures.below)
    (c.set.invariant.part c.first-place.result c.first-place.ensures.member)).0

pub set-smaller : goal.set-smaller
set-smaller c = c.without-rest.ensures.less c.first-place.ensures.member

pub set-preserved : goal.set-preserved
set-preserved c =
    let t = c.args.self.now in
    let ne : page_at t.places c.first-place.result ≢ c.args.page = grind (arith, nat_tests) in
    one_passed (slice_index t.sets (page_hash c.args.page)) t.places c.args.page c.set.rest c.first-place.result c.without-rest.result c.set.invariant
    c.without-rest.ensures.members ne

pub returns-clause-missing : goal.returns-clause-missing
returns-clause-missing c = λ _.
    let t = c.args.self.now in
    let none : c.set.rest ≡ 0 = grind (arith, nat_tests) in
    let set = slice_index t.sets (page_hash c.args.page) in
    page_missing t.places t.fills.items t.at t.free c.args.page t.ordered
    (set_missing t.sets t.places t.free c.args.page t.filed
    (all_passed set t.places c.args.page (subst (IsPassed set t.places c.args.page) none c.set.invariant)))
