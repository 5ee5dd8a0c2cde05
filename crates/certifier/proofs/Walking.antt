-- A walk over the slots of the machine that have a slot's pages
use Rattle.machine_model.proofs.Words.{◌≡◌, ◌≢◌, ⊎_elim, ℕ, ◌<◌, ◌≤◌, ◌+◌, ◌-◌, ◌^◌, true, Option, refl, sym, ap, ◌∙◌, subst, arith, cases_lt, PageInfo}
use Rattle.machine_model.proofs.Words.{PageRange, has, has_in, Slots, IsSlot, IsSlotMap}
use Rattle.vm_base.specs.Info.{info_from}
use Rattle.slot_lock.proofs.ListLaws.{info_from_twice}
use Rattle.slot_lock.proofs.SlotLaws.{info_on}
use Rattle.slot_lock.proofs.Steps.{slot_by_edge}
use Rattle.live_levels.specs.declared.close.SlotHistory.{SlotHistory}
use Rattle.certifier.specs.Histories.{HasContent, IsPageOf}

module _ {A : Type 0} where
  -- the slot's valid pages below this one have what goes on from the content
  pub record SameBelow (m : Slots) (s : SlotHistory A) (content : Option PageInfo) (page : ℕ) : Type 0 where
    pub valid : 1 ≤ page
    pub from : s.first ≤ page
    pub same : (p : ℕ) → IsPageOf s p → p < page → m.info p ≡ info_from content (p - s.first)

  -- the slot of the machine that has the page is passed
  pub same_on : (m : Slots) (s : SlotHistory A) (content : Option PageInfo) (page : ℕ) (there : PageRange) → IsSlotMap m → page < 2 ^ 35
      → IsSlot m there.first there.end → has there page ≡ true → m.info page ≡ info_from content (page - s.first)
      → SameBelow m s content page → SameBelow m s content there.end
  same_on m s content page there laws high is here equal h =
      let in_it = has_in there page here in
      let low = in_it.0 in
      let up = in_it.1 in
      let valid = h.valid in
      let from = h.from in
      let by : there.end ≤ 2 ^ 35 = slot_by_edge m there.first there.end (2 ^ 35) is laws.limit (omega (arith, low, high)) in
      record {
        valid = omega (arith, valid, up);
        from = omega (arith, from, up);
        same = λ p of less. ⊎_elim
            (λ (l : p < page). h.same p of l)
            (λ (l : page ≤ p).
            let at : page + (p - page) ≡ p = omega (arith, l) in
            let on : m.info (page + (p - page)) ≡ info_from (m.info page) (p - page)
            = info_on m laws page there.end (p - page) valid by (λ q a b. is.inside q (omega (arith, low, a)) b) (omega (arith, l, less)) in
            let sum : page - s.first + (p - page) ≡ p - s.first = omega (arith, from, l) in
            subst (λ q. m.info q ≡ info_from (m.info page) (p - page)) at on
            ∙ ap (λ o. info_from o (p - page)) equal ∙ info_from_twice content (page - s.first) (p - page)
            ∙ ap (info_from content) sum)
            (cases_lt p page);
      }
