-- Changes of a slot up to a ticket, and what one look at it settles
use Rattle.machine_model.proofs.Words.{◌≡◌, ◌≢◌, ◌⊎◌, ⊎_elim, inl, inr, ℕ, zero, suc, ◌<◌, ◌≤◌, ◌+◌, ◌-◌, true, false, List, [], ◌∷◌, length, take, get_or}
use Rattle.machine_model.proofs.Words.{Option, refl, sym, ap, ◌∙◌, subst, arith, nat_le, cases_lt, nat_tests, get_or_default, take_all, PageInfo}
use Rattle.std.proofs.Common.{max, min}
use Rattle.vm_base.specs.Info.{info_from}
use Rattle.live_levels.specs.declared.act.SlotChange.{SlotChange}
use Rattle.live_levels.specs.declared.close.SlotHistory.{SlotHistory}
use Rattle.live_levels.specs.Replay.{dated, replay}
use Rattle.certifier.specs.declared.looks.Look.{Look}
use Rattle.certifier.specs.Histories.{AreDated, DiffersBelow, HasBegun, HasContent, IsPageOf, ticket_at, up_to}
use Rattle.certifier.specs.Looks.{AreApplied, IsSeen}

-- ---- changes up to a ticket

-- where those before a place have tickets up to it, and the others don't
pub up_to_is : (changes : List SlotChange) (k u : ℕ) → k ≤ length changes → ((j : ℕ) → j < k → ticket_at changes j ≤ u)
    → ((j : ℕ) → k ≤ j → j < length changes → u < ticket_at changes j) → up_to u changes ≡ take k changes
up_to_is [] k u within before later = sym (take_all k [] (omega arith))
up_to_is (c ∷ cs) zero u within before later =
    let e : nat_le c.ticket u ≡ false = (let l = later 0 (omega arith) (omega arith) in grind (arith, nat_tests, l)) in
    rw e (up_to_is cs zero u (omega arith) (λ j h. absurd (omega arith)) (λ j a b. later (suc j) (omega arith) (omega arith)))
up_to_is (c ∷ cs) (suc k) u within before later =
    let e : nat_le c.ticket u ≡ true = (let l = before 0 (omega arith) in grind (arith, nat_tests, l)) in
    rw e (ap (λ ys. c ∷ ys) (up_to_is cs k u (omega arith) (λ j h. before (suc j) (omega arith)) (λ j a b. later (suc j) (omega arith) (omega arith))))

-- a slot that has begun and has changes has a first change with an earlier ticket
begun_first : (changes : List SlotChange) (u : ℕ) → changes ≢ [] → HasBegun u changes → (0 < length changes) × (ticket_at changes 0 ≤ u)
begun_first [] u some h = absurd (some refl)
begun_first (c ∷ cs) u some h = (omega arith, h)

begun_of : (changes : List SlotChange) (u : ℕ) → (changes ≡ []) ⊎ ((0 < length changes) × (ticket_at changes 0 ≤ u)) → HasBegun u changes
begun_of [] u h = tt
begun_of (c ∷ cs) u h = ⊎_elim (λ (e : c ∷ cs ≡ []). absurd cc) (λ p. p.1) h

-- ---- one change more

-- where the next change comes at the earliest
pub next_later : (n bound next t : ℕ) (changes : List SlotChange) (look : Look) (d : SlotChange) → AreDated n changes → AreApplied bound changes look
    → look.applied < length changes → next ≡ max (min (get_or changes look.applied d).ticket t) bound
    → (k : ℕ) → look.applied ≤ k → k < length changes → next ≤ ticket_at changes k
next_later n bound next t changes look d dated h lt is k from to =
    let here : ticket_at changes look.applied ≡ (get_or changes look.applied d).ticket =
    ap (λ (c : SlotChange). c.ticket) (get_or_default changes look.applied _ d lt) in
    let l = h.later look.applied (omega arith) lt in
    let below : next ≤ ticket_at changes look.applied = omega (arith, is, here, l) in
    ⊎_elim
    (λ (m : look.applied < k). let r = dated.rise look.applied k m to in omega (arith, r, below))
    (λ (m : k ≤ look.applied). let same : k ≡ look.applied = omega (arith, m, from) in subst (λ j. next ≤ ticket_at changes j) (sym same) below)
    (cases_lt look.applied k)

-- ---- tickets

-- the ticket of a change that was read
pub read_ticket : (changes : List SlotChange) (at : ℕ) (c : SlotChange) → at < length changes → c ≡ get_or changes at c → ticket_at changes at ≡ c.ticket
read_ticket changes at c lt is = ap (λ (x : SlotChange). x.ticket) (get_or_default changes at _ c lt ∙ sym is)

-- the changes so far have tickets that rise, and are below n
pub record DatedBelow (n at : ℕ) (changes : List SlotChange) : Type 0 where
  pub rise : (j k : ℕ) → j < k → k < at → ticket_at changes j < ticket_at changes k
  pub below : (k : ℕ) → k < at → ticket_at changes k < n

pub dated_more : (n at : ℕ) (changes : List SlotChange) → DatedBelow n at changes → ticket_at changes at < n
    → (0 < at → ticket_at changes (at - 1) < ticket_at changes at) → DatedBelow n (at + 1) changes
dated_more n at changes h below above = record {
  rise = λ j k less to. ⊎_elim
      (λ (l : k < at). h.rise j k less l)
      (λ (l : at ≤ k).
      let e : k ≡ at = omega (arith, l, to) in
      subst (λ i. ticket_at changes j < ticket_at changes i) (sym e) (last j (omega (arith, e, less)))) (cases_lt k at);
  below = λ k to. ⊎_elim
      (λ (l : k < at). h.below k l)
      (λ (l : at ≤ k). let e : k ≡ at = omega (arith, l, to) in subst (λ i. ticket_at changes i < n) (sym e) below) (cases_lt k at);
}
  where
    last : (j : ℕ) → j < at → ticket_at changes j < ticket_at changes at
    last j l = let a = above (omega (arith, l)) in ⊎_elim
        (λ (m : j < at - 1). let r = h.rise j (at - 1) m (omega (arith, l)) in omega (arith, r, a))
        (λ (m : at - 1 ≤ j). let e : j ≡ at - 1 = omega (arith, m, l) in subst (λ i. ticket_at changes i < ticket_at changes at) (sym e) a)
        (cases_lt j (at - 1))

-- ---- one look

module _ {A : Type 0} (n : ℕ) (maps : ℕ → ℕ → Option PageInfo) (now : ℕ → Option PageInfo) (t : ℕ) (s : SlotHistory A) where
  -- the changes up to a ticket that is settled next
  those : (u seen : ℕ) (look : Look) → AreApplied (seen + 1) s.changes.items look → seen ≤ u
      → ((k : ℕ) → look.applied ≤ k → k < length s.changes.items → u < ticket_at s.changes.items k) → replay (up_to u s.changes.items) ≡ look.content
  those u seen look h from later =
      ap replay (up_to_is s.changes.items look.applied u h.within (λ j l. let b = h.before j l in omega arith) later) ∙ sym h.content

  -- the change that was due is applied
  pub with_due : (look new : Look) → IsSeen n maps now t look.seen s look → AreApplied (look.seen + 1) s.changes.items new → new.seen ≡ look.seen
      → IsSeen n maps now t (look.seen + 1) s new
  with_due look new h applied same = record {
    dated = h.dated;
    applied = applied;
    seen = let l = h.seen in omega (arith, same, l);
    agrees = λ u less begun. h.agrees u (omega (arith, same, less)) begun;
    still = λ u page from to has. h.still u page (omega (arith, same, from)) to has;
  }

  -- the slot strays
  pub astray : (seen page : ℕ) (look : Look) → IsSeen n maps now t (seen + 1) s look → look.seen ≡ seen → seen < t
      → (0 < look.applied) ⊎ (s.changes.items ≡ []) → IsPageOf s page → now page ≢ info_from look.content (page - s.first) → DiffersBelow t maps s
  astray seen page look h at lt begun has differs =
      let same = h.still seen page (omega (arith, at)) lt has in
      let content = those seen seen look h.applied (omega arith) (λ k a b. let l = h.applied.later k a b in omega arith) in
      record {
        ticket = seen;
        page = page;
        within = lt;
        begun = begun_of s.changes.items seen (⊎_elim
            (λ (l : 0 < look.applied). let b = h.applied.before 0 l in let w = h.applied.within in inr (omega (arith, l, w), omega arith))
            (λ e. inl e) begun);
        has = has;
        differs = λ e. differs (sym same ∙ e ∙ ap (λ o. info_from o (page - s.first)) content);
      }

  -- what the slot's pages have is settled up to the next change
  pub settled : (seen : ℕ) (look new : Look) → IsSeen n maps now t (seen + 1) s look → look.seen ≡ seen → new.applied ≡ look.applied
      → new.content ≡ look.content → seen < new.seen → new.seen ≤ t
      → ((k : ℕ) → look.applied ≤ k → k < length s.changes.items → new.seen ≤ ticket_at s.changes.items k)
      → ((look.applied ≡ 0) × (s.changes.items ≢ [])) ⊎ HasContent s now look.content → IsSeen n maps now t new.seen s new
  settled seen look new h at count content more most later found = record {
    dated = h.dated;
    applied = record {
      within = let w = h.applied.within in omega (arith, count, w);
      content = content ∙ h.applied.content ∙ ap (λ k. replay (take k s.changes.items)) (sym count);
      before = λ k less. let b = h.applied.before k (omega (arith, count, less)) in omega (arith, b, more);
      later = λ k from to. later k (omega (arith, count, from)) to;
    };
    seen = most;
    agrees = λ u less begun. ⊎_elim
        (λ (l : u < seen). h.agrees u (omega (arith, at, l)) begun)
        (λ (l : seen ≤ u). now_agrees u l less begun found)
        (cases_lt u seen);
    still = λ u page from to has. h.still u page (omega (arith, at, more, from)) to has;
  }
    where
      now_agrees : (u : ℕ) → seen ≤ u → u < new.seen → HasBegun u s.changes.items
          → ((look.applied ≡ 0) × (s.changes.items ≢ [])) ⊎ HasContent s now look.content → HasContent s (maps u) (replay (up_to u s.changes.items))
      now_agrees u from less begun (inl none) = λ page has.
          let first = begun_first s.changes.items u none.1 begun in
          let l = later 0 (omega (arith, none.0)) first.0 in
          let b = first.1 in
          absurd (omega (arith, l, b, less))
      now_agrees u from less begun (inr has_content) = λ page has.
          let content = those u seen look h.applied from (λ k a b. let l = later k a b in omega (arith, l, less)) in
          h.still u page (omega (arith, at, from)) (omega (arith, less, most)) has ∙ has_content page has
          ∙ ap (λ o. info_from o (page - s.first)) (sym content)
