-- Owners and mappings that a step of a call changes, and what pages have
use Rattle.machine_model.proofs.Words.{◌≡◌, ◌≢◌, ℕ, ◌<◌, Bool, true, false, refl, sym, ap, subst, Some, None, Option, ◌∙◌, PageInfo, over, over_all, Slots}
use Rattle.machine_model.proofs.Words.{Divides, Phase, holds, range_held, awaits_in, taken_in, World}
use Rattle.machine_model.specs.Orderly.{IsOrderly, IsAsked, IsCutFor, IsReady, BelongsTo}
use Rattle.machine_model.proofs.Moves.{IsCall, IsCallOf, Touches, cut_kept, ready_kept}

-- pages that no other core owned get an owner that is no other core
pub touches_owner : (s : Slots) (c : ℕ) (set : ℕ → Bool) (owner : Option ℕ) → ((d p : ℕ) → d ≢ c → set p ≡ true → s.owner p ≢ Some d)
    → ((d : ℕ) → d ≢ c → owner ≢ Some d)
    → Touches s (record s { owner = over s.owner set owner }) c
touches_owner s c set owner was new = record {
  info = λ p h. refl;
  now = λ d p ne. over_all (λ p o. o ≡ Some d → s.owner p ≡ Some d) s.owner set owner (λ p i h. absurd (new d ne h)) (λ p i h. h) p;
  still = λ d p ne. over_all (λ p o. s.owner p ≡ Some d → o ≡ Some d) s.owner set owner (λ p i h. absurd (was d p ne i h)) (λ p i h. h) p;
  edge = λ p h. h;
}

-- pages of core c are mapped otherwise
pub touches_info : (s : Slots) (c : ℕ) (info : ℕ → Option PageInfo) → ((p : ℕ) → s.owner p ≢ Some c → info p ≡ s.info p)
    → Touches s (record s { info = info }) c
touches_info s c info same = record { info = same; now = λ d p ne h. h; still = λ d p ne h. h; edge = λ p h. h }

-- the pages of the set are core c's now
pub gains : (w : World) (c : ℕ) (old phase : Phase) (set : ℕ → Bool) → IsCallOf w c old → IsAsked w.made w.calls.requests c (w.calls.number c) phase
    → ((p : ℕ) → set p ≡ true → holds phase p ≡ true)
    → ((p : ℕ) → holds old p ≡ true → holds phase p ≡ true)
    → ((p : ℕ) → set p ≡ false → holds phase p ≡ true → holds old p ≡ true)
    → IsCutFor w.slots.edge (range_held phase) → IsCutFor w.slots.edge (awaits_in phase) → IsReady w.made w.slots w.memory.cached phase
    → ((f : ℕ) → taken_in phase ≡ Some f → f < w.made.frames)
    → IsCall w.made (record w.slots { owner = over w.slots.owner set (Some c) }) w.memory.cached w.calls.requests c (w.calls.number c) phase
gains w c old phase set k asked new more back cut out ready taken = record {
  asked = asked;
  owned = λ p. over_all (λ p o. holds phase p ≡ true → o ≡ Some c) w.slots.owner set (Some c) (λ p i h. refl) (λ p i h. k.owned p (back p i h)) p;
  only = λ p. over_all (λ p o. o ≡ Some c → holds phase p ≡ true) w.slots.owner set (Some c) (λ p i h. new p i) (λ p i h. more p (k.only p h)) p;
  cut = cut;
  cut_out = out;
  ready = ready_kept w.made w.slots (record w.slots { owner = over w.slots.owner set (Some c) }) w.memory.cached phase (λ p h. refl) ready;
  taken = taken;
}

-- the pages of the set are nobody's now
pub loses : (w : World) (c : ℕ) (old phase : Phase) (set : ℕ → Bool) → IsCallOf w c old → IsAsked w.made w.calls.requests c (w.calls.number c) phase
    → ((p : ℕ) → set p ≡ true → holds phase p ≡ true → ⊥)
    → ((p : ℕ) → holds phase p ≡ true → holds old p ≡ true)
    → ((p : ℕ) → set p ≡ false → holds old p ≡ true → holds phase p ≡ true)
    → IsCutFor w.slots.edge (range_held phase) → IsCutFor w.slots.edge (awaits_in phase) → IsReady w.made w.slots w.memory.cached phase
    → ((f : ℕ) → taken_in phase ≡ Some f → f < w.made.frames)
    → IsCall w.made (record w.slots { owner = over w.slots.owner set None }) w.memory.cached w.calls.requests c (w.calls.number c) phase
loses w c old phase set k asked gone less rest cut out ready taken = record {
  asked = asked;
  owned = λ p. over_all (λ p o. holds phase p ≡ true → o ≡ Some c) w.slots.owner set None (λ p i h. absurd (gone p i h)) (λ p i h. k.owned p (less p h)) p;
  only = λ p. over_all (λ p o. o ≡ Some c → holds phase p ≡ true) w.slots.owner set None (λ p i h. absurd cc) (λ p i h. rest p i (k.only p h)) p;
  cut = cut;
  cut_out = out;
  ready = ready_kept w.made w.slots (record w.slots { owner = over w.slots.owner set None }) w.memory.cached phase (λ p h. refl) ready;
  taken = taken;
}

-- pages have the same owners and mappings, and slots begin where calls have them begin
pub other_edges : (w : World) (t : Slots) → t.owner ≡ w.slots.owner → t.info ≡ w.slots.info
    → ((c : ℕ) → IsCutFor t.edge (range_held (w.calls.phase c))) → ((c : ℕ) → IsCutFor t.edge (awaits_in (w.calls.phase c)))
    → IsOrderly w → IsOrderly (record w { slots = t })
other_edges w t owners info cut cut_out g = record {
  asked = g.asked;
  owned = λ c p i. ap (λ f. f p) owners ∙ g.owned c p i;
  only = λ c p i. g.only c p (sym (ap (λ f. f p) owners) ∙ i);
  cut = cut;
  cut_out = cut_out;
  ready = λ c. ready_kept w.made w.slots t w.memory.cached (w.calls.phase c) (λ p i. ap (λ f. f p) info) (g.ready c);
  pages = λ p. subst (λ o. BelongsTo w.made p (o p)) (sym info) (g.pages p);
  taken = g.taken;
  memory = g.memory;
  outside = g.outside;
  few = g.few;
  room = g.room;
  limit = g.limit;
}

-- slots that were only divided
pub divided : (w : World) (t : Slots) (o : Option ℕ) (at : ℕ) → Divides w.slots t o at → IsOrderly w → IsOrderly (record w { slots = t })
divided w t o at h g =
    other_edges w t h.owners h.info (λ c. cut_kept w.slots.edge t.edge h.kept (range_held (w.calls.phase c)) (g.cut c))
    (λ c. cut_kept w.slots.edge t.edge h.kept (awaits_in (w.calls.phase c)) (g.cut_out c)) g
