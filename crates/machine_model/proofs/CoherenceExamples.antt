-- A state that is coherent, and such as aren't
use Rattle.machine_model.proofs.Words.{◌≡◌, ℕ, true, false, refl, subst, arith, inl, Some, None, Option, List, [], ◌∷◌, Anon, PageInfo, PageRange, put}
use Rattle.machine_model.proofs.Words.{put_all, put_both, Clear, Translation, TlbEntry, Message, message_of, posted, Phase, Free, Acks, awaits_in}
use Rattle.slot_lock.specs.declared.plan.Goal.TheVariants as To
use Rattle.machine_model.specs.Coherent.{IsBacked, HasDropped, IsCoherent}
use Rattle.machine_model.proofs.Cores.{IsCore}

-- no file page is cached
abbrev no_cache : ℕ → ℕ → Option ℕ
no_cache n k = None

-- page 20 is readable and has frame 3, and core 1 is recorded on it
abbrev used : PageInfo
used = record {
  meta = record { back = Anon; prot = record { read = true; write = false; exec = false } };
  frame = Some 3;
  cores = 2;
}

abbrev entry : Translation
entry = record { frame = 3; write = false; exec = false }

abbrev frame_in : Option Translation → ℕ
frame_in None = 0
frame_in (Some t) = t.frame

abbrev page_20 : PageRange
page_20 = record { first = 20; end = 21 }

-- ---- a shootdown under way: core 0 is to unmap the page, and core 1, which has its entry, hasn't looked at the message

abbrev info : ℕ → Option PageInfo
info = put (λ p. None) 20 (Some used)

abbrev phase : ℕ → Phase
phase = put (λ c. Free) 0 (Acks (To.Change (Clear page_20)) (Clear page_20))

abbrev table : ℕ → Option Translation
table = put (λ p. None) 20 (Some entry)

abbrev tlb : List TlbEntry
tlb = record { page = 20; translation = entry } ∷ []

abbrev inbox : List Message
inbox = posted 0 page_20 ∷ []

backed : IsBacked no_cache (Some used) 1 entry
backed = record { entry = refl; recorded = refl; right = refl }

told : IsCore no_cache info phase 1 table tlb inbox
told = record {
  tables = λ p t. put_both (λ p o x. x ≡ Some t → IsBacked no_cache o 1 t) (λ p. None) (λ p. None) 20 (Some used) (Some entry)
      (λ e. let same : entry ≡ t = cc in subst (IsBacked no_cache (Some used) 1) same backed) (λ p ne e. absurd cc) p;
  tlbs = ((backed, inl refl), tt);
  asked = (λ e. omega (arith, e), refl, refl, tt);
  dropped = λ c range. put_all (λ c ph. awaits_in ph ≡ Some range → HasDropped table tlb range (message_of inbox c))
      (λ c. Free) 0 (Acks (To.Change (Clear page_20)) (Clear page_20)) (λ a is. absurd cc) (λ c ne a. absurd cc) c;
}

untouched : (d : ℕ) → IsCore no_cache info phase d (λ p. None) [] []
untouched d = record {
  tables = λ p t e. absurd cc;
  tlbs = tt;
  asked = tt;
  dropped = λ c range a. (λ p i. refl, tt);
}

-- ---- what coherence rules out

-- a call that awaits a page of which another core has an entry, without having told it
untold : (any : ℕ → Option PageInfo) → ¬ IsCoherent no_cache any (λ c. Acks (To.Change (Clear page_20)) (Clear page_20)) (record {
  table = λ d p. Some entry;
  tlb = λ d. [];
  inbox = λ d. [];
})
untold any k = absurd (let e = (k.dropped 0 1 page_20 refl).0 20 refl in cc)
