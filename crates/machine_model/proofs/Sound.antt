-- What the invariant gives: a sound state
use Rattle.machine_model.proofs.Words.{◌≡◌, ◌≢◌, ℕ, suc, pos, arith, Bool, true, false, refl, ap, subst, Some, None, Option, ◌∙◌, PageInfo, frame_of}
use Rattle.machine_model.proofs.Words.{is_allowed, Translation, World, ints, true_count}
use Rattle.machine_model.specs.Coherent.{IsBacked, IsSoundEntry}
use Rattle.machine_model.specs.Counted.{FilePage, one_if, users_of}
use Rattle.machine_model.proofs.CountsKept.{unused_no_page, cached_positive}
use Rattle.machine_model.specs.Translations.{Translates, Agrees}
use Rattle.machine_model.specs.Translations.Translates.{by_table, by_tlb}
use Rattle.machine_model.specs.Translations.IsNamed.{by_slot, by_file, by_translation, by_call}
use Rattle.machine_model.specs.Sound.{IsSoundState}
use Rattle.machine_model.specs.Invariant.{IsWellFormed}
use Rattle.machine_model.proofs.SoundPages.{IsFramed, framed, has_frame_bytes}
use Rattle.machine_model.proofs.Reaching.{HasPage, backs, allows, at_place}

-- whatever a core translates by is what its page's slot says
backed : (w : World) → IsWellFormed w → (c p : ℕ) (e : Translation) → Translates w.hardware c p e → IsBacked w.memory.cached (w.slots.info p) c e
backed w f c p e = elim [
  | by_table h ↦ f.coherent.tables c p e h
  | by_tlb i h ↦ (at_place (IsSoundEntry w.memory.cached w.slots.info c (w.hardware.table c) (w.hardware.inbox c)) (w.hardware.tlb c) i
      (record { page = p; translation = e }) (f.coherent.tlbs c) h).0
]

agrees : (w : World) (f : IsWellFormed w) (c p : ℕ) (e : Translation) → IsBacked w.memory.cached (w.slots.info p) c e → Agrees w f.plain p e
agrees w f c p e b =
    let k : HasPage w.memory.cached (w.slots.info p) e = backs w.memory.cached (w.slots.info p) c e b in
    let i : IsFramed w f.plain p e.frame = framed w f.plain p e.frame f.good (ap frame_of k.mapped ∙ k.frame) in
    let same : k.info ≡ i.info = let a = k.mapped in let b = i.at_slot in cc in
    has_frame_bytes w f.plain p e i
    (λ access h. subst (λ (x : PageInfo). is_allowed x.meta.prot access ≡ true) same (allows w.memory.cached (w.slots.info p) e k access h))

-- the frame of a page isn't free
used : (w : World) → IsWellFormed w → (p x : ℕ) → frame_of (w.slots.info p) ≡ Some x → w.memory.is_free x ≡ false
used w f p x h = go (w.memory.is_free x) refl
  where
    go : (b : Bool) → w.memory.is_free x ≡ b → b ≡ false
    go false e = refl
    go true e = absurd (unused_no_page w f.order f.counted x p (f.counted.free x e) h)

-- a frame that caches a file's page isn't free
kept : (w : World) → IsWellFormed w → (n k x : ℕ) → w.memory.cached n k ≡ Some x → w.memory.is_free x ≡ false
kept w f n k x h = go (w.memory.is_free x) refl
  where
    go : (b : Bool) → w.memory.is_free x ≡ b → b ≡ false
    go false e = refl
    go true e = absurd (let a = cached_positive w f.counted n k x h in let u = (f.counted.free x e).zero in omega (arith, ints, a, u))

-- what a frame counts beside the pages that have it
uncounted : (w : World) (k : IsWellFormed w) (f : ℕ) → ((n l : ℕ) → w.memory.cached n l ≢ Some f) → true_count w.memory.counts f ≡ pos (users_of w.slots.info f)
uncounted w k f none = go (k.counted.page_in f) refl
  where
    go : (o : Option FilePage) → k.counted.page_in f ≡ o → true_count w.memory.counts f ≡ pos (users_of w.slots.info f)
    go None e = let a : one_if (k.counted.page_in f) ≡ 0 = ap one_if e in let b = k.counted.users f in omega (arith, ints, a, b)
    go (Some x) e = absurd (none x.file x.page (k.counted.cached f x e))

counted_twice : (w : World) (k : IsWellFormed w) (n l f : ℕ) → w.memory.cached n l ≡ Some f → true_count w.memory.counts f ≡ pos (suc (users_of w.slots.info f))
counted_twice w k n l f h =
    let a : one_if (k.counted.page_in f) ≡ 1 = ap one_if (k.counted.caches n l f h) in let b = k.counted.users f in omega (arith, ints, a, b)

pub fine_sound : (w : World) → IsWellFormed w → IsSoundState w
fine_sound w well = (
  well.plain,
  record {
    log = well.log;
    agrees = λ c p e h. agrees w well c p e (backed w well c p e h);
    named = λ f. elim [
      | by_slot p h ↦ used w well p f h
      | by_file n k h ↦ kept w well n k f h
      | by_translation c p e h same ↦
          let k : HasPage w.memory.cached (w.slots.info p) e = backs w.memory.cached (w.slots.info p) c e (backed w well c p e h) in
          used w well p f (ap frame_of k.mapped ∙ (k.frame ∙ ap Some same))
      | by_call c h ↦ well.counted.busy c f h
    ];
    recorded = λ c p e h. (well.coherent.tables c p e h).recorded;
    mirrors =
        λ c i e h. (at_place (IsSoundEntry w.memory.cached w.slots.info c (w.hardware.table c) (w.hardware.inbox c)) (w.hardware.tlb c)
        i e (well.coherent.tlbs c) h).1;
    users = λ f none. uncounted w well f none;
    cached = λ n k f h. counted_twice w well n k f h;
  },
)
