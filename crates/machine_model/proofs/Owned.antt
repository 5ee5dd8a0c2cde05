-- What pages have stays the machine's: valid pages, its frames and its cores
use Rattle.machine_model.proofs.Words.{◌≡◌, ℕ, ◌<◌, Bool, true, false, ◌==◌, refl, sym, ap, subst, Some, None, Option, ◌∙◌, arith, fun_ext, Meta, PageInfo}
use Rattle.machine_model.proofs.Words.{PageRange, Prot, members, with_member, put, has, unused, info_with_frame, info_with_prot, info_with_core}
use Rattle.machine_model.proofs.Words.{info_with_copy, IsPage, IsPageRange, members-empty, put_all, has_in, Change, range_of, Slots, slots_after, Made}
use Rattle.std.proofs.Common.{◌||◌}
use Rattle.std.proofs.lemmas.Nat.Bits.{bit_at-pow_same, bit_at-pow_other}
use Rattle.std.specs.Prelude.{◌^◌}
use Rattle.vm_base.proofs.CoreSets.{members-or}
use Rattle.machine_model.specs.Orderly.{BelongsTo}
use Rattle.machine_model.proofs.Changed.{changed_all}

-- ---- one core more in a set

or_true : (b : Bool) → (b || true) ≡ true
or_true true = refl
or_true false = refl

or_false : (b : Bool) → (b || false) ≡ b
or_false true = refl
or_false false = refl

pub members_with : (set core : ℕ) → members (with_member set core) ≡ put (members set) core true
members_with set core =
    fun_ext (put_all (λ j b. members (with_member set core) j ≡ b) (members set) core true
    (both core ∙ ap (λ b. members set core || b) (ap (λ n. n == 1) (bit_at-pow_same core)) ∙ or_true (members set core))
    (λ j ne. both j ∙ ap (λ b. members set j || b) (ap (λ n. n == 1) (bit_at-pow_other core j ne)) ∙ or_false (members set j)))
  where
    both : (j : ℕ) → members (with_member set core) j ≡ (members set j || members (2 ^ core) j)
    both j = ap (λ f. f j) (members-or set (2 ^ core))

-- ---- what a page has

pub unmapped_belongs : (made : Made) (p : ℕ) → BelongsTo made p None
unmapped_belongs made p = record { valid = λ h. absurd cc; frame = λ f h. absurd cc; cores = λ c h. absurd cc }

no_member : (c : ℕ) → members 0 c ≡ true → ⊥
no_member c h = let a = members-empty c in cc (a, h)

pub unused_belongs : (made : Made) (p : ℕ) (meta : Meta) → IsPage p → BelongsTo made p (Some (unused meta))
unused_belongs made p meta valid = record { valid = λ h. valid; frame = λ f h. absurd cc; cores = λ c h. absurd (no_member c h) }

protected_belongs : (made : Made) (p : ℕ) (prot : Prot) (o : Option PageInfo) → BelongsTo made p o → BelongsTo made p (info_with_prot prot o)
protected_belongs made p prot None h = h
protected_belongs made p prot (Some info) h = record { valid = h.valid; frame = h.frame; cores = λ c i. absurd (no_member c i) }

pub changed_belongs : (made : Made) (s : Slots) (change : Change) → IsPageRange (range_of change) → ((p : ℕ) → BelongsTo made p (s.info p))
    → (p : ℕ) → BelongsTo made p ((slots_after change s).info p)
changed_belongs made s change range old =
    changed_all (BelongsTo made) s change
    (λ r meta p e i. unused_belongs made p _ (within r p (subst (λ x. IsPageRange (range_of x)) e range) i))
    (unmapped_belongs made) (λ prot p. protected_belongs made p prot (s.info p)) old
  where
    within : (r : PageRange) (p : ℕ) → IsPageRange r → has r p ≡ true → IsPage p
    within r p h i = let z = has_in r p i in (omega (arith, z.0, h.low), omega (arith, z.1, h.high))

pub framed_belongs : (made : Made) (p f : ℕ) (o : Option PageInfo) → f < made.frames → BelongsTo made p o → BelongsTo made p (info_with_frame f o)
framed_belongs made p f None lt h = h
framed_belongs made p f (Some info) lt h = record {
  valid = h.valid;
  frame = λ x e. let same : f ≡ x = cc in
      subst (λ n. n < made.frames) same lt;
  cores = h.cores;
}

-- a copy that no core has used
pub copied_belongs : (made : Made) (p f : ℕ) (o : Option PageInfo) → f < made.frames → BelongsTo made p o → BelongsTo made p (info_with_copy f o)
copied_belongs made p f None lt h = h
copied_belongs made p f (Some info) lt h = record {
  valid = h.valid;
  frame = λ x e. let same : f ≡ x = cc in subst (λ n. n < made.frames) same lt;
  cores = λ c e. absurd (no_member c e);
}

pub recorded_belongs : (made : Made) (p c : ℕ) (o : Option PageInfo) → c < made.cores → BelongsTo made p o → BelongsTo made p (info_with_core c o)
recorded_belongs made p c None lt h = h
recorded_belongs made p c (Some info) lt h = record {
  valid = h.valid;
  frame = h.frame;
  cores = λ d e. put_all (λ d b. b ≡ true → d < made.cores) (members info.cores) c true (λ _. lt) (λ d ne. h.cores d) d
      (sym (ap (λ f. f d) (members_with info.cores c)) ∙ e);
}
