-- Lists of steps with one more put in, and with covered ones taken out
use Rattle.std.proofs.Common.{◌≡◌, ℕ, Bool, true, get_or, zero, suc, ◌+◌, ◌≤◌, ◌<◌, List, [], ◌∷◌, ◌++◌, Option, Some, None, IfSome, ap, arith, drop}
use Rattle.std.proofs.Common.{length, refl, slice_get, subst, sym, take, ◌∙◌, ◌⊎◌, inl, inr}
use Rattle.std.specs.List.{insert, remove}
use Rattle.vm_base.specs.Plain.{Plain}
use Rattle.litmus_merges.specs.declared.change.MapChange.{MapChange}
use Rattle.litmus_merges.specs.Passing.{AreAlikeBefore, Commute, Covers, IsCovered, PassFrom, covers, may_pass}
use Rattle.litmus_merges.specs.Steps.{AreSound, IsSoundStep, StepsAfter, after, after_all}
use Rattle.litmus_merges.proofs.Lists.{below, get_here, get_one, get_within}
use Rattle.litmus_merges.proofs.Passed.{covering, passes}

shift : (x : MapChange) (xs : List MapChange) (at : ℕ) (s : MapChange) → PassFrom (x ∷ xs) (suc at) s → PassFrom xs at s
shift x xs at s h k other l e = h (suc k) other (omega (arith, l)) e

-- a step put in where all behind it may change places with it
pub put_between : (xs : List MapChange) (at : ℕ) (s : MapChange) (t : Plain) → at ≤ length xs → PassFrom xs at s → after_all t (insert xs at s) ≡ after (after_all t xs) s
put_between [] zero s t l h = refl
put_between [] (suc at) s t l h = absurd (omega (arith, l))
put_between (x ∷ xs) zero s t l h =
    ap (λ (u : Plain). after_all u xs) (sym (h zero x (omega arith) refl t))
    ∙ put_between xs zero s (after t x) (omega arith) (shift_zero x xs s h)
  where
    shift_zero : (x : MapChange) (xs : List MapChange) (s : MapChange) → PassFrom (x ∷ xs) zero s → PassFrom xs zero s
    shift_zero x xs s h k other l e = h (suc k) other (omega arith) e
put_between (x ∷ xs) (suc at) s t l h = put_between xs at s (after t x) (omega (arith, l)) (shift x xs at s h)

-- a step taken out of which a later one leaves nothing
pub taken_out : (xs : List MapChange) (at : ℕ) (s : MapChange) → IsCovered xs s at → AreAlikeBefore s xs (remove xs at)
taken_out [] at s h t = let is = h.is in absurd cc
taken_out (x ∷ xs) zero s h t =
    let is : Some x ≡ Some h.earlier = h.is in
    let same : h.earlier ≡ x = cc in
    let pass : PassFrom xs zero s = λ k other l e. h.pass (suc k) other (omega (arith, l)) e in
    sym (put_between xs zero s t (omega arith) pass)
    ∙ (ap (λ (u : Plain). after_all u xs) (sym (subst (Covers s) same h.covers t)) ∙ put_between xs zero s (after t x) (omega arith) pass)
taken_out (x ∷ xs) (suc at) s h t = taken_out xs at s (record { earlier = h.earlier; is = h.is; covers = h.covers; pass = λ k other l e. h.pass (suc k) other (omega (arith, l)) e }) (after t x)

-- ---- each step is sound

pub sound_without : (xs : List MapChange) (at : ℕ) → AreSound xs → AreSound (remove xs at)
sound_without [] zero h k step e = absurd cc
sound_without [] (suc at) h k step e = absurd cc
sound_without (x ∷ xs) zero h k step e = h (suc k) step e
sound_without (x ∷ xs) (suc at) h zero step e = h zero step e
sound_without (x ∷ xs) (suc at) h (suc k) step e = sound_without xs at (λ j y f. h (suc j) y f) k step e

pub sound_with : (xs : List MapChange) (at : ℕ) (s : MapChange) → AreSound xs → IsSoundStep s → AreSound (insert xs at s)
sound_with [] zero s h i zero step e = let same : s ≡ step = cc in subst IsSoundStep same i
sound_with [] zero s h i (suc k) step e = absurd cc
sound_with [] (suc at) s h i zero step e = let same : s ≡ step = cc in subst IsSoundStep same i
sound_with [] (suc at) s h i (suc k) step e = absurd cc
sound_with (x ∷ xs) zero s h i zero step e = let same : s ≡ step = cc in subst IsSoundStep same i
sound_with (x ∷ xs) zero s h i (suc k) step e = h k step e
sound_with (x ∷ xs) (suc at) s h i zero step e = h zero step e
sound_with (x ∷ xs) (suc at) s h i (suc k) step e = sound_with xs at s (λ j y f. h (suc j) y f) i k step e

-- ---- going back through a list

pub pass_end : (xs : List MapChange) (s : MapChange) (at : ℕ) → length xs ≤ at → PassFrom xs at s
pass_end xs s at l k other le e = let within = get_within xs k other e in absurd (omega (arith, l, le, within))

pub pass_more : (xs : List MapChange) (s x : MapChange) (at : ℕ) → slice_get xs at ≡ Some x → Commute x s → PassFrom xs (at + 1) s → PassFrom xs at s
pass_more xs s x at is c h k other le e = by (below at k (omega (arith, le)))
  where
    by : (at < k) ⊎ (at ≡ k) → Commute other s
    by (inl l) = h k other (omega (arith, l)) e
    by (inr eq) = subst (λ (y : MapChange). Commute y s) (get_one xs at x other is (subst (λ (n : ℕ). slice_get xs n ≡ Some other) (sym eq) e)) c

pub pass_further : (xs : List MapChange) (s : MapChange) (at place : ℕ) → at ≤ place → PassFrom xs at s → PassFrom xs place s
pass_further xs s at place l h k other le e = h k other (omega (arith, l, le)) e

-- a step that may change places with this one
pub passed_at : (xs : List MapChange) (s : MapChange) (at k : ℕ) (d : MapChange) (b : Bool) → k < length xs → b ≡ may_pass (get_or xs k d) s → b ≡ true
    → at ≤ k + 1 → PassFrom xs at s → PassFrom xs k s
passed_at xs s at k d b l e f le h =
    pass_more xs s (get_or xs k d) k (get_here xs k d l) (passes (get_or xs k d) s (sym e ∙ f)) (pass_further xs s at (k + 1) le h)

-- and one of which it leaves nothing
pub covered_at : (xs : List MapChange) (s : MapChange) (at k : ℕ) (d : MapChange) (b : Bool) → k < length xs → b ≡ covers s (get_or xs k d) → b ≡ true
    → at ≤ k + 1 → PassFrom xs at s → IsCovered xs s k
covered_at xs s at k d b l e f le h = record {
  earlier = get_or xs k d;
  is = get_here xs k d l;
  covers = covering s (get_or xs k d) (sym e ∙ f);
  pass = pass_further xs s at (k + 1) le h;
}

-- ---- what was put in

pub alike_refl : (s : MapChange) (xs : List MapChange) → AreAlikeBefore s xs xs
alike_refl s xs t = refl

pub alike_more : (s : MapChange) (xs ys zs : List MapChange) → AreAlikeBefore s xs ys → AreAlikeBefore s ys zs → AreAlikeBefore s xs zs
alike_more s xs ys zs h k t = k t ∙ h t

pub put_after : (xs ys zs : List MapChange) (at : ℕ) (s : MapChange) → AreAlikeBefore s xs ys → at ≤ length ys → PassFrom ys at s → zs ≡ insert ys at s
    → StepsAfter xs (Some s) zs
put_after xs ys zs at s alike l pass is t = ap (after_all t) is ∙ (put_between ys at s t l pass ∙ alike t)

pub sound_put : (ys zs : List MapChange) (at : ℕ) (s : MapChange) → AreSound ys → IsSoundStep s → zs ≡ insert ys at s → AreSound zs
sound_put ys zs at s h i is = subst AreSound (sym is) (sound_with ys at s h i)

-- the steps after one step, or none
pub after_some : (xs ys zs : List MapChange) (step : Option MapChange) (s : MapChange) → step ≡ Some s → ys ≡ xs → StepsAfter ys (Some s) zs → StepsAfter xs step zs
after_some xs ys zs step s is same h =
    subst (λ (o : Option MapChange). StepsAfter xs o zs) (sym is) (subst (λ (l : List MapChange). StepsAfter l (Some s) zs) same h)

pub sound_some : (step : Option MapChange) (s : MapChange) → step ≡ Some s → IfSome step IsSoundStep → IsSoundStep s
sound_some step s is h = subst (λ (o : Option MapChange). IfSome o IsSoundStep) is h
