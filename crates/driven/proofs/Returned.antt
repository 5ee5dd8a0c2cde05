-- Flushes and reviews one after another, and frames that nothing uses
use Rattle.machine_model.proofs.Words.{◌≡◌, ◌≢◌, ℕ, ◌+◌, ◌^◌, ◌≤◌, ◌==◌, refl, ap, subst, ◌∙◌, Bool, true, false, arith, Some, None, Option}
use Rattle.machine_model.proofs.Words.{zero, suc, if◌then◌else◌, List, [], ◌∷◌, ◌++◌, length, pos, props, ∥∥₁_elim, nat_tests, PageInfo, frame_of}
use Rattle.machine_model.proofs.Words.{World, Step, Run, true_count}
use Rattle.std.proofs.Common.{length-append}
use Rattle.machine_model.specs.declared.event.Event.{Event}
use Rattle.machine_model.specs.declared.event.Event.TheVariants.{Flush, Review}
use Rattle.machine_model.specs.declared.event.Outcome.{Outcome}
use Rattle.machine_model.specs.Counted.{FilePage, IsCountedState, is_frame, pages_with, users_of, one_if}
use Rattle.machine_model.specs.Sound.{IsReached}
use Rattle.machine_model.proofs.SoundKept.{reached_fine}
use Rattle.driven.specs.Reclaiming.{AreCountings, CountingsLead, CountsSome, IsTaken, IsNobodys, IsBack}

-- ---- one after another

countings_join : (es fs : List Event) → AreCountings es → AreCountings fs → AreCountings (es ++ fs)
countings_join [] fs a b = b
countings_join (Flush c ∷ es) fs a b = countings_join es fs a b
countings_join (Review c ∷ es) fs a b = countings_join es fs a b
countings_join (_ ∷ es) fs a b = absurd a

run_join : (es fs : List Event) (os ps : List Outcome) (w m v : World) → Run w es os m → Run m fs ps v → Run w (es ++ fs) (os ++ ps) v
run_join [] fs [] ps w m v a b = subst (λ x. Run x fs ps v) a b
run_join (e ∷ es) fs (o ∷ os) ps w m v a b = (a.0, a.1, run_join es fs os ps a.0 m v a.2 b)
run_join [] fs (o ∷ os) ps w m v a b = absurd a
run_join (e ∷ es) fs [] ps w m v a b = absurd a

pub counts_nothing : (w : World) → CountingsLead w [] w
counts_nothing w = record { all = tt; outcomes = []; run = refl }

pub counts_join : (w m v : World) (es fs : List Event) → CountingsLead w es m → CountingsLead m fs v → CountingsLead w (es ++ fs) v
counts_join w m v es fs a b = record {
  all = countings_join es fs a.all b.all;
  outcomes = a.outcomes ++ b.outcomes;
  run = run_join es fs a.outcomes b.outcomes w m v a.run b.run;
}

pub flushed : (w v : World) (c : ℕ) (o : Outcome) → Step w (Flush c) o v → CountsSome w v
flushed w v c o s = (Flush c ∷ [], record { all = tt; outcomes = o ∷ []; run = (v, s, refl) }, omega arith)

pub reviewed : (w v : World) (c : ℕ) (o : Outcome) → Step w (Review c) o v → CountsSome w v
reviewed w v c o s = (Review c ∷ [], record { all = tt; outcomes = o ∷ []; run = (v, s, refl) }, omega arith)

pub some_join : (w m v : World) → CountsSome w m → CountsSome m v → CountsSome w v
some_join w m v (es, a, some) (fs, b, more) =
    let sum = length-append es fs in (es ++ fs, counts_join w m v es fs a b, omega (arith, sum, some))

-- so many rounds, each of which took some event
abbrev pub CountsAtLeast : World → ℕ → World → Type 0
CountsAtLeast w n v = (es : List Event) × CountingsLead w es v × (n ≤ length es)

pub no_round : (w : World) → CountsAtLeast w 0 w
no_round w = ([], counts_nothing w, omega arith)

pub round_more : (w m v : World) (n : ℕ) → CountsAtLeast w n m → CountsSome m v → CountsAtLeast w (n + 1) v
round_more w m v n (es, a, some) (fs, b, more) =
    let sum = length-append es fs in (es ++ fs, counts_join w m v es fs a b, omega (arith, sum, some, more))

-- ---- frames that nothing uses

is_none : (o : Option ℕ) (f : ℕ) → (o ≡ Some f → ⊥) → is_frame o f ≡ false
is_none None f h = refl
is_none (Some g) f h = by (g == f) refl
  where
    by : (b : Bool) → (g == f) ≡ b → b ≡ false
    by true e = let same : g ≡ f = grind (arith, nat_tests) in absurd (h (ap Some same))
    by false e = refl

no_pages : (info : ℕ → Option PageInfo) (f : ℕ) → ((p : ℕ) → frame_of (info p) ≢ Some f) → (n : ℕ) → pages_with info f n ≡ 0
unfolding pages_with
no_pages info f none zero = refl
no_pages info f none (suc n) =
    let first = ap {B = ℕ} (λ b. if b then 1 else 0) (is_none (frame_of (info n)) f (none n)) in
    let rest = no_pages info f none n in omega (arith, first, rest)

-- a frame that nothing uses has the true count 0
uncounted : (w : World) (f : ℕ) → IsReached w → IsNobodys w f → true_count w.memory.counts f ≡ pos 0
uncounted w f r k = at (counted.page_in f) refl
  where
    counted : IsCountedState w
    counted = (reached_fine w r).counted

    at : (x : Option FilePage) → counted.page_in f ≡ x → true_count w.memory.counts f ≡ pos 0
    at None e =
        let none : users_of w.slots.info f + one_if (counted.page_in f) ≡ 0 =
        let a = no_pages w.slots.info f k.pages (2 ^ 35) in let b = ap one_if e in omega (arith, a, b) in counted.users f ∙ ap pos none
    at (Some x) e = absurd (k.files x.file x.page (counted.cached f x e))

pub counted_back : (w : World) (f : ℕ) → ∥ IsReached w ∥₁ → true_count w.memory.counts f ≢ pos 0 → IsBack w f
counted_back w f t used k = absurd (∥∥₁_elim t (hlevel props) (λ r. used (uncounted w f r k)))

pub taken_back : (w : World) (f : ℕ) → IsTaken w f → IsBack w f
taken_back w f taken k = absurd (k.calls taken)

pub free_back : (w : World) (f : ℕ) → w.memory.is_free f ≡ true → IsBack w f
free_back w f free k = free
