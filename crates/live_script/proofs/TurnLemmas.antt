-- Lanes that are run one after another
use Rattle.std.proofs.Common.{◌≡◌, ◌≢◌, ℕ, ◌+◌, ◌<◌, ◌≤◌, ◌⊎◌, inl, inr, List, [], length, get_or, set, arith, refl, sym, subst, ◌∙◌}
use Rattle.std.proofs.lemmas.List.{get_or_default, get_or-set_same, get_or-set_other, length-set}
use Rattle.std.specs.Prelude.{All}
use Rattle.refcache.proofs.Sums.{same_or_not}
use Rattle.live_space.specs.Space.{LiveView}
use Rattle.trace_words.specs.declared.script.Task.{Task}
use Rattle.live_script.specs.declared.lane.Lane.{Lane}
use Rattle.live_script.specs.Tasks.{EndsAs}
use Rattle.live_script.specs.Runs.{EndEach}

-- one lane did what its core is to do, or stopped
abbrev pub OneEnds : {A : Type 0} → LiveView → List (List Task) → ℕ → Lane A → Lane A → Type 0
OneEnds live tasks k before now = EndsAs live before.seat (get_or tasks k []) now.seat now.fault

-- the first lanes did so, and the others are as before
pub record EndTo {A : Type 0} (live : LiveView) (tasks : List (List Task)) (before now : List (Lane A)) (n : ℕ) : Type 0 where
  pub count : length now ≡ length before
  pub ended : (k : ℕ) (d e : Lane A) → k < n → k < length before → OneEnds live tasks k (get_or before k d) (get_or now k e)
  pub rest : (k : ℕ) (d : Lane A) → n ≤ k → get_or now k d ≡ get_or before k d

module _ {A : Type 0} (live : LiveView) (tasks : List (List Task)) (before now : List (Lane A)) (n : ℕ) (old new : Lane A) (given : List Task)
    (h : EndTo live tasks before now n) (lt : n < length before) (same : given ≡ get_or tasks n [])
    (ends : EndsAs live (get_or now n old).seat given new.seat new.fault) where
  one : OneEnds live tasks n (get_or now n old) new
  one = subst (λ ts. EndsAs live (get_or now n old).seat ts new.seat new.fault) same ends

  within : n < length now
  within = omega (arith, lt, h.count)

  at_last : (d e : Lane A) → OneEnds live tasks n (get_or before n d) (get_or (set now n new) n e)
  at_last d e = subst (λ (lane : Lane A). OneEnds live tasks n (get_or before n d) lane) (sym (get_or-set_same now n new e within))
      (subst (λ (lane : Lane A). OneEnds live tasks n lane new) (get_or_default now n old d within ∙ h.rest n d (omega arith)) one)

  ended_more : (k : ℕ) (d e : Lane A) → k < n + 1 → k < length before → (k ≡ n) ⊎ (k ≢ n)
      → OneEnds live tasks k (get_or before k d) (get_or (set now n new) k e)
  ended_more k d e less low (inl same) =
      subst (λ (m : ℕ). OneEnds live tasks m (get_or before m d) (get_or (set now n new) m e)) (sym same) (at_last d e)
  ended_more k d e less low (inr ne) =
      subst (λ (lane : Lane A). OneEnds live tasks k (get_or before k d) lane) (sym (get_or-set_other now n k new e ne))
      (h.ended k d e (omega (arith, less, ne)) low)

  pub end_more : EndTo live tasks before (set now n new) (n + 1)
  end_more = record {
    count = omega (arith, length-set now n new, h.count);
    ended = λ k d e less low. ended_more k d e less low (same_or_not k n);
    rest = λ k d le. get_or-set_other now n k new d (λ e. absurd (omega (arith, e, le))) ∙ h.rest k d (omega (arith, le));
  }

-- the next lane is as it was, so that what holds of all lanes holds of it
pub next_is : {A : Type 0} (P : Lane A → Type 0) (live : LiveView) (tasks : List (List Task)) (before now : List (Lane A)) (n : ℕ) (d : Lane A)
    → EndTo live tasks before now n → All P before → n < length before → P (get_or now n d)
next_is P live tasks before now n d h all lt = subst P (sym (h.rest n d (omega arith))) (all n d lt)

-- no lane is left
pub all_end : {A : Type 0} (live : LiveView) (tasks : List (List Task)) (before now : List (Lane A)) (n : ℕ) → EndTo live tasks before now n
    → length before ≤ n → EndEach live tasks before now
all_end live tasks before now n h past = record { count = h.count; each = λ k d e lt. h.ended k d e (omega (arith, past, lt)) lt }
