-- Calls that aren't answered yet, recorded one after another
use Rattle.std.proofs.Common.{◌≡◌, ℕ, ◌+◌, ◌<◌, ◌≤◌, arith, List, ◌∷◌, ◌++◌, [], Option, None, Some, Bool, true, false}
use Rattle.std.proofs.Common.{cond, refl, sym, ap, ◌∙◌, length, drop, get_or}
use Rattle.std.proofs.Math.ListN.{drop_of_length-le}
use Rattle.std.proofs.lemmas.List.{at_drop_more}
use Rattle.draw_steps.specs.declared.moments.Recorded.{Recorded}
use Rattle.draw_records.specs.declared.recorder.Pending.{Pending}
use Rattle.draw_records.specs.Recording.{Recording, all_pushed, begin_of, begin_pushed, is_kept, pushed}

pushed_pending : (r : Recording) (m : Recorded) → (pushed r m).pending ≡ r.pending
pushed_pending r m = go (is_kept r)
  where
    go : (b : Bool) → (cond b (record r { moments = r.moments ++ m ∷ [] }) r).pending ≡ r.pending
    go true = refl
    go false = refl

-- recording a call leaves those that aren't answered
pub begin_pending : (r : Recording) (p : Option Pending) → (begin_pushed r p).pending ≡ r.pending
begin_pending r None = refl
begin_pending r (Some call) = pushed_pending r (begin_of call)

-- one call more
pub call_pushed : (r first next : Recording) (calls : List (Option Pending)) (x : Option Pending) (n : ℕ) → n < 64 → length r.pending ≡ 64 → r.pending ≡ calls
    → x ≡ get_or r.pending n None → next ≡ begin_pushed r x → all_pushed r (drop n calls) ≡ all_pushed first calls
    → all_pushed next (drop (n + 1) calls) ≡ all_pushed first calls
call_pushed r first next calls x n p whole same is came rest =
    let long : length calls ≡ 64 = ap length (sym same) ∙ whole in
    let there : n < length calls = omega (arith, p, long) in
    ap (λ m. all_pushed m (drop (n + 1) calls)) (came ∙ ap (begin_pushed r) (is ∙ ap (λ ps. get_or ps n None) same))
    ∙ (sym (at_drop_more (all_pushed r) calls n None there) ∙ rest)

-- all calls
pub all_called : (r first : Recording) (calls : List (Option Pending)) (n : ℕ) → 64 ≤ n → (0 < n → length calls ≡ 64)
    → all_pushed r (drop n calls) ≡ all_pushed first calls → r ≡ all_pushed first calls
all_called r first calls n end whole rest =
    let long : length calls ≡ 64 = whole (omega (arith, end)) in
    let past : length calls ≤ n = omega (arith, end, long) in
    sym (ap (all_pushed r) (drop_of_length-le calls {i = n} past)) ∙ rest
