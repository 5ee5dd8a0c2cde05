-- Notes, one after another.
use Rattle.std.proofs.Common.{◌≡◌, ℕ, ◌<◌, true, false, cond, List, [], ◌∷◌, ◌++◌, length, drop, Option, Some, None, refl, sym, ap, ◌∙◌}
use Rattle.std.proofs.Common.{append_assoc, append-nil, ◌+◌, ◌≤◌, arith, get_or, map, take}
use Rattle.machine_model.proofs.Words.{flat_map-append, length-map, take_more}
use Rattle.certifier.proofs.Standing.{all_of, seat_is}
use Rattle.std.specs.Prelude.{slice_get, is_some}
use Rattle.seats.specs.declared.noted.Noted.{Noted}
use Rattle.orders.specs.declared.history.Timed.{Timed}
use Rattle.live_script.specs.History.{begun_at, calls_of, ended_at, first_answer, first_of, history_of, timed}
use Rattle.live_script.specs.declared.calls.Response.{Response}

-- the first, and those behind it
pub first_and_rest : (ns ms : List Noted) (n : Noted) → slice_get ns 0 ≡ Some n → ms ≡ drop 1 ns → ns ≡ n ∷ ms
first_and_rest [] ms n is rest = absurd (cc)
first_and_rest (x ∷ xs) ms n is rest = let same : x ≡ n = cc in ap (λ y. y ∷ xs) same ∙ ap (λ l. n ∷ l) (sym rest)

none_left : (ns : List Noted) → length ns ≡ 0 → ns ≡ []
none_left [] e = refl
none_left (x ∷ xs) e = absurd (cc)

pub fewer : (ns ms : List Noted) (n : Noted) → slice_get ns 0 ≡ Some n → ms ≡ drop 1 ns → length ms < length ns
fewer [] ms n is rest = absurd (cc)
fewer (x ∷ xs) ms n is rest = let e : length ms ≡ length xs = ap length rest in omega (arith, e)

-- ---- the first answer

pub answer_none : (ns : List Noted) (want : Option Response) → first_answer ns ≡ want → length ns ≡ 0 → None ≡ want
answer_none ns want held none = sym (ap first_answer (none_left ns none)) ∙ held

pub answer_begun : (ns : List Noted) (n : Noted) (ms : List Noted) → ns ≡ n ∷ ms → is_some (begun_at n) ≡ true → None ≡ first_answer ns
answer_begun ns n ms is b =
    sym (ap first_answer is ∙ ap (λ c. cond c None (first_of (ended_at n.ticket n.outcome) (first_answer ms))) b)

answer_here : (o rest : Option Response) → is_some o ≡ true → first_of o rest ≡ o
answer_here None rest e = absurd (cc)
answer_here (Some x) rest e = refl

answer_not : (o rest : Option Response) → is_some o ≡ false → first_of o rest ≡ rest
answer_not None rest e = refl
answer_not (Some x) rest e = absurd (cc)

pub answer_first : (ns : List Noted) (n : Noted) (ms : List Noted) → ns ≡ n ∷ ms → is_some (begun_at n) ≡ false
    → is_some (ended_at n.ticket n.outcome) ≡ true → ended_at n.ticket n.outcome ≡ first_answer ns
answer_first ns n ms is b e =
    sym (ap first_answer is ∙ ap (λ c. cond c None (first_of (ended_at n.ticket n.outcome) (first_answer ms))) b
    ∙ answer_here (ended_at n.ticket n.outcome) (first_answer ms) e)

pub answer_later : (ns : List Noted) (n : Noted) (ms : List Noted) → ns ≡ n ∷ ms → is_some (begun_at n) ≡ false
    → is_some (ended_at n.ticket n.outcome) ≡ false → first_answer ns ≡ first_answer ms
answer_later ns n ms is b e =
    ap first_answer is ∙ ap (λ c. cond c None (first_of (ended_at n.ticket n.outcome) (first_answer ms))) b
    ∙ answer_not (ended_at n.ticket n.outcome) (first_answer ms) e

-- ---- the calls

-- one note more
pub calls_more : (done new want : List Timed) (ns : List Noted) (n : Noted) (ms : List Noted) → ns ≡ n ∷ ms → done ++ calls_of ns ≡ want
    → new ≡ done ++ timed n.ticket (begun_at n) (first_answer ms) → new ++ calls_of ms ≡ want
calls_more done new want ns n ms is held added =
    ap (λ l. l ++ calls_of ms) added ∙ append_assoc done (timed n.ticket (begun_at n) (first_answer ms)) (calls_of ms)
    ∙ sym (ap (λ l. done ++ calls_of l) is) ∙ held

pub calls_all : (done want : List Timed) (ns : List Noted) → done ++ calls_of ns ≡ want → length ns ≡ 0 → done ≡ want
calls_all done want ns held none = sym (append-nil done) ∙ sym (ap (λ l. done ++ calls_of l) (none_left ns none)) ∙ held

-- ---- the cores

-- with those of one core more
pub more_calls : {S : Type 0} (f : S → List Noted) (seats : List S) (s : ℕ) (x : S) (old new : List Timed) → s < length seats
    → x ≡ get_or seats s x → old ≡ history_of (take s (map f seats)) → new ≡ old ++ calls_of (f x)
    → new ≡ history_of (take (s + 1) (map f seats))
more_calls f seats s x old new lt is o n =
    let size = length-map seats f in
    let more : history_of (take (s + 1) (map f seats)) ≡ history_of (take s (map f seats)) ++ calls_of (get_or (map f seats) s [])
    = ap history_of (take_more (map f seats) s [] (omega (arith, lt, size)))
    ∙ flat_map-append calls_of (take s (map f seats)) (get_or (map f seats) s [] ∷ [])
    ∙ ap (λ l. history_of (take s (map f seats)) ++ l) (append-nil (calls_of (get_or (map f seats) s []))) in
    n ∙ ap (λ l. l ++ calls_of (f x)) o
    ∙ ap (λ l. history_of (take s (map f seats)) ++ calls_of l) (sym (seat_is f seats s x lt is)) ∙ sym more

pub all_calls : {S : Type 0} (f : S → List Noted) (seats : List S) (s : ℕ) (calls : List Timed) → length seats ≤ s
    → calls ≡ history_of (take s (map f seats)) → calls ≡ history_of (map f seats)
all_calls f seats s calls past e = e ∙ ap history_of (all_of f seats s past)
