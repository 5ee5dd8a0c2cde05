-- Lists that are changed at one place, seen as functions, and the state of which they are a part
use Rattle.machine_model.proofs.Words.{◌≡◌, ℕ, ◌+◌, ◌<◌, List, [], ◌∷◌, ◌++◌, length, length-append, get_or, OnOk, Result, Ok, Err, ap, arith, ◌∙◌, slice_set}
use Rattle.machine_model.proofs.Words.{fun_ext, get_or-set_same, get_or-set_other, put, put_all, Entry}
use Rattle.std.proofs.Common.{OnErr}
use Rattle.machine_model.specs.Orderly.{answer_count}
use Rattle.machine_model.proofs.Moves.{answers_more}
use Rattle.core_steps.specs.State.{number_at}

pub set_is_put : {A : Type 0} (xs : List A) (d : A) (k : ℕ) (x : A) → k < length xs
    → (λ j. get_or (slice_set xs k x) j d) ≡ put (λ j. get_or xs j d) k x
set_is_put xs d k x h =
    fun_ext (put_all (λ j v. get_or (slice_set xs k x) j d ≡ v) (λ j. get_or xs j d) k x (get_or-set_same xs k x d h)
    (λ j ne. get_or-set_other xs k j x d ne))

pub number_set : (numbers : List ℕ) (c n : ℕ) → c < length numbers
    → number_at (slice_set numbers c n) ≡ put (number_at numbers) c n
number_set numbers c n h = set_is_put numbers 0 c n h

-- a log grows by an entry, and its limit by one for a copy: the room for the other replies stays
pub room_kept : (log more : List Entry) (entry : Entry) (limit now calls : ℕ) → limit + answer_count log ≡ calls + length log → more ≡ log ++ entry ∷ []
    → now + answer_count (entry ∷ []) ≡ limit + 1 → now + answer_count more ≡ calls + length more
room_kept log more entry limit now calls h e n =
    let a : answer_count more ≡ answer_count log + answer_count (entry ∷ []) = ap answer_count e ∙ answers_more log entry in
    let b : length more ≡ length log + 1 = ap length e ∙ length-append log (entry ∷ []) in
    omega (arith, h, n, a, b)

-- an entry that is no reply grows the limit too, or was refused
pub room_kept_either : {T E : Type 0} (r : Result T E) (log more : List Entry) (entry : Entry) (limit now calls : ℕ) → answer_count (entry ∷ []) ≡ 0
    → limit + answer_count log ≡ calls + length log → OnOk r (more ≡ log ++ entry ∷ []) → OnOk r (now ≡ limit + 1)
    → OnErr r (more ≡ log) → OnErr r (now ≡ limit) → now + answer_count more ≡ calls + length more
room_kept_either (Ok x) log more entry limit now calls none h e n same still = room_kept log more entry limit now calls h e (omega (arith, none, n))
room_kept_either (Err x) log more entry limit now calls none h e n same still =
    let a : answer_count more ≡ answer_count log = ap answer_count same in let b : length more ≡ length log = ap length same in
    omega (arith, h, still, a, b)
