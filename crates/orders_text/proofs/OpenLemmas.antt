-- Calls that wait when a text ends, one core after another
use Rattle.std.proofs.Common.{◌≡◌, ◌∙◌, ℕ, ◌+◌, ◌<◌, ◌≤◌, List, ◌∷◌, ◌++◌, Option, append-nil, append_assoc, ap, drop, get_or, length, sym}
use Rattle.std.proofs.lemmas.List.{drop_all, drop_more}
use Rattle.vm_base.specs.declared.replies.Reply.{Reply}
use Rattle.orders.specs.declared.history.Timed.{Timed}
use Rattle.orders_text.specs.History.{all_open, left_open}
use Rattle.orders_text.specs.declared.clock.PendingCall.{PendingCall}

pub one_added : (replies : ℕ → Reply) (calls new all : List Timed) (core : ℕ) (w : Option PendingCall) (r : Reply) (waiting : List (Option PendingCall))
    → core < length waiting → w ≡ get_or waiting core w → r ≡ replies core → new ≡ calls ++ left_open core w r
    → calls ++ all_open replies core (drop core waiting) ≡ all → new ++ all_open replies (core + 1) (drop (core + 1) waiting) ≡ all
one_added replies calls new all core w r waiting within at is added so =
    let rest = drop (core + 1) waiting in
    let here : drop core waiting ≡ w ∷ rest = drop_more waiting core w within ∙ ap (λ (x : Option PendingCall). x ∷ rest) (sym at) in
    ap (λ (n : List Timed). n ++ all_open replies (core + 1) rest) (added ∙ ap (λ (x : Reply). calls ++ left_open core w x) is)
    ∙ append_assoc calls (left_open core w (replies core)) (all_open replies (core + 1) rest)
    ∙ ap (λ (l : List (Option PendingCall)). calls ++ all_open replies core l) (sym here)
    ∙ so

pub all_added : (replies : ℕ → Reply) (calls all : List Timed) (core : ℕ) (waiting : List (Option PendingCall)) → length waiting ≤ core
    → calls ++ all_open replies core (drop core waiting) ≡ all → calls ≡ all
all_added replies calls all core waiting past so =
    sym (ap (λ (l : List (Option PendingCall)). calls ++ all_open replies core l) (drop_all core waiting past) ∙ append-nil calls) ∙ so
