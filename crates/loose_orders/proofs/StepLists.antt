-- What moves are of items, one after another
use Rattle.std.proofs.Common.{◌≡◌, ◌∙◌, ℕ, ◌+◌, ◌<◌, ◌≤◌, List, [], ◌∷◌, ◌++◌, append-nil, append_assoc, ap, drop, get_or, length, sym}
use Rattle.std.proofs.lemmas.List.{drop_all, drop_more}
use Rattle.orders.specs.declared.history.Item.{Item}
use Rattle.loose_orders.specs.Kernel.{item, items}
use Rattle.loose_orders.specs.declared.moves.Move.{Move}

pub one_item_more : (now new all : List Item) (at : ℕ) (d : Move) (one : Item) (moves : List Move) → at < length moves
    → one ≡ item (get_or moves at d) → new ≡ now ++ one ∷ [] → now ++ items (drop at moves) ≡ all → new ++ items (drop (at + 1) moves) ≡ all
one_item_more now new all at d one moves within same added so =
    let rest = drop (at + 1) moves in
    ap (λ (l : List Item). l ++ items rest) (added ∙ ap (λ (x : Item). now ++ x ∷ []) same)
    ∙ append_assoc now (item (get_or moves at d) ∷ []) (items rest)
    ∙ ap (λ (l : List Move). now ++ items l) (sym (drop_more moves at d within)) ∙ so

pub all_items : (now all : List Item) (at : ℕ) (moves : List Move) → length moves ≤ at → now ++ items (drop at moves) ≡ all → now ≡ all
all_items now all at moves past so =
    sym (ap (λ (l : List Move). now ++ items l) (drop_all at moves past) ∙ append-nil now) ∙ so
