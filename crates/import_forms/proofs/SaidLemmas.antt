-- A name somewhere in some bytes.
use Rattle.std.proofs.Common.{◌≡◌, List, ◌∷◌, ℕ, ◌+◌, ◌<◌, false, true, Some, drop, get_or, length, ap, refl, sym, ◌∙◌}
use Rattle.std.proofs.lemmas.List.{drop_more}
use Rattle.import_forms.specs.Tokens.{begins_by}
use Rattle.import_forms.specs.Said.{behind}

pub behind_more : (name bs : List ℕ) (n : ℕ) → n < length bs → begins_by name (drop n bs) ≡ false
    → behind name (drop (n + 1) bs) ≡ behind name (drop n bs)
behind_more name bs n p e =
    let all = drop_more bs n 0 p in
    let no : begins_by name (get_or bs n 0 ∷ drop (n + 1) bs) ≡ false = ap (begins_by name) (sym all) ∙ e in
    sym (ap (behind name) all ∙ rw no refl)

pub behind_here : (name bs : List ℕ) (n : ℕ) → n < length bs → begins_by name (drop n bs) ≡ true
    → Some (drop (length name) (drop n bs)) ≡ behind name (drop n bs)
behind_here name bs n p e =
    let all = drop_more bs n 0 p in
    let yes : begins_by name (get_or bs n 0 ∷ drop (n + 1) bs) ≡ true = ap (begins_by name) (sym all) ∙ e in
    sym (ap (behind name) all ∙ (rw yes refl ∙ ap (λ l. Some (drop (length name) l)) (sym all)))
