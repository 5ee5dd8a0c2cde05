-- What a line shows of a name, byte by byte.
use Rattle.std.proofs.Common.{◌≡◌, ℕ, ◌+◌, ◌-◌, ◌<◌, ◌≤◌, List, ◌∷◌, ◌++◌, length, drop, get_or, sym, ap, ◌∙◌, append_assoc, subst}
use Rattle.std.proofs.lemmas.Bool.{le-ltb, lt-ltb}
use Rattle.std.proofs.lemmas.List.{drop_more}
use Rattle.std.specs.Prelude.{codes, cond}
use Rattle.import_steps.specs.Names.{byte_shown, name_shown}

shown_next : (room b : ℕ) (rest : List ℕ) → length (byte_shown b) ≤ room
    → name_shown room (b ∷ rest) ≡ byte_shown b ++ name_shown (room - length (byte_shown b)) rest
shown_next room b rest h =
    ap (λ t. cond t (codes "..") (byte_shown b ++ name_shown (room - length (byte_shown b)) rest)) (le-ltb room (length (byte_shown b)) h)

shown_cut : (room b : ℕ) (rest : List ℕ) → room < length (byte_shown b) → name_shown room (b ∷ rest) ≡ codes ".."
shown_cut room b rest h =
    ap (λ t. cond t (codes "..") (byte_shown b ++ name_shown (room - length (byte_shown b)) rest)) (lt-ltb room (length (byte_shown b)) h)

from_here : (name : List ℕ) (n b : ℕ) → n < length name → b ≡ get_or name n b → drop n name ≡ b ∷ drop (n + 1) name
from_here name n b p e = drop_more name n b p ∙ ap (λ x. x ∷ drop (n + 1) name) (sym e)

-- one more byte was shown
pub name_more : (name all next made : List ℕ) (room n w b : ℕ) → n < length name → b ≡ get_or name n b → w ≡ length (byte_shown b) → w ≤ room
    → next ≡ all ++ byte_shown b → all ++ name_shown room (drop n name) ≡ made → next ++ name_shown (room - w) (drop (n + 1) name) ≡ made
name_more name all next made room n w b p e size fits h is =
    let rest = drop (n + 1) name in
    ap (λ l. l ++ name_shown (room - w) rest) h
    ∙ (append_assoc all (byte_shown b) (name_shown (room - w) rest)
    ∙ (ap (λ k. all ++ (byte_shown b ++ name_shown (room - k) rest)) size
    ∙ (ap (λ l. all ++ l) (sym (shown_next room b rest (subst (λ k. k ≤ room) size fits)))
    ∙ (ap (λ l. all ++ name_shown room l) (sym (from_here name n b p e)) ∙ is))))

-- there is no room for the next byte
pub name_cut : (name all next made : List ℕ) (room n w b : ℕ) → n < length name → b ≡ get_or name n b → w ≡ length (byte_shown b) → room < w
    → next ≡ all ++ codes ".." → all ++ name_shown room (drop n name) ≡ made → next ≡ made
name_cut name all next made room n w b p e size full h is =
    h ∙ (ap (λ l. all ++ l) (sym (shown_cut room b (drop (n + 1) name) (subst (λ k. room < k) size full)))
    ∙ (ap (λ l. all ++ name_shown room l) (sym (from_here name n b p e)) ∙ is))
