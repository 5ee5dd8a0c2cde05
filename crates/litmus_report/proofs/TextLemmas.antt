-- What is appended, piece by piece.
use Rattle.std.proofs.Common.{◌≡◌, ℕ, suc, ◌+◌, ◌<◌, ◌≤◌, ◌⊎◌, inl, inr, List, [], ◌∷◌, ◌++◌, length, drop, get_or, refl, sym, ap, ◌∙◌, append-nil}
use Rattle.std.proofs.Common.{append_assoc, arith}
use Rattle.std.proofs.lemmas.List.{drop_more, drop_all}
use Rattle.vm_base.specs.declared.replies.Reply.{Reply}
use Rattle.litmus_merges.specs.declared.asked.Asked.{Asked}
use Rattle.trace_text.specs.Printing.{text_of}
use Rattle.litmus_report.specs.Texts.{final_text, finals_text, lead_in, replies_text}

-- what is left is a piece and the rest, and the piece was appended
pub written_more : (out new piece left rest whole : List ℕ) → out ++ left ≡ whole → left ≡ piece ++ rest → new ≡ out ++ piece → new ++ rest ≡ whole
written_more out new piece left rest whole h e n =
    ap (λ l. l ++ rest) n ∙ append_assoc out piece rest ∙ ap (λ l. out ++ l) (sym e) ∙ h

-- nothing is left
pub written_all : (out left whole : List ℕ) → out ++ left ≡ whole → left ≡ [] → out ≡ whole
written_all out left whole h e = sym (append-nil out) ∙ ap (λ l. out ++ l) (sym e) ∙ h

-- one reply more
pub replies_more : (before : ℕ) (calls : List Asked) (replies : List Reply) (n : ℕ) (d : Asked) (e : Reply) → n < length calls → n < length replies
    → replies_text before (drop n calls) (drop n replies)
    ≡ (lead_in before (get_or calls n d).core ++ text_of (get_or replies n e))
    ++ replies_text (get_or calls n d).core (drop (n + 1) calls) (drop (n + 1) replies)
replies_more before calls replies n d e p q =
    ap (λ cs. replies_text before cs (drop n replies)) (drop_more calls n d p)
    ∙ ap (λ rs. replies_text before (get_or calls n d ∷ drop (n + 1) calls) rs) (drop_more replies n e q)

replies_none : (before : ℕ) (calls : List Asked) → replies_text before calls [] ≡ []
replies_none before [] = refl
replies_none before (c ∷ cs) = refl

pub replies_end : (before : ℕ) (calls : List Asked) (replies : List Reply) (n : ℕ) → (length calls ≤ n) ⊎ (length replies ≤ n)
    → replies_text before (drop n calls) (drop n replies) ≡ []
replies_end before calls replies n (inl p) = ap (λ cs. replies_text before cs (drop n replies)) (drop_all n calls p)
replies_end before calls replies n (inr q) = ap (λ rs. replies_text before (drop n calls) rs) (drop_all n replies q) ∙ replies_none before (drop n calls)

-- one final address more
pub finals_more : (addrs : List ℕ) (finals : List Reply) (n d : ℕ) (e : Reply) → n < length addrs → n < length finals
    → finals_text (drop n addrs) (drop n finals) ≡ final_text (get_or addrs n d) (get_or finals n e) ++ finals_text (drop (n + 1) addrs) (drop (n + 1) finals)
finals_more addrs finals n d e p q =
    ap (λ l. finals_text l (drop n finals)) (drop_more addrs n d p)
    ∙ ap (λ rs. finals_text (get_or addrs n d ∷ drop (n + 1) addrs) rs) (drop_more finals n e q)

finals_none : (addrs : List ℕ) → finals_text addrs [] ≡ []
finals_none [] = refl
finals_none (a ∷ l) = refl

pub finals_end : (addrs : List ℕ) (finals : List Reply) (n : ℕ) → (length addrs ≤ n) ⊎ (length finals ≤ n) → finals_text (drop n addrs) (drop n finals) ≡ []
finals_end addrs finals n (inl p) = ap (λ l. finals_text l (drop n finals)) (drop_all n addrs p)
finals_end addrs finals n (inr q) = ap (λ rs. finals_text (drop n addrs) rs) (drop_all n finals q) ∙ finals_none (drop n addrs)

-- one piece behind another
pub joined : (out one new a b : List ℕ) → one ≡ out ++ a → new ≡ one ++ b → new ≡ out ++ (a ++ b)
joined out one new a b e f = f ∙ ap (λ l. l ++ b) e ∙ append_assoc out a b

-- in front of which there is nothing
pub alone : (out new a : List ℕ) → out ≡ [] → new ≡ out ++ a → new ≡ a
alone out new a e f = f ∙ ap (λ l. l ++ a) e
