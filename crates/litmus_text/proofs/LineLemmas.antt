-- Lines, one after another.
use Rattle.std.proofs.Common.{◌≡◌, ◌⊎◌, inl, inr, ℕ, suc, ◌+◌, Bool, not, List, [], ◌∷◌, Result, Ok, Err, refl, sym, ap, ◌∙◌, arith}
use Rattle.trace_io.specs.declared.fault.IoFault.TheVariants.{NoMemory}
use Rattle.litmus_text.specs.Kinds.{has_together}
use Rattle.litmus_text.specs.Scripts.{Read, line_after, lines_after, litmus_of, then_on, unread, whole}
use Rattle.litmus_text.specs.declared.faults.LitmusFault.{LitmusFault}
use Rattle.litmus_text.specs.declared.faults.LitmusFault.TheVariants.{Io}

-- the line leads on to the next
pub lines_more : (n : ℕ) (r s : Read) (all : List (List ℕ)) (line : List ℕ) (rest : List (List ℕ)) (due : Result Read LitmusFault) → all ≡ line ∷ rest
    → line_after (n + 1) r line ≡ Ok s → lines_after (n + 1) r all ≡ due → lines_after (n + 1 + 1) s rest ≡ due
lines_more n r s all line rest due e a h =
    let k : n + 1 + 1 ≡ suc (n + 1) = omega arith in
    ap (λ m. lines_after m s rest) k ∙ sym (ap (λ x. then_on x (λ q. lines_after (suc (n + 1)) q rest)) a) ∙ sym (ap (λ ls. lines_after (n + 1) r ls) e) ∙ h

-- or ends all
pub lines_stop : (n : ℕ) (r : Read) (all : List (List ℕ)) (line : List ℕ) (rest : List (List ℕ)) (due : Result Read LitmusFault) (f : LitmusFault)
    → all ≡ line ∷ rest → (f ≡ Io NoMemory) ⊎ (line_after (n + 1) r line ≡ Err f) → lines_after (n + 1) r all ≡ due
    → (f ≡ Io NoMemory) ⊎ (due ≡ Err f)
lines_stop n r all line rest due f e (inl a) h = inl a
lines_stop n r all line rest due f e (inr a) h =
    inr (sym h ∙ ap (λ ls. lines_after (n + 1) r ls) e ∙ ap (λ x. then_on x (λ q. lines_after (suc (n + 1)) q rest)) a)

-- none is left
pub lines_end : (n : ℕ) (r : Read) (all : List (List ℕ)) (due : Result Read LitmusFault) → all ≡ [] → lines_after (n + 1) r all ≡ due → due ≡ Ok r
lines_end n r all due e h = sym h ∙ ap (λ ls. lines_after (n + 1) r ls) e

-- what all lines come to, once each is read
pub litmus_whole : (lines : List (List ℕ)) (b : Bool) (r s : Read) → b ≡ has_together lines → r ≡ unread (not b) → lines_after 1 r lines ≡ Ok s
    → litmus_of lines ≡ whole s
litmus_whole lines b r s t e h =
    ap (λ x. then_on (lines_after 1 (unread (not x)) lines) whole) (sym t) ∙ ap (λ x. then_on (lines_after 1 x lines) whole) (sym e)
    ∙ ap (λ x. then_on x whole) h

-- or where one has a fault
pub litmus_stops : (lines : List (List ℕ)) (b : Bool) (r : Read) (f : LitmusFault) → b ≡ has_together lines → r ≡ unread (not b)
    → (f ≡ Io NoMemory) ⊎ (lines_after 1 r lines ≡ Err f) → (f ≡ Io NoMemory) ⊎ (litmus_of lines ≡ Err f)
litmus_stops lines b r f t e (inl h) = inl h
litmus_stops lines b r f t e (inr h) = inr (
    ap (λ x. then_on (lines_after 1 (unread (not x)) lines) whole) (sym t) ∙ ap (λ x. then_on (lines_after 1 x lines) whole) (sym e)
    ∙ ap (λ x. then_on x whole) h)
