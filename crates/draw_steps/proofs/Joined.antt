-- A list that grows piece by piece, such as a text.
use Rattle.std.proofs.Common.{◌≡◌, List, ◌++◌, ap, ◌∙◌, append_assoc}

pub grow : {A : Type 0} (old front piece now next : List A) → now ≡ old ++ front → next ≡ now ++ piece → next ≡ old ++ (front ++ piece)
grow old front piece now next e f = f ∙ ap (λ l. l ++ piece) e ∙ append_assoc old front piece
