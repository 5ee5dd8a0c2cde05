-- Counts, one after another.
use Rattle.std.proofs.Common.{◌≡◌, ℕ, suc, ◌+◌, Bool, true, false, if◌then◌else◌, List, [], ◌∷◌, ◌++◌, Option, Some, None, Vec, drop, map, refl, sym}
use Rattle.std.proofs.Common.{ap, ◌∙◌, append-nil, append_assoc, arith}
use Rattle.std.specs.List.{flat_map}
use Rattle.litmus_report.specs.Counts.{bad_line, bytes_of, count_line, has_counts, has_outside, is_bad, judged_end, judged_status}
use Rattle.litmus_report.specs.declared.reporting.Searched.{Searched}

-- one line more
pub marked_more : (F : List ℕ → List ℕ) (out new line : List ℕ) (all rest : List (List ℕ)) (whole : List ℕ) → all ≡ line ∷ rest
    → out ++ flat_map F all ≡ whole → new ≡ out ++ F line → new ++ flat_map F rest ≡ whole
marked_more F out new line all rest whole e h n =
    ap (λ l. l ++ flat_map F rest) n ∙ append_assoc out (F line) (flat_map F rest) ∙ sym (ap (λ ls. out ++ flat_map F ls) e) ∙ h

-- none is left
pub marked_all : (F : List ℕ → List ℕ) (out : List ℕ) (all : List (List ℕ)) (whole : List ℕ) → all ≡ [] → out ++ flat_map F all ≡ whole → out ≡ whole
marked_all F out all whole e h = sym (append-nil out) ∙ sym (ap (λ ls. out ++ flat_map F ls) e) ∙ h

-- a line that isn't bad leads on to the next
pub counts_more : (n : ℕ) (all : List (List ℕ)) (line : List ℕ) (rest : List (List ℕ)) (due : Option ℕ) → all ≡ line ∷ rest → is_bad line ≡ false
    → bad_line (n + 1) all ≡ due → bad_line (n + 1 + 1) rest ≡ due
counts_more n all line rest due e a h =
    let k : n + 1 + 1 ≡ suc (n + 1) = omega arith in
    ap (λ m. bad_line m rest) k ∙ sym (ap (λ b. if b then Some (n + 1) else bad_line (suc (n + 1)) rest) a) ∙ sym (ap (bad_line (n + 1)) e) ∙ h

-- a bad one ends all
pub counts_stop : (n : ℕ) (all : List (List ℕ)) (line : List ℕ) (rest : List (List ℕ)) (due : Option ℕ) → all ≡ line ∷ rest → is_bad line ≡ true
    → bad_line (n + 1) all ≡ due → Some (n + 1) ≡ due
counts_stop n all line rest due e a h =
    sym (ap (λ b. if b then Some (n + 1) else bad_line (suc (n + 1)) rest) a) ∙ sym (ap (bad_line (n + 1)) e) ∙ h

-- none is bad
pub counts_end : (n : ℕ) (all : List (List ℕ)) (due : Option ℕ) → all ≡ [] → bad_line (n + 1) all ≡ due → None ≡ due
counts_end n all due e h = sym (ap (bad_line (n + 1)) e) ∙ h

map-push : {X Y : Type 0} (f : X → Y) (xs : List X) (x : X) → map f (xs ++ x ∷ []) ≡ map f xs ++ f x ∷ []
map-push f [] x = refl
map-push f (y ∷ ys) x = ap (λ l. f y ∷ l) (map-push f ys x)

-- one text more
pub texts_more : {A : Type 0} (old new : List (Vec ℕ A)) (text : Vec ℕ A) (piece : List ℕ) (left rest whole : List (List ℕ)) → new ≡ old ++ text ∷ []
    → bytes_of text ≡ piece → left ≡ piece ∷ rest → map bytes_of old ++ left ≡ whole → map bytes_of new ++ rest ≡ whole
texts_more old new text piece left rest whole n t e h =
    ap (λ l. map bytes_of l ++ rest) n ∙ ap (λ l. l ++ rest) (map-push bytes_of old text)
    ∙ append_assoc (map bytes_of old) (bytes_of text ∷ []) rest ∙ ap (λ b. map bytes_of old ++ b ∷ rest) t
    ∙ ap (λ l. map bytes_of old ++ l) (sym e) ∙ h

-- the counts, each marked, and how the search ended
pub judged_text : {A : Type 0} (lines : List (List ℕ)) (s : Searched) {texts slice : List (Vec ℕ A)} {plain : List (List ℕ)}
    {first mid new : List ℕ} {counted exact reached : Bool} → first ≡ [] → mid ≡ first ++ flat_map (count_line (map bytes_of slice)) lines
    → new ≡ mid ++ judged_end counted s exact → slice ≡ texts → map bytes_of texts ≡ plain → counted ≡ has_counts lines → exact ≡ reached
    → new ≡ flat_map (count_line plain) lines ++ judged_end (has_counts lines) s reached
judged_text lines s {slice = slice} {plain = plain} {counted = counted} {exact = exact} f m n v t h e =
    n ∙ ap (λ l. l ++ judged_end counted s exact) (m ∙ ap (λ l. l ++ flat_map (count_line (map bytes_of slice)) lines) f)
    ∙ ap (λ ts. flat_map (count_line (map bytes_of ts)) lines ++ judged_end counted s exact) v
    ∙ ap (λ p. flat_map (count_line p) lines ++ judged_end counted s exact) t
    ∙ ap (λ b. flat_map (count_line plain) lines ++ judged_end b s exact) h
    ∙ ap (λ b. flat_map (count_line plain) lines ++ judged_end (has_counts lines) s b) e

-- the status of counts
pub status_judged : {A : Type 0} (lines : List (List ℕ)) (whole : Bool) {texts slice : List (Vec ℕ A)} {plain : List (List ℕ)} {n : ℕ}
    {counted outside : Bool} → n ≡ judged_status counted outside whole → outside ≡ has_outside (map bytes_of slice) lines → slice ≡ texts
    → map bytes_of texts ≡ plain → counted ≡ has_counts lines → n ≡ judged_status (has_counts lines) (has_outside plain lines) whole
status_judged lines whole {plain = plain} {counted = counted} n o v t h =
    n ∙ ap (λ b. judged_status counted b whole) (o ∙ ap (λ ts. has_outside (map bytes_of ts) lines) v ∙ ap (λ p. has_outside p lines) t)
    ∙ ap (λ b. judged_status b (has_outside plain lines) whole) h
