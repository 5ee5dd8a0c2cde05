-- The lines of files, written one by one.
use Rattle.machine_model.proofs.Words.{◌≡◌, ℕ, suc, ◌+◌, ◌<◌, List, [], ◌∷◌, ◌++◌, Option, length, take, drop, get_or, arith, sym}
use Rattle.machine_model.proofs.Words.{ap, ◌∙◌, subst, append-nil, append_assoc, common_steps, take_more, Appends-nil}
use Rattle.machine_model.proofs.Words.{Appends-trans, Appends}
use Rattle.std.proofs.lemmas.List.{take-append-drop}
use Rattle.trace_io.specs.Sink.{AppendsFront}
use Rattle.trace_io.proofs.IoLemmas.{front_longer, front_more}
use Rattle.trace_words.specs.declared.declaration.FileLine.{FileLine}
use Rattle.trace_words.specs.Written.{file_text, files_text}

files_append : (n : ℕ) (xs ys : List FileLine) → files_text n (xs ++ ys) ≡ files_text n xs ++ files_text (n + length xs) ys
files_append n [] ys = ap (λ m. files_text m ys) (omega arith)
files_append n (x ∷ xs) ys =
    let e : suc n + length xs ≡ n + length (x ∷ xs) = omega arith in
    ap (λ t. file_text n x ++ t) (files_append (suc n) xs ys ∙ ap (λ m. files_text (suc n) xs ++ files_text m ys) e)
    ∙ sym (append_assoc (file_text n x) (files_text (suc n) xs) (files_text (n + length (x ∷ xs)) ys))

files_more : (xs : List FileLine) (n m : ℕ) (d : FileLine) → n < length xs → m ≡ n
    → files_text 0 (take (n + 1) xs) ≡ files_text 0 (take n xs) ++ file_text m (get_or xs n d)
files_more xs n m d h e =
    let size : length (take n xs) ≡ n = grind (arith, common_steps) in
    ap (files_text 0) (take_more xs n d h) ∙ files_append 0 (take n xs) (get_or xs n d ∷ [])
    ∙ ap (λ t. files_text 0 (take n xs) ++ t) (append-nil (file_text (0 + length (take n xs)) (get_or xs n d)))
    ∙ ap (λ k. files_text 0 (take n xs) ++ file_text k (get_or xs n d)) (omega (arith, size, e))

pub files_wrote : (a b c : Option (List ℕ)) (xs : List FileLine) (n m : ℕ) (d : FileLine) → n < length xs → m ≡ n
    → Appends a b (files_text 0 (take n xs)) → Appends b c (file_text m (get_or xs n d)) → Appends a c (files_text 0 (take (n + 1) xs))
files_wrote a b c xs n m d h e p q = subst (Appends a c) (sym (files_more xs n m d h e)) (Appends-trans a b c _ _ p q)

pub files_front : (a b c : Option (List ℕ)) (xs : List FileLine) (n m : ℕ) (d : FileLine) → n < length xs → m ≡ n
    → Appends a b (files_text 0 (take n xs)) → AppendsFront b c (file_text m (get_or xs n d)) → AppendsFront a c (files_text 0 xs)
files_front a b c xs n m d h e p q =
    let front : AppendsFront a c (files_text 0 (take (n + 1) xs)) = subst (AppendsFront a c) (sym (files_more xs n m d h e)) (front_more a b c _ _ p q) in
    let whole = sym (files_append 0 (take (n + 1) xs) (drop (n + 1) xs)) ∙ ap (files_text 0) (take-append-drop (n + 1) xs) in
    subst (AppendsFront a c) whole (front_longer a c _ _ front)

pub nothing_yet : (a : Option (List ℕ)) → Appends a a []
nothing_yet a = Appends-nil a
