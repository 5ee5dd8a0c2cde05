-- What is written of a script's text
use Rattle.machine_model.proofs.Words.{◌≡◌, inr, ℕ, suc, ◌+◌, ◌<◌, List, [], ◌∷◌, ◌++◌, Option, length, take, drop, get_or, arith, refl, sym}
use Rattle.machine_model.proofs.Words.{ap, ◌∙◌, subst, append-nil, append_assoc, common_steps, take_more, Appends-trans, flat_map, Appends}
use Rattle.std.proofs.Common.{Result, Ok, Err, map, Vec, Global}
use Rattle.std.proofs.lemmas.List.{get_or_default, get_or-map, length-map, take-append-drop}
use Rattle.machine_model.specs.World.{World}
use Rattle.shared.specs.Histories.{history_of}
use Rattle.trace_words.specs.Declarations.{DeclarationView}
use Rattle.trace_io.specs.Sink.{AppendsFront}
use Rattle.trace_io.proofs.IoLemmas.{each_front, front_longer, front_more}
use Rattle.trace_words.specs.declared.fault.TraceFault.{TraceFault}
use Rattle.trace_words.specs.declared.fault.TraceFault.TheVariants as Of
use Rattle.trace_words.specs.Scripts.{ReadWhole, Scripted, Unread, unread_text, unmade, wanting}
use Rattle.trace_words.proofs.CollectLemmas.{stops_own}
use Rattle.shared.specs.declared.history.Replied.{Replied}
use Rattle.shared_script.specs.Runs.{Fails, IsRun}
use Rattle.shared_script.specs.Texts.{EndsShared, IsSharedText, Yields, shared_text, told_line, told_lines}
use Rattle.shared_script.specs.declared.fault.SharedFault.{SharedFault}
use Rattle.shared_script.specs.declared.fault.SharedFault.TheVariants.{Text}

-- no fault of reading a script is one of writing
pub unread_own : {X : Type 0} (input unread : List ℕ) (f : TraceFault) → Unread input unread f → f ≡ Of.WriteFailed → X
unread_own input unread f (unread_text s) w = stops_own _ _ input unread f s w
unread_own input unread f (unmade e u) w = let clash : Of.NoMemory ≡ Of.WriteFailed = sym e ∙ w in absurd (cc)
unread_own input unread f (wanting e a n c) w = let clash : Of.NoMemory ≡ Of.WriteFailed = sym e ∙ w in absurd (cc)

-- what is written of a script that was read is so of its text
pub ends_as_yields : {T : Type 0} (script : Scripted) (old new : Option (List ℕ)) (input unread : List ℕ) (r : Result T SharedFault) → ReadWhole input script
    → Yields script old new r → EndsShared input unread old new r
ends_as_yields script old new input unread (Ok x) whole y = (script, whole, y)
ends_as_yields script old new input unread (Err f) whole y = inr (script, whole, y)

-- nor is one of running it
pub fails_own : {X : Type 0} (script : Scripted) (f : SharedFault) → Fails script f → f ≡ Text Of.WriteFailed → X
fails_own script f p e = let none : Fails script (Text Of.WriteFailed) = subst (Fails script) e p in absurd none

-- the text of a script that was run
pub text_given : (script : Scripted) (asked : DeclarationView) (told : List (List Replied)) (w : World) → asked ≡ script.asked → IsRun script told w
    → IsSharedText script (shared_text asked told (history_of w))
text_given script asked told w e runs =
    record { told = told; world = w; runs = runs; says = ap (λ a. shared_text a told (history_of w)) e }

-- ---- the lines of what cores were told

told_append : (n : ℕ) (xs ys : List (List Replied)) → told_lines n (xs ++ ys) ≡ told_lines n xs ++ told_lines (n + length xs) ys
told_append n [] ys = ap (λ m. told_lines m ys) (omega arith)
told_append n (x ∷ xs) ys =
    let e : suc n + length xs ≡ n + length (x ∷ xs) = omega arith in
    ap (λ t. flat_map (told_line n) x ++ t) (told_append (suc n) xs ys ∙ ap (λ m. told_lines (suc n) xs ++ told_lines m ys) e)
    ∙ sym (append_assoc (flat_map (told_line n) x) (told_lines (suc n) xs) (told_lines (n + length (x ∷ xs)) ys))

told_more : (xs : List (List Replied)) (n m : ℕ) (d : List Replied) → n < length xs → m ≡ n
    → told_lines 0 (take (n + 1) xs) ≡ told_lines 0 (take n xs) ++ flat_map (told_line m) (get_or xs n d)
told_more xs n m d h e =
    let size : length (take n xs) ≡ n = grind (arith, common_steps) in
    ap (told_lines 0) (take_more xs n d h) ∙ told_append 0 (take n xs) (get_or xs n d ∷ [])
    ∙ ap (λ t. told_lines 0 (take n xs) ++ t) (append-nil (flat_map (told_line (0 + length (take n xs))) (get_or xs n d)))
    ∙ ap (λ k. told_lines 0 (take n xs) ++ flat_map (told_line k) (get_or xs n d)) (omega (arith, size, e))

pub told_wrote : (a b c : Option (List ℕ)) (xs : List (List Replied)) (n m : ℕ) (d : List Replied) → n < length xs → m ≡ n
    → Appends a b (told_lines 0 (take n xs)) → Appends b c (flat_map (told_line m) (get_or xs n d)) → Appends a c (told_lines 0 (take (n + 1) xs))
told_wrote a b c xs n m d h e p q = subst (Appends a c) (sym (told_more xs n m d h e)) (Appends-trans a b c _ _ p q)

pub told_front : (a b c : Option (List ℕ)) (xs : List (List Replied)) (n m : ℕ) (d : List Replied) → n < length xs → m ≡ n
    → Appends a b (told_lines 0 (take n xs)) → AppendsFront b c (flat_map (told_line m) (get_or xs n d)) → AppendsFront a c (told_lines 0 xs)
told_front a b c xs n m d h e p q =
    let front : AppendsFront a c (told_lines 0 (take (n + 1) xs)) = subst (AppendsFront a c) (sym (told_more xs n m d h e)) (front_more a b c _ _ p q) in
    let whole = sym (told_append 0 (take (n + 1) xs) (drop (n + 1) xs)) ∙ ap (told_lines 0) (take-append-drop (n + 1) xs) in
    subst (AppendsFront a c) whole (front_longer a c _ _ front)

-- ---- pieces

pub call_front : {X : Type 0} (text : X → List ℕ) (a b c : Option (List ℕ)) (xs : List X) (n : ℕ) (d : X) → n < length xs
    → Appends a b (flat_map text (take n xs)) → AppendsFront b c (text (get_or xs n d)) → AppendsFront a c (flat_map text xs)
call_front text a b c xs n d h p q = each_front text a b c xs n (get_or xs n d) h (get_or_default xs n d (get_or xs n d) h) p q

module _ (a b c : Option (List ℕ)) (xs : List (Vec Replied Global)) (n : ℕ) (v : Vec Replied Global) (l : List Replied) (h : n < length xs)
    (is : v ≡ get_or xs n v) (same : l ≡ v.items) (p : Appends a b (told_lines 0 (take n (map (λ (v : Vec Replied Global). v.items) xs)))) where
  here : l ≡ get_or (map (λ (v : Vec Replied Global). v.items) xs) n []
  here = same ∙ ap (λ (v : Vec Replied Global). v.items) is ∙ sym (get_or-map (λ (v : Vec Replied Global). v.items) xs n v [] h)

  within : n < length (map (λ (v : Vec Replied Global). v.items) xs)
  within = omega (arith, h, length-map xs (λ (v : Vec Replied Global). v.items))

  pub core_wrote : Appends b c (flat_map (told_line n) l) → Appends a c (told_lines 0 (take (n + 1) (map (λ (v : Vec Replied Global). v.items) xs)))
  core_wrote q = told_wrote a b c (map (λ (v : Vec Replied Global). v.items) xs) n n [] within refl p
      (subst (λ l. Appends b c (flat_map (told_line n) l)) here q)

  pub core_front : AppendsFront b c (flat_map (told_line n) l) → AppendsFront a c (told_lines 0 (map (λ (v : Vec Replied Global). v.items) xs))
  core_front q = told_front a b c (map (λ (v : Vec Replied Global). v.items) xs) n n [] within refl p
      (subst (λ l. AppendsFront b c (flat_map (told_line n) l)) here q)

-- a front of the second of three texts
pub second_front : (a b c : Option (List ℕ)) (xs ys zs : List ℕ) → Appends a b xs → AppendsFront b c ys → AppendsFront a c ((xs ++ ys) ++ zs)
second_front a b c xs ys zs p q = front_longer a c (xs ++ ys) zs (front_more a b c xs ys p q)
