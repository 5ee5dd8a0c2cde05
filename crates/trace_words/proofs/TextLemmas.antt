-- The text of a set of cores, one core after another.
use Rattle.machine_model.proofs.Words.{◌≡◌, ℕ, zero, suc, ◌+◌, ◌<◌, ◌≤◌, Bool, true, false, cond, List, [], ◌∷◌, ◌++◌, length, decimal, arith, refl, sym, ap}
use Rattle.machine_model.proofs.Words.{◌∙◌, subst, append-nil, append_assoc, flat_map, range_with_len, filter-append, flat_map-append, length-decimal-le}
use Rattle.machine_model.proofs.Words.{members}
use Rattle.std.specs.List.{filter}
use Rattle.trace_text.specs.Printing.{core_text, cores_text}

pub range_more : (a n j : ℕ) → a + n ≡ j → range_with_len a (suc n) ≡ range_with_len a n ++ j ∷ []
range_more a zero j e = let same : a ≡ j = omega arith in ap (λ x. x ∷ []) same
range_more a (suc n) j e = ap (λ l. a ∷ l) (range_more (a + 1) n j (omega arith))

flat_one : (b : Bool) (j : ℕ) → flat_map core_text (cond b (j ∷ []) []) ≡ cond b (core_text j) []
flat_one true j = append-nil (core_text j)
flat_one false j = refl

-- the members below n, ascending
abbrev pub cores_below : ℕ → ℕ → List ℕ
cores_below set n = flat_map core_text (filter (members set) (range_with_len 0 n))

below_more : (set n : ℕ) → cores_below set (suc n) ≡ cores_below set n ++ cond (members set n) (core_text n) []
below_more set n =
    ap (λ l. flat_map core_text (filter (members set) l)) (range_more 0 n n (omega arith))
    ∙ ap (flat_map core_text) (filter-append (members set) (range_with_len 0 n) (n ∷ []))
    ∙ flat_map-append core_text (filter (members set) (range_with_len 0 n)) (filter (members set) (n ∷ []))
    ∙ ap (λ l. cores_below set n ++ l) (flat_one (members set n) n)

pub pushed_more : (n set core next : ℕ) (start old new : List ℕ) → next ≡ suc n → core ≡ n → old ≡ start ++ cores_below set n
    → new ≡ old ++ cond (members set core) (core_text core) [] → new ≡ start ++ cores_below set next
pushed_more n set core next start old new e k p q =
    q ∙ ap (λ m. old ++ cond (members set m) (core_text m) []) k
    ∙ ap (λ l. l ++ cond (members set n) (core_text n) []) p
    ∙ append_assoc start (cores_below set n) (cond (members set n) (core_text n) [])
    ∙ ap (λ l. start ++ l) (sym (below_more set n)) ∙ ap (λ m. start ++ cores_below set m) (sym e)

pub pushed_all : (start new : List ℕ) (set n : ℕ) → n ≡ 64 → new ≡ start ++ cores_below set n → new ≡ start ++ cores_text set
unfolding cores_text
pushed_all start new set n e p = p ∙ ap (λ m. start ++ cores_below set m) e

-- a core's number has at most two digits
pub short_core : (s t : List ℕ) (n m core : ℕ) → s ≡ t → t ≡ decimal n → n ≡ m → m ≡ core → core < 64 → length s ≤ 2
short_core s t n m core e f g h p =
    let few : length (decimal n) ≤ 2 = length-decimal-le 2 n (omega arith) (omega arith) (omega arith) in
    let same : s ≡ decimal n = e ∙ f in
    subst (λ l. length l ≤ 2) (sym same) few
