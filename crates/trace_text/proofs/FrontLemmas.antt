-- Numbers at the front of the bytes.
use Rattle.std.proofs.Common.{inl, inr, ◌≡◌, ◌≢◌, ℕ, zero, suc, ◌+◌, ◌*◌, ◌^◌, ◌<◌, ◌≤◌, Bool, true, false, cond, eqb, ltb, List, [], ◌∷◌, ◌++◌}
use Rattle.std.proofs.Common.{length, take, drop, get_or, Option, Some, None, arith, refl, sym, ap, ◌∙◌, subst, length-take-le}
use Rattle.std.proofs.Math.Nat.{mul-le-mul_left, pow-suc}
use Rattle.std.proofs.lemmas.List.{get_or-take, take_more}
use Rattle.std.proofs.Common.{append_assoc, decimal, ◌/◌, ◌%◌, ◌-◌}
use Rattle.std.specs.List.{list_all}
use Rattle.std.proofs.lemmas.Bool.{lt-ltb}
use Rattle.std.proofs.lemmas.Fmt.{decimal_digit}
use Rattle.std.proofs.lemmas.Bool.Decides.{nat_tests}
use Rattle.std.specs.Prelude.{option_and_then, option_map, IfSome, is_some, ◌&&◌, ◌==◌, codes, nat_lt, if◌then◌else◌}
use Rattle.trace_text.specs.Words.{Word, words_of}
use Rattle.trace_text.specs.Number.{digit_of, value_from, below_word, number_of}
use Rattle.trace_text.specs.Request.{◌>>=◌, ended, front_byte, front_number, load_of, store_of, fetch_of, mmap_of, munmap_of, mprotect_of, request_of}
use Rattle.trace_text.specs.Front.{BeginsCore, BeginsNow, EndsValue, NamesByOne, NamesByTwo}
use Rattle.trace_text.specs.Line.{act_of, are_printable, core_of, is_comment, line_of, line_of_words, now_of, task_of}
use Rattle.trace_text.specs.declared.line.Line.{Line}
use Rattle.trace_text.specs.declared.line.Line.TheVariants.{Act, Now}
use Rattle.trace_text.proofs.CoreLemmas.{core_all, two_digits}
use Rattle.trace_text.proofs.LineLemmas.{acts, now_read}
use Rattle.trace_text.proofs.PrintableLemmas.{line_printable}
use Rattle.trace_text.proofs.Choices.{chosen}
use Rattle.trace_text.proofs.BytesLemmas.{append_has, decimal_has}
use Rattle.trace_text.proofs.WordLemmas.{one_word, unspaced, words-front, words_join}
use Rattle.trace_text.specs.Action.{action_of, evict_of, walk_of}
use Rattle.trace_text.specs.declared.action.Action.{Action}
use Rattle.vm_base.specs.declared.requests.Request.{Request}
use Rattle.vm_base.specs.declared.requests.Request.TheVariants.{Load, Store}

-- ---- values, digit by digit

-- a digit behind others
value_snoc : (base m : ℕ) (xs : List ℕ) (c n d : ℕ) → value_from base m xs ≡ Some n → digit_of c ≡ Some d → d < base
    → value_from base m (xs ++ c ∷ []) ≡ Some (n * base + d)
value_snoc base m [] c n d e is low =
    let same : m ≡ n = cc in
    ap (option_and_then (λ y. cond (ltb y base) (Some (m * base + y)) None)) is
    ∙ ap (λ b. cond b (Some (m * base + d)) None) (lt-ltb d base low) ∙ ap (λ k. Some (k * base + d)) same
value_snoc base m (x ∷ xs) c n d e is low = go (λ k f. value_snoc base k xs c n d f is low) (digit_of x) e
  where
    go : ((k : ℕ) → value_from base k xs ≡ Some n → value_from base k (xs ++ c ∷ []) ≡ Some (n * base + d)) → (o : Option ℕ)
        → option_and_then (λ y. cond (ltb y base) (value_from base (m * base + y) xs) None) o ≡ Some n
        → option_and_then (λ y. cond (ltb y base) (value_from base (m * base + y) (xs ++ c ∷ [])) None) o ≡ Some (n * base + d)
    go others None e = absurd (cc)
    go others (Some y) e = elim (chosen (ltb y base) (value_from base (m * base + y) xs) None (Some n) e) [
      | inl h ↦ ap (λ b. cond b (value_from base (m * base + y) (xs ++ c ∷ [])) None) h.0 ∙ others (m * base + y) h.1
      | inr h ↦ let bad = h.1 in absurd (cc)
    ]

pub value_next : (base : ℕ) (cs : List ℕ) (i n d : ℕ) → i < length cs → value_from base 0 (take i cs) ≡ Some n
    → Some d ≡ digit_of (get_or cs i 0) → d < base
    → value_from base 0 (take (i + 1) cs) ≡ Some (n * base + d)
value_next base cs i n d h e is low = ap (value_from base 0) (take_more cs i 0 h) ∙ value_snoc base 0 (take i cs) (get_or cs i 0) n d e (sym is) low

-- and the bound that it keeps
pub value_grown : (n base d i : ℕ) → n < 16 ^ i → base ≤ 16 → d < base → n * base + d < 16 ^ (i + 1)
value_grown n base d i h low less =
    let most : n * base ≤ n * 16 = mul-le-mul_left n low in
    let more : 16 ^ (i + 1) ≡ 16 ^ i * 16 = grind (arith, pow-suc 16 i) in
    omega arith

-- no digit is a space
value_unspaced : (base m : ℕ) (xs : List ℕ) (n : ℕ) → value_from base m xs ≡ Some n → (k : ℕ) → k < length xs → get_or xs k 0 ≢ 32
value_unspaced base m [] n e k h = absurd (omega arith)
value_unspaced base m (x ∷ xs) n e k h = go (λ j f. value_unspaced base j xs n f) (digit_of x) refl e k h
  where
    go : ((j : ℕ) → value_from base j xs ≡ Some n → (k : ℕ) → k < length xs → get_or xs k 0 ≢ 32) → (o : Option ℕ) → digit_of x ≡ o
        → option_and_then (λ y. cond (ltb y base) (value_from base (m * base + y) xs) None) o ≡ Some n
        → (k : ℕ) → k < length (x ∷ xs) → get_or (x ∷ xs) k 0 ≢ 32
    go others None is e k h = absurd (cc)
    go others (Some y) is e zero h = λ space.
        let none : None ≡ Some y = sym (ap digit_of space) ∙ is in absurd (cc)
    go others (Some y) is e (suc k) h = elim (chosen (ltb y base) (value_from base (m * base + y) xs) None (Some n) e) [
      | inl t ↦ others (m * base + y) t.1 k (omega arith)
      | inr t ↦ let bad = t.1 in absurd (cc)
    ]

-- ---- the number of a word

below : (n : ℕ) → n < 2 ^ 64 → below_word (Some n) ≡ Some n
below n h = ap (λ b. cond b (Some n) None) (lt-ltb n (2 ^ 64) h)

-- decimal digits don't begin with 0x
decimal_number : (w : Word) (n : ℕ) → 0 < length w → value_from 10 0 w ≡ Some n → n < 2 ^ 64 → number_of w ≡ Some n
decimal_number [] n some e h = absurd (omega arith)
decimal_number (c ∷ []) n some e h = ap below_word e ∙ below n h
decimal_number (c ∷ (d ∷ ds)) n some e h = go _ (eqb c 48 && eqb d 120) refl
  where
    go : (x : Option ℕ) (b : Bool) → (eqb c 48 && eqb d 120) ≡ b → cond b x (below_word (value_from 10 0 (c ∷ (d ∷ ds)))) ≡ Some n
    go x false is = ap below_word e ∙ below n h
    go x true is =
        let zero : c ≡ 48 = grind (arith, nat_tests, is) in
        let letter : d ≡ 120 = grind (arith, nat_tests, is) in
        let none : value_from 10 0 (48 ∷ 120 ∷ ds) ≡ Some n = subst (λ y. value_from 10 0 (48 ∷ y ∷ ds) ≡ Some n) letter
        (subst (λ y. value_from 10 0 (y ∷ d ∷ ds) ≡ Some n) zero e) in
        absurd (cc)

hexadecimal_number : (ds : Word) (n : ℕ) → 0 < length ds → value_from 16 0 ds ≡ Some n → n < 2 ^ 64 → number_of (48 ∷ 120 ∷ ds) ≡ Some n
hexadecimal_number [] n some e h = absurd (omega arith)
hexadecimal_number (d ∷ ds) n some e h = ap below_word e ∙ below n h

-- ---- a number at the front

-- the word that ends where a space or nothing follows
front_is : (word : List ℕ) (k n : ℕ) → 0 < k → k ≤ length word → ((i : ℕ) → i < k → get_or word i 0 ≢ 32) → (k < length word → get_or word k 0 ≡ 32)
    → number_of (take k word) ≡ Some n → Some (n, words_of (drop k word)) ≡ front_number (words_of word)
unfolding front_number
front_is word k n some within letters ends is =
    sym (ap front_number (words-front word k some within letters ends) ∙ ap (λ q. q >>= λ m. Some (m, words_of (drop k word))) is)

unspaced_front : (base : ℕ) (xs : List ℕ) (k n : ℕ) → k ≤ length xs → value_from base 0 (take k xs) ≡ Some n → (i : ℕ) → i < k → get_or xs i 0 ≢ 32
unspaced_front base xs k n within e i low =
    let size : length (take k xs) ≡ k = length-take-le k xs within in
    λ space. value_unspaced base 0 (take k xs) n e i (omega arith) (get_or-take k xs i 0 low ∙ space)

decimal_ends : (word others : List ℕ) (n : ℕ) → EndsValue 10 word n others → Some (n, words_of others) ≡ front_number (words_of word)
decimal_ends word others n s =
    let some = s.some in
    let within = s.within in
    let size : length (take s.count word) ≡ s.count = length-take-le s.count word s.within in
    ap (λ r. Some (n, words_of r)) s.rest
    ∙ front_is word s.count n s.some s.within (unspaced_front 10 word s.count n s.within s.value) s.ends
    (decimal_number (take s.count word) n (omega arith) s.value s.fits)

-- nor are 0 and x
unspaced_behind : (digits : List ℕ) (k : ℕ) → ((i : ℕ) → i < k → get_or digits i 0 ≢ 32) → (i : ℕ) → i < suc (suc k) → get_or (48 ∷ 120 ∷ digits) i 0 ≢ 32
unspaced_behind digits k others zero low = λ same. absurd (omega arith)
unspaced_behind digits k others (suc zero) low = λ same. absurd (omega arith)
unspaced_behind digits k others (suc (suc i)) low = others i (omega arith)

behind_is : (digits : List ℕ) (k n : ℕ) → 0 < k → k ≤ length digits → ((i : ℕ) → i < k → get_or digits i 0 ≢ 32) → (k < length digits → get_or digits k 0 ≡ 32)
    → number_of (48 ∷ 120 ∷ take k digits) ≡ Some n → Some (n, words_of (drop k digits)) ≡ front_number (words_of (48 ∷ 120 ∷ digits))
behind_is digits k n some within letters ends is =
    front_is (48 ∷ 120 ∷ digits) (suc (suc k)) n (omega arith) (omega arith) (unspaced_behind digits k letters) (λ more. ends (omega arith)) is

hexadecimal_ends : (digits others : List ℕ) (n : ℕ) → EndsValue 16 digits n others → Some (n, words_of others) ≡ front_number (words_of (48 ∷ 120 ∷ digits))
hexadecimal_ends digits others n s =
    let some = s.some in
    let size : length (take s.count digits) ≡ s.count = length-take-le s.count digits s.within in
    ap (λ r. Some (n, words_of r)) s.rest
    ∙ behind_is digits s.count n s.some s.within (unspaced_front 16 digits s.count n s.within s.value) s.ends
    (hexadecimal_number (take s.count digits) n (omega arith) s.value s.fits)

pub decimal_front : {R : Type 0} (now : R → List ℕ) (o : Option (ℕ × R)) (bytes : List ℕ) → IfSome o (λ f. EndsValue 10 bytes f.0 (now f.1))
    → IfSome o (λ f. Some (f.0, words_of (now f.1)) ≡ front_number (words_of bytes))
decimal_front now None bytes s = tt
decimal_front now (Some f) bytes s = decimal_ends bytes (now f.1) f.0 s

pub hexadecimal_front : {R : Type 0} (now : R → List ℕ) (o : Option (ℕ × R)) (digits bytes : List ℕ) → bytes ≡ 48 ∷ 120 ∷ digits
    → IfSome o (λ f. EndsValue 16 digits f.0 (now f.1)) → IfSome o (λ f. Some (f.0, words_of (now f.1)) ≡ front_number (words_of bytes))
hexadecimal_front now None digits bytes is s = tt
hexadecimal_front now (Some f) digits bytes is s = hexadecimal_ends digits (now f.1) f.0 s ∙ ap (λ b. front_number (words_of b)) (sym is)

pub short_front : {R : Type 0} (now : R → List ℕ) (o : Option (ℕ × R)) (word bytes : List ℕ) → is_some o ≡ true
    → IfSome o (λ f. Some (f.0, words_of (now f.1)) ≡ front_number (words_of word)) → words_of word ≡ words_of bytes
    → option_map (λ f. (f.0, words_of (now f.1))) o ≡ front_number (words_of bytes)
short_front now None word bytes e s is = absurd (cc)
short_front now (Some f) word bytes e s is = s ∙ ap front_number is

-- ---- an access of which nothing is left

nothing : (rest : List ℕ) → true ≡ (length rest == 0) → words_of rest ≡ []
nothing [] e = refl
nothing (x ∷ xs) e =
    let none : length (x ∷ xs) ≡ 0 = grind (arith, nat_tests, sym e) in
    absurd (omega arith)

pub load_ends : (args rest : List ℕ) (addr : ℕ) → Some (addr, words_of rest) ≡ front_number (words_of args) → true ≡ (length rest == 0)
    → Some (Load addr) ≡ load_of (words_of args)
unfolding load_of
load_ends args rest addr is none =
    ap (λ ws. ended ws (Load addr)) (sym (nothing rest none)) ∙ ap (λ o. o >>= λ n. ended n.1 (Load n.0)) is

pub store_ends : (args rest digits last : List ℕ) (addr byte : ℕ) → Some (addr, words_of rest) ≡ front_number (words_of args) → words_of digits ≡ words_of rest
    → Some (byte, words_of last) ≡ front_number (words_of digits) → byte ≤ 255 → true ≡ (length last == 0) → Some (Store addr byte) ≡ store_of (words_of args)
unfolding store_of front_byte
store_ends args rest digits last addr byte is same digit small none =
    let fits : nat_lt 255 byte ≡ false = grind (arith, nat_tests) in
    let value : Some (byte, words_of last) ≡ front_byte (words_of rest) =
    ap (λ b. if b then None else Some (byte, words_of last)) (sym fits)
    ∙ ap (λ o. o >>= λ n. if nat_lt 255 n.0 then None else Some n) (digit ∙ ap front_number same) in
    ap (λ ws. ended ws (Store addr byte)) (sym (nothing last none))
    ∙ ap (λ o. o >>= λ v. ended v.1 (Store addr v.0)) value
    ∙ ap (λ o. o >>= λ n. front_byte n.1 >>= λ v. ended v.1 (Store n.0 v.0)) is

-- ---- a request that is known by the bytes that it begins with

named : (words bytes form : List ℕ) → words_of bytes ≡ words_of words → bytes ≡ form → request_of (words_of form) ≡ request_of (words_of words)
named words bytes form same e = ap (λ b. request_of (words_of b)) (sym e) ∙ ap request_of same

pub load_named : (words bytes args : List ℕ) → words_of bytes ≡ words_of words → bytes ≡ codes "load " ++ args
    → load_of (words_of args) ≡ request_of (words_of words)
unfolding request_of
load_named words bytes args same e = named words bytes (codes "load " ++ args) same e

pub store_named : (words bytes args : List ℕ) → words_of bytes ≡ words_of words → bytes ≡ codes "store " ++ args
    → store_of (words_of args) ≡ request_of (words_of words)
unfolding request_of
store_named words bytes args same e = named words bytes (codes "store " ++ args) same e

pub fetch_named : (words bytes args : List ℕ) → words_of bytes ≡ words_of words → bytes ≡ codes "fetch " ++ args
    → fetch_of (words_of args) ≡ request_of (words_of words)
unfolding request_of
fetch_named words bytes args same e = named words bytes (codes "fetch " ++ args) same e

pub mmap_named : (words bytes args : List ℕ) → words_of bytes ≡ words_of words → bytes ≡ codes "mmap " ++ args
    → mmap_of (words_of args) ≡ request_of (words_of words)
unfolding request_of
mmap_named words bytes args same e = named words bytes (codes "mmap " ++ args) same e

pub munmap_named : (words bytes args : List ℕ) → words_of bytes ≡ words_of words → bytes ≡ codes "munmap " ++ args
    → munmap_of (words_of args) ≡ request_of (words_of words)
unfolding request_of
munmap_named words bytes args same e = named words bytes (codes "munmap " ++ args) same e

pub mprotect_named : (words bytes args : List ℕ) → words_of bytes ≡ words_of words → bytes ≡ codes "mprotect " ++ args
    → mprotect_of (words_of args) ≡ request_of (words_of words)
unfolding request_of
mprotect_named words bytes args same e = named words bytes (codes "mprotect " ++ args) same e

-- a call of a core
core_unspaced : (core : ℕ) → core < 64 → list_all unspaced (decimal core) ≡ true
core_unspaced core small = decimal_has unspaced (refl, refl, refl) core (omega (arith, small))

named_words : (core : ℕ) (args : List ℕ) → core < 64
    → words_of (99 ∷ (decimal core ++ 33 ∷ 32 ∷ args)) ≡ (99 ∷ (decimal core ++ 33 ∷ [])) ∷ words_of args
named_words core args small =
    let name : Word = decimal core ++ 33 ∷ [] in
    let is : words_of (99 ∷ name) ≡ (99 ∷ name) ∷ [] = one_word 99 name (append_has unspaced (decimal core) (33 ∷ []) (core_unspaced core small) refl) in
    ap (λ l. words_of (99 ∷ l)) (sym (append_assoc (decimal core) (33 ∷ []) (32 ∷ args)))
    ∙ words_join (99 ∷ name) args ∙ ap (λ l. l ++ words_of args) is

now_is : (core : ℕ) (args : List ℕ) → core < 64
    → line_of_words (words_of (99 ∷ (decimal core ++ 33 ∷ 32 ∷ args))) ≡ (request_of (words_of args) >>= λ q. Some (Now core q))
unfolding now_of
now_is core args small =
    let named : core_of (99 ∷ decimal core) ≡ Some core = core_all (99 ∷ decimal core) core (small, refl) in
    ap line_of_words (named_words core args small)
    ∙ now_read (99 ∷ decimal core) core (words_of args) named
    ∙ ap (λ o. o >>= λ c. request_of (words_of args) >>= λ q. Some (Now c q)) named

now_named : (bytes args : List ℕ) (core : ℕ) → BeginsNow bytes core args
    → line_of_words (words_of bytes) ≡ (request_of (words_of args) >>= λ q. Some (Now core q))
now_named bytes args core begins = ap (λ b. line_of_words (words_of b)) begins.is ∙ now_is core args begins.low

pub now_some : (bytes args : List ℕ) (core : ℕ) (request : Request) → BeginsNow bytes core args → Some request ≡ request_of (words_of args)
    → Some (Now core request) ≡ line_of_words (words_of bytes)
now_some bytes args core request begins e = ap (λ o. o >>= λ q. Some (Now core q)) e ∙ sym (now_named bytes args core begins)

pub now_none : (bytes args : List ℕ) (core : ℕ) → BeginsNow bytes core args → None ≡ request_of (words_of args)
    → None ≡ line_of_words (words_of bytes)
now_none bytes args core begins e = ap (λ o. o >>= λ q. Some (Now core q)) e ∙ sym (now_named bytes args core begins)

-- such a line is no comment
pub now_said : (bytes words : List ℕ) (core : ℕ) (request : Request) → BeginsNow bytes core words → Some request ≡ request_of (words_of words)
    → Some (Now core request) ≡ line_of bytes
now_said bytes words core request begins e =
    let same : line_of_words (words_of bytes) ≡ line_of bytes =
    subst (λ b. line_of_words (words_of b) ≡ line_of b) (sym begins.is) refl in
    now_some bytes words core request begins e ∙ same

pub now_printable : (bytes words : List ℕ) (core : ℕ) (request : Request) → BeginsNow bytes core words → Some request ≡ request_of (words_of words)
    → are_printable bytes ≡ true
now_printable bytes words core request begins e =
    line_printable bytes (Some (Now core request)) (ap is_comment begins.is) refl (now_said bytes words core request begins e)

-- ---- an action that is known by the bytes that it begins with

-- a core that is told it
told_words : (core : ℕ) (args : List ℕ) → core < 64 → words_of (99 ∷ (decimal core ++ 32 ∷ args)) ≡ (99 ∷ decimal core) ∷ words_of args
told_words core args small =
    words_join (99 ∷ decimal core) args ∙ ap (λ l. l ++ words_of args) (one_word 99 (decimal core) (core_unspaced core small))

pub told_some : (bytes args : List ℕ) (core : ℕ) (line : Line) → BeginsCore bytes core args → Some line ≡ task_of core (words_of args)
    → Some line ≡ line_of_words (words_of bytes)
told_some bytes args core line begins e =
    e ∙ sym (ap (λ b. line_of_words (words_of b)) begins.is ∙ ap line_of_words (told_words core args begins.low)
    ∙ acts (99 ∷ decimal core) core (words_of args) (core_all (99 ∷ decimal core) core (begins.low, refl)))

-- such a line is no comment
pub told_said : (bytes words : List ℕ) (core : ℕ) (line : Line) → BeginsCore bytes core words → Some line ≡ task_of core (words_of words)
    → Some line ≡ line_of bytes
told_said bytes words core line begins e =
    let same : line_of_words (words_of bytes) ≡ line_of bytes =
    subst (λ b. line_of_words (words_of b) ≡ line_of b) (sym begins.is) refl in
    told_some bytes words core line begins e ∙ same

pub told_printable : (bytes words : List ℕ) (core : ℕ) (line : Line) → BeginsCore bytes core words → Some line ≡ task_of core (words_of words)
    → are_printable bytes ≡ true
told_printable bytes words core line begins e =
    line_printable bytes (Some line) (ap is_comment begins.is) refl (told_said bytes words core line begins e)

-- one digit names a core, and two do
pub one_named : (digit : ℕ) → 48 ≤ digit → digit ≤ 57 → NamesByOne digit (digit - 48)
one_named digit low high = (omega arith, decimal_digit (digit - 48) (omega arith) ∙ ap (λ x. x ∷ []) (omega arith))

pub two_named : (tens ones : ℕ) → 49 ≤ tens → tens ≤ 54 → 48 ≤ ones → ones ≤ 57 → (tens - 48) * 10 + (ones - 48) < 64
    → NamesByTwo tens ones ((tens - 48) * 10 + (ones - 48))
two_named tens ones low high small most fits =
    let core : ℕ = (tens - 48) * 10 + (ones - 48) in
    let first : 48 + core / 10 ≡ tens = omega arith in
    let last : 48 + core % 10 ≡ ones = omega arith in
    (fits, two_digits core (omega arith) fits ∙ ap (λ x. x ∷ (48 + core % 10) ∷ []) first ∙ ap (λ x. tens ∷ x ∷ []) last)

pub walk_told : (bytes args : List ℕ) (o : Option Action) → bytes ≡ codes "walk " ++ args → o ≡ walk_of (words_of args)
    → IfSome o (λ action. (core : ℕ) → Some (Act core action) ≡ task_of core (words_of bytes))
unfolding task_of act_of action_of
walk_told bytes args None is e = tt
walk_told bytes args (Some action) is e = λ core. ap (λ o. o >>= λ a. Some (Act core a)) e ∙ ap (λ b. task_of core (words_of b)) (sym is)

pub evict_told : (bytes args : List ℕ) (o : Option Action) → bytes ≡ codes "evict " ++ args → o ≡ evict_of (words_of args)
    → IfSome o (λ action. (core : ℕ) → Some (Act core action) ≡ task_of core (words_of bytes))
unfolding task_of act_of action_of
evict_told bytes args None is e = tt
evict_told bytes args (Some action) is e = λ core. ap (λ o. o >>= λ a. Some (Act core a)) e ∙ ap (λ b. task_of core (words_of b)) (sym is)

-- one word that is all of it
pub word_told : (name bytes : List ℕ) (core : ℕ) (line : Line) → Some line ≡ task_of core (words_of name) → bytes ≡ name
    → Some line ≡ task_of core (words_of bytes)
word_told name bytes core line told is = told ∙ ap (λ b. task_of core (words_of b)) (sym is)
