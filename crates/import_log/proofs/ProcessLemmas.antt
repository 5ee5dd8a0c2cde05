-- The processes of a log.
use Rattle.std.proofs.Common.{◌≡◌, ℕ, zero, suc, ◌+◌, ◌<◌, Bool, true, false, List, [], ◌∷◌, ◌++◌, Option, None, Some, if◌then◌else◌, length, drop}
use Rattle.std.proofs.Common.{get_or, set, arith, refl, sym, ap, ◌∙◌, eqb}
use Rattle.std.proofs.lemmas.List.{drop_more}
use Rattle.import_forms.specs.Speech.{Spoken}
use Rattle.import_lines.specs.Joining.{speech_at}
use Rattle.import_lines.proofs.MadeLemmas.{apart}
use Rattle.import_lines.specs.Made.{process_of, said_at}
use Rattle.import_log.specs.Processes.{asks, is_there, one_later, place_of, processes, with_line, with_request}
use Rattle.import_lines.specs.declared.made.Making.{Making}
use Rattle.import_log.specs.declared.processes.Process.{Process}

-- a process keeps its number
pub same_number : (p : Process) (b : Bool) → (with_request p b).number ≡ p.number
same_number p true = refl
same_number p false = refl

none_later : (o : Option ℕ) → one_later o ≡ None → o ≡ None
none_later None h = refl
none_later (Some n) h = absurd cc

some_later : (o : Option ℕ) (n : ℕ) → one_later o ≡ Some n → (m : ℕ) × (o ≡ Some m) × (n ≡ suc m)
some_later None n h = absurd cc
some_later (Some m) n h = (m, refl, cc)

later_if : (b : Bool) (n : ℕ) (o : Option ℕ) → one_later (if b then Some n else o) ≡ (if b then Some (suc n) else one_later o)
later_if true n o = refl
later_if false n o = refl

-- a process that isn't there yet stands behind all
pub place_push : (ps : List Process) (p : Process) (q : ℕ) → place_of p.number ps ≡ None
    → place_of q (ps ++ p ∷ []) ≡ (if eqb p.number q then Some (length ps) else place_of q ps)
place_push [] p q h = refl
place_push (x ∷ xs) p q h = by (place_push xs p q) (eqb x.number p.number) refl (eqb x.number q) refl h
  where
    by : (place_of p.number xs ≡ None → place_of q (xs ++ p ∷ []) ≡ (if eqb p.number q then Some (length xs) else place_of q xs))
        → (b : Bool) → eqb x.number p.number ≡ b → (t : Bool) → eqb x.number q ≡ t
        → (if b then Some 0 else one_later (place_of p.number xs)) ≡ None
        → (if t then Some 0 else one_later (place_of q (xs ++ p ∷ [])))
        ≡ (if eqb p.number q then Some (suc (length xs)) else (if t then Some 0 else one_later (place_of q xs)))
    by more true e t f z = absurd cc
    by more false e true f z = rw (apart x.number p.number q e f) refl
    by more false e false f z = ap one_later (more (none_later _ z)) ∙ later_if (eqb p.number q) (length xs) (place_of q xs)

-- it is there
pub place_low : (ps : List Process) (q n : ℕ) → place_of q ps ≡ Some n → n < length ps
place_low [] q n h = absurd cc
place_low (x ∷ xs) q n h = by (place_low xs q) (eqb x.number q) h
  where
    by : ((m : ℕ) → place_of q xs ≡ Some m → m < length xs) → (t : Bool) → (if t then Some 0 else one_later (place_of q xs)) ≡ Some n → n < length (x ∷ xs)
    by more true z = let none : n ≡ 0 = cc in omega (arith, none)
    by more false z = let one = some_later _ _ z in let less = more one.0 one.1 in omega (arith, less, one.2)

-- each stays where it is
pub place_set : (ps : List Process) (n : ℕ) (p d : Process) (q : ℕ) → n < length ps → p.number ≡ (get_or ps n d).number
    → place_of q (set ps n p) ≡ place_of q ps
place_set [] n p d q low e = absurd (omega (arith, low))
place_set (x ∷ xs) zero p d q low e = rw e refl
place_set (x ∷ xs) (suc n) p d q low e =
    ap (λ o. if eqb x.number q then Some 0 else one_later o) (place_set xs n p d q (omega (arith, low)) e)

-- a new process is counted behind all
pub line_pushed : (ps : List Process) (number : ℕ) (b : Bool) → place_of number ps ≡ None
    → ps ++ with_request (record { number = number; requests = 0 }) b ∷ [] ≡ with_line ps number b
line_pushed [] number b h = refl
line_pushed (p ∷ ps) number b h = by (line_pushed ps number b) (eqb p.number number) h
  where
    by : (place_of number ps ≡ None → ps ++ with_request (record { number = number; requests = 0 }) b ∷ [] ≡ with_line ps number b)
        → (t : Bool) → (if t then Some 0 else one_later (place_of number ps)) ≡ None
        → p ∷ ps ++ with_request (record { number = number; requests = 0 }) b ∷ []
        ≡ (if t then with_request p b ∷ ps else p ∷ with_line ps number b)
    by more true z = absurd cc
    by more false z = ap (λ l. p ∷ l) (more (none_later _ z))

-- a known process is counted where it stands
pub line_set : (ps : List Process) (number n : ℕ) (p d : Process) (b : Bool) → place_of number ps ≡ Some n → p ≡ get_or ps n d
    → set ps n (with_request p b) ≡ with_line ps number b
line_set [] number n p d b h is = absurd cc
line_set (q ∷ ps) number n p d b h is = by (λ m. line_set ps number m p d b) (eqb q.number number) n h is
  where
    by : ((m : ℕ) → place_of number ps ≡ Some m → p ≡ get_or ps m d → set ps m (with_request p b) ≡ with_line ps number b) → (t : Bool) (n : ℕ) → (if t then Some 0 else one_later (place_of number ps)) ≡ Some n → p ≡ get_or (q ∷ ps) n d
        → set (q ∷ ps) n (with_request p b) ≡ (if t then with_request q b ∷ ps else q ∷ with_line ps number b)
    by more true zero z w = ap (λ x. with_request x b ∷ ps) w
    by more true (suc n) z w = absurd cc
    by more false zero z w = let one = some_later _ _ z in absurd (omega (arith, one.2))
    by more false (suc n) z w =
        let one = some_later _ _ z in
        let same : one.0 ≡ n = omega (arith, one.2) in
        ap (λ l. q ∷ l) (more n (one.1 ∙ ap Some same) w)

-- one more line was counted
pub counted_more : (all : List Spoken) (made : List Making) (n : ℕ) (ps qs : List Process) (number : ℕ) (b : Bool) → ps ≡ processes all made n
    → qs ≡ with_line ps number b → number ≡ process_of made (speech_at all n).0 → b ≡ asks (said_at all n) → qs ≡ processes all made (n + 1)
counted_more all made n ps qs number b h w e f =
    let one : n + 1 ≡ suc n = omega arith in
    rw one (w ∙ ap (λ l. with_line l number b) h ∙ ap (λ k. with_line (processes all made n) k b) e
    ∙ ap (with_line (processes all made n) (process_of made (speech_at all n).0)) f)

pub there_more : (thread : ℕ) (all : List Spoken) (n : ℕ) → n < length all → eqb (speech_at all n).0 thread ≡ false
    → is_there (Some thread) (drop (n + 1) all) ≡ is_there (Some thread) (drop n all)
there_more thread all n p e = sym (ap (is_there (Some thread)) (drop_more all n (0, []) p) ∙ rw e refl)

pub there_here : (thread : ℕ) (all : List Spoken) (n : ℕ) → n < length all → eqb (speech_at all n).0 thread ≡ true
    → is_there (Some thread) (drop n all) ≡ true
there_here thread all n p e = ap (is_there (Some thread)) (drop_more all n (0, []) p) ∙ rw e refl
