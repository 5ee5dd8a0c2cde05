-- Who made which thread, and lists that grow behind.
use Rattle.std.proofs.Common.{◌≡◌, ℕ, zero, suc, ◌+◌, ◌-◌, ◌<◌, Bool, true, false, List, [], ◌∷◌, ◌++◌, Option, None, Some, if◌then◌else◌, ◌&&◌, ◌||◌}
use Rattle.std.proofs.Common.{nat_lt, length, take, drop, get_or, arith, refl, sym, ap, ◌∙◌, eqb}
use Rattle.std.proofs.lemmas.Bool.Decides.{nat_tests}
use Rattle.std.proofs.lemmas.List.{drop_more}
use Rattle.import_forms.specs.Speech.{Spoken}
use Rattle.import_lines.specs.Made.{fork_of, maker_of, making_by, process_of, shares_any, shares_space, space_by, space_within, with_making, with_makings}
use Rattle.import_lines.specs.declared.made.Making.{Making}
use Rattle.import_lines.specs.declared.told.CloneLine.{CloneLine}

pub apart : (a b c : ℕ) → eqb a b ≡ false → eqb a c ≡ true → eqb b c ≡ false
apart a b c h e = grind (arith, nat_tests)

-- one more behind the list
pub maker_push : (made : List Making) (m : Making) (q : ℕ) → maker_of made m.child ≡ None
    → maker_of (made ++ m ∷ []) q ≡ (if eqb m.child q then Some m else maker_of made q)
maker_push [] m q h = refl
maker_push (x ∷ xs) m q h = by (maker_push xs m q) (eqb x.child m.child) refl (eqb x.child q) refl h
  where
    by : (maker_of xs m.child ≡ None → maker_of (xs ++ m ∷ []) q ≡ (if eqb m.child q then Some m else maker_of xs q))
        → (b : Bool) → eqb x.child m.child ≡ b → (t : Bool) → eqb x.child q ≡ t → (if b then Some x else maker_of xs m.child) ≡ None
        → (if t then Some x else maker_of (xs ++ m ∷ []) q) ≡ (if eqb m.child q then Some m else (if t then Some x else maker_of xs q))
    by more true e t f z = absurd cc
    by more false e true f z = rw (apart x.child m.child q e f) refl
    by more false e false f z = more z

-- without its last
pub take_front : {X : Type 0} (xs : List X) (x : X) (n : ℕ) → n ≡ length xs → take n (xs ++ x ∷ []) ≡ xs
take_front [] x zero h = refl
take_front [] x (suc n) h = absurd (omega (arith, h))
take_front (y ∷ ys) x zero h = absurd (omega (arith, h))
take_front (y ∷ ys) x (suc n) h = ap (λ l. y ∷ l) (take_front ys x n (omega (arith, h)))

-- one more was added
pub makings_more : (all : List Spoken) (made : List Making) (ts : List CloneLine) (n : ℕ) (d : CloneLine) → n < length ts
    → with_makings all (with_making made (making_by all (get_or ts n d))) (drop (n + 1) ts) ≡ with_makings all made (drop n ts)
makings_more all made ts n d p = sym (ap (with_makings all made) (drop_more ts n d p))

-- a process has an address space of its own
pub space_stops : (copies : Bool) (made : List Making) (k n process r : ℕ) (m : Making) (o : Option Making) (b : Bool) → 0 < n
    → space_within copies made k n process ≡ r → o ≡ fork_of (maker_of made process) → o ≡ Some m
    → b ≡ (copies || m.joins) && nat_lt k m.at → b ≡ false → process ≡ r
space_stops copies made k zero process r m o b p h e f g z = absurd (omega (arith, p))
space_stops copies made k (suc n) process r m o b p h e f g z =
    sym (sym h ∙ ap (space_by copies (space_within copies made k n) made process k) (sym e ∙ f)
    ∙ ap (λ t. if t then space_within copies made k n (process_of made m.parent) else process) (sym g ∙ z))

-- it has its maker's
pub space_goes : (copies : Bool) (made : List Making) (k n process r : ℕ) (m : Making) (o : Option Making) (b : Bool) → 0 < n
    → space_within copies made k n process ≡ r → o ≡ fork_of (maker_of made process) → o ≡ Some m
    → b ≡ (copies || m.joins) && nat_lt k m.at → b ≡ true → space_within copies made k (n - 1) (process_of made m.parent) ≡ r
space_goes copies made k zero process r m o b p h e f g z = absurd (omega (arith, p))
space_goes copies made k (suc n) process r m o b p h e f g z =
    let one : suc n - 1 ≡ n = omega arith in
    ap (λ x. space_within copies made k x (process_of made m.parent)) one
    ∙ sym (sym h ∙ ap (space_by copies (space_within copies made k n) made process k) (sym e ∙ f)
    ∙ ap (λ t. if t then space_within copies made k n (process_of made m.parent) else process) (sym g ∙ z))

-- a thread of the list is of its maker's process
pub shares_here : (made : List Making) (n : ℕ) (d : Making) → n < length made → shares_space (get_or made n d) ≡ true → shares_any (drop n made) ≡ true
shares_here made n d p e = ap shares_any (drop_more made n d p) ∙ rw e refl

pub shares_more : (made : List Making) (n : ℕ) (d : Making) → n < length made → shares_space (get_or made n d) ≡ false
    → shares_any (drop (n + 1) made) ≡ shares_any (drop n made)
shares_more made n d p e = sym (ap shares_any (drop_more made n d p) ∙ rw e refl)
