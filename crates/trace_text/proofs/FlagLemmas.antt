-- Rights and flags: what spells them is read, and what is read spells them.
use Rattle.std.proofs.Common.{◌≡◌, inl, inr, ℕ, ◌+◌, ◌≤◌, Bool, true, false, cond, not, ◌&&◌, eqb, [], ◌∷◌, ◌++◌}
use Rattle.std.proofs.Common.{length, Option, Some, None, codes, arith, refl, sym, ap, ◌∙◌, subst}
use Rattle.std.proofs.lemmas.Bool.{and_from, and_parts, eqb-true, not-true}
use Rattle.std.proofs.lemmas.Bool.Decides.{nat_tests}
use Rattle.std.proofs.lemmas.Slice.Eq.{bytes_eq-Decides}
use Rattle.std.specs.Prelude.{option_and_then}
use Rattle.std.specs.List.{list_all}
use Rattle.std.specs.Str.{bytes_eq}
use Rattle.vm_base.specs.declared.rights.Prot.{Prot}
use Rattle.vm_base.specs.declared.requests.Flags.{Flags}
use Rattle.trace_text.specs.Words.{Word}
use Rattle.trace_text.specs.Request.{mark_of, prot_of, no_flags, flag_more, flags_from, flags_of}
use Rattle.trace_text.specs.Spelling.{mark, rights_text, occurrences, times, SpellsLetters, SpellsFlags}
use Rattle.trace_text.proofs.Choices.{bind_some, chosen, of_three}

-- ---- rights

mark_only : (letter c : ℕ) (b : Bool) → mark_of letter c ≡ Some b → c ∷ [] ≡ mark b (letter ∷ [])
mark_only letter c b e = elim (chosen (eqb c letter) (Some true) (cond (eqb c 45) (Some false) None) (Some b) e) [
  | inl h ↦ let same : true ≡ b = (let g = h.1 in cc) in let is : c ≡ letter = grind (arith, nat_tests, h.0) in ap (λ x. x ∷ []) is
      ∙ ap (λ t. mark t (letter ∷ [])) same
  | inr h ↦ elim (chosen (eqb c 45) (Some false) None (Some b) h.1) [
    | inl k ↦ let same : false ≡ b = (let g = k.1 in cc) in let is : c ≡ 45 = grind (arith, nat_tests, k.0) in ap (λ x. x ∷ []) is
        ∙ ap (λ t. mark t (letter ∷ [])) same
    | inr k ↦ let bad = k.1 in absurd (cc)
  ]
]

pub rights_all : (word : Word) (prot : Prot) → word ≡ rights_text prot → prot_of word ≡ Some prot
unfolding prot_of
rights_all word prot e =
    ap prot_of e ∙ of_three (λ r w x. prot_of (rights_text (record { read = r; write = w; exec = x })) ≡ Some (record { read = r; write = w; exec = x }))
    (refl, refl, refl, refl, refl, refl, refl, refl) prot.read prot.write prot.exec

marked : (r w x : ℕ) (read write exec : Bool) → r ∷ [] ≡ mark read (codes "r") → w ∷ [] ≡ mark write (codes "w") → x ∷ [] ≡ mark exec (codes "x")
    → r ∷ w ∷ x ∷ [] ≡ rights_text (record { read = read; write = write; exec = exec })
marked r w x read write exec first second third =
    let one : r ∷ w ∷ x ∷ [] ≡ mark read (codes "r") ++ (w ∷ []) ++ (x ∷ []) = ap (λ l. l ++ (w ∷ []) ++ (x ∷ [])) first in
    let two : mark read (codes "r") ++ (w ∷ []) ++ (x ∷ []) ≡ mark read (codes "r") ++ mark write (codes "w") ++ (x ∷ []) =
    ap (λ l. mark read (codes "r") ++ l ++ (x ∷ [])) second in
    one ∙ two ∙ ap (λ l. mark read (codes "r") ++ mark write (codes "w") ++ l) third

pub rights_only : (word : Word) (prot : Prot) → prot_of word ≡ Some prot → word ≡ rights_text prot
unfolding prot_of
rights_only [] prot e = absurd (cc)
rights_only (r ∷ []) prot e = absurd (cc)
rights_only (r ∷ (w ∷ [])) prot e = absurd (cc)
rights_only (r ∷ (w ∷ (x ∷ []))) prot e =
    let (read, er, f) = bind_some (mark_of 114 r) _ prot e in
    let (write, ew, g) = bind_some (mark_of 119 w) _ prot f in
    let (exec, ex, h) = bind_some (mark_of 120 x) (λ exec. Some (record { read = read; write = write; exec = exec })) prot g in
    let same : record { read = read; write = write; exec = exec } ≡ prot = cc in
    subst (λ q. r ∷ w ∷ x ∷ [] ≡ rights_text q) same
    (marked r w x read write exec (mark_only 114 r read er) (mark_only 119 w write ew) (mark_only 120 x exec ex))
rights_only (r ∷ (w ∷ (x ∷ (y ∷ ys)))) prot e = absurd (cc)

-- ---- flags

-- the word's letters, added to those of f, are those of g
pub record Adds (f : Flags) (word : Word) (g : Flags) : Type 0 where
  pub private : times f.private + occurrences 112 word ≡ times g.private
  pub shared : times f.shared + occurrences 115 word ≡ times g.shared
  pub fixed : times f.fixed + occurrences 102 word ≡ times g.fixed
  pub anon : times f.anon + occurrences 97 word ≡ times g.anon
  pub others : times f.private + times f.shared + times f.fixed + times f.anon + length word ≡ times g.private + times g.shared + times g.fixed + times g.anon

-- a letter more
pub record IsMore (f : Flags) (c : ℕ) (g : Flags) : Type 0 where
  pub private : times f.private + cond (eqb c 112) 1 0 ≡ times g.private
  pub shared : times f.shared + cond (eqb c 115) 1 0 ≡ times g.shared
  pub fixed : times f.fixed + cond (eqb c 102) 1 0 ≡ times g.fixed
  pub anon : times f.anon + cond (eqb c 97) 1 0 ≡ times g.anon
  pub others : times f.private + times f.shared + times f.fixed + times f.anon + 1 ≡ times g.private + times g.shared + times g.fixed + times g.anon

-- a flag that isn't set is set
put_private : (f : Flags) → f.private ≡ false → IsMore f 112 (record f { private = true })
put_private f off = let none : times f.private ≡ 0 = ap times off in
    record { private = omega arith; shared = omega arith; fixed = omega arith; anon = omega arith; others = omega arith }

put_shared : (f : Flags) → f.shared ≡ false → IsMore f 115 (record f { shared = true })
put_shared f off = let none : times f.shared ≡ 0 = ap times off in
    record { private = omega arith; shared = omega arith; fixed = omega arith; anon = omega arith; others = omega arith }

put_fixed : (f : Flags) → f.fixed ≡ false → IsMore f 102 (record f { fixed = true })
put_fixed f off = let none : times f.fixed ≡ 0 = ap times off in
    record { private = omega arith; shared = omega arith; fixed = omega arith; anon = omega arith; others = omega arith }

put_anon : (f : Flags) → f.anon ≡ false → IsMore f 97 (record f { anon = true })
put_anon f off = let none : times f.anon ≡ 0 = ap times off in
    record { private = omega arith; shared = omega arith; fixed = omega arith; anon = omega arith; others = omega arith }

letter_is : (c letter : ℕ) (b : Bool) → (eqb c letter && not b) ≡ true → (c ≡ letter) × (b ≡ false)
letter_is c letter b e = let parts = and_parts (eqb c letter) (not b) e in (eqb-true c letter parts.0, not-true b parts.1)

put_is : (f : Flags) (c letter : ℕ) (m g : Flags) → c ≡ letter → Some m ≡ Some g → IsMore f letter m → IsMore f c g
put_is f c letter m g is e h = let same : m ≡ g = cc in subst (λ x. IsMore f x g) (sym is) (subst (IsMore f letter) same h)

more_is : (f : Flags) (c : ℕ) (g : Flags) → flag_more f c ≡ Some g → IsMore f c g
more_is f c g e = elim (chosen (eqb c 112 && not f.private) (Some (record f { private = true })) _ (Some g) e) [
  | inl h ↦ let k = letter_is c 112 f.private h.0 in put_is f c 112 (record f { private = true }) g k.0 h.1 (put_private f k.1)
  | inr h ↦ elim (chosen (eqb c 115 && not f.shared) (Some (record f { shared = true })) _ (Some g) h.1) [
    | inl i ↦ let k = letter_is c 115 f.shared i.0 in put_is f c 115 (record f { shared = true }) g k.0 i.1 (put_shared f k.1)
    | inr i ↦ elim (chosen (eqb c 102 && not f.fixed) (Some (record f { fixed = true })) _ (Some g) i.1) [
      | inl j ↦ let k = letter_is c 102 f.fixed j.0 in put_is f c 102 (record f { fixed = true }) g k.0 j.1 (put_fixed f k.1)
      | inr j ↦ elim (chosen (eqb c 97 && not f.anon) (Some (record f { anon = true })) None (Some g) j.1) [
        | inl l ↦ let k = letter_is c 97 f.anon l.0 in put_is f c 97 (record f { anon = true }) g k.0 l.1 (put_anon f k.1)
        | inr l ↦ let bad = l.1 in absurd (cc)
      ]
    ]
  ]
]

-- what a letter more adds, the word's letters add too
added : (f m : Flags) (c : ℕ) (cs : Word) (g : Flags) → IsMore f c m → Adds m cs g → Adds f (c ∷ cs) g
added f m c cs g h a = record {
  private = let p = h.private in let q = a.private in omega arith;
  shared = let p = h.shared in let q = a.shared in omega arith;
  fixed = let p = h.fixed in let q = a.fixed in omega arith;
  anon = let p = h.anon in let q = a.anon in omega arith;
  others = let p = h.others in let q = a.others in omega arith;
}

taken : (f m : Flags) (c : ℕ) (cs : Word) (g : Flags) → IsMore f c m → Adds f (c ∷ cs) g → Adds m cs g
taken f m c cs g h a = record {
  private = let p = h.private in let q = a.private in omega arith;
  shared = let p = h.shared in let q = a.shared in omega arith;
  fixed = let p = h.fixed in let q = a.fixed in omega arith;
  anon = let p = h.anon in let q = a.anon in omega arith;
  others = let p = h.others in let q = a.others in omega arith;
}

nothing_added : (f : Flags) → Adds f [] f
nothing_added f = record { private = omega arith; shared = omega arith; fixed = omega arith; anon = omega arith; others = omega arith }

letters_only : (f : Flags) (word : Word) (g : Flags) → flags_from f word ≡ Some g → Adds f word g
letters_only f [] g e = let same : f ≡ g = cc in subst (Adds f []) same (nothing_added f)
letters_only f (c ∷ cs) g e = go (λ m k. letters_only m cs g k) (flag_more f c) refl e
  where
    go : ((m : Flags) → flags_from m cs ≡ Some g → Adds m cs g) → (o : Option Flags) → flag_more f c ≡ o
        → option_and_then (λ m. flags_from m cs) o ≡ Some g → Adds f (c ∷ cs) g
    go others None k e = absurd (cc)
    go others (Some m) k e = added f m c cs g (more_is f c m k) (others m e)

-- ---- the other way

times_same : (a b : Bool) → times a ≡ times b → a ≡ b
times_same true true e = refl
times_same false false e = refl
times_same true false e = absurd (omega arith)
times_same false true e = absurd (omega arith)

times_off : (b : Bool) → times b ≡ 0 → b ≡ false
times_off true e = absurd (omega arith)
times_off false e = refl

times_low : (b : Bool) → times b ≤ 1
times_low true = omega arith
times_low false = omega arith

-- a letter of a flag, or another byte
pub data Which (c : ℕ) : Type 0 where
  is_private : c ≡ 112 → Which c
  is_shared : c ≡ 115 → Which c
  is_fixed : c ≡ 102 → Which c
  is_anon : c ≡ 97 → Which c
  is_other : eqb c 112 ≡ false → eqb c 115 ≡ false → eqb c 102 ≡ false → eqb c 97 ≡ false → Which c

which : (c : ℕ) → Which c
which c = go (eqb c 112) (eqb c 115) (eqb c 102) (eqb c 97) refl refl refl refl
  where
    go : (p s x a : Bool) → eqb c 112 ≡ p → eqb c 115 ≡ s → eqb c 102 ≡ x → eqb c 97 ≡ a → Which c
    go true s x a e f g h = is_private (grind (arith, nat_tests, e))
    go false true x a e f g h = is_shared (grind (arith, nat_tests, f))
    go false false true a e f g h = is_fixed (grind (arith, nat_tests, g))
    go false false false true e f g h = is_anon (grind (arith, nat_tests, h))
    go false false false false e f g h = is_other e f g h

one_letter : (c : ℕ) → cond (eqb c 112) 1 0 + cond (eqb c 115) 1 0 + cond (eqb c 102) 1 0 + cond (eqb c 97) 1 0 ≤ 1
one_letter c = elim (which c) [
  | is_private e ↦ rw e (omega arith)
  | is_shared e ↦ rw e (omega arith)
  | is_fixed e ↦ rw e (omega arith)
  | is_anon e ↦ rw e (omega arith)
  | is_other e f g h ↦ rw (e, f, g, h) (omega arith)
]

letters_low : (word : Word) → occurrences 112 word + occurrences 115 word + occurrences 102 word + occurrences 97 word ≤ length word
letters_low [] = omega arith
letters_low (c ∷ cs) = let one = one_letter c in let rest = letters_low cs in omega arith

-- the flags with the letter c, where there is one
pub record HasMore (f : Flags) (c : ℕ) : Type 0 where
  pub more : Flags
  pub is : flag_more f c ≡ Some more
  pub by : IsMore f c more

-- by a flag that isn't set
put_more : (f m : Flags) (c : ℕ) (set : Bool) → set ≡ false → flag_more f c ≡ cond (true && not set) (Some m) None → IsMore f c m → HasMore f c
put_more f m c set off is by = record { more = m; is = is ∙ ap (λ b. cond (true && not b) (Some m) None) off; by = by }

more_private : (f : Flags) → f.private ≡ false → HasMore f 112
more_private f off = put_more f (record f { private = true }) 112 f.private off refl (put_private f off)

more_shared : (f : Flags) → f.shared ≡ false → HasMore f 115
more_shared f off = put_more f (record f { shared = true }) 115 f.shared off refl (put_shared f off)

more_fixed : (f : Flags) → f.fixed ≡ false → HasMore f 102
more_fixed f off = put_more f (record f { fixed = true }) 102 f.fixed off refl (put_fixed f off)

more_anon : (f : Flags) → f.anon ≡ false → HasMore f 97
more_anon f off = put_more f (record f { anon = true }) 97 f.anon off refl (put_anon f off)

-- a letter that stands in the word and isn't taken yet
off_before : (b g : Bool) (n m : ℕ) → times b + (n + m) ≡ times g → n ≡ 1 → b ≡ false
off_before b g n m e one = let low = times_low g in times_off b (omega arith)

has_more : (f : Flags) (c : ℕ) (cs : Word) (g : Flags) → Adds f (c ∷ cs) g → HasMore f c
has_more f c cs g a = elim (which c) [
  | is_private e ↦ subst (HasMore f) (sym e) (more_private f (off_before f.private g.private _ _ a.private (rw e refl)))
  | is_shared e ↦ subst (HasMore f) (sym e) (more_shared f (off_before f.shared g.shared _ _ a.shared (rw e refl)))
  | is_fixed e ↦ subst (HasMore f) (sym e) (more_fixed f (off_before f.fixed g.fixed _ _ a.fixed (rw e refl)))
  | is_anon e ↦ subst (HasMore f) (sym e) (more_anon f (off_before f.anon g.anon _ _ a.anon (rw e refl)))
  | is_other e i j k ↦
      let p0 : cond {A = ℕ} (eqb c 112) 1 0 ≡ 0 = ap (λ b. cond b 1 0) e in
      let s0 : cond {A = ℕ} (eqb c 115) 1 0 ≡ 0 = ap (λ b. cond b 1 0) i in
      let x0 : cond {A = ℕ} (eqb c 102) 1 0 ≡ 0 = ap (λ b. cond b 1 0) j in
      let a0 : cond {A = ℕ} (eqb c 97) 1 0 ≡ 0 = ap (λ b. cond b 1 0) k in
      let low = letters_low cs in
      let p1 : times f.private + (cond (eqb c 112) 1 0 + occurrences 112 cs) ≡ times g.private = a.private in
      let s1 : times f.shared + (cond (eqb c 115) 1 0 + occurrences 115 cs) ≡ times g.shared = a.shared in
      let x1 : times f.fixed + (cond (eqb c 102) 1 0 + occurrences 102 cs) ≡ times g.fixed = a.fixed in
      let a1 : times f.anon + (cond (eqb c 97) 1 0 + occurrences 97 cs) ≡ times g.anon = a.anon in
      let all = a.others in
      absurd (omega arith)
]

letters_all : (f : Flags) (word : Word) (g : Flags) → Adds f word g → flags_from f word ≡ Some g
letters_all f [] g a =
    let p : f.private ≡ g.private = (let h = a.private in times_same f.private g.private (omega arith)) in
    let s : f.shared ≡ g.shared = (let h = a.shared in times_same f.shared g.shared (omega arith)) in
    let x : f.fixed ≡ g.fixed = (let h = a.fixed in times_same f.fixed g.fixed (omega arith)) in
    let n : f.anon ≡ g.anon = (let h = a.anon in times_same f.anon g.anon (omega arith)) in
    ap (λ b. Some (record f { private = b })) p ∙ ap (λ b. Some (record f { private = g.private; shared = b })) s
    ∙ ap (λ b. Some (record f { private = g.private; shared = g.shared; fixed = b })) x
    ∙ ap (λ b. Some (record { private = g.private; shared = g.shared; fixed = g.fixed; anon = b })) n
letters_all f (c ∷ cs) g a =
    let h : HasMore f c = has_more f c cs g a in
    ap (option_and_then (λ m. flags_from m cs)) h.is ∙ letters_all h.more cs g (taken f h.more c cs g h.by a)

no_dash : (flags : Flags) → SpellsLetters (codes "-") flags → ⊥
no_dash flags s =
    let p = s.private in
    let t = s.shared in
    let x = s.fixed in
    let n = s.anon in
    let all = s.others in
    omega arith

pub flags_all : (word : Word) (flags : Flags) → SpellsFlags word flags → flags_of word ≡ Some flags
flags_all word flags (inr (e, n)) = rw (e, n) refl
flags_all word flags (inl s) = go (bytes_eq word (codes "-")) refl
  where
    go : (b : Bool) → bytes_eq word (codes "-") ≡ b → cond b (Some no_flags) (flags_from no_flags word) ≡ Some flags
    go true e = absurd (no_dash flags (subst (λ w. SpellsLetters w flags) ((bytes_eq-Decides word (codes "-")).0 e) s))
    go false e = letters_all no_flags word flags (record {
      private = let h = s.private in omega arith;
      shared = let h = s.shared in omega arith;
      fixed = let h = s.fixed in omega arith;
      anon = let h = s.anon in omega arith;
      others = let h = s.others in omega arith;
    })

pub flags_only : (word : Word) (flags : Flags) → flags_of word ≡ Some flags → SpellsFlags word flags
flags_only word flags e = elim (chosen (bytes_eq word (codes "-")) (Some no_flags) (flags_from no_flags word) (Some flags) e) [
  | inl h ↦ let same : no_flags ≡ flags = (let g = h.1 in cc) in inr ((bytes_eq-Decides word (codes "-")).0 h.0, sym same)
  | inr h ↦
      let a : Adds no_flags word flags = letters_only no_flags word flags h.1 in
      inl (record {
        private = let g = a.private in omega arith;
        shared = let g = a.shared in omega arith;
        fixed = let g = a.fixed in omega arith;
        anon = let g = a.anon in omega arith;
        others = let g = a.others in omega arith;
      })
]

-- ---- bytes of flags

-- what holds of each letter, and of the dash for none
abbrev pub HasLetters : (ℕ → Bool) → Type 0
HasLetters p = (p 112 ≡ true) × (p 115 ≡ true) × (p 102 ≡ true) × (p 97 ≡ true) × (p 45 ≡ true)

letters_have : (p : ℕ → Bool) → HasLetters p → (word : Word)
    → occurrences 112 word + occurrences 115 word + occurrences 102 word + occurrences 97 word ≡ length word → list_all p word ≡ true
letters_have p h [] e = refl
letters_have p h (c ∷ cs) e =
    let one = one_letter c in
    let low = letters_low cs in
    let byte : p c ≡ true = elim (which c) [
      | is_private k ↦ ap p k ∙ h.0
      | is_shared k ↦ ap p k ∙ h.1
      | is_fixed k ↦ ap p k ∙ h.2
      | is_anon k ↦ ap p k ∙ h.3
      | is_other k l m n ↦
          let none : cond (eqb c 112) 1 0 + cond (eqb c 115) 1 0 + cond (eqb c 102) 1 0 + cond (eqb c 97) 1 0 ≡ 0 = rw (k, l, m, n) (omega arith) in
          absurd (omega arith)
    ] in
    and_from (p c) (list_all p cs) byte (letters_have p h cs (omega arith))

pub flags_have : (p : ℕ → Bool) → HasLetters p → (word : Word) (flags : Flags) → SpellsFlags word flags → list_all p word ≡ true
flags_have p h word flags (inl s) = letters_have p h word (omega (arith, s.private, s.shared, s.fixed, s.anon, s.others))
flags_have p h word flags (inr (e, n)) = ap (list_all p) e ∙ and_from (p 45) true h.4 refl
