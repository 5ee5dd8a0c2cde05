-- The lines of a text, taken one after another.
use Rattle.std.proofs.Common.{◌≡◌, ◌≢◌, ℕ, zero, suc, ◌+◌, ◌<◌, ◌≤◌, false, List, [], ◌∷◌, ◌++◌, length, take, ◌⊎◌, inl, inr, arith, refl, sym, ap, ◌∙◌, eqb}
use Rattle.std.proofs.Common.{append_assoc, append-nil, length-append}
use Rattle.std.specs.Prelude.{cond}
use Rattle.std.proofs.lemmas.Bool.{eqb-true, ne_eqb}
use Rattle.trace_io.specs.Lines.{onto, lines_of, IsUnbroken, IsFirstLine}
use Rattle.trace_io.specs.Taken.{AreRead}
use Rattle.trace_io.proofs.TextLemmas.{line_last, onto_line}

-- the line is before its newline
lines-ended : (line ys : List ℕ) → IsUnbroken line → lines_of (line ++ 10 ∷ ys) ≡ line ∷ lines_of ys
lines-ended [] ys u = refl
lines-ended (x ∷ xs) ys u =
    onto_line x (xs ++ 10 ∷ ys) xs (lines_of ys) (ne_eqb x 10 (u 0 (omega arith))) (lines-ended xs ys (λ k lt. u (suc k) (omega arith)))

lines-last : (line : List ℕ) → IsUnbroken line → 0 < length line → lines_of line ≡ line ∷ []
lines-last line u p = line_last line p (λ k lt e. u k lt (eqb-true _ 10 e))

pub lines-first : (xs line ys : List ℕ) → IsUnbroken line → IsFirstLine xs line ys → lines_of xs ≡ line ∷ lines_of ys
lines-first xs line ys u (inl e) = ap lines_of e ∙ lines-ended line ys u
lines-first xs line ys u (inr h) = ap lines_of h.0 ∙ lines-last line u h.2 ∙ ap (λ l. line ∷ lines_of l) (sym h.1)

-- a first line that has no newline among its first n + 1 bytes
pub record LongFirst (n : ℕ) (xs : List ℕ) : Type 0 where
  pub line : List ℕ
  pub others : List (List ℕ)
  pub lines : lines_of xs ≡ line ∷ others
  pub long : n < length line

longer : (x : ℕ) (xs : List ℕ) (n : ℕ) → x ≢ 10 → LongFirst n xs → LongFirst (suc n) (x ∷ xs)
longer x xs n u h = record {
  line = x ∷ h.line;
  others = h.others;
  lines = onto_line x xs h.line h.others (ne_eqb x 10 u) h.lines;
  long = let l = h.long in omega arith;
}

some_first : (x : ℕ) (xs : List ℕ) (ls : List (List ℕ)) → x ≢ 10 → lines_of xs ≡ ls → LongFirst 0 (x ∷ xs)
some_first x xs [] u e =
    let letter : eqb x 10 ≡ false = ne_eqb x 10 u in
    record { line = x ∷ []; others = []; lines = ap (λ b. cond b ([] ∷ lines_of xs) (onto x (lines_of xs))) letter ∙ ap (onto x) e; long = omega arith }
some_first x xs (l ∷ ls) u e = record { line = x ∷ l; others = ls; lines = onto_line x xs l ls (ne_eqb x 10 u) e; long = omega arith }

pub long_first : (n : ℕ) (xs : List ℕ) → n < length xs → IsUnbroken (take (suc n) xs) → LongFirst n xs
long_first n [] p u = absurd (omega arith)
long_first zero (x ∷ xs) p u = some_first x xs (lines_of xs) (u 0 (omega arith)) refl
long_first (suc n) (x ∷ xs) p u = longer x xs n (u 0 (omega arith)) (long_first n xs (omega arith) (λ k lt. u (suc k) (omega arith)))

-- the bytes of the lines that were taken, and the rest: what comes behind those bytes are lines of its own, unless the last line had
-- no newline
pub record IsTaken (input whole rest : List ℕ) (done : List (List ℕ)) : Type 0 where
  pub bytes : input ≡ whole ++ rest
  pub lines : lines_of whole ≡ done
  pub joins : (rest ≡ []) ⊎ ((zs : List ℕ) → lines_of (whole ++ zs) ≡ done ++ lines_of zs)

joins_more : (whole line : List ℕ) (done : List (List ℕ)) → IsUnbroken line → ((zs : List ℕ) → lines_of (whole ++ zs) ≡ done ++ lines_of zs)
    → (zs : List ℕ) → lines_of ((whole ++ (line ++ 10 ∷ [])) ++ zs) ≡ (done ++ line ∷ []) ++ lines_of zs
joins_more whole line done u j zs =
    ap lines_of (append_assoc whole (line ++ 10 ∷ []) zs ∙ ap (λ l. whole ++ l) (append_assoc line (10 ∷ []) zs))
    ∙ j (line ++ 10 ∷ zs) ∙ ap (λ ls. done ++ ls) (lines-ended line zs u) ∙ sym (append_assoc done (line ∷ []) (lines_of zs))

pub taken_more : (input whole rest line ys : List ℕ) (done : List (List ℕ)) → IsTaken input whole rest done → IsUnbroken line → IsFirstLine rest line ys
    → (more : List ℕ) × IsTaken input more ys (done ++ line ∷ [])
taken_more input whole rest line ys done t u (inl e) = go t.joins
  where
    nothing : {X : Type 0} (line ys : List ℕ) → [] ≡ line ++ 10 ∷ ys → X
    nothing [] ys e = absurd (cc)
    nothing (x ∷ xs) ys e = absurd (cc)

    go : (rest ≡ []) ⊎ ((zs : List ℕ) → lines_of (whole ++ zs) ≡ done ++ lines_of zs) → (more : List ℕ) × IsTaken input more ys (done ++ line ∷ [])
    go (inl z) = nothing line ys (sym z ∙ e)
    go (inr j) =
        let more = joins_more whole line done u j in (
          whole ++ (line ++ 10 ∷ []),
          record {
            bytes = t.bytes ∙ ap (λ l. whole ++ l) (e ∙ sym (append_assoc line (10 ∷ []) ys)) ∙ sym (append_assoc whole (line ++ 10 ∷ []) ys);
            lines = ap lines_of (sym (append-nil (whole ++ (line ++ 10 ∷ [])))) ∙ more [] ∙ append-nil (done ++ line ∷ []);
            joins = inr more;
          },
        )
taken_more input whole rest line ys done t u (inr h) = go t.joins
  where
    go : (rest ≡ []) ⊎ ((zs : List ℕ) → lines_of (whole ++ zs) ≡ done ++ lines_of zs) → (more : List ℕ) × IsTaken input more ys (done ++ line ∷ [])
    go (inl z) =
        let none : [] ≡ line = sym z ∙ h.0 in
        let size : 0 ≡ length line = ap (λ (l : List ℕ). length l) none in
        let some : 0 < length line = h.2 in absurd (omega (arith, size, some))
    go (inr j) = (
      whole ++ line,
      record {
        bytes = t.bytes ∙ ap (λ l. whole ++ l) h.0 ∙ sym (ap (λ l. (whole ++ line) ++ l) h.1 ∙ append-nil (whole ++ line));
        lines = j line ∙ ap (λ ls. done ++ ls) (lines-last line u h.2);
        joins = inl h.1;
      },
    )

pub next_line : (input line rest ys : List ℕ) (done : List (List ℕ)) → lines_of input ≡ done ++ lines_of rest → IsUnbroken line
    → IsFirstLine rest line ys → lines_of input ≡ done ++ line ∷ lines_of ys
next_line input line rest ys done e u f = e ∙ ap (λ l. done ++ l) (lines-first rest line ys u f)

-- so many lines were taken, and what is left has the others
pub record HasTaken (input left : List ℕ) (number : ℕ) : Type 0 where
  pub done : List (List ℕ)
  pub whole : List ℕ
  pub taken : IsTaken input whole left done
  pub lines : lines_of input ≡ done ++ lines_of left
  pub count : number ≡ length done

-- nothing has been read yet
unfoldable pub none_taken : (input left : List ℕ) → left ≡ input → HasTaken input left 0
none_taken input left e = record {
  done = [];
  whole = [];
  taken = record { bytes = sym e; lines = refl; joins = inr (λ zs. refl) };
  lines = ap lines_of (sym e);
  count = refl;
}

-- the next line
unfoldable pub line_taken : (input left line ys : List ℕ) (number : ℕ) → HasTaken input left number → IsUnbroken line → IsFirstLine left line ys
    → HasTaken input ys (number + 1)
line_taken input left line ys number h u f =
    let more = taken_more input h.whole left line ys h.done h.taken u f in
    record {
      done = h.done ++ line ∷ [];
      whole = more.0;
      taken = more.1;
      lines = next_line input line left ys h.done h.lines u f ∙ sym (append_assoc h.done (line ∷ []) (lines_of ys));
      count = let c = h.count in omega (arith, length-append h.done (line ∷ []));
    }

-- once nothing is left, all were
pub all_taken : (input left : List ℕ) (number : ℕ) (h : HasTaken input left number) → left ≡ [] → lines_of input ≡ h.done
all_taken input left number h e = h.lines ∙ ap (λ l. h.done ++ lines_of l) e ∙ append-nil h.done

-- what is held and what is unread is what is left
pub known_read : (input whole rest held : List ℕ) (done : List (List ℕ)) (left unread : List ℕ) → IsTaken input whole rest done
    → left ≡ rest → length held ≤ 65536 → left ≡ held ++ unread → (r : AreRead input unread done) × (r.held ≡ held)
known_read input whole rest held done left unread t e few l =
    let parts : rest ≡ held ++ unread = sym e ∙ l in (
      record {
        whole = whole;
        held = held;
        bytes = t.bytes ∙ ap (λ l. whole ++ l) parts ∙ sym (append_assoc whole held unread);
        lines = t.lines;
        few = few;
      },
      refl,
    )
