-- The first line that isn't read.
use Rattle.std.proofs.Common.{◌≡◌, ℕ, Bool, true, false, List, [], ◌∷◌, ◌++◌, length, take, arith, refl, sym, ap, ◌∙◌, append-nil, append_assoc, eqb}
use Rattle.std.proofs.lemmas.Bool.Decides.{nat_tests}
use Rattle.std.specs.Prelude.{if◌then◌else◌}
use Rattle.import_forms.specs.Said.{said_of}
use Rattle.import_forms.specs.Speech.{Spoken}
use Rattle.import_lines.specs.LogLines.{IsReadBy, first_unread, front_after, front_left, is_unread, spoken_from, spoken_whole, unread_from}

spoken_last : (front : List ℕ) (all : List (List ℕ)) (line : List ℕ)
    → spoken_from front (all ++ line ∷ []) ≡ spoken_from front all ++ spoken_whole (front_after front all ++ line) ∷ []
spoken_last front [] line = refl
spoken_last front (l ∷ all) line = ap (λ ss. spoken_whole (front ++ l) ∷ ss) (spoken_last (front_left (front ++ l)) all line)

front_last : (front : List ℕ) (all : List (List ℕ)) (line : List ℕ) → front_after front (all ++ line ∷ []) ≡ front_left (front_after front all ++ line)
front_last front [] line = refl
front_last front (l ∷ all) line = front_last (front_left (front ++ l)) all line

-- each line says something, if only nothing
spoken_size : (front : List ℕ) (all : List (List ℕ)) → length (spoken_from front all) ≡ length all
spoken_size front [] = refl
spoken_size front (l ∷ all) = let h = spoken_size (front_left (front ++ l)) all in omega (arith, h)

pub spoken_long : (all : List (List ℕ)) → length (spoken_from [] all) ≡ length all
spoken_long all = spoken_size [] all

said_more : (all : List (List ℕ)) (line text front : List ℕ) (said new : List Spoken) → said ≡ spoken_from [] all → front ≡ front_after [] all
    → text ≡ front ++ line → new ≡ said ++ spoken_whole text ∷ [] → new ≡ spoken_from [] (all ++ line ∷ [])
said_more all line text front said new h f t e =
    e ∙ ap (λ l. l ++ spoken_whole text ∷ []) h ∙ ap (λ x. spoken_from [] all ++ spoken_whole x ∷ []) (t ∙ ap (λ l. l ++ line) f)
    ∙ sym (spoken_last [] all line)

front_more : (all : List (List ℕ)) (line text front here : List ℕ) → front ≡ front_after [] all → text ≡ front ++ line → here ≡ front_left text
    → here ≡ front_after [] (all ++ line ∷ [])
front_more all line text front here f t e = e ∙ ap front_left (t ∙ ap (λ l. l ++ line) f) ∙ sym (front_last [] all line)

unread_by : (line text front : List ℕ) (more : List (List ℕ)) (b : Bool) → text ≡ front ++ line → is_unread (said_of (spoken_whole text).1) ≡ b
    → unread_from front (line ∷ more) ≡ (if b then line else unread_from (front_left text) more)
unread_by line text front more b t e =
    ap (λ w. if is_unread (said_of (spoken_whole w).1) then line else unread_from (front_left w) more) (sym t)
    ∙ ap (λ u. if u then line else unread_from (front_left text) more) e

-- one was found before
pub read_known : (all : List (List ℕ)) (line text front here : List ℕ) (said new : List Spoken) (unread : List ℕ) (found : Bool) → found ≡ true
    → IsReadBy all said found unread front → text ≡ front ++ line → new ≡ said ++ spoken_whole text ∷ [] → here ≡ front_left text → IsReadBy (all ++ line ∷ []) new found unread here
read_known all line text front here said new unread false is h t e f = absurd cc
read_known all line text front here said new unread true is h t e f = record {
  said = said_more all line text front said new h.said h.front_is t e;
  front_is = front_more all line text front here h.front_is t f;
  none = λ n. absurd cc;
  later = λ n. absurd cc;
  found = λ y more. h.found refl (line ∷ more) ∙ ap (λ l. take 80 (first_unread l)) (sym (append_assoc all (line ∷ []) more));
}

-- this line is read, as those before
pub read_other : (all : List (List ℕ)) (line text front here : List ℕ) (said new : List Spoken) (unread : List ℕ) (found : Bool) → found ≡ false
    → IsReadBy all said found unread front → text ≡ front ++ line → is_unread (said_of (spoken_whole text).1) ≡ false → new ≡ said ++ spoken_whole text ∷ [] → here ≡ front_left text
    → IsReadBy (all ++ line ∷ []) new found unread here
read_other all line text front here said new unread true is h t u e f = absurd cc
read_other all line text front here said new unread false is h t u e f = record {
  said = said_more all line text front said new h.said h.front_is t e;
  front_is = front_more all line text front here h.front_is t f;
  none = λ n. h.none refl;
  later = λ n more. ap first_unread (append_assoc all (line ∷ []) more) ∙ h.later refl (line ∷ more) ∙ unread_by line text front more false t u
      ∙ ap (λ l. unread_from l more) (sym f);
  found = λ y. absurd cc;
}

-- this line is the first that isn't
pub read_first : (all : List (List ℕ)) (line text front here : List ℕ) (said new : List Spoken) (unread shown : List ℕ) (found : Bool) → found ≡ false
    → IsReadBy all said found unread front → text ≡ front ++ line → is_unread (said_of (spoken_whole text).1) ≡ true → shown ≡ unread ++ take 80 line
    → new ≡ said ++ spoken_whole text ∷ [] → here ≡ front_left text → IsReadBy (all ++ line ∷ []) new true shown here
read_first all line text front here said new unread shown true is h t u w e f = absurd cc
read_first all line text front here said new unread shown false is h t u w e f = record {
  said = said_more all line text front said new h.said h.front_is t e;
  front_is = front_more all line text front here h.front_is t f;
  none = λ n. absurd cc;
  later = λ n. absurd cc;
  found = λ y more.
      w ∙ ap (λ l. l ++ take 80 line) (h.none refl)
      ∙ ap (take 80) (sym (ap first_unread (append_assoc all (line ∷ []) more) ∙ h.later refl (line ∷ more) ∙ unread_by line text front more true t u));
}

shown_by : (all : List (List ℕ)) (said : List Spoken) (found : Bool) (unread front : List ℕ) → IsReadBy all said found unread front
    → unread ≡ take 80 (first_unread all)
shown_by all said true unread front h = h.found refl [] ∙ ap (λ l. take 80 (first_unread l)) (append-nil all)
shown_by all said false unread front h = h.none refl ∙ ap (take 80) (sym (ap first_unread (sym (append-nil all)) ∙ h.later refl []))

-- what is kept of it
pub unread_kept : (all : List (List ℕ)) (said : List Spoken) (found : Bool) (unread front : List ℕ) → IsReadBy all said found unread front
    → unread ≡ take 80 (first_unread all)
unread_kept all said found unread front h = shown_by all said found unread front h

-- where there are no bytes
pub none_left : (xs : List ℕ) (b : Bool) → b ≡ eqb (length xs) 0 → b ≡ true → xs ≡ []
none_left [] b h t = refl
none_left (x ∷ xs) b h t = let none : length (x ∷ xs) ≡ 0 = grind (arith, nat_tests, h, t) in absurd (omega (arith, none))
