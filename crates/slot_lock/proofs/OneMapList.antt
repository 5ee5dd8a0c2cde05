-- There is one list of the mappings of pages.
use Rattle.slot_lock.proofs.Words.{◌≡◌, ℕ, ◌+◌, ◌-◌, ◌<◌, ◌≤◌, ⊎_elim, List, [], ◌∷◌, Option, Some, refl, sym, ap, ◌∙◌, subst, arith, cases_lt, Back, Anon}
use Rattle.slot_lock.proofs.Words.{Shared, Private, Meta, advance, advance_back, NoneIn}
use Rattle.slot_lock.specs.declared.map_list.MapLine.{MapLine}
use Rattle.slot_lock.specs.MapList.{GoesOn, IsLine, IsNextLine, ListsLines, line_meta}
use Rattle.slot_lock.proofs.MapWalks.{twice}

back_zero : (b : Back) → advance_back b 0 ≡ b
back_zero Anon = refl
back_zero (Shared f k) = ap (Shared f) (omega arith)
back_zero (Private f k) = ap (Private f) (omega arith)

-- a line's first page is mapped
first_mapped : (meta : ℕ → Option Meta) (x : MapLine) → IsLine meta x → meta x.range.first ≡ Some (line_meta x)
first_mapped meta x is =
    let some = is.pages.some in
    let none : x.range.first - x.range.first ≡ 0 = omega arith in
    is.mapped x.range.first (omega arith) some
    ∙ (ap (λ (n : ℕ). Some (advance (line_meta x) n)) none ∙ ap (λ (b : Back). Some (record { back = b; prot = x.prot })) (back_zero x.back))

-- so no line begins among unmapped pages
never : (meta : ℕ → Option Meta) (first end : ℕ) (x : MapLine) → NoneIn meta first end → IsLine meta x → first ≤ x.range.first → x.range.first < end
    → ⊥
never meta first end x none is low high =
    let unmapped = none x.range.first low high in
    let mapped = first_mapped meta x is in
    cc

-- two lines from a page on begin at the same page
same_first : (meta : ℕ → Option Meta) (from : ℕ) (x y : MapLine) → IsNextLine meta from x → IsNextLine meta from y → x.range.first ≡ y.range.first
same_first meta from x y a b = ⊎_elim
    (λ (l : x.range.first < y.range.first). absurd (never meta from y.range.first x b.before a.is a.low l))
    (λ (l : y.range.first ≤ x.range.first). ⊎_elim
    (λ (m : y.range.first < x.range.first). absurd (never meta from x.range.first y a.before b.is b.low m))
    (λ (m : x.range.first ≤ y.range.first). omega arith)
    (cases_lt y.range.first x.range.first))
    (cases_lt x.range.first y.range.first)

-- a page inside a line goes on from the one before it
inside : (meta : ℕ → Option Meta) (y : MapLine) (p : ℕ) → IsLine meta y → y.range.first < p → p < y.range.end → GoesOn (meta (p - 1)) (meta p)
inside meta y p is low high =
    let before : meta (p - 1) ≡ Some (advance (line_meta y) (p - 1 - y.range.first)) = is.mapped (p - 1) (omega arith) (omega arith) in
    let sum : p - 1 - y.range.first + 1 ≡ p - y.range.first = omega arith in
    subst (λ o. GoesOn o (meta p)) (sym before)
    (is.mapped p (omega arith) high ∙ ap Some (sym (twice (line_meta y) (p - 1 - y.range.first) 1 ∙ ap (advance (line_meta y)) sum)))

-- so two lines with the same first page have the same last one
not_before : (meta : ℕ → Option Meta) (x y : MapLine) → IsLine meta x → IsLine meta y → x.range.first ≡ y.range.first → y.range.end ≤ x.range.end
not_before meta x y a b same = ⊎_elim
    (λ (l : x.range.end < y.range.end).
    let some = a.pages.some in
    absurd (a.ends (inside meta y x.range.end b (omega arith) l)))
    (λ (l : y.range.end ≤ x.range.end). l)
    (cases_lt x.range.end y.range.end)

same_line : (meta : ℕ → Option Meta) (from : ℕ) (x y : MapLine) → IsNextLine meta from x → IsNextLine meta from y → x ≡ y
same_line meta from x y a b =
    let first = same_first meta from x y a b in
    let low = not_before meta x y a.is b.is first in
    let high = not_before meta y x b.is a.is (sym first) in
    let end : x.range.end ≡ y.range.end = omega arith in
    let its : line_meta x ≡ line_meta y = some_same (sym (first_mapped meta x a.is) ∙ (ap meta first ∙ first_mapped meta y b.is)) in
    ap (λ (n : ℕ). record { range = record { first = n; end = x.range.end }; prot = x.prot; back = x.back }) first
    ∙ (ap (λ (n : ℕ). record { range = record { first = y.range.first; end = n }; prot = x.prot; back = x.back }) end
    ∙ ap (λ (m : Meta). record { range = y.range; prot = m.prot; back = m.back }) its)
  where
    some_same : {m n : Meta} → Some m ≡ Some n → m ≡ n
    some_same e = cc

pub one_list : (meta : ℕ → Option Meta) (first end : ℕ) (xs ys : List MapLine) → ListsLines meta first end xs → ListsLines meta first end ys → xs ≡ ys
one_list meta first end [] [] h k = refl
one_list meta first end [] (y ∷ ys) h k =
    absurd (let some = k.0.is.pages.some in let by = k.1 in never meta first end y h k.0.is k.0.low (omega arith))
one_list meta first end (x ∷ xs) [] h k =
    absurd (let some = h.0.is.pages.some in let by = h.1 in never meta first end x k h.0.is h.0.low (omega arith))
one_list meta first end (x ∷ xs) (y ∷ ys) h k =
    let same = same_line meta first x y h.0 k.0 in
    let rest = one_list meta x.range.end end xs ys h.2 (subst (λ (l : MapLine). ListsLines meta l.range.end end ys) (sym same) k.2) in
    ap (λ l. l ∷ xs) same ∙ ap (λ l. y ∷ l) rest
