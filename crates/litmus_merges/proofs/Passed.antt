-- Steps that may change places make the same of each map, and a step that covers another leaves nothing of it
use Rattle.std.proofs.Common.{◌≡◌, ◌≢◌, ℕ, ◌≤◌, ◌<◌, ◌-◌, ◌==◌, ◌&&◌, ◌||◌, nat_le, nat_lt, not, Bool, true, false, cond, Option, Some, None, ◌⊎◌}
use Rattle.std.proofs.Common.{inl, inr, refl, sym, subst, ◌∙◌, ap, arith}
use Rattle.std.proofs.Math.Path.{fun_ext}
use Rattle.std.proofs.lemmas.Bool.Decides.{nat_tests}
use Rattle.vm_base.proofs.Functions.{eq_true, eq_false, put_other, put_same}
use Rattle.vm_base.specs.declared.info.Meta.{Meta}
use Rattle.vm_base.specs.declared.page.PageRange.{PageRange}
use Rattle.vm_base.specs.declared.rights.Prot.{Prot}
use Rattle.vm_base.specs.Apply.{is_uncopied, new_entry, with_byte, with_prot}
use Rattle.vm_base.specs.Functions.{has, put}
use Rattle.vm_base.specs.Info.{advance_back}
use Rattle.vm_base.specs.Plain.{Bytes, PageEntry, File, bytes_of}
use Rattle.slot_lock.specs.declared.plan.Change.{Change}
use Rattle.slot_lock.specs.declared.plan.Change.TheVariants.{Put, Clear, Protect}
use Rattle.slot_lock.specs.Plan.{range_of}
use Rattle.litmus_merges.specs.declared.change.MapChange.{MapChange}
use Rattle.litmus_merges.specs.declared.change.MapChange.TheVariants as StepOf
use Rattle.litmus_merges.specs.Passing.{Commute, Covers, are_apart, change_covers, change_passes, copy_passes, covers, file_covers, file_passes}
use Rattle.litmus_merges.specs.Passing.{is_inside, is_within, may_pass, own_covers, own_passes, protects_within, spares}
use Rattle.litmus_merges.specs.Steps.{entry_with, own_with}
use Rattle.litmus_merges.proofs.Acted.{acted, changed, commute_by, copy_of, covers_by, filed, with_bytes}

-- ---- tests

not_true : (b : Bool) → not b ≡ true → b ≡ false
not_true true e = absurd cc
not_true false e = refl

and_left : (a b : Bool) → (a && b) ≡ true → a ≡ true
and_left true b e = refl
and_left false b e = absurd cc

and_right : (a b : Bool) → (a && b) ≡ true → b ≡ true
and_right true b e = e
and_right false b e = absurd cc

-- both pages aren't the same page
not_both : (p page other : ℕ) → not (page == other) ≡ true → (p == page) ≡ true → (p == other) ≡ true → ⊥
not_both p page other ne a b = eq_false page other (not_true (page == other) ne) (sym (eq_true p page a) ∙ eq_true p other b)

apart_test : (r q : PageRange) (p : ℕ) → are_apart r q ≡ true → has r p ≡ true → has q p ≡ false
apart_test r q p a h = grind (arith, nat_tests)

inside_test : (q r : PageRange) (p : ℕ) → is_inside q r ≡ true → has r p ≡ false → has q p ≡ false
inside_test q r p a h = grind (arith, nat_tests)

-- two things that are done where tests hold
swap : {X : Type 0} (u v : Bool) (a b : X → X) (o : X) → (u ≡ true → v ≡ true → a (b o) ≡ b (a o))
    → cond u (a (cond v (b o) o)) (cond v (b o) o) ≡ cond v (b (cond u (a o) o)) (cond u (a o) o)
swap true true a b o h = h refl refl
swap true false a b o h = refl
swap false true a b o h = refl
swap false false a b o h = refl

-- the later one is done wherever the earlier one is
hide : {X : Type 0} (u v : Bool) (a b : X → X) (o : X) → (v ≡ true → u ≡ true) → a (b o) ≡ a o
    → cond u (a (cond v (b o) o)) (cond v (b o) o) ≡ cond u (a o) o
hide true true a b o h e = e
hide true false a b o h e = refl
hide false true a b o h e = let wrong : false ≡ true = h refl in absurd cc
hide false false a b o h e = refl

-- ---- bytes

puts_swap : {V : Type 0} (f : ℕ → V) (i j : ℕ) (v w : V) (n : ℕ) → i ≢ j → put (put f i v) j w n ≡ put (put f j w) i v n
puts_swap {V} f i j v w n ne = swap (n == j) (n == i) (λ (x : V). w) (λ (x : V). v) (f n) (λ a b. absurd (ne (sym (eq_true n i b) ∙ eq_true n j a)))

put_again : {V : Type 0} (f : ℕ → V) (i : ℕ) (v w : V) (n : ℕ) → put (put f i v) i w n ≡ put f i w n
put_again {V} f i v w n = go (n == i)
  where
    go : (b : Bool) → cond b w (cond b v (f n)) ≡ cond b w (f n)
    go true = refl
    go false = refl

owns_swap : (o : Option PageEntry) (i b j c : ℕ) → i ≢ j → entry_with (entry_with o i b) j c ≡ entry_with (entry_with o j c) i b
owns_swap None i b j c ne = refl
owns_swap (Some e) i b j c ne = ap (λ (w : Option Bytes). Some (record e { own = w })) (go e.own)
  where
    go : (w : Option Bytes) → own_with (own_with w i b) j c ≡ own_with (own_with w j c) i b
    go None = refl
    go (Some own) = ap Some (fun_ext (λ n. puts_swap own i j b c n ne))

own_again : (o : Option PageEntry) (i b c : ℕ) → entry_with (entry_with o i b) i c ≡ entry_with o i c
own_again None i b c = refl
own_again (Some e) i b c = ap (λ (w : Option Bytes). Some (record e { own = w })) (go e.own)
  where
    go : (w : Option Bytes) → own_with (own_with w i b) i c ≡ own_with w i c
    go None = refl
    go (Some own) = ap Some (fun_ext (λ n. put_again own i b c n))

-- the pages of a file with another byte
abbrev stored : (ℕ → Bytes) → ℕ → ℕ → ℕ → ℕ → Bytes
stored f k i b = put f k (put (f k) i b)

stored_apart : (f : ℕ → Bytes) (k i b l j c : ℕ) → k ≢ l → stored (stored f k i b) l j c ≡ stored (stored f l j c) k i b
stored_apart f k i b l j c ne = fun_ext (λ p.
    ap (λ (x : Bytes). put (stored f k i b) l (put x j c) p) (put_other f k (put (f k) i b) l (λ e. ne (sym e)))
    ∙ (puts_swap f k l (put (f k) i b) (put (f l) j c) p ne
    ∙ sym (ap (λ (x : Bytes). put (stored f l j c) k (put x i b) p) (put_other f l (put (f l) j c) k ne))))

stored_here : (f : ℕ → Bytes) (k i b j c p : ℕ) → stored (stored f k i b) k j c p ≡ put f k (put (put (f k) i b) j c) p
stored_here f k i b j c p = ap (λ (x : Bytes). put (stored f k i b) k (put x j c) p) (put_same f k (put (f k) i b))
    ∙ put_again f k (put (f k) i b) (put (put (f k) i b) j c) p

stored_beside : (f : ℕ → Bytes) (k i b j c : ℕ) → i ≢ j → stored (stored f k i b) k j c ≡ stored (stored f k j c) k i b
stored_beside f k i b j c ne = fun_ext (λ p.
    stored_here f k i b j c p ∙ (ap (λ (x : Bytes). put f k x p) (fun_ext (λ n. puts_swap (f k) i j b c n ne)) ∙ sym (stored_here f k j c i b p)))

stored_swap : (f : ℕ → Bytes) (k i b l j c : ℕ) → (k == l) ≡ false ⊎ ((k == l) ≡ true) × ((i == j) ≡ false) → stored (stored f k i b) l j c ≡ stored (stored f l j c) k i b
stored_swap f k i b l j c (inl e) = stored_apart f k i b l j c (eq_false k l e)
stored_swap f k i b l j c (inr e) = subst (λ (m : ℕ). stored (stored f k i b) m j c ≡ stored (stored f m j c) k i b) (eq_true k l e.0)
    (stored_beside f k i b j c (eq_false i j e.1))

bytes_swap : (x : Option File) (k i b l j c : ℕ) → (k == l) ≡ false ⊎ ((k == l) ≡ true) × ((i == j) ≡ false)
    → with_byte (with_byte x k i b) l j c ≡ with_byte (with_byte x l j c) k i b
bytes_swap None k i b l j c h = refl
bytes_swap (Some f) k i b l j c h = ap (λ (x : ℕ → Bytes). Some (record f { bytes = x })) (stored_swap f.bytes k i b l j c h)

byte_again : (x : Option File) (k i b c : ℕ) → with_byte (with_byte x k i b) k i c ≡ with_byte x k i c
byte_again None k i b c = refl
byte_again (Some f) k i b c = ap (λ (x : ℕ → Bytes). Some (record f { bytes = x })) (fun_ext (λ p.
    stored_here f.bytes k i b i c p ∙ ap (λ (x : Bytes). put f.bytes k x p) (fun_ext (λ n. put_again (f.bytes k) i b c n))))

-- ---- changes

-- a page that the change leaves
unchanged : (c : Change) (p : ℕ) (o : Option PageEntry) → has (range_of c) p ≡ false → changed c p o ≡ o
unchanged (Put r meta) p o e = ap (λ (b : Bool). cond b (Some (new_entry (advance_back meta.back (p - r.first)) meta.prot)) o) e
unchanged (Clear r) p o e = ap (λ (b : Bool). cond b None o) e
unchanged (Protect r prot) p o e = ap (λ (b : Bool). cond b (with_prot prot o) o) e

changes_swap : (c d : Change) → are_apart (range_of c) (range_of d) ≡ true → Commute (StepOf.Change c) (StepOf.Change d)
changes_swap c d a = commute_by (StepOf.Change c) (StepOf.Change d) (λ f p o. go p o (has (range_of c) p) refl) (λ f n. refl)
  where
    go : (p : ℕ) (o : Option PageEntry) (b : Bool) → has (range_of c) p ≡ b → changed d p (changed c p o) ≡ changed c p (changed d p o)
    go p o true e =
        let off = apart_test (range_of c) (range_of d) p a e in
        unchanged d p (changed c p o) off ∙ ap (changed c p) (sym (unchanged d p o off))
    go p o false e = ap (changed d p) (unchanged c p o e) ∙ sym (unchanged c p (changed d p o) e)

-- something that is done to one page alone, before a change or after it
spared : (c : Change) (page p : ℕ) (g : Option PageEntry → Option PageEntry) (o : Option PageEntry) → spares c page ≡ true
    → ((prot : Prot) (x : Option PageEntry) → g (with_prot prot x) ≡ with_prot prot (g x))
    → cond (p == page) (g (changed c p o)) (changed c p o) ≡ changed c p (cond (p == page) (g o) o)
spared (Put r meta) page p g o e h =
    swap (p == page) (has r p) g (λ x. Some (new_entry (advance_back meta.back (p - r.first)) meta.prot)) o
    (λ a b. let wrong : true ≡ false = sym b ∙ (ap (has r) (eq_true p page a) ∙ not_true (has r page) e) in absurd cc)
spared (Clear r) page p g o e h =
    swap (p == page) (has r p) g (λ x. None) o
    (λ a b. let wrong : true ≡ false = sym b ∙ (ap (has r) (eq_true p page a) ∙ not_true (has r page) e) in absurd cc)
spared (Protect r prot) page p g o e h = swap (p == page) (has r p) g (with_prot prot) o (λ a b. h prot o)

copy_prot : (f : ℕ → Option File) (prot : Prot) (x : Option PageEntry) → copy_of f (with_prot prot x) ≡ with_prot prot (copy_of f x)
copy_prot f prot None = refl
copy_prot f prot (Some e) = go (is_uncopied e.back e.own) (bytes_of f e.back e.own)
  where
    go : (u : Bool) (b : Option Bytes) → with_bytes (record e { prot = prot }) u b ≡ with_prot prot (with_bytes e u b)
    go true (Some b) = refl
    go true None = refl
    go false b = refl

own_prot : (i b : ℕ) (prot : Prot) (x : Option PageEntry) → entry_with (with_prot prot x) i b ≡ with_prot prot (entry_with x i b)
own_prot i b prot None = refl
own_prot i b prot (Some e) = refl

change_copy : (c : Change) (page : ℕ) → spares c page ≡ true → Commute (StepOf.Change c) (StepOf.Copy page)
change_copy c page e = commute_by (StepOf.Change c) (StepOf.Copy page) (λ f p o. spared c page p (copy_of f) o e (copy_prot f)) (λ f n. refl)

change_own : (c : Change) (page i b : ℕ) → spares c page ≡ true → Commute (StepOf.Change c) (StepOf.Own page i b)
change_own c page i b e = commute_by (StepOf.Change c) (StepOf.Own page i b)
    (λ f p o. spared c page p (λ x. entry_with x i b) o e (own_prot i b)) (λ f n. refl)

change_file : (c : Change) (m k i b : ℕ) → Commute (StepOf.Change c) (StepOf.File m k i b)
change_file c m k i b = commute_by (StepOf.Change c) (StepOf.File m k i b) (λ f p o. refl) (λ f n. refl)

-- ---- one page, and another

copies_swap : (page other : ℕ) → not (page == other) ≡ true → Commute (StepOf.Copy page) (StepOf.Copy other)
copies_swap page other e = commute_by (StepOf.Copy page) (StepOf.Copy other)
    (λ f p o. swap (p == other) (p == page) (copy_of f) (copy_of f) o (λ a b. refl)) (λ f n. refl)

copy_own : (page other i b : ℕ) → not (page == other) ≡ true → Commute (StepOf.Copy page) (StepOf.Own other i b)
copy_own page other i b e = commute_by (StepOf.Copy page) (StepOf.Own other i b)
    (λ f p o. swap (p == other) (p == page) (λ x. entry_with x i b) (copy_of f) o (λ a b. absurd (not_both p page other e b a))) (λ f n. refl)

own_own : (page i b other j c : ℕ) → (not (page == other) || not (i == j)) ≡ true → Commute (StepOf.Own page i b) (StepOf.Own other j c)
own_own page i b other j c e = commute_by (StepOf.Own page i b) (StepOf.Own other j c)
    (λ f p o. swap (p == other) (p == page) (λ x. entry_with x j c) (λ x. entry_with x i b) o (λ u v. go p o (page == other) refl e u v)) (λ f n. refl)
  where
    go : (p : ℕ) (o : Option PageEntry) (same : Bool) → (page == other) ≡ same → (not same || not (i == j)) ≡ true → (p == other) ≡ true → (p == page) ≡ true
        → entry_with (entry_with o i b) j c ≡ entry_with (entry_with o j c) i b
    go p o true s e u v = owns_swap o i b j c (eq_false i j (not_true (i == j) e))
    go p o false s e u v = absurd (eq_false page other s (sym (eq_true p page v) ∙ eq_true p other u))

own_file : (page i b m k j c : ℕ) → Commute (StepOf.Own page i b) (StepOf.File m k j c)
own_file page i b m k j c = commute_by (StepOf.Own page i b) (StepOf.File m k j c) (λ f p o. refl) (λ f n. refl)

file_file : (m k i b n l j c : ℕ) → (not (m == n) || (not (k == l) || not (i == j))) ≡ true → Commute (StepOf.File m k i b) (StepOf.File n l j c)
file_file m k i b n l j c e = commute_by (StepOf.File m k i b) (StepOf.File n l j c) (λ f p o. refl)
    (λ f x. swap (x == n) (x == m) (λ y. with_byte y l j c) (λ y. with_byte y k i b) (f x) (λ u v. go x (f x) (m == n) refl e u v))
  where
    places : (same at : Bool) → (k == l) ≡ same → (i == j) ≡ at → (not same || not at) ≡ true → (k == l) ≡ false ⊎ ((k == l) ≡ true) × ((i == j) ≡ false)
    places false at s a h = inl s
    places true false s a h = inr (s, a)
    places true true s a h = absurd cc

    go : (x : ℕ) (y : Option File) (same : Bool) → (m == n) ≡ same → (not same || (not (k == l) || not (i == j))) ≡ true → (x == n) ≡ true → (x == m) ≡ true
        → with_byte (with_byte y k i b) l j c ≡ with_byte (with_byte y l j c) k i b
    go x y true s h u v = bytes_swap y k i b l j c (places (k == l) (i == j) refl refl h)
    go x y false s h u v = absurd (eq_false m n s (sym (eq_true x m v) ∙ eq_true x n u))

-- ---- all of them

flip : (x s : MapChange) → Commute x s → Commute s x
flip x s h t = sym (h t)

by_change : (c : Change) (s : MapChange) → change_passes c s ≡ true → Commute (StepOf.Change c) s
by_change c (StepOf.Change d) e = changes_swap c d e
by_change c (StepOf.Copy page) e = change_copy c page e
by_change c (StepOf.Own page i b) e = change_own c page i b e
by_change c (StepOf.File m k i b) e = change_file c m k i b

by_copy : (page : ℕ) (s : MapChange) → copy_passes page s ≡ true → Commute (StepOf.Copy page) s
by_copy page (StepOf.Change c) e = flip (StepOf.Change c) (StepOf.Copy page) (change_copy c page e)
by_copy page (StepOf.Copy other) e = copies_swap page other e
by_copy page (StepOf.Own other i b) e = copy_own page other i b e
by_copy page (StepOf.File m k i b) e = absurd cc

same_test : (a b : ℕ) → not (a == b) ≡ true → not (b == a) ≡ true
same_test a b e = grind (arith, nat_tests)

by_own : (page i b : ℕ) (s : MapChange) → own_passes page i s ≡ true → Commute (StepOf.Own page i b) s
by_own page i b (StepOf.Change c) e = flip (StepOf.Change c) (StepOf.Own page i b) (change_own c page i b e)
by_own page i b (StepOf.Copy other) e = flip (StepOf.Copy other) (StepOf.Own page i b) (copy_own other page i b (same_test page other e))
by_own page i b (StepOf.Own other j c) e = own_own page i b other j c e
by_own page i b (StepOf.File m k j c) e = own_file page i b m k j c

by_file : (m k i b : ℕ) (s : MapChange) → file_passes m k i s ≡ true → Commute (StepOf.File m k i b) s
by_file m k i b (StepOf.Change c) e = flip (StepOf.Change c) (StepOf.File m k i b) (change_file c m k i b)
by_file m k i b (StepOf.Copy page) e = absurd cc
by_file m k i b (StepOf.Own page j c) e = flip (StepOf.Own page j c) (StepOf.File m k i b) (own_file page j c m k i b)
by_file m k i b (StepOf.File n l j c) e = file_file m k i b n l j c e

pub passes : (x s : MapChange) → may_pass x s ≡ true → Commute x s
passes (StepOf.Change c) s e = by_change c s e
passes (StepOf.Copy page) s e = by_copy page s e
passes (StepOf.Own page i b) s e = by_own page i b s e
passes (StepOf.File m k i b) s e = by_file m k i b s e

-- ---- covering

-- a page outside of the range
outside : (x : MapChange) (r : PageRange) (f : ℕ → Option File) (p : ℕ) (o : Option PageEntry) → is_within x r ≡ true → has r p ≡ false → acted x f p o ≡ o
outside (StepOf.Change c) r f p o w e = unchanged c p o (inside_test (range_of c) r p w e)
outside (StepOf.Copy page) r f p o w e = go (p == page) refl
  where
    go : (b : Bool) → (p == page) ≡ b → cond b (copy_of f o) o ≡ o
    go true h = let wrong : false ≡ true = sym e ∙ (ap (has r) (eq_true p page h) ∙ w) in absurd cc
    go false h = refl
outside (StepOf.Own page i c) r f p o w e = go (p == page) refl
  where
    go : (b : Bool) → (p == page) ≡ b → cond b (entry_with o i c) o ≡ o
    go true h = let wrong : false ≡ true = sym e ∙ (ap (has r) (eq_true p page h) ∙ w) in absurd cc
    go false h = refl
outside (StepOf.File m k i c) r f p o w e = absurd cc

unfiled : (x : MapChange) (r : PageRange) → is_within x r ≡ true → (f : ℕ → Option File) (n : ℕ) → filed x f n ≡ f n
unfiled (StepOf.Change c) r w f n = refl
unfiled (StepOf.Copy page) r w f n = refl
unfiled (StepOf.Own page i c) r w f n = refl
unfiled (StepOf.File m k i c) r w f n = absurd cc

over_range : (x : MapChange) (r : PageRange) (v : Option PageEntry) → is_within x r ≡ true → (f : ℕ → Option File) (p : ℕ) (o : Option PageEntry)
    → cond (has r p) v (acted x f p o) ≡ cond (has r p) v o
over_range x r v w f p o = go (has r p) refl
  where
    go : (b : Bool) → has r p ≡ b → cond b v (acted x f p o) ≡ cond b v o
    go true e = refl
    go false e = outside x r f p o w e

put_covers : (r : PageRange) (meta : Meta) (x : MapChange) → is_within x r ≡ true → Covers (StepOf.Change (Put r meta)) x
put_covers r meta x w = covers_by (StepOf.Change (Put r meta)) x
    (λ f p o. over_range x r (Some (new_entry (advance_back meta.back (p - r.first)) meta.prot)) w f p o) (unfiled x r w)

clear_covers : (r : PageRange) (x : MapChange) → is_within x r ≡ true → Covers (StepOf.Change (Clear r)) x
clear_covers r x w = covers_by (StepOf.Change (Clear r)) x (λ f p o. over_range x r None w f p o) (unfiled x r w)

prot_again : (prot old : Prot) (o : Option PageEntry) → with_prot prot (with_prot old o) ≡ with_prot prot o
prot_again prot old None = refl
prot_again prot old (Some e) = refl

protect_covers : (r : PageRange) (prot : Prot) (x : MapChange) → protects_within x r ≡ true → Covers (StepOf.Change (Protect r prot)) x
protect_covers r prot (StepOf.Change (Protect q old)) w = covers_by (StepOf.Change (Protect r prot)) (StepOf.Change (Protect q old))
    (λ f p o. hide (has r p) (has q p) (with_prot prot) (with_prot old) o (within p (has r p) refl) (prot_again prot old o)) (λ f n. refl)
  where
    within : (p : ℕ) (b : Bool) → has r p ≡ b → has q p ≡ true → has r p ≡ true
    within p true e h = e
    within p false e h = let wrong : false ≡ true = sym (inside_test q r p w e) ∙ h in absurd cc
protect_covers r prot (StepOf.Change (Put q meta)) w = absurd cc
protect_covers r prot (StepOf.Change (Clear q)) w = absurd cc
protect_covers r prot (StepOf.Copy page) w = absurd cc
protect_covers r prot (StepOf.Own page i b) w = absurd cc
protect_covers r prot (StepOf.File m k i b) w = absurd cc

change_over : (c : Change) (x : MapChange) → change_covers c x ≡ true → Covers (StepOf.Change c) x
change_over (Put r meta) x e = put_covers r meta x e
change_over (Clear r) x e = clear_covers r x e
change_over (Protect r prot) x e = protect_covers r prot x e

own_same : (page i b c : ℕ) → Covers (StepOf.Own page i c) (StepOf.Own page i b)
own_same page i b c = covers_by (StepOf.Own page i c) (StepOf.Own page i b)
    (λ f p o. hide (p == page) (p == page) (λ x. entry_with x i c) (λ x. entry_with x i b) o (λ h. h) (own_again o i b c)) (λ f n. refl)

own_over : (page i c : ℕ) (x : MapChange) → own_covers page i x ≡ true → Covers (StepOf.Own page i c) x
own_over page i c (StepOf.Own other j b) e =
    subst (λ (q : ℕ). Covers (StepOf.Own page i c) (StepOf.Own q j b)) (eq_true page other (and_left (page == other) (i == j) e))
    (subst (λ (m : ℕ). Covers (StepOf.Own page i c) (StepOf.Own page m b)) (eq_true i j (and_right (page == other) (i == j) e)) (own_same page i b c))
own_over page i c (StepOf.Change d) e = absurd cc
own_over page i c (StepOf.Copy other) e = absurd cc
own_over page i c (StepOf.File m k j b) e = absurd cc

file_same : (m k i b c : ℕ) → Covers (StepOf.File m k i c) (StepOf.File m k i b)
file_same m k i b c = covers_by (StepOf.File m k i c) (StepOf.File m k i b) (λ f p o. refl)
    (λ f n. hide (n == m) (n == m) (λ x. with_byte x k i c) (λ x. with_byte x k i b) (f n) (λ h. h) (byte_again (f n) k i b c))

file_over : (m k i c : ℕ) (x : MapChange) → file_covers m k i x ≡ true → Covers (StepOf.File m k i c) x
file_over m k i c (StepOf.File n l j b) e =
    let rest = and_right (m == n) (k == l && i == j) e in
    subst (λ (y : ℕ). Covers (StepOf.File m k i c) (StepOf.File y l j b)) (eq_true m n (and_left (m == n) (k == l && i == j) e))
    (subst (λ (y : ℕ). Covers (StepOf.File m k i c) (StepOf.File m y j b)) (eq_true k l (and_left (k == l) (i == j) rest))
    (subst (λ (y : ℕ). Covers (StepOf.File m k i c) (StepOf.File m k y b)) (eq_true i j (and_right (k == l) (i == j) rest)) (file_same m k i b c)))
file_over m k i c (StepOf.Change d) e = absurd cc
file_over m k i c (StepOf.Copy page) e = absurd cc
file_over m k i c (StepOf.Own page j b) e = absurd cc

pub covering : (s x : MapChange) → covers s x ≡ true → Covers s x
covering (StepOf.Change c) x e = change_over c x e
covering (StepOf.Copy page) x e = absurd cc
covering (StepOf.Own page i c) x e = own_over page i c x e
covering (StepOf.File m k i c) x e = file_over m k i c x e
