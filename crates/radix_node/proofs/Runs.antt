-- Lists of runs: the slot of a page, and a change of it
use Rattle.slot_lock.proofs.Words.{nat_lt, ◌≡◌, ⊎_elim, ℕ, ◌+◌, ◌-◌, ◌<◌, ◌≤◌, List, [], ◌∷◌, ◌++◌, refl, sym, ap, ◌∙◌, subst, arith, cases_lt}
use Rattle.std.proofs.Common.{if◌then◌else◌, append_assoc}
use Rattle.std.proofs.lemmas.Bool.{lt-ltb, le-ltb}
use Rattle.std.proofs.lemmas.List.{append-nil}
use Rattle.radix_node.specs.State.{no_state}
use Rattle.radix_node.specs.Run.{Run, Cell, total, cell_at, with_run, in_state}

pub if_below : {X : Type 0} (a b : ℕ) (x y : X) → a < b → (if nat_lt a b then x else y) ≡ x
if_below a b x y h = rw (lt-ltb a b h)

pub if_from : {X : Type 0} (a b : ℕ) (x y : X) → b ≤ a → (if nat_lt a b then x else y) ≡ y
if_from a b x y h = rw (le-ltb a b h)

pub total-append : (xs ys : List Run) → total (xs ++ ys) ≡ total xs + total ys
total-append [] ys = omega arith
total-append (x ∷ xs) ys = omega (arith, total-append xs ys)

-- ---- the slot of a page

pub cell_at-here : (r : Run) (rs : List Run) (page : ℕ) → page < r.width → cell_at (r ∷ rs) page ≡ record { state = r.state; offset = page; width = r.width }
cell_at-here r rs page h = if_below page r.width _ _ h

pub cell_at-there : (r : Run) (rs : List Run) (page : ℕ) → r.width ≤ page → cell_at (r ∷ rs) page ≡ cell_at rs (page - r.width)
cell_at-there r rs page h = if_from page r.width _ _ h

pub cell_at-past : (rs : List Run) (page : ℕ) → total rs ≤ page → cell_at rs page ≡ record { state = no_state; offset = 0; width = 1 }
cell_at-past [] page h = refl
cell_at-past (r ∷ rs) page h = cell_at-there r rs page (omega arith) ∙ cell_at-past rs (page - r.width) (omega arith)

pub cell_at-left : (xs ys : List Run) (page : ℕ) → page < total xs → cell_at (xs ++ ys) page ≡ cell_at xs page
cell_at-left [] ys page h = absurd (omega arith)
cell_at-left (x ∷ xs) ys page h = ⊎_elim
    (λ (l : page < x.width). cell_at-here x (xs ++ ys) page l ∙ sym (cell_at-here x xs page l))
    (λ (l : x.width ≤ page). cell_at-there x (xs ++ ys) page l ∙ cell_at-left xs ys (page - x.width) (omega arith) ∙ sym (cell_at-there x xs page l))
    (cases_lt page x.width)

pub cell_at-right : (xs ys : List Run) (page : ℕ) → total xs ≤ page → cell_at (xs ++ ys) page ≡ cell_at ys (page - total xs)
cell_at-right [] ys page h = let e : page ≡ page - 0 = omega arith in ap (cell_at ys) e
cell_at-right (x ∷ xs) ys page h =
    let e : page - x.width - total xs ≡ page - (x.width + total xs) = omega arith in
    cell_at-there x (xs ++ ys) page (omega arith) ∙ cell_at-right xs ys (page - x.width) (omega arith) ∙ ap (cell_at ys) e

abbrev pub moved : Cell → ℕ → Cell
moved c n = record { state = c.state; offset = n; width = c.width }

-- ---- the run of a page

-- the run that has the page, between those before it and those behind it
pub record Around (rs : List Run) (page : ℕ) : Type 0 where
  pub front : List Run
  pub run : Run
  pub back : List Run
  pub is : rs ≡ front ++ run ∷ back
  pub low : total front ≤ page
  pub high : page < total front + run.width

pub around : (rs : List Run) (page : ℕ) → page < total rs → Around rs page
around [] page h = absurd (omega arith)
around (r ∷ rs) page h = ⊎_elim
    (λ (l : page < r.width). record { front = []; run = r; back = rs; is = refl; low = omega arith; high = omega arith })
    (λ (l : r.width ≤ page).
    let a = around rs (page - r.width) (omega arith) in
    record {
      front = r ∷ a.front;
      run = a.run;
      back = a.back;
      is = ap (λ (xs : List Run). r ∷ xs) a.is;
      low = omega (arith, a.low);
      high = omega (arith, a.high);
    })
    (cases_lt page r.width)

-- the slot of each page of that run
pub around_cell : (rs : List Run) (page p : ℕ) (a : Around rs page) → total a.front ≤ p → p < total a.front + a.run.width
    → cell_at rs p ≡ record { state = a.run.state; offset = p - total a.front; width = a.run.width }
around_cell rs page p a low high = ap (λ qs. cell_at qs p) a.is ∙ cell_at-right a.front (a.run ∷ a.back) p low
    ∙ cell_at-here a.run a.back (p - total a.front) (omega arith)

-- a list begins with a slot's first page
first_begins : (rs : List Run) → (cell_at rs 0).offset ≡ 0
first_begins [] = refl
first_begins (r ∷ rs) = ⊎_elim
    (λ (l : 0 < r.width). ap (λ (c : Cell). c.offset) (cell_at-here r rs 0 l))
    (λ (l : r.width ≤ 0).
    let none : 0 - r.width ≡ 0 = omega arith in
    ap (λ (c : Cell). c.offset) (cell_at-there r rs 0 l) ∙ ap (λ n. (cell_at rs n).offset) none ∙ first_begins rs)
    (cases_lt 0 r.width)

-- the pages of a page's slot, behind which another slot begins
pub record Block (rs : List Run) (page : ℕ) : Type 0 where
  pub start : ℕ
  pub run : Run
  pub low : start ≤ page
  pub high : page < start + run.width
  pub cells : (p : ℕ) → start ≤ p → p < start + run.width → cell_at rs p ≡ record { state = run.state; offset = p - start; width = run.width }
  pub next : (cell_at rs (start + run.width)).offset ≡ 0

pub block : (rs : List Run) (page : ℕ) → Block rs page
block rs page = ⊎_elim (λ (l : page < total rs). within (around rs page l)) (λ (l : total rs ≤ page). past l) (cases_lt page (total rs))
  where
    within : Around rs page → Block rs page
    within a = record {
      start = total a.front;
      run = a.run;
      low = a.low;
      high = a.high;
      cells = λ p low high. around_cell rs page p a low high;
      next =
          let end : ℕ = total a.front + a.run.width in
          let rest : end - total a.front - a.run.width ≡ 0 = omega arith in
          ap (λ qs. (cell_at qs end).offset) a.is
          ∙ ap (λ (c : Cell). c.offset) (cell_at-right a.front (a.run ∷ a.back) end (omega arith)
          ∙ cell_at-there a.run a.back (end - total a.front) (omega arith))
          ∙ ap (λ n. (cell_at a.back n).offset) rest ∙ first_begins a.back;
    }

    past : total rs ≤ page → Block rs page
    past l = record {
      start = page;
      run = record { width = 1; state = no_state };
      low = omega arith;
      high = omega arith;
      cells = λ p low high.
          let none : 0 ≡ p - page = omega arith in
          cell_at-past rs p (omega arith) ∙ ap (λ n. record { state = no_state; offset = n; width = 1 }) none;
      next = ap (λ (c : Cell). c.offset) (cell_at-past rs (page + 1) (omega arith));
    }

-- a later page of the same slot
pub cell_later : (rs : List Run) (page n : ℕ) → (cell_at rs page).offset + n < (cell_at rs page).width
    → cell_at rs (page + n) ≡ moved (cell_at rs page) ((cell_at rs page).offset + n)
cell_later rs page n h =
    let b = block rs page in
    let e = b.cells page b.low b.high in
    let m : page - b.start + n < b.run.width = subst (λ (c : Cell). c.offset + n < c.width) e h in
    let k : page + n - b.start ≡ page - b.start + n = omega (arith, b.low) in
    b.cells (page + n) (omega (arith, b.low)) (omega (arith, b.low))
    ∙ ap (λ o. record { state = b.run.state; offset = o; width = b.run.width }) k ∙ ap (λ (c : Cell). moved c (c.offset + n)) (sym e)

-- ---- a change of one slot

pub with_run-here : (f : Run → List Run) (r : Run) (rs : List Run) (page : ℕ) → page < r.width → with_run f (r ∷ rs) page ≡ f r ++ rs
with_run-here f r rs page h = if_below page r.width _ _ h

pub with_run-there : (f : Run → List Run) (r : Run) (rs : List Run) (page : ℕ) → r.width ≤ page → with_run f (r ∷ rs) page ≡ r ∷ with_run f rs (page - r.width)
with_run-there f r rs page h = if_from page r.width _ _ h

pub with_run-left : (f : Run → List Run) (xs ys : List Run) (page : ℕ) → page < total xs → with_run f (xs ++ ys) page ≡ with_run f xs page ++ ys
with_run-left f [] ys page h = absurd (omega arith)
with_run-left f (x ∷ xs) ys page h = ⊎_elim
    (λ (l : page < x.width). with_run-here f x (xs ++ ys) page l ∙ sym (append_assoc (f x) xs ys)
    ∙ ap (λ (l : List Run). l ++ ys) (sym (with_run-here f x xs page l)))
    (λ (l : x.width ≤ page). with_run-there f x (xs ++ ys) page l
    ∙ ap (λ (l : List Run). x ∷ l) (with_run-left f xs ys (page - x.width) (omega arith))
    ∙ ap (λ (l : List Run). l ++ ys) (sym (with_run-there f x xs page l)))
    (cases_lt page x.width)

pub with_run-right : (f : Run → List Run) (xs ys : List Run) (page : ℕ) → total xs ≤ page → with_run f (xs ++ ys) page ≡ xs ++ with_run f ys (page - total xs)
with_run-right f [] ys page h = let e : page ≡ page - 0 = omega arith in ap (with_run f ys) e
with_run-right f (x ∷ xs) ys page h =
    let e : page - x.width - total xs ≡ page - (x.width + total xs) = omega arith in
    with_run-there f x (xs ++ ys) page (omega arith) ∙ ap (λ (l : List Run). x ∷ l) (with_run-right f xs ys (page - x.width) (omega arith)
    ∙ ap (λ n. xs ++ with_run f ys n) e)

pub with_run-one : (f : Run → List Run) (r : Run) (page : ℕ) → page < r.width → with_run f (r ∷ []) page ≡ f r
with_run-one f r page h = with_run-here f r [] page h ∙ append-nil (f r)

-- a slot that is written as it is
pub with_run-same : (rs : List Run) (page : ℕ) → with_run (in_state (cell_at rs page).state) rs page ≡ rs
with_run-same [] page = refl
with_run-same (r ∷ rs) page = ⊎_elim
    (λ (l : page < r.width).
    ap (λ (c : Cell). with_run (in_state c.state) (r ∷ rs) page) (cell_at-here r rs page l)
    ∙ with_run-here (in_state r.state) r rs page l)
    (λ (l : r.width ≤ page).
    ap (λ (c : Cell). with_run (in_state c.state) (r ∷ rs) page) (cell_at-there r rs page l)
    ∙ with_run-there (in_state (cell_at rs (page - r.width)).state) r rs page l
    ∙ ap (λ (l : List Run). r ∷ l) (with_run-same rs (page - r.width)))
    (cases_lt page r.width)
