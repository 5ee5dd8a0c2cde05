-- The slots of a list of slots, and of one whose run was changed
use Rattle.std.proofs.Common.{◌≡◌, ◌⊎◌, ⊎_elim, ℕ, ◌+◌, ◌-◌, ◌<◌, ◌≤◌, List, ◌∷◌, ◌++◌, sym, ap, ◌∙◌, subst, arith}
use Rattle.radix_node.specs.Run.{Run, Cell, total, cell_at, with_run}
use Rattle.radix_node.proofs.Runs.{moved, Around, around, around_cell, block, cell_at-there, cell_at-left, cell_at-right, with_run-here, with_run-right}

-- a page lies in its slot
pub record IsIn (page : ℕ) (c : Cell) : Type 0 where
  pub low : c.offset ≤ page
  pub high : c.offset < c.width

pub cell_in : (rs : List Run) (page : ℕ) → IsIn page (cell_at rs page)
cell_in rs page =
    let b = block rs page in
    subst (IsIn page) (sym (b.cells page b.low b.high)) (record { low = omega arith; high = omega (arith, b.low, b.high) })

-- an earlier page of the same slot
pub cell_earlier : (rs : List Run) (page n : ℕ) → n ≤ (cell_at rs page).offset
    → cell_at rs (page - n) ≡ moved (cell_at rs page) ((cell_at rs page).offset - n)
cell_earlier rs page n h =
    let b = block rs page in
    let e = b.cells page b.low b.high in
    let m : n ≤ page - b.start = subst (λ (c : Cell). n ≤ c.offset) e h in
    let k : page - n - b.start ≡ page - b.start - n = omega arith in
    b.cells (page - n) (omega (arith, b.low)) (omega (arith, b.high))
    ∙ ap (λ o. record { state = b.run.state; offset = o; width = b.run.width }) k ∙ ap (λ (c : Cell). moved c (c.offset - n)) (sym e)

-- the page after a slot begins one
pub cell_after : (rs : List Run) (page : ℕ) → (cell_at rs (page - (cell_at rs page).offset + (cell_at rs page).width)).offset ≡ 0
cell_after rs page =
    let b = block rs page in
    let k : page - (page - b.start) + b.run.width ≡ b.start + b.run.width = omega (arith, b.low) in
    subst (λ (c : Cell). (cell_at rs (page - c.offset + c.width)).offset ≡ 0) (sym (b.cells page b.low b.high))
    (ap (λ n. (cell_at rs n).offset) k ∙ b.next)

-- ---- a changed run

-- the run of a slot
abbrev pub run_of : Cell → Run
run_of c = record { width = c.width; state = c.state }

-- where the slot of a page begins
abbrev pub slot_start : List Run → ℕ → ℕ
slot_start rs page = page - (cell_at rs page).offset

with_around : (f : Run → List Run) (rs : List Run) (page : ℕ) (a : Around rs page) → with_run f rs page ≡ a.front ++ (f a.run ++ a.back)
with_around f rs page a = ap (λ qs. with_run f qs page) a.is ∙ with_run-right f a.front (a.run ∷ a.back) page a.low
    ∙ ap (λ (xs : List Run). a.front ++ xs) (with_run-here f a.run a.back (page - total a.front) (omega (arith, a.low, a.high)))

pub changed_inside : (f : Run → List Run) (rs : List Run) (page n : ℕ) → page < total rs
    → total (f (run_of (cell_at rs page))) ≡ (cell_at rs page).width → n < (cell_at rs page).width
    → cell_at (with_run f rs page) (slot_start rs page + n) ≡ cell_at (f (run_of (cell_at rs page))) n
changed_inside f rs page n h t l =
    let a = around rs page h in
    let e = around_cell rs page page a a.low a.high in
    let size : total (f a.run) ≡ a.run.width = subst (λ (c : Cell). total (f (run_of c)) ≡ c.width) e t in
    let less : n < a.run.width = subst (λ (c : Cell). n < c.width) e l in
    let p : ℕ = page - (page - total a.front) + n in
    let k : p - total a.front ≡ n = omega (arith, a.low) in
    let P : Cell → Type 0 = λ c. cell_at (with_run f rs page) (page - c.offset + n) ≡ cell_at (f (run_of c)) n in
    subst P (sym e)
    (ap (λ qs. cell_at qs p) (with_around f rs page a) ∙ cell_at-right a.front (f a.run ++ a.back) p (omega (arith, a.low))
    ∙ ap (cell_at (f a.run ++ a.back)) k ∙ cell_at-left (f a.run) a.back n (omega arith))

pub changed_outside : (f : Run → List Run) (rs : List Run) (page p : ℕ) → page < total rs
    → total (f (run_of (cell_at rs page))) ≡ (cell_at rs page).width
    → (p < slot_start rs page) ⊎ (slot_start rs page + (cell_at rs page).width ≤ p) → cell_at (with_run f rs page) p ≡ cell_at rs p
changed_outside f rs page p h t o =
    let a = around rs page h in
    let e = around_cell rs page page a a.low a.high in
    let size : total (f a.run) ≡ a.run.width = subst (λ (c : Cell). total (f (run_of c)) ≡ c.width) e t in
    let out = subst (λ (c : Cell). (p < page - c.offset) ⊎ (page - c.offset + c.width ≤ p)) e o in
    let same : cell_at (a.front ++ (f a.run ++ a.back)) p ≡ cell_at (a.front ++ a.run ∷ a.back) p = ⊎_elim
    (λ (l : p < page - (page - total a.front)).
    cell_at-left a.front (f a.run ++ a.back) p (omega (arith, a.low)) ∙ sym (cell_at-left a.front (a.run ∷ a.back) p (omega (arith, a.low))))
    (λ (l : page - (page - total a.front) + a.run.width ≤ p).
    let k : p - total a.front - total (f a.run) ≡ p - total a.front - a.run.width = omega arith in
    cell_at-right a.front (f a.run ++ a.back) p (omega (arith, a.low))
    ∙ cell_at-right (f a.run) a.back (p - total a.front) (omega (arith, a.low)) ∙ ap (cell_at a.back) k
    ∙ sym (cell_at-right a.front (a.run ∷ a.back) p (omega (arith, a.low))
    ∙ cell_at-there a.run a.back (p - total a.front) (omega (arith, a.low))))
    out in
    ap (λ qs. cell_at qs p) (with_around f rs page a) ∙ same ∙ sym (ap (λ qs. cell_at qs p) a.is)
