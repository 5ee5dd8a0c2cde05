-- Which processes begin programs, and which ask for something.
use Rattle.std.proofs.Common.{◌≡◌, ℕ, zero, suc, ◌+◌, ◌-◌, ◌<◌, Bool, true, false, List, Some, length, drop, get_or, arith, refl, sym, ap, ◌∙◌, eqb}
use Rattle.std.specs.Prelude.{if◌then◌else◌, ◌&&◌}
use Rattle.std.proofs.lemmas.List.{drop_more}
use Rattle.import_forms.specs.Speech.{Spoken}
use Rattle.import_lines.specs.Made.{process_of, said_at, starts, thread_at}
use Rattle.import_lines.specs.declared.made.Making.{Making}
use Rattle.import_log.specs.Imported.{asked_any, begins_in, is_stray, stray_of}
use Rattle.import_log.specs.declared.processes.Process.{Process}

-- the process begins a program at line n
abbrev pub begins_here : List Spoken → List Making → ℕ → ℕ → Bool
begins_here all made process n = eqb (process_of made (thread_at all n)) process && starts (said_at all n)

begins_by : (all : List Spoken) (made : List Making) (process n : ℕ) (a b : Bool) → begins_in all made process n ≡ a → begins_here all made process n ≡ b
    → begins_in all made process (suc n) ≡ (if a then true else b)
begins_by all made process n a b h e = rw (h, e) refl

pub begins_more : (all : List Spoken) (made : List Making) (process n : ℕ) → begins_in all made process n ≡ false → begins_here all made process n ≡ false
    → begins_in all made process (n + 1) ≡ false
begins_more all made process n h e = let one : n + 1 ≡ suc n = omega arith in rw one (begins_by all made process n false false h e)

begins_on : (all : List Spoken) (made : List Making) (process n k : ℕ) → begins_in all made process n ≡ true → begins_in all made process (k + n) ≡ true
begins_on all made process n zero h = let none : 0 + n ≡ n = omega arith in rw none h
begins_on all made process n (suc k) h =
    let one : suc k + n ≡ suc (k + n) = omega arith in
    rw one (begins_by all made process (k + n) true (begins_here all made process (k + n)) (begins_on all made process n k h) refl)

pub begins_found : (all : List Spoken) (made : List Making) (process n : ℕ) → n < length all → begins_in all made process n ≡ false
    → begins_here all made process n ≡ true → true ≡ begins_in all made process (length all)
begins_found all made process n p h e =
    let here : begins_in all made process (suc n) ≡ true = begins_by all made process n false true h e in
    let size : (length all - suc n) + suc n ≡ length all = omega (arith, p) in
    sym (begins_on all made process (suc n) (length all - suc n) here) ∙ ap (begins_in all made process) size

pub stray_more : (all : List Spoken) (made : List Making) (chosen : ℕ) (ps : List Process) (n : ℕ) (d : Process) → n < length ps
    → is_stray all made chosen (get_or ps n d) ≡ false → stray_of all made chosen (drop (n + 1) ps) ≡ stray_of all made chosen (drop n ps)
stray_more all made chosen ps n d p e = sym (ap (stray_of all made chosen) (drop_more ps n d p) ∙ rw e refl)

pub stray_here : (all : List Spoken) (made : List Making) (chosen : ℕ) (ps : List Process) (n : ℕ) (d : Process) → n < length ps
    → is_stray all made chosen (get_or ps n d) ≡ true → stray_of all made chosen (drop n ps) ≡ Some (get_or ps n d).number
stray_here all made chosen ps n d p e = ap (stray_of all made chosen) (drop_more ps n d p) ∙ rw e refl

pub asked_more : (ps : List Process) (n : ℕ) (d : Process) → n < length ps → eqb (get_or ps n d).requests 0 ≡ true
    → asked_any (drop (n + 1) ps) ≡ asked_any (drop n ps)
asked_more ps n d p e = sym (ap asked_any (drop_more ps n d p) ∙ rw e refl)

pub asked_here : (ps : List Process) (n : ℕ) (d : Process) → n < length ps → eqb (get_or ps n d).requests 0 ≡ false → asked_any (drop n ps) ≡ true
asked_here ps n d p e = ap asked_any (drop_more ps n d p) ∙ rw e refl
