-- Whose lines they are that name no thread.
use Rattle.std.proofs.Common.{◌≡◌, ℕ, zero, suc, ◌-◌, ◌<◌, Bool, true, false, List, Option, None, length, map, arith, refl, sym, ap, ◌∙◌, eqb}
use Rattle.std.specs.Prelude.{if◌then◌else◌, ◌&&◌, ◌||◌, unwrap_or}
use Rattle.import_forms.specs.Speech.{Spoken}
use Rattle.import_lines.specs.Joining.{speech_at}
use Rattle.import_lines.specs.Lines.{kept_text}
use Rattle.import_lines.specs.Made.{all_makings, thread_at}
use Rattle.import_lines.specs.Threads.{renamed}
use Rattle.import_lines.specs.Torn.{ends_by}
use Rattle.import_lines.specs.declared.made.Making.{Making}
use Rattle.import_log.specs.Owned.{goes_on, is_loose, is_mixed, owned, root_in, root_of}

-- the thread's end, and a loose line behind it
pub goes_end : (root : ℕ) (all : List Spoken) (later b : Bool) (n : ℕ) → 0 < n → (speech_at all (n - 1)).0 ≡ root
    → b ≡ later && ends_by (kept_text (speech_at all (n - 1)).1) → b ≡ true → eqb (speech_at all (n - 1)).0 root ≡ true → true ≡ goes_on root all later n
goes_end root all later b zero p s h t e = absurd (omega (arith, p))
goes_end root all later b (suc n) p s h t e =
    let one : n ≡ suc n - 1 = omega arith in
    let here : eqb (thread_at all n) root ≡ true = ap (λ k. eqb (thread_at all k) root) one ∙ e in
    let end : (later && ends_by (kept_text (speech_at all n).1)) ≡ true = ap (λ k. later && ends_by (kept_text (speech_at all k).1)) one ∙ sym h ∙ t in
    sym (rw (here, end) refl)

-- another line of the thread
pub goes_root : (root : ℕ) (all : List Spoken) (later b : Bool) (n : ℕ) → 0 < n → b ≡ later && ends_by (kept_text (speech_at all (n - 1)).1) → b ≡ false
    → eqb (speech_at all (n - 1)).0 root ≡ true → goes_on root all later (n - 1) ≡ goes_on root all later n
goes_root root all later b zero p h t e = absurd (omega (arith, p))
goes_root root all later b (suc n) p h t e =
    let one : n ≡ suc n - 1 = omega arith in
    let here : eqb (thread_at all n) root ≡ true = ap (λ k. eqb (thread_at all k) root) one ∙ e in
    let on : (later && ends_by (kept_text (speech_at all n).1)) ≡ false = ap (λ k. later && ends_by (kept_text (speech_at all k).1)) one ∙ sym h ∙ t in
    ap (goes_on root all later) (sym one) ∙ sym (rw (here, on) refl)

-- a line of another
pub goes_other : (root : ℕ) (all : List Spoken) (later b : Bool) (n : ℕ) → 0 < n → b ≡ later || is_loose all (n - 1)
    → eqb (speech_at all (n - 1)).0 root ≡ false → goes_on root all b (n - 1) ≡ goes_on root all later n
goes_other root all later b zero p h e = absurd (omega (arith, p))
goes_other root all later b (suc n) p h e =
    let one : n ≡ suc n - 1 = omega arith in
    let here : eqb (thread_at all n) root ≡ false = ap (λ k. eqb (thread_at all k) root) one ∙ e in
    ap (goes_on root all b) (sym one) ∙ ap (λ w. goes_on root all w n) (h ∙ ap (λ k. later || is_loose all k) (sym one)) ∙ sym (rw here refl)

-- the lines of a log in which others name a thread
pub owned_known : (all raw x : List Spoken) (made : List Making) (root : Option ℕ) (b : Bool) → raw ≡ all → b ≡ is_mixed raw → b ≡ true
    → made ≡ all_makings false raw → root ≡ root_of made raw (length raw) → x ≡ map (renamed (unwrap_or root 0)) raw → x ≡ owned all
owned_known all raw x made root b same mixed is m r e =
    let known : root ≡ root_in raw = r ∙ ap (λ k. root_of k raw (length raw)) m
    ∙ sym (ap (λ t. if t then root_of (all_makings false raw) raw (length raw) else None) (sym mixed ∙ is)) in
    e ∙ ap (λ t. map (renamed (unwrap_or t 0)) raw) known ∙ ap owned same
