-- What a call says that is told with its name, and what one more line tells.
use Rattle.std.proofs.Common.{◌≡◌, ℕ, ◌+◌, List, Option, None, Some, suc, arith, refl, sym, ap, ◌∙◌}
use Rattle.std.specs.HashMap.{get}
use Rattle.std.specs.Prelude.{◌==◌, ◌&&◌, if◌then◌else◌, nat_eq, option_map}
use Rattle.import_forms.specs.Said.{said_of}
use Rattle.import_forms.specs.Speech.{Spoken}
use Rattle.import_forms.specs.declared.said.Said.{Said}
use Rattle.import_lines.specs.Lines.{told_by, told_of}
use Rattle.import_lines.specs.Made.{first_start, last_line, or_here, said_at, starts, telling_of, tellings, thread_at, with_telling}
use Rattle.import_lines.specs.Told.{Hears}
use Rattle.import_lines.specs.declared.told.Heard.{Heard}

pub said_told : (call : Option (List ℕ)) (said : Option Said) (name : List ℕ) → told_by said name ≡ option_map told_of call → said ≡ option_map said_of call
said_told None None name h = refl
said_told None (Some said) name h = absurd cc
said_told (Some text) None name h = absurd cc
said_told (Some text) (Some said) name h = let e : (said, name) ≡ told_of text = cc in ap (λ (p : Said × List ℕ). Some p.0) e

-- one more line was heard
pub hears_more : (all : List Spoken) (n : ℕ) (h k : Heard) (said : Option Said) (thread : ℕ) → Hears all n h → said ≡ said_at all n → thread ≡ thread_at all n
    → k.tellings.items ≡ with_telling h.tellings.items (telling_of all n said)
    → ((t : ℕ) → get nat_eq k.starts t ≡ or_here (get nat_eq h.starts t) ((thread == t) && starts said) n)
    → ((t : ℕ) → get nat_eq k.last t ≡ (if thread == t then Some n else get nat_eq h.last t))
    → Hears all (n + 1) k
hears_more all n h k said thread before is whose tells begins ends =
    let one : suc n ≡ n + 1 = omega arith in
    record {
      tellings = tells ∙ ap (λ ts. with_telling ts (telling_of all n said)) before.tellings
          ∙ ap (λ s. with_telling (tellings all n) (telling_of all n s)) is ∙ ap (tellings all) one;
      starts = λ t. begins t ∙ ap (λ o. or_here o ((thread == t) && starts said) n) (before.starts t)
          ∙ ap (λ (u : ℕ). or_here (first_start all n t) ((u == t) && starts said) n) whose
          ∙ ap (λ s. or_here (first_start all n t) ((thread_at all n == t) && starts s) n) is ∙ ap (λ m. first_start all m t) one;
      last = λ t. ends t ∙ ap (λ o. if thread == t then Some n else o) (before.last t)
          ∙ ap (λ (u : ℕ). if u == t then Some n else last_line all n t) whose ∙ ap (λ m. last_line all m t) one;
    }
