-- Lists that are made element by element, and the last line at which something holds.
use Rattle.std.proofs.Common.{◌≡◌, ℕ, zero, suc, ◌+◌, ◌<◌, Bool, true, false, List, [], ◌∷◌, ◌++◌, Some, if◌then◌else◌, length, take, map, get_or}
use Rattle.std.proofs.Common.{arith, refl, sym, ap, ◌∙◌}
use Rattle.std.proofs.lemmas.List.{map_more}
use Rattle.std.proofs.lemmas.List.Elements.{All-append}
use Rattle.std.specs.Prelude.{All}
use Rattle.import_forms.specs.Speech.{Spoken}
use Rattle.import_log.specs.Imported.{asked_any, chosen_all, ending_all, ending_by, import_all, imported, is_known_start, is_unfollowed}
use Rattle.import_log.specs.Imported.{processes_all, refusal_by, stray_of}
use Rattle.import_lines.specs.Torn.{is_torn}
use Rattle.import_lines.specs.Made.{all_makings}
use Rattle.import_log.specs.Processes.{chosen, is_there, processes}
use Rattle.import_log.specs.Programs.{begins_at, last_begun, programs_all, programs_for}
use Rattle.import_steps.specs.Taking.{SoFar}
use Rattle.import_steps.specs.declared.counts.LineCounts.{LineCounts}
use Rattle.import_log.specs.declared.import.Ending.{Ending}
use Rattle.import_lines.specs.declared.made.Making.{Making}
use Rattle.import_log.specs.declared.processes.Choice.{Choice}
use Rattle.import_log.specs.declared.processes.Process.{Process}

map-push : {X Y : Type 0} (f : X → Y) (xs : List X) (x : X) → map f (xs ++ x ∷ []) ≡ map f xs ++ f x ∷ []
map-push f [] x = refl
map-push f (y ∷ ys) x = ap (λ l. f y ∷ l) (map-push f ys x)

pub map-map : {X Y Z : Type 0} (g : Y → Z) (f : X → Y) (xs : List X) → map g (map f xs) ≡ map (λ x. g (f x)) xs
map-map g f [] = refl
map-map g f (x ∷ xs) = ap (λ l. g (f x) ∷ l) (map-map g f xs)

-- one element more
pub mapped_more : {X Y : Type 0} (f : X → Y) (xs : List X) (n : ℕ) (d : X) (old : List Y) (y : Y) → n < length xs → old ≡ map f (take n xs)
    → y ≡ f (get_or xs n d) → old ++ y ∷ [] ≡ map f (take (n + 1) xs)
mapped_more f xs n d old y p h e =
    ap (λ l. l ++ y ∷ []) h ∙ ap (λ z. map f (take n xs) ++ z ∷ []) e ∙ sym (map_more f xs n d p)

-- one element more, of which what is told is known
pub told_more : {X Y Z : Type 0} (g : Z → Y) (f : X → Y) (xs : List X) (n : ℕ) (d : X) (olds : List Z) (z : Z) → n < length xs
    → map g olds ≡ map f (take n xs) → g z ≡ f (get_or xs n d) → map g (olds ++ z ∷ []) ≡ map f (take (n + 1) xs)
told_more g f xs n d olds z p h e = map-push g olds z ∙ mapped_more f xs n d (map g olds) (g z) p h e

one_of : {X : Type 0} (P : X → Type 0) (x : X) → P x → All P (x ∷ [])
one_of P x p zero d lt = p
one_of P x p (suc k) d lt = absurd (omega (arith, lt))

pub all_push : {X : Type 0} (P : X → Type 0) (xs : List X) (x : X) → All P xs → P x → All P (xs ++ x ∷ [])
all_push P xs x h p = All-append P xs (x ∷ []) h (one_of P x p)

-- the line at which a program begins is one of those
pub last_low : (all : List Spoken) (owned : List ℕ) (n q k : ℕ) → last_begun all owned n q ≡ Some k → k < n
last_low all owned zero q k h = absurd cc
last_low all owned (suc n) q k h = by (last_low all owned n q k) (begins_at all owned n q) h
  where
    by : (last_begun all owned n q ≡ Some k → k < n) → (b : Bool) → (if b then Some n else last_begun all owned n q) ≡ Some k → k < suc n
    by more true z = let same : n ≡ k = cc in omega (arith, same)
    by more false z = let less = more z in omega (arith, less)

-- the programs are those of all processes
pub programs_known : (joined : Bool) (all : List Spoken) (n : ℕ) (made : List Making) (ps : List Process) (names : List (List ℕ))
    → n ≡ length all → made ≡ all_makings joined all → ps ≡ processes all made n → names ≡ programs_for all made ps → names ≡ programs_all joined all
programs_known joined all n made ps names size is listed e =
    let here : ps ≡ processes_all joined all = listed ∙ ap (processes all made) size ∙ ap (λ m. processes all m (length all)) is in
    e ∙ ap (programs_for all made) here ∙ ap (λ m. programs_for all m (processes_all joined all)) is

-- the process is that which is chosen of all
pub process_known : (choice : Choice) (all : List Spoken) (made : List Making) (ps : List Process) (p : ℕ) → made ≡ all_makings choice.joined all
    → ps ≡ processes all made (length all) → p ≡ chosen choice.thread made ps → p ≡ chosen_all choice all
process_known choice all made ps p is listed e =
    e ∙ ap (λ m. chosen choice.thread m ps) is
    ∙ ap (chosen choice.thread (all_makings choice.joined all)) (listed ∙ ap (λ m. processes all m (length all)) is)

-- what is taken is what the chosen process asks for
pub taken_known : (start : SoFar) (choice : Choice) (all : List Spoken) (made : List Making) (p : ℕ) (x : SoFar × LineCounts)
    → made ≡ all_makings choice.joined all → p ≡ chosen_all choice all → x ≡ imported start all made p (length all) → x ≡ import_all start choice all
taken_known start choice all made p x is known e =
    e ∙ ap (λ m. imported start all m p (length all)) is
    ∙ ap (λ q. imported start all (all_makings choice.joined all) q (length all)) known

abbrev pub ending_parts : Bool → SoFar → Choice → List Spoken → List Making → List Process → ℕ → SoFar × LineCounts → Ending
ending_parts unclear start choice all made ps p x = ending_by
    (refusal_by (is_torn all (length all)) unclear (is_unfollowed all made) choice.from_empty (stray_of all made p ps) (is_known_start (length start.steps) x.1.begins))
    (is_there choice.thread all) (asked_any ps) (length x.0.steps)

-- how an import ends is known of its parts
pub ending_known : (unclear : Bool) (start : SoFar) (choice : Choice) (all : List Spoken) (made : List Making) (ps : List Process) (p : ℕ)
    (x : SoFar × LineCounts) → made ≡ all_makings choice.joined all → ps ≡ processes_all choice.joined all → p ≡ chosen_all choice all
    → x ≡ import_all start choice all → ending_parts unclear start choice all made ps p x ≡ ending_all unclear start choice all
ending_known unclear start choice all made ps p x is listed known taken =
    ap (λ m. ending_parts unclear start choice all m ps p x) is
    ∙ ap (λ q. ending_parts unclear start choice all (all_makings choice.joined all) q p x) listed
    ∙ ap (λ n. ending_parts unclear start choice all (all_makings choice.joined all) (processes_all choice.joined all) n x) known
    ∙ ap (ending_parts unclear start choice all (all_makings choice.joined all) (processes_all choice.joined all) (chosen_all choice all)) taken
