-- The lines of a log that name no thread.
use Rattle.std.proofs.Common.{◌≡◌, ℕ, ◌<◌, Bool, true, false, List, [], ◌∷◌, length, map, arith, refl, sym, ap, ◌∙◌, subst, eqb}
use Rattle.std.specs.Prelude.{if◌then◌else◌}
use Rattle.std.proofs.lemmas.Bool.Decides.{nat_tests}
use Rattle.std.proofs.lemmas.List.{get_or-map}
use Rattle.import_forms.specs.Speech.{Spoken}
use Rattle.import_lines.proofs.LineLemmas.{map_long}
use Rattle.import_lines.specs.Joining.{speech_at}
use Rattle.import_lines.specs.Threads.{renamed}

one_none : (t : ℕ) (b : Bool) → eqb t 0 ≡ b → (if b then 0 else t) ≡ t
one_none t true e = grind (arith, nat_tests)
one_none t false e = refl

-- 0 stands for no other thread
pub none_renamed : (all : List Spoken) → map (renamed 0) all ≡ all
none_renamed [] = refl
none_renamed (s ∷ all) = ap (λ (t : ℕ). (t, s.1) ∷ map (renamed 0) all) (one_none s.0 (eqb s.0 0) refl) ∙ ap (λ l. s ∷ l) (none_renamed all)

pub renamed_first : (first old : ℕ) (raw all : List Spoken) → map (renamed old) raw ≡ all → old ≡ 0 → map (renamed first) raw ≡ map (renamed first) all
renamed_first first old raw all h z =
    ap (map (renamed first)) (sym (none_renamed raw) ∙ ap (λ o. map (renamed o) raw) (sym z) ∙ h)

kept_by : (first old t : ℕ) (b : Bool) → eqb t 0 ≡ b → (old ≡ 0 → ⊥) → let u : ℕ = if b then old else t in (if eqb u 0 then first else u) ≡ u
kept_by first old t true e n = let other : eqb old 0 ≡ false = apart old n in rw other refl
  where
    apart : (o : ℕ) → (o ≡ 0 → ⊥) → eqb o 0 ≡ false
    apart o n = by (eqb o 0) refl
      where
        by : (b : Bool) → eqb o 0 ≡ b → b ≡ false
        by true e = absurd (n (grind (arith, nat_tests)))
        by false e = refl
kept_by first old t false e n = rw e refl

all_kept : (first old : ℕ) (raw : List Spoken) → (old ≡ 0 → ⊥) → map (renamed old) raw ≡ map (renamed first) (map (renamed old) raw)
all_kept first old [] n = refl
all_kept first old (s ∷ raw) n =
    ap (λ (t : ℕ). (t, s.1) ∷ map (renamed old) raw) (sym (kept_by first old s.0 (eqb s.0 0) refl n))
    ∙ ap (λ l. renamed first (renamed old s) ∷ l) (all_kept first old raw n)

pub renamed_again : (first old : ℕ) (raw all : List Spoken) → map (renamed old) raw ≡ all → (old ≡ 0 → ⊥) → all ≡ map (renamed first) all
renamed_again first old raw all h n = sym h ∙ all_kept first old raw n ∙ ap (map (renamed first)) h

pub renamed_long : (first : ℕ) (raw all : List Spoken) → map (renamed first) raw ≡ all → length raw ≡ length all
renamed_long first raw all h = map_long (renamed first) raw ∙ ap length h

-- a line is the kept one, but for its thread
pub renamed_at : (first k : ℕ) (raw all : List Spoken) → map (renamed first) raw ≡ all → k < length all → speech_at all k ≡ renamed first (speech_at raw k)
renamed_at first k raw all h p =
    let low : k < length raw = subst (λ n. k < n) (sym (renamed_long first raw all h)) p in
    ap (λ l. speech_at l k) (sym h) ∙ get_or-map (renamed first) raw k (0, []) (0, []) low
