-- Lines that are halves of calls, and those that are whole.
use Rattle.std.proofs.Common.{◌≡◌, ℕ, ◌+◌, drop, Bool, true, false, List, [], Option, None, Some, refl, sym, ap, ◌∙◌}
use Rattle.std.specs.Prelude.{◌||◌, if◌then◌else◌, is_some, option_map}
use Rattle.import_forms.specs.Said.{said_of}
use Rattle.import_forms.specs.Speech.{Spoken, begun_of, returned_of}
use Rattle.import_lines.specs.Joining.{call_at, call_of, last_of, next_of, speech_at}
use Rattle.import_lines.specs.Lines.{Kept, is_half, kept_half, kept_said, kept_text, name_in, told_at, told_by, told_of}

abbrev kept_by_half : Bool → List ℕ → Kept
kept_by_half b text = if b then kept_half text else kept_said (said_of text) (name_in (said_of text) text)

half_known : (text : List ℕ) (k : Kept) (b : Bool) → is_half text ≡ b → k ≡ kept_by_half b text → k.half ≡ true → (k.name ≡ text) × (is_half text ≡ true)
half_known text k true e h t = (ap (λ (x : Kept). x.name) h, e)
half_known text k false e h t = absurd (let f = sym t ∙ ap (λ (x : Kept). x.half) h in cc)

-- of half of a call the text is kept
pub half_kept : (text : List ℕ) (k : Kept) → k ≡ kept_text text → k.half ≡ true → k.name ≡ text
half_kept text k h t = (half_known text k (is_half text) refl h t).0

pub half_is : (text : List ℕ) (k : Kept) → k ≡ kept_text text → k.half ≡ true → is_half text ≡ true
half_is text k h t = (half_known text k (is_half text) refl h t).1

whole_known : (text : List ℕ) (k : Kept) (b : Bool) → is_half text ≡ b → k ≡ kept_by_half b text → k.half ≡ false
    → (is_half text ≡ false) × (k.said ≡ said_of text) × (k.name ≡ name_in (said_of text) text)
whole_known text k true e h t = absurd (let f = sym t ∙ ap (λ (x : Kept). x.half) h in cc)
whole_known text k false e h t = (e, ap (λ (x : Kept). x.said) h, ap (λ (x : Kept). x.name) h)

none_of : {A B : Type 0} (a : Option A) (b : Option B) → (is_some a || is_some b) ≡ false → (a ≡ None) × (b ≡ None)
none_of None None e = (refl, refl)
none_of None (Some b) e = absurd cc
none_of (Some a) b e = absurd cc

-- a whole call returns as little as nothing does
none_returned : returned_of [] ≡ None
unfolding returned_of
none_returned = refl

pub whole_returned : (text : List ℕ) (k : Kept) → k ≡ kept_text text → k.half ≡ false → returned_of [] ≡ returned_of text
whole_returned text k h t = none_returned ∙ sym (none_of (begun_of text) (returned_of text) (whole_known text k (is_half text) refl h t).0).1

-- what a whole call says
pub told_whole : (all : List Spoken) (place : ℕ) (k : Kept) → k ≡ kept_text (speech_at all place).1 → k.half ≡ false
    → told_by (Some k.said) k.name ≡ told_at all place
told_whole all place k h t =
    let s = speech_at all place in
    let known = whole_known s.1 k (is_half s.1) refl h t in
    let none = none_of (begun_of s.1) (returned_of s.1) known.0 in
    let call : call_at all place ≡ Some s.1 =
    ap (λ b. call_of s.1 (next_of s.0 (drop (place + 1) all)) (last_of s.0 all place) b (returned_of s.1)) none.0
    ∙ ap (λ r. call_of s.1 (next_of s.0 (drop (place + 1) all)) (last_of s.0 all place) None r) none.1 in
    ap (λ x. Some (x, k.name)) known.1 ∙ ap (λ n. Some (said_of s.1, n)) known.2 ∙ ap (option_map told_of) (sym call)

pub whole_said : (text : List ℕ) (k : Kept) → k ≡ kept_text text → k.half ≡ false → k.said ≡ said_of text
whole_said text k h t = (whole_known text k (is_half text) refl h t).1
