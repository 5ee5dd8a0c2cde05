-- Lists of packed notes that grow
use Rattle.std.proofs.Common.{◌≡◌, ◌+◌, ◌<◌, ◌≤◌, ℕ, zero, suc, Bool, true, false, List, [], ◌∷◌, ◌++◌, ap, arith, get_or, length, map, refl, rules}
use Rattle.std.proofs.Common.{subst, sym, ◌∙◌}
use Rattle.std.specs.Prelude.{All, Option, Some, slice_get, ◌==◌}
use Rattle.std.proofs.Math.ListN.{get_or-append}
use Rattle.std.proofs.Math.Seq.{get_or-append_seam}
use Rattle.std.proofs.lemmas.List.{get_or-map, length-map, map-append}
use Rattle.std.proofs.lemmas.Option.{slice_get-get_or}
use Rattle.std.proofs.lemmas.List.Elements.{All-append, All-cons, All-nil}
use Rattle.seats.specs.Fitting.{FitsTypes}
use Rattle.seats.specs.Notes.{ticket_of}
use Rattle.seats.specs.Packing.{AreWithin, IsWithin, ListView, is_in_full, note_by, note_of, nothing, packed_or, unpacked}
use Rattle.seats.specs.declared.noted.Noted.{Noted}
use Rattle.seats.specs.declared.packed.NoteKind.{NoteKind}
use Rattle.seats.specs.declared.packed.NoteKind.TheVariants.{InFull}
use Rattle.seats.specs.declared.packed.PackedNote.{PackedNote}

longer : (n m : ℕ) (ps : List PackedNote) → n ≤ m → AreWithin n ps → AreWithin m ps
longer n m ps le h k d lt full = let within = h k d lt full in omega (arith, within, le)

-- one more, where as many stand in full or more
pub within_more : (n m : ℕ) (ps : List PackedNote) (p : PackedNote) → n ≤ m → AreWithin n ps → IsWithin m p → AreWithin m (ps ++ p ∷ [])
within_more n m ps p le h one =
    All-append (IsWithin m) ps (p ∷ []) (longer n m ps le h) (All-cons (IsWithin m) p [] one (All-nil (IsWithin m)))

-- with more that stand in full the others say what they said
same_by : (b : Bool) (in_full more : List Noted) (p : PackedNote) → (b ≡ true → p.word < length in_full)
    → note_by b (in_full ++ more) p ≡ note_by b in_full p
same_by true in_full more p within = get_or-append in_full more nothing p.word (within refl)
same_by false in_full more p within = refl

unpacked_longer : (in_full more : List Noted) (ps : List PackedNote) → AreWithin (length in_full) ps
    → unpacked (in_full ++ more) ps ≡ unpacked in_full ps
unpacked_longer in_full more [] h = refl
unpacked_longer in_full more (p ∷ ps) h =
    ap (λ n. n ∷ unpacked (in_full ++ more) ps) (same_by (is_in_full p.kind) in_full more p (h 0 p (omega arith)))
    ∙ ap (λ ns. note_of in_full p ∷ ns) (unpacked_longer in_full more ps (λ k d lt. h (suc k) d (omega arith)))

placed_by : (b : Bool) (in_full : List Noted) (n : Noted) (p : PackedNote) → b ≡ true → p.word ≡ length in_full → note_by b (in_full ++ n ∷ []) p ≡ n
placed_by true in_full n p e at = ap (λ k. get_or (in_full ++ n ∷ []) k nothing) at ∙ get_or-append_seam in_full n [] nothing
placed_by false in_full n p e at = absurd cc

-- ---- the notes of a list

abbrev pub listed : List Noted → ℕ → ListView
listed ns n = record { notes = ns; room = n }

-- the ticket at a place
pub ticket_at : (ps : List PackedNote) (in_full plain : List Noted) (at : ℕ) (p : PackedNote) → (length ps == 0) ≡ false
    → at < length (packed_or ps in_full plain) → p ≡ get_or ps at p
    → slice_get (map ticket_of (packed_or ps in_full plain)) at ≡ Some (note_of in_full p).ticket
ticket_at [] in_full plain at p some lt is = absurd (cc)
ticket_at (q ∷ ps) in_full plain at p some lt is =
    let notes : List Noted = unpacked in_full (q ∷ ps) in
    let count = length-map (q ∷ ps) (note_of in_full) in
    let tickets = length-map notes ticket_of in
    slice_get-get_or (map ticket_of notes) at 0 (omega (arith, tickets, lt))
    ∙ ap Some (get_or-map ticket_of notes at nothing 0 lt
    ∙ ap ticket_of (get_or-map (note_of in_full) (q ∷ ps) at p nothing (omega (arith, count, lt)) ∙ ap (note_of in_full) (sym is)))

-- one more that stands in full
pub placed_more : (in_full : List Noted) (ps : List PackedNote) (p : PackedNote) (n : Noted) → AreWithin (length in_full) ps → p.kind ≡ InFull
    → p.word ≡ length in_full → unpacked (in_full ++ n ∷ []) (ps ++ p ∷ []) ≡ unpacked in_full ps ++ n ∷ []
placed_more in_full ps p n h kind at =
    map-append (note_of (in_full ++ n ∷ [])) ps (p ∷ [])
    ∙ ap (λ ns. ns ++ note_of (in_full ++ n ∷ []) p ∷ []) (unpacked_longer in_full (n ∷ []) ps h)
    ∙ ap (λ m. unpacked in_full ps ++ m ∷ []) (placed_by (is_in_full p.kind) in_full n p (ap is_in_full kind) at)

-- one more that stands packed
pub packed_more : (in_full : List Noted) (ps : List PackedNote) (p : PackedNote) (n : Noted) → note_of in_full p ≡ n
    → unpacked in_full (ps ++ p ∷ []) ≡ unpacked in_full ps ++ n ∷ []
packed_more in_full ps p n is = map-append (note_of in_full) ps (p ∷ []) ∙ ap (λ m. unpacked in_full ps ++ m ∷ []) is

-- one more note as its types have it
pub fits_more : (ns : List Noted) (n : Noted) → All FitsTypes ns → FitsTypes n → All FitsTypes (ns ++ n ∷ [])
fits_more ns n all one = All-append FitsTypes ns (n ∷ []) all (All-cons FitsTypes n [] one (All-nil FitsTypes))
