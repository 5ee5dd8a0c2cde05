-- Lists of packed entries that grow
use Rattle.std.proofs.Common.{◌≡◌, ◌<◌, ◌≤◌, ℕ, suc, Bool, true, false, List, [], ◌∷◌, ◌++◌, ap, arith, ◌-◌, drop, get_or, length, refl, sym, take, ◌∙◌}
use Rattle.std.specs.Prelude.{◌==◌}
use Rattle.std.proofs.Math.ListN.{get_or-append}
use Rattle.std.proofs.Math.Seq.{get_or-append_seam, take-length}
use Rattle.std.proofs.lemmas.List.{drop-map, length-drop, map-append}
use Rattle.std.proofs.lemmas.List.Elements.{All-append, All-cons, All-nil}
use Rattle.vm_base.specs.declared.log.Entry.{Entry}
use Rattle.machine_log.specs.Packing.{AreWithin, IsWithin, entry_by, entry_of, is_in_full, nothing, packed_or, place_said, unpacked}
use Rattle.machine_log.specs.declared.ledger.packing.EntryKind.TheVariants.{InFull}
use Rattle.machine_log.specs.declared.ledger.packing.PackedEntry.{PackedEntry}

longer : (n m : ℕ) (ps : List PackedEntry) → n ≤ m → AreWithin n ps → AreWithin m ps
longer n m ps le h k d lt full = let within = h k d lt full in omega (arith, within, le)

-- one more, where as many stand in full or more
pub within_more : (n m : ℕ) (ps : List PackedEntry) (p : PackedEntry) → n ≤ m → AreWithin n ps → IsWithin m p → AreWithin m (ps ++ p ∷ [])
within_more n m ps p le h one =
    All-append (IsWithin m) ps (p ∷ []) (longer n m ps le h) (All-cons (IsWithin m) p [] one (All-nil (IsWithin m)))

-- with more that stand in full the others say what they said
same_by : (b : Bool) (in_full more : List Entry) (p : PackedEntry) → (b ≡ true → place_said p < length in_full)
    → entry_by b (in_full ++ more) p ≡ entry_by b in_full p
same_by true in_full more p within = get_or-append in_full more nothing (place_said p) (within refl)
same_by false in_full more p within = refl

unpacked_longer : (in_full more : List Entry) (ps : List PackedEntry) → AreWithin (length in_full) ps
    → unpacked (in_full ++ more) ps ≡ unpacked in_full ps
unpacked_longer in_full more [] h = refl
unpacked_longer in_full more (p ∷ ps) h =
    ap (λ e. e ∷ unpacked (in_full ++ more) ps) (same_by (is_in_full p.kind) in_full more p (h 0 p (omega arith)))
    ∙ ap (λ es. entry_of in_full p ∷ es) (unpacked_longer in_full more ps (λ k d lt. h (suc k) d (omega arith)))

placed_by : (b : Bool) (in_full : List Entry) (e : Entry) (p : PackedEntry) → b ≡ true → place_said p ≡ length in_full
    → entry_by b (in_full ++ e ∷ []) p ≡ e
placed_by true in_full e p is at = ap (λ k. get_or (in_full ++ e ∷ []) k nothing) at ∙ get_or-append_seam in_full e [] nothing
placed_by false in_full e p is at = absurd cc

-- one more that stands in full
pub placed_more : (in_full : List Entry) (ps : List PackedEntry) (p : PackedEntry) (e : Entry) → AreWithin (length in_full) ps → p.kind ≡ InFull
    → place_said p ≡ length in_full → unpacked (in_full ++ e ∷ []) (ps ++ p ∷ []) ≡ unpacked in_full ps ++ e ∷ []
placed_more in_full ps p e h kind at =
    map-append (entry_of (in_full ++ e ∷ [])) ps (p ∷ [])
    ∙ ap (λ es. es ++ entry_of (in_full ++ e ∷ []) p ∷ []) (unpacked_longer in_full (e ∷ []) ps h)
    ∙ ap (λ m. unpacked in_full ps ++ m ∷ []) (placed_by (is_in_full p.kind) in_full e p (ap is_in_full kind) at)

-- one more that stands packed
pub packed_more : (in_full : List Entry) (ps : List PackedEntry) (p : PackedEntry) (e : Entry) → entry_of in_full p ≡ e
    → unpacked in_full (ps ++ p ∷ []) ≡ unpacked in_full ps ++ e ∷ []
packed_more in_full ps p e is = map-append (entry_of in_full) ps (p ∷ []) ∙ ap (λ m. unpacked in_full ps ++ m ∷ []) is

all_packed : (ps : List PackedEntry) (in_full : List Entry) → packed_or ps in_full [] ≡ unpacked in_full ps
all_packed [] in_full = refl
all_packed (p ∷ ps) in_full = refl

-- those behind the first ones
pub behind_is : (ps : List PackedEntry) (in_full plain : List Entry) (n : ℕ) → (length ps == 0) ≡ false
    → packed_or (take (length ps - n) (drop n ps)) in_full [] ≡ drop n (packed_or ps in_full plain)
behind_is [] in_full plain n some = absurd cc
behind_is (p ∷ ps) in_full plain n some =
    let left = drop n (p ∷ ps) in
    ap (λ k. packed_or (take k left) in_full []) (sym (length-drop n (p ∷ ps)))
    ∙ ap (λ qs. packed_or qs in_full []) (take-length left)
    ∙ all_packed left in_full ∙ sym (drop-map (entry_of in_full) n (p ∷ ps))
