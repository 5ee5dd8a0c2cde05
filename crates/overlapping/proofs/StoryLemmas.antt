-- Mappings that are told behind one another
use Rattle.std.proofs.Common.{◌≡◌, ◌∙◌, ℕ, zero, suc, ◌+◌, ◌<◌, ◌≤◌, ◌⊎◌, inl, inr, Bool, true, false, is_some, List, [], ◌∷◌, ◌++◌, Option, None}
use Rattle.std.proofs.Common.{Some, ap, append-nil, append_assoc, arith, drop, get_or, length, min, refl, subst, sym, take}
use Rattle.std.specs.Prelude.{IfNone, IfSome, ◌&&◌, if◌then◌else◌}
use Rattle.std.proofs.lemmas.List.{drop_more}
use Rattle.vm_base.specs.Places.{PlaceRule}
use Rattle.vm_base.specs.Plain.{Plain}
use Rattle.slot_lock.specs.Slots.{Slots}
use Rattle.slot_lock.specs.MapList.{IsMapList}
use Rattle.slot_lock.specs.MapWalks.{slot_metas}
use Rattle.slot_lock.specs.declared.map_list.MapLine.{MapLine}
use Rattle.frames.specs.Parts.{FrameParts}
use Rattle.frames.specs.Files.{FileParts}
use Rattle.audit.specs.Judging.{AreReplies, IsFirstWrong}
use Rattle.audit.specs.Keeping.{plain_kept}
use Rattle.audit.specs.Placing.{rule_of}
use Rattle.audit.specs.declared.auditor.Call.{Call}
use Rattle.audit.specs.declared.auditor.Wrong.{Wrong}
use Rattle.orders.specs.declared.history.Timed.{Timed}
use Rattle.trace_text.specs.Lists.{map_line}
use Rattle.audit_text.proofs.AroundLemmas.{metas_kept}
use Rattle.overlapping.specs.Story.{AreWrong, HasMappings, are_behind, first_mapped, is_mapped, mappings_text, most_first, without_times}

pub pushed_mappings : (a b c line : List ℕ) (ms rest : List MapLine) (m : MapLine) → ms ≡ m ∷ rest → line ≡ map_line m.range m.prot m.back
    → b ≡ a ++ line → c ≡ b ++ mappings_text rest → c ≡ a ++ mappings_text ms
pushed_mappings a b c line ms rest m e is f g =
    g ∙ (ap (λ (x : List ℕ). x ++ mappings_text rest) (f ∙ ap (λ (x : List ℕ). a ++ x) is)
    ∙ (append_assoc a (map_line m.range m.prot m.back) (mappings_text rest) ∙ ap (λ (xs : List MapLine). a ++ mappings_text xs) (sym e)))

pub pushed_no_mapping : (a : List ℕ) (ms : List MapLine) → ms ≡ [] → a ≡ a ++ mappings_text ms
pushed_no_mapping a ms e = sym (ap (λ (xs : List MapLine). a ++ mappings_text xs) e ∙ append-nil a)

-- ---- mappings that calls leave

pub pushed_calls : (a b c : List Call) (ts rest : List Timed) (t : Timed) → ts ≡ t ∷ rest → b ≡ a ++ t.call ∷ [] → c ≡ b ++ without_times rest
    → c ≡ a ++ without_times ts
pushed_calls a b c ts rest t e f g =
    g ∙ (ap (λ (xs : List Call). xs ++ without_times rest) f
    ∙ (append_assoc a (t.call ∷ []) (without_times rest) ∙ ap (λ (xs : List Timed). a ++ without_times xs) (sym e)))

pub pushed_no_call : (a : List Call) (ts : List Timed) → ts ≡ [] → a ≡ a ++ without_times ts
pushed_no_call a ts e = sym (ap (λ (xs : List Timed). a ++ without_times xs) e ∙ append-nil a)

-- those of the slots that keep the map to which the calls lead
pub mappings_there : (any_place : Bool) (t : Plain) (first : List Call) (found : Option Wrong) (mappings : List MapLine) (s : Slots)
    (objects : List FileParts) (frames : FrameParts) → found ≡ None → IfNone found (AreReplies (rule_of any_place) t first (plain_kept s objects frames))
    → IsMapList (slot_metas s) mappings → HasMappings (rule_of any_place) t first mappings
mappings_there any_place t first found mappings s objects frames e are is = record {
  left = plain_kept s objects frames;
  replies = subst (λ o. IfNone o (AreReplies (rule_of any_place) t first (plain_kept s objects frames))) e are;
  listed = subst (λ m. IsMapList m mappings) (metas_kept s objects frames) is;
}

-- a reply that was found to be wrong
pub wrong_there : (rule : PlaceRule) (t u : Plain) (first : List Call) (found : Option Wrong) (w : Wrong) → found ≡ Some w
    → IfSome found (λ wrong. IsFirstWrong rule t first wrong u) → AreWrong rule t first
wrong_there rule t u first found w e is = (w, u, subst (λ o. IfSome o (λ wrong. IsFirstWrong rule t first wrong u)) e is)

-- no reply of no calls is
pub none_wrong : (rule : PlaceRule) (t : Plain) (calls : List Timed) (n : ℕ) → n ≡ 0 → AreWrong rule t (without_times (take n calls)) → ⊥
none_wrong rule t calls n e h =
    let none = subst (λ (m : ℕ). AreWrong rule t (without_times (take m calls))) e h in
    let is = none.2.is_call in absurd cc

-- ---- first calls

first_of : (cs : List Timed) (c : Timed) (b : Bool) → (is_mapped c.call.reply && are_behind c.end cs) ≡ b
    → first_mapped (c ∷ cs) ≡ (if b then suc (first_mapped cs) else 0)
first_of cs c b e = ap (λ (x : Bool). if x then suc (first_mapped cs) else 0) e

pub first_more : (calls : List Timed) (n : ℕ) (d : Timed) → n < length calls
    → (is_mapped (get_or calls n d).call.reply && are_behind (get_or calls n d).end (drop (n + 1) calls)) ≡ true
    → n + 1 + first_mapped (drop (n + 1) calls) ≡ n + first_mapped (drop n calls)
first_more calls n d p e =
    let here : first_mapped (drop n calls) ≡ suc (first_mapped (drop (n + 1) calls)) =
    ap (λ (l : List Timed). first_mapped l) (drop_more calls n d p) ∙ first_of (drop (n + 1) calls) (get_or calls n d) true e in
    omega (arith, here)

pub first_last : (calls : List Timed) (n : ℕ) (d : Timed) → n < length calls
    → (is_mapped (get_or calls n d).call.reply && are_behind (get_or calls n d).end (drop (n + 1) calls)) ≡ false
    → n ≡ n + first_mapped (drop n calls)
first_last calls n d p e =
    let here : first_mapped (drop n calls) ≡ 0 =
    ap (λ (l : List Timed). first_mapped l) (drop_more calls n d p) ∙ first_of (drop (n + 1) calls) (get_or calls n d) false e in
    omega (arith, here)

pub few_first : (calls : List Timed) → first_mapped calls ≤ length calls
few_first [] = omega arith
few_first (c ∷ cs) = go (is_mapped c.call.reply && are_behind c.end cs) refl (few_first cs)
  where
    go : (b : Bool) → (is_mapped c.call.reply && are_behind c.end cs) ≡ b → first_mapped cs ≤ length cs → first_mapped (c ∷ cs) ≤ suc (length cs)
    go true e rest = let here = first_of cs c true e in omega (arith, here, rest)
    go false e rest = let here = first_of cs c false e in omega (arith, here)

-- ---- fewer first calls

-- what was found is there
pub is_there : {X : Type 0} (found : Option X) (P : Type 0) → is_some found ≡ true → IfNone found P
is_there (Some x) P e = tt
is_there None P e = absurd cc

-- or nothing was, as the replies were wrong
pub was_wrong : {X : Type 0} (found : Option X) (P : Type 0) → is_some found ≡ false → IfNone found P → P
was_wrong (Some x) P e h = absurd cc
was_wrong None P e h = h

-- but not those of no calls
pub never_none : {X : Type 0} (found : Option X) (P : Type 0) (rule : PlaceRule) (t : Plain) (calls : List Timed) (n : ℕ) → n ≡ 0
    → IfNone found (AreWrong rule t (without_times (take n calls))) → IfNone found P
never_none (Some x) P rule t calls n e h = tt
never_none None P rule t calls n e h = absurd (none_wrong rule t calls n e h)

-- where fewer are tried, those of all were wrong
pub still_wrong : (rule : PlaceRule) (t : Plain) (calls : List Timed) (n m : ℕ) → (n ≡ m) ⊎ AreWrong rule t (without_times (take m calls))
    → AreWrong rule t (without_times (take n calls)) → AreWrong rule t (without_times (take m calls))
still_wrong rule t calls n m (inl e) h = subst (λ (k : ℕ). AreWrong rule t (without_times (take k calls))) e h
still_wrong rule t calls n m (inr was) h = was
