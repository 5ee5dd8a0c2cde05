-- What is kept of lines.
use Rattle.std.proofs.Common.{◌≡◌, ℕ, zero, suc, ◌+◌, ◌-◌, ◌<◌, ◌≤◌, Bool, true, false, List, [], ◌∷◌, ◌++◌, All, length, take, drop, get_or, map}
use Rattle.std.proofs.Common.{arith, refl, sym, ap, ◌∙◌, subst, length-append, append-nil}
use Rattle.std.specs.Prelude.{if◌then◌else◌}
use Rattle.std.specs.Str.{bytes_eq}
use Rattle.std.proofs.Math.ListN.{get_or-append}
use Rattle.std.proofs.Math.Seq.{drop-append_seam}
use Rattle.std.proofs.lemmas.List.{drop-append-le, get_or-map, length-drop, map_push, take-append-le, take_all}
use Rattle.std.proofs.lemmas.List.Elements.{All-append}
use Rattle.std.proofs.lemmas.Slice.Eq.{bytes_eq-Decides}
use Rattle.vm_base.specs.declared.rights.Prot.{Prot}
use Rattle.vm_base.specs.declared.requests.Flags.{Flags}
use Rattle.import_forms.specs.Speech.{Spoken}
use Rattle.import_forms.specs.declared.said.Said.{Said}
use Rattle.import_lines.specs.Joining.{speech_at}
use Rattle.import_lines.specs.Lines.{AreKept, IsEntry, IsNamed, IsPlace, Kept, entry_kept, is_within, kept_at, kept_by, kept_text, line_kept}
use Rattle.import_lines.specs.Lines.{no_entry, seldom_of}
use Rattle.import_steps.specs.Taking.{last_name, with_name}
use Rattle.import_lines.specs.declared.lines.Entry.{Entry}
use Rattle.import_lines.specs.declared.lines.Kind.{Kind}
use Rattle.import_lines.specs.declared.lines.Kind.TheVariants.{Pages, Unmap, Protect, Breaks, Clears, Ends, Fails, Unread, Other, Rare}
use Rattle.import_maps.specs.declared.names.Name.{Name}
use Rattle.import_lines.specs.declared.rares.Seldom.{Seldom}

pub map_long : {X Y : Type 0} (f : X → Y) (xs : List X) → length xs ≡ length (map f xs)
map_long f [] = refl
map_long f (x ∷ xs) = let h = map_long f xs in omega (arith, h)

all_one : {X : Type 0} (P : X → Type 0) (x : X) → P x → All P (x ∷ [])
all_one P x p zero d lt = p
all_one P x p (suc k) d lt = absurd (omega (arith, lt))

all_push : {X : Type 0} (P : X → Type 0) (xs : List X) (x : X) → All P xs → P x → All P (xs ++ x ∷ [])
all_push P xs x h p = All-append P xs (x ∷ []) h (all_one P x p)

all_more : {X : Type 0} (P Q : X → Type 0) (xs : List X) → ((x : X) → P x → Q x) → All P xs → All Q xs
all_more P Q xs f h = λ k d lt. f (get_or xs k d) (h k d lt)

-- where P holds of each, f and g say the same
map_same : {X Y : Type 0} (f g : X → Y) (P : X → Type 0) (xs : List X) → ((x : X) → P x → f x ≡ g x) → All P xs → map f xs ≡ map g xs
map_same f g P [] h all = refl
map_same f g P (x ∷ xs) h all =
    ap (λ y. y ∷ map f xs) (h x (all 0 x (omega arith))) ∙ ap (λ l. g x ∷ l) (map_same f g P xs h (λ k d lt. all (suc k) d (omega (arith, lt))))

-- ---- names

abbrev more_by : Bool → List ℕ → List ℕ
more_by b name = if b then [] else name

longer_by : (b : Bool) (texts name : List ℕ) → (if b then texts else texts ++ name) ≡ texts ++ more_by b name
longer_by true texts name = sym (append-nil texts)
longer_by false texts name = refl

longer : (texts name : List ℕ) → with_name texts name ≡ texts ++ more_by (bytes_eq (drop (length texts - length name) texts) name) name
longer texts name = longer_by _ texts name

slice_more : (texts more : List ℕ) (s : Seldom) → IsNamed texts s → seldom_of (texts ++ more) s ≡ seldom_of texts s
slice_more texts more s p =
    let from : s.name.from ≤ length texts = omega (arith, p) in
    let size = length-drop s.name.from texts in
    let cut : take s.name.len (drop s.name.from (texts ++ more)) ≡ take s.name.len (drop s.name.from texts) =
    ap (take s.name.len) (drop-append-le s.name.from texts more from) ∙ take-append-le s.name.len (drop s.name.from texts) more (omega (arith, p, size)) in
    ap (λ n. record { half = s.half; said = s.said; name = n }) cut

named_more : (texts more : List ℕ) (s : Seldom) → IsNamed texts s → IsNamed (texts ++ more) s
named_more texts more s p = omega (arith, p, length-append texts more)

-- the others are as they were
pub seldom_same : (texts name : List ℕ) (list : List Seldom) → All (IsNamed texts) list → map (seldom_of (with_name texts name)) list ≡ map (seldom_of texts) list
seldom_same texts name list h =
    ap (λ t. map (seldom_of t) list) (longer texts name) ∙ map_same _ _ (IsNamed texts) list (slice_more texts (more_by (bytes_eq (drop (length texts - length name) texts) name) name)) h

pub seldom_named : (texts name : List ℕ) (list : List Seldom) → All (IsNamed texts) list → All (IsNamed (with_name texts name)) list
seldom_named texts name list h =
    subst (λ t. All (IsNamed t) list) (sym (longer texts name)) (all_more (IsNamed texts) (IsNamed (texts ++ more_by (bytes_eq (drop (length texts - length name) texts) name) name)) list (named_more texts (more_by (bytes_eq (drop (length texts - length name) texts) name) name)) h)

last_by : (b : Bool) (texts name : List ℕ) → bytes_eq (drop (length texts - length name) texts) name ≡ b
    → let ns : List ℕ = if b then texts else texts ++ name in drop (length ns - length name) ns ≡ name
last_by true texts name e = (bytes_eq-Decides (drop (length texts - length name) texts) name).0 e
last_by false texts name e =
    let size : length (texts ++ name) - length name ≡ length texts = omega (arith, length-append texts name) in
    ap (λ k. drop k (texts ++ name)) size ∙ drop-append_seam texts name

last_shown : (texts name : List ℕ) → let ns = with_name texts name in take (length name) (drop (length ns - length name) ns) ≡ name
last_shown texts name = ap (take (length name)) (last_by _ texts name refl) ∙ take_all (length name) name (omega arith)

last_long : (texts name : List ℕ) → let ns = with_name texts name in length name ≤ length ns
last_long texts name = by (bytes_eq (drop (length texts - length name) texts) name) refl
  where
    by : (b : Bool) → bytes_eq (drop (length texts - length name) texts) name ≡ b → length name ≤ length (if b then texts else texts ++ name)
    by true e =
        let same = ap length ((bytes_eq-Decides (drop (length texts - length name) texts) name).0 e) in
        omega (arith, same, length-drop (length texts - length name) texts)
    by false e = omega (arith, length-append texts name)

abbrev pub shown_by : Bool → Said → Name → Seldom
shown_by half said name = record { half = half; said = said; name = name }

abbrev pub last_seldom : List ℕ → Bool → Said → List ℕ → Seldom
last_seldom ns half said name = record { half = half; said = said; name = last_name ns name }

-- one more is there
pub seldom_push : (texts name : List ℕ) (list : List Seldom) (half : Bool) (said : Said) → All (IsNamed texts) list
    → map (seldom_of (with_name texts name)) (list ++ last_seldom (with_name texts name) half said name ∷ [])
    ≡ map (seldom_of texts) list ++ record { half = half; said = said; name = name } ∷ []
seldom_push texts name list half said h =
    let ns = with_name texts name in
    map_push (seldom_of ns) list (last_seldom ns half said name)
    ∙ ap (λ l. l ++ seldom_of ns (last_seldom ns half said name) ∷ []) (seldom_same texts name list h)
    ∙ ap (λ n. map (seldom_of texts) list ++ record { half = half; said = said; name = n } ∷ []) (last_shown texts name)

pub seldom_pushed : (texts name : List ℕ) (list : List Seldom) (half : Bool) (said : Said) → All (IsNamed texts) list
    → All (IsNamed (with_name texts name)) (list ++ last_seldom (with_name texts name) half said name ∷ [])
seldom_pushed texts name list half said h =
    let ns = with_name texts name in
    let fits : IsNamed ns (last_seldom ns half said name) = (let size = last_long texts name in omega (arith, size)) in
    all_push (IsNamed ns) list (last_seldom ns half said name) (seldom_named texts name list h) fits

-- ---- entries

pub kept_more : (k : Kind) (first second : ℕ) (prot : Prot) (flags : Flags) (rares : List Kept) (r : Kept) → is_within (length rares) k first
    → kept_by k first second prot flags (rares ++ r ∷ []) ≡ kept_by k first second prot flags rares
kept_more Pages first second prot flags rares r p = refl
kept_more Unmap first second prot flags rares r p = refl
kept_more Protect first second prot flags rares r p = refl
kept_more Breaks first second prot flags rares r p = refl
kept_more Clears first second prot flags rares r p = refl
kept_more Ends first second prot flags rares r p = refl
kept_more Fails first second prot flags rares r p = refl
kept_more Unread first second prot flags rares r p = refl
kept_more Other first second prot flags rares r p = refl
kept_more Rare first second prot flags rares r p = get_or-append rares (r ∷ []) _ first p

within_more : (k : Kind) (first size : ℕ) → is_within size k first → is_within (size + 1) k first
within_more Pages first size p = tt
within_more Unmap first size p = tt
within_more Protect first size p = tt
within_more Breaks first size p = tt
within_more Clears first size p = tt
within_more Ends first size p = tt
within_more Fails first size p = tt
within_more Unread first size p = tt
within_more Other first size p = tt
within_more Rare first size p = omega (arith, p)

abbrev fits : List Kept → Entry → Type 0
fits rares e = is_within (length rares) e.kind e.first

-- what few lines say is more, and the others stay
pub others_stay : (said : List Spoken) (rares : List Kept) (r : Kept) (entries : List Entry) (order : List ℕ) → AreKept said rares entries order
    → AreKept said (rares ++ r ∷ []) entries order
others_stay said rares r entries order h =
    let size : length (rares ++ r ∷ []) ≡ length rares + 1 = omega (arith, length-append rares (r ∷ [])) in
    record {
      same =
          map_same (kept_at (rares ++ r ∷ []) entries) (kept_at rares entries) (λ k. k < length entries) order
          (λ k p.
          let e = get_or entries k no_entry in
          ap (λ x. (e.thread, x)) (kept_more e.kind e.first e.second e.prot e.flags rares r (h.within k no_entry p))) h.places ∙ h.same;
      within = all_more (fits rares) (fits (rares ++ r ∷ [])) entries
          (λ e p. subst (λ n. is_within n e.kind e.first) (sym size) (within_more e.kind e.first (length rares) p)) h.within;
      places = h.places;
    }

-- an entry is more, and the others stay
pub entries_stay : (said : List Spoken) (rares : List Kept) (entries : List Entry) (e : Entry) (order : List ℕ) → AreKept said rares entries order
    → is_within (length rares) e.kind e.first → AreKept said rares (entries ++ e ∷ []) order
entries_stay said rares entries e order h p =
    let size = length-append entries (e ∷ []) in
    record {
      same = map_same (kept_at rares (entries ++ e ∷ [])) (kept_at rares entries) (λ k. k < length entries) order
          (λ k q. ap (entry_kept rares) (get_or-append entries (e ∷ []) no_entry k q)) h.places ∙ h.same;
      within = all_push (fits rares) entries e h.within p;
      places = all_more (λ k. k < length entries) (λ k. k < length (entries ++ e ∷ [])) order (λ k q. omega (arith, q, size)) h.places;
    }

last_entry : (xs : List Entry) (x : Entry) → get_or (xs ++ x ∷ []) (length xs) no_entry ≡ x
last_entry [] x = refl
last_entry (y ∷ ys) x = last_entry ys x

-- a new entry stands behind all
pub last_place : (thread : ℕ) (kept : Kept) (rares : List Kept) (entries : List Entry) (e : Entry) (k : ℕ) → k ≡ length entries
    → IsEntry thread kept rares e → IsPlace thread kept rares (entries ++ e ∷ []) k
last_place thread kept rares entries e k at is = record {
  low = omega (arith, at, length-append entries (e ∷ []));
  same = ap (λ n. kept_at rares (entries ++ e ∷ []) n) at ∙ ap (entry_kept rares) (last_entry entries e) ∙ is.same;
}

-- one more line
pub order_push : (said : List Spoken) (rares : List Kept) (entries : List Entry) (order : List ℕ) (k : ℕ) (s : Spoken) → AreKept said rares entries order
    → IsPlace s.0 (kept_text s.1) rares entries k → AreKept (said ++ s ∷ []) rares entries (order ++ k ∷ [])
order_push said rares entries order k s h is = record {
  same =
      map_push (kept_at rares entries) order k ∙ ap (λ l. l ++ kept_at rares entries k ∷ []) h.same
      ∙ ap (λ x. map line_kept said ++ x ∷ []) is.same ∙ sym (map_push line_kept said s);
  within = h.within;
  places = all_push (λ n. n < length entries) order k h.places is.low;
}

pub lines_long : (said : List Spoken) (rares : List Kept) (entries : List Entry) (order : List ℕ) → AreKept said rares entries order → length order ≡ length said
lines_long said rares entries order h = map_long (kept_at rares entries) order ∙ ap length h.same ∙ sym (map_long line_kept said)

-- the line with this entry
line_at : (said : List Spoken) (rares : List Kept) (entries : List Entry) (order : List ℕ) (k d : ℕ) → k < length order → AreKept said rares entries order
    → kept_at rares entries (get_or order k d) ≡ line_kept (speech_at said k)
line_at said rares entries order k d p h =
    let low : k < length said = subst (λ n. k < n) (lines_long said rares entries order h) p in
    sym (get_or-map (kept_at rares entries) order k d (kept_at rares entries d) p)
    ∙ ap (λ l. get_or l k (kept_at rares entries d)) h.same
    ∙ get_or-map line_kept said k (0, []) (kept_at rares entries d) low

same_entry : (xs : List Entry) (k : ℕ) (d e : Entry) → k < length xs → get_or xs k d ≡ get_or xs k e
same_entry [] k d e p = absurd (omega arith)
same_entry (x ∷ xs) zero d e p = refl
same_entry (x ∷ xs) (suc k) d e p = same_entry xs k d e (omega arith)

pub line_known : (said all : List Spoken) (rares : List Kept) (entries : List Entry) (order : List ℕ) (k i : ℕ) (e : Entry) → AreKept said rares entries order
    → said ≡ all → k < length all → i ≡ get_or order k i → e ≡ get_or entries i e → entry_kept rares e ≡ line_kept (speech_at all k)
line_known said all rares entries order k i e h same p hi he =
    let low : k < length order = omega (arith, p, lines_long said rares entries order h, ap length same) in
    let here : i < length entries = subst (λ n. n < length entries) (sym hi) (h.places k i low) in
    ap (entry_kept rares) (he ∙ same_entry entries i e no_entry here) ∙ ap (kept_at rares entries) hi
    ∙ line_at said rares entries order k i low h ∙ ap (λ l. line_kept (speech_at l k)) same
