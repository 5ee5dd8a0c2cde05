-- Mappings around a page.
use Rattle.std.specs.Prelude.{IfErr, IfOk, Result, Ok, Err}
use Rattle.std.proofs.Common.{◌≡◌, ℕ, ◌^◌, ◌<◌, ◌≤◌, inl, inr, List, [], ◌∷◌, ◌++◌, length, length-append, arith, Option, None, Some, refl, sym, ap, ◌∙◌, subst}
use Rattle.std.proofs.Math.Path.{fun_ext}
use Rattle.vm_base.specs.Plain.{Bytes}
use Rattle.vm_base.specs.Runs.{NoneIn}
use Rattle.vm_base.specs.declared.info.Meta.{Meta}
use Rattle.vm_base.specs.declared.info.PageInfo.{PageInfo}
use Rattle.slot_lock.specs.Slots.{Slots}
use Rattle.frames.specs.Parts.{FrameParts, frame_bytes}
use Rattle.frames.specs.Files.{FileParts}
use Rattle.slot_lock.specs.MapList.{IsNextLine, ListsLines, entry_meta, plain_metas}
use Rattle.slot_lock.proofs.MapLists.{lists_more}
use Rattle.slot_lock.specs.MapWalks.{info_meta, slot_metas}
use Rattle.slot_lock.specs.declared.map_list.MapLine.{MapLine}
use Rattle.audit.specs.Keeping.{entry_kept, plain_kept}
use Rattle.audit_text.specs.Ends.{IsVerdict}
use Rattle.audit_text.specs.Legal.{page_told}
use Rattle.audit_text.specs.Steps.{IsFound, ShowsAround}
use Rattle.audit_text.specs.declared.judging.Verdict.{Verdict}
use Rattle.audit_text.specs.declared.judging.Verdict.TheVariants as Of
use Rattle.vm_base.specs.Plain.{Plain}
use Rattle.audit_text.specs.declared.allowing.Terms.{Terms}
use Rattle.audit_text.specs.Around.{AreBehind, AreNear, IsAround}

pub longer : {X : Type 0} (new old : List X) (x : X) → new ≡ old ++ x ∷ [] → length old < 4 → length new ≤ 4
longer new old x e h = omega (arith, ap length e ∙ length-append old (x ∷ []), h)

-- ---- lines that are shown

-- the lines shown of those up to a page
pub record AreShown (meta : ℕ → Option Meta) (page from : ℕ) (shown : List MapLine) : Type 0 where
  pub first : ℕ
  pub low : first ≤ from
  pub lists : ListsLines meta first from shown
  pub near : AreNear first page shown

all_behind : (page : ℕ) (xs : List MapLine) (y : MapLine) → AreBehind page xs → page < y.range.end → AreBehind page (xs ++ y ∷ [])
all_behind page [] y h b = (b, tt)
all_behind page (x ∷ xs) y h b = (h.0, all_behind page xs y h.1 b)

all_near : (first page : ℕ) (xs : List MapLine) (y : MapLine) → AreNear first page xs → page < y.range.end → AreNear first page (xs ++ y ∷ [])
all_near first page [] y h b = (inl h, tt)
all_near first page (x ∷ xs) y h b = (h.0, all_behind page xs y h.1 b)

-- none is so far
pub shown_none : (meta : ℕ → Option Meta) (page : ℕ) → AreShown meta page 1 []
shown_none meta page = record { first = 1; low = omega arith; lists = λ p a b. absurd (omega arith); near = refl }

-- one that ends at the page or before is shown alone
pub shown_alone : (meta : ℕ → Option Meta) (page from : ℕ) (new : List MapLine) (line : MapLine) → new ≡ line ∷ [] → IsNextLine meta from line
    → line.range.end ≤ page → AreShown meta page line.range.end new
shown_alone meta page from new line e next before = subst (AreShown meta page line.range.end) (sym e) (record {
  first = from;
  low = (let a = next.low in let b = next.is.pages.some in omega arith);
  lists = lists_more meta from from [] line (omega arith) (λ p a b. absurd (omega arith)) next;
  near = (inr before, tt);
})

-- one that ends behind it with those before
pub shown_more : (meta : ℕ → Option Meta) (page from : ℕ) (old new : List MapLine) (line : MapLine) → new ≡ old ++ line ∷ [] → AreShown meta page from old
    → IsNextLine meta from line → page < line.range.end → AreShown meta page line.range.end new
shown_more meta page from old new line e s next behind = subst (AreShown meta page line.range.end) (sym e) (record {
  first = s.first;
  low = (let a = next.low in let b = next.is.pages.some in let l = s.low in omega arith);
  lists = lists_more meta s.first from old line s.low s.lists next;
  near = all_near s.first page old line s.near behind;
})

-- where there is a line some page is mapped
pub line_mapped : (meta : ℕ → Option Meta) (from : ℕ) (line : MapLine) → 1 ≤ from → IsNextLine meta from line → ¬ NoneIn meta 1 (2 ^ 35)
line_mapped meta from line low next none =
    let some = next.is.pages.some in
    let is = next.is.mapped line.range.first (omega arith) some in
    let not = none line.range.first (let a = next.low in omega arith) (let b = next.is.pages.high in omega arith) in
    absurd cc

-- ---- what slots map pages to

meta_kept : (bytes : ℕ → Bytes) (o : Option PageInfo) → info_meta o ≡ entry_meta (entry_kept bytes o)
meta_kept bytes None = refl
meta_kept bytes (Some info) = refl

-- what slots map pages to is what the plain page map does that they keep
pub metas_kept : (s : Slots) (objects : List FileParts) (frames : FrameParts) → slot_metas s ≡ plain_metas (plain_kept s objects frames)
metas_kept s objects frames = fun_ext (λ p. meta_kept (frame_bytes frames) (s.info p))

pub verdict_shown : (terms : Terms) (lines : List (List ℕ)) (verdict : Verdict) (u : Plain) (meta : ℕ → Option Meta) (around : List MapLine)
    → meta ≡ plain_metas u → IsFound terms lines verdict u → ShowsAround meta verdict around → IsVerdict terms lines verdict around
verdict_shown terms lines (Of.Legal calls lacking passed) u meta around e found shown = (found, shown)
verdict_shown terms lines (Of.Illegal line item due) u meta around e found shown = record {
  plain = u;
  wrong = found;
  shown = subst (λ m. IsAround m (page_told item) around) e shown;
}
verdict_shown terms lines (Of.Undecided line item due) u meta around e found shown = record {
  plain = u;
  wrong = found;
  shown = subst (λ m. IsAround m (page_told item) around) e shown;
}

pub ok_by : {T E : Type 0} {P Q : T → Type 0} (r : Result T E) → ((x : T) → P x → Q x) → IfOk r P → IfOk r Q
ok_by (Ok x) f h = f x h
ok_by (Err e) f h = tt

pub err_by : {T E : Type 0} {P Q : E → Type 0} (r : Result T E) → ((e : E) → P e → Q e) → IfErr r P → IfErr r Q
err_by (Ok x) f h = tt
err_by (Err e) f h = f e h
