-- Which frames pages, and pages of files, have, once some were given back or taken
use Rattle.slot_lock.proofs.Words.{◌≡◌, ◌≢◌, ℕ, ◌+◌, ◌-◌, ◌<◌, ◌≤◌, ◌⊎◌, inl, inr, ⊎_elim, Bool, true, false, cond, List, [], ◌∷◌, Option, Some, None, refl}
use Rattle.slot_lock.proofs.Words.{sym, ◌∙◌, ap, subst, arith, cases_lt, fun_ext, Meta, PageInfo, Prot, PageRange, put, has, advance, frame_of}
use Rattle.slot_lock.proofs.Words.{info_with_prot, unused, by_test, eq_false, eq_true, has_in, in_has, put_other}
use Rattle.std.specs.Prelude.{◌==◌, ◌||◌}
use Rattle.std.specs.List.{list_any}
use Rattle.vm_base.specs.Info.{info_without_frame}
use Rattle.vm_base.proofs.Functions.{over_all, across_all}
use Rattle.slot_lock.specs.declared.plan.Change.{Change}
use Rattle.slot_lock.specs.declared.plan.Change.TheVariants.{Put, Clear, Protect}
use Rattle.slot_lock.specs.Plan.{range_of}
use Rattle.slot_lock.specs.Changes.{changed}
use Rattle.slot_lock.specs.declared.framed.Framed.{Framed}
use Rattle.slot_lock.specs.Framed.{ListsFrames, frames_in}
use Rattle.slot_lock.specs.Slots.{Slots, cleared, with_info}
use Rattle.frames.specs.Parts.{FrameParts, free_frames}
use Rattle.audit.specs.Keeping.{IsKept, Keeps, AreTaken, freed, frame_at, frame_lost, none_cached}

-- ---- fewer frames

kept_fewer : (frame other : Option ℕ → ℕ → Option ℕ) (f : FrameParts) → ((o : Option ℕ) (p x : ℕ) → other o p ≡ Some x → frame o p ≡ Some x)
    → IsKept frame f → IsKept other f
kept_fewer frame other f fewer k = record {
  taken = λ o p x e. k.taken o p x (fewer o p x e);
  one = λ o a p q x e h. k.one o a p q x (fewer o p x e) (fewer a q x h);
}

pub kept_pages : (s t : Slots) (cached : ℕ → ℕ → Option ℕ) (f : FrameParts)
    → ((p x : ℕ) → frame_of (t.info p) ≡ Some x → frame_of (s.info p) ≡ Some x) → Keeps s cached f → Keeps t cached f
kept_pages s t cached f fewer k = kept_fewer (frame_at (frames_in s) cached) (frame_at (frames_in t) cached) f by k
  where
    by : (o : Option ℕ) (p x : ℕ) → frame_at (frames_in t) cached o p ≡ Some x → frame_at (frames_in s) cached o p ≡ Some x
    by None p x e = fewer p x e
    by (Some n) p x e = e

pub kept_same : (s t : Slots) (cached : ℕ → ℕ → Option ℕ) (f : FrameParts) → t.info ≡ s.info → Keeps s cached f → Keeps t cached f
kept_same s t cached f e = kept_pages s t cached f (λ p x h. ap (λ (i : ℕ → Option PageInfo). frame_of (i p)) (sym e) ∙ h)

-- the pages' frames alone
pub kept_none : (s : Slots) (cached : ℕ → ℕ → Option ℕ) (f : FrameParts) → Keeps s cached f → Keeps s none_cached f
kept_none s cached f k = kept_fewer (frame_at (frames_in s) cached) (frame_at (frames_in s) none_cached) f by k
  where
    by : (o : Option ℕ) (p x : ℕ) → frame_at (frames_in s) none_cached o p ≡ Some x → frame_at (frames_in s) cached o p ≡ Some x
    by None p x e = e
    by (Some n) p x e = absurd cc

same_frame : (prot : Prot) (o : Option PageInfo) → frame_of (info_with_prot prot o) ≡ frame_of o
same_frame prot None = refl
same_frame prot (Some info) = refl

never : {X : Type 0} (x : ℕ) → ◌≡◌ {A = Option ℕ} None (Some x) → X
never x h = absurd cc

changed_fewer : (s : Slots) (c : Change) (p x : ℕ) → frame_of ((changed s c).info p) ≡ Some x → frame_of (s.info p) ≡ Some x
changed_fewer s (Put range meta) p x =
    across_all (λ j (o : Option PageInfo). frame_of o ≡ Some x → frame_of (s.info j) ≡ Some x) s.info (has range)
    (λ j. Some (unused (advance meta (j - range.first)))) (λ j e h. never x h) (λ j e h. h) p
changed_fewer s (Clear range) p x =
    over_all (λ j (o : Option PageInfo). frame_of o ≡ Some x → frame_of (s.info j) ≡ Some x) s.info (has range) None (λ j e h. never x h)
    (λ j e h. h) p
changed_fewer s (Protect range prot) p x =
    across_all (λ j (o : Option PageInfo). frame_of o ≡ Some x → frame_of (s.info j) ≡ Some x) s.info (has range)
    (λ j. info_with_prot prot (s.info j)) (λ j e h. sym (same_frame prot (s.info j)) ∙ h) (λ j e h. h) p

pub kept_changed : (s t : Slots) (c : Change) (cached : ℕ → ℕ → Option ℕ) (f : FrameParts) → t.info ≡ (changed s c).info → Keeps s cached f
    → Keeps t cached f
kept_changed s t c cached f e =
    kept_pages s t cached f (λ p x h. changed_fewer s c p x (ap (λ (i : ℕ → Option PageInfo). frame_of (i p)) (sym e) ∙ h))

-- ---- a page's frame that is given back

no_frame : (o : Option PageInfo) → frame_of (info_without_frame o) ≡ None
no_frame None = refl
no_frame (Some info) = refl

abbrev without : Slots → ℕ → Slots
without s page = with_info s page (info_without_frame (s.info page))

given : (s : Slots) (cached : ℕ → ℕ → Option ℕ) (f g : FrameParts) (page x : ℕ) → frame_of (s.info page) ≡ Some x
    → free_frames g ≡ put (free_frames f) x true → g.count ≡ f.count → Keeps s cached f → Keeps (without s page) cached g
given s cached f g page x at free count k = record {
  taken = λ o p y e.
      let before = had o p y e in
      let was = k.taken o p y before.0 in (
        subst (λ n. y < n) (sym count) was.0,
        ap (λ (h : ℕ → Bool). h y) free ∙ (put_other (free_frames f) x true y (other o p y before.0 before.1) ∙ was.1),
      );
  one = λ o a p q y e h. k.one o a p q y (had o p y e).0 (had a q y h).0;
}
  where
    had : (o : Option ℕ) (p y : ℕ) → frame_at (frames_in (without s page)) cached o p ≡ Some y
        → (frame_at (frames_in s) cached o p ≡ Some y) × (o ≡ None → p ≢ page)
    had None p y =
        by_test (λ (i : Option PageInfo). frame_of i ≡ Some y → (frame_of (s.info p) ≡ Some y) × (◌≡◌ {A = Option ℕ} None None → p ≢ page))
        (p == page)
        (info_without_frame (s.info page)) (s.info p)
        (λ e h. let none : frame_of (info_without_frame (s.info page)) ≡ None = no_frame (s.info page) in absurd cc)
        (λ e h. (h, λ same. eq_false p page e))
    had (Some n) p y = λ h. (h, λ same. absurd cc)

    other : (o : Option ℕ) (p y : ℕ) → frame_at (frames_in s) cached o p ≡ Some y → (o ≡ None → p ≢ page) → y ≢ x
    other o p y e apart same =
        let both = k.one o None p page y e (at ∙ ap Some (sym same)) in
        apart both.0 both.1

-- ---- a page that is changed alone

frame_had : (s : Slots) (c : Change) (info : Option PageInfo) (x : ℕ) → info ≡ s.info (range_of c).first → Some x ≡ frame_lost c info
    → frame_of (s.info (range_of c).first) ≡ Some x
frame_had s (Put range meta) info x same lost = ap frame_of (sym same) ∙ sym lost
frame_had s (Clear range) info x same lost = ap frame_of (sym same) ∙ sym lost
frame_had s (Protect range prot) info x same lost = absurd cc

-- the frame that it loses was taken before,
pub lost_taken : (s : Slots) (c : Change) (info : Option PageInfo) (cached : ℕ → ℕ → Option ℕ) (f : FrameParts) (x : ℕ)
    → info ≡ s.info (range_of c).first → Some x ≡ frame_lost c info → Keeps s cached f → (x < f.count) × (free_frames f x ≡ false)
lost_taken s c info cached f x same lost k = k.taken None (range_of c).first x (frame_had s c info x same lost)

gone : (s : Slots) (c : Change) (info : Option PageInfo) (x : ℕ) → (range_of c).end ≡ (range_of c).first + 1 → Some x ≡ frame_lost c info
    → frame_of ((changed s c).info (range_of c).first) ≡ None
gone s (Put range meta) info x one lost =
    across_all (λ j (o : Option PageInfo). j ≡ range.first → frame_of o ≡ None) s.info (has range)
    (λ j. Some (unused (advance meta (j - range.first)))) (λ j e same. refl)
    (λ j e same. let in' : has range j ≡ true = in_has range j (omega (arith, same)) (omega (arith, same, one)) in absurd cc) range.first refl
gone s (Clear range) info x one lost =
    over_all (λ j (o : Option PageInfo). j ≡ range.first → frame_of o ≡ None) s.info (has range) None (λ j e same. refl)
    (λ j e same. let in' : has range j ≡ true = in_has range j (omega (arith, same)) (omega (arith, same, one)) in absurd cc) range.first refl
gone s (Protect range prot) info x one lost = absurd cc

-- and no page has it behind the change
pub kept_alone : (s t : Slots) (c : Change) (info : Option PageInfo) (cached : ℕ → ℕ → Option ℕ) (f g : FrameParts) (x : ℕ)
    → (range_of c).end ≡ (range_of c).first + 1 → info ≡ s.info (range_of c).first → Some x ≡ frame_lost c info
    → free_frames g ≡ put (free_frames f) x true → g.count ≡ f.count → t ≡ changed s c → Keeps s cached f → Keeps t cached g
kept_alone s t c info cached f g x one same lost free count now k =
    kept_pages (without s page) t cached g fewer (given s cached f g page x (frame_had s c info x same lost) free count k)
  where
    page : ℕ
    page = (range_of c).first

    there : (p : ℕ) → (p == page) ≡ true → frame_of ((changed s c).info p) ≡ None
    there p at = ap (λ q. frame_of ((changed s c).info q)) (eq_true p page at) ∙ gone s c info x one lost

    fewer : (p y : ℕ) → frame_of (t.info p) ≡ Some y → frame_of ((without s page).info p) ≡ Some y
    fewer p y e =
        let was : frame_of ((changed s c).info p) ≡ Some y = ap (λ (u : Slots). frame_of (u.info p)) (sym now) ∙ e in
        by_test (λ (i : Option PageInfo). frame_of i ≡ Some y) (p == page) (info_without_frame (s.info page)) (s.info p)
        (λ at. let none : frame_of ((changed s c).info p) ≡ None = there p at in absurd cc)
        (λ apart. changed_fewer s c p y was)

-- ---- frames of a list that are given back

-- the first is given back, and then the others
pub freed_more : (x : Framed) (xs : List Framed) (free : ℕ → Bool) → freed xs (put free x.frame true) ≡ freed (x ∷ xs) free
freed_more x xs free = fun_ext (λ y. by (list_any (λ (z : Framed). y == z.frame) xs) (y == x.frame) (free y))
  where
    by : (others here was : Bool) → (others || cond here true was) ≡ ((here || others) || was)
    by true true was = refl
    by true false was = refl
    by false true was = refl
    by false false was = refl

-- a frame that no page of a range has is free afterwards just where it was before
still_free : (frame : ℕ → Option ℕ) (first end : ℕ) (xs : List Framed) (free : ℕ → Bool) (y : ℕ) → ListsFrames frame first end xs
    → ((p : ℕ) → first ≤ p → p < end → frame p ≢ Some y) → freed xs free y ≡ free y
still_free frame first end [] free y lists none = refl
still_free frame first end (x ∷ xs) free y lists none =
    ap (λ (f : ℕ → Bool). f y) (sym (freed_more x xs free))
    ∙ (still_free frame (x.page + 1) end xs (put free x.frame true) y lists.4 (λ p a b. none p (omega (arith, a, lists.0)) b)
    ∙ put_other free x.frame true y (λ same. none x.page lists.0 lists.1 (lists.3 ∙ ap Some (sym same))))

-- frames of pages are taken, each once, where pages from the first on have just taken ones, and no two the same
taken_each : (frame : ℕ → Option ℕ) (first end : ℕ) (xs : List Framed) (count : ℕ) (free : ℕ → Bool)
    → ((p y : ℕ) → first ≤ p → frame p ≡ Some y → (y < count) × (free y ≡ false))
    → ((p q y : ℕ) → first ≤ p → first ≤ q → frame p ≡ Some y → frame q ≡ Some y → p ≡ q)
    → ListsFrames frame first end xs → AreTaken xs count free
taken_each frame first end [] count free taken one lists = tt
taken_each frame first end (x ∷ xs) count free taken one lists =
    let here = taken x.page x.frame lists.0 lists.3 in (
      here.0,
      here.1,
      taken_each frame (x.page + 1) end xs count (put free x.frame true)
          (λ p y a e.
          let low : first ≤ p = omega (arith, a, lists.0) in
          let was = taken p y low e in
          let apart : y ≢ x.frame = λ same.
          let clash : p ≡ x.page = one p x.page y low lists.0 e (lists.3 ∙ ap Some (sym same)) in absurd (omega (arith, a, clash)) in
          (was.0, put_other free x.frame true y apart ∙ was.1))
          (λ p q y a b e h. one p q y (omega (arith, a, lists.0)) (omega (arith, b, lists.0)) e h) lists.4,
    )

-- the pages of a range before one
abbrev pub upto : PageRange → ℕ → PageRange
upto range end = record { first = range.first; end = end }

-- what a page behind the range has
behind : (s : Slots) (range : PageRange) (from p : ℕ) → from ≤ p → (cleared s (upto range from)).info p ≡ s.info p
behind s range from p low = by_test (λ o. o ≡ s.info p) (has (upto range from) p) None (s.info p)
    (λ e. let in' = has_in (upto range from) p e in absurd (omega (arith, in'.1, low))) (λ e. refl)

-- the frames that are listed next are taken
pub listed_taken : (s : Slots) (range : PageRange) (from end : ℕ) (xs : List Framed) (f : FrameParts)
    → Keeps (cleared s (upto range from)) none_cached f → ListsFrames (frames_in s) from end xs → AreTaken xs f.count (free_frames f)
listed_taken s range from end xs f k lists =
    taken_each (frames_in s) from end xs f.count (free_frames f) (λ p y a e. k.taken None p y (had p y a e))
    (λ p q y a b e h. (k.one None None p q y (had p y a e) (had q y b h)).1) lists
  where
    had : (p y : ℕ) → from ≤ p → frame_of (s.info p) ≡ Some y → frame_of ((cleared s (upto range from)).info p) ≡ Some y
    had p y a e = ap frame_of (behind s range from p a) ∙ e

-- and what is left is kept once they are given back
pub kept_listed : (s : Slots) (range : PageRange) (cached : ℕ → ℕ → Option ℕ) (from end : ℕ) (xs : List Framed) (f g : FrameParts)
    → range.first ≤ from → from ≤ end → ListsFrames (frames_in s) from end xs → free_frames g ≡ freed xs (free_frames f) → g.count ≡ f.count
    → Keeps (cleared s (upto range from)) cached f → Keeps (cleared s (upto range end)) cached g
kept_listed s range cached from end xs f g low high lists free count k = record {
  taken = λ o p y e.
      let was = k.taken o p y (had o p y e) in (
        subst (λ n. y < n) (sym count) was.0,
        ap (λ (h : ℕ → Bool). h y) free
            ∙ (still_free (frames_in s) from end xs (free_frames f) y lists (λ q a b h. other o p y e q a b h) ∙ was.1),
      );
  one = λ o a p q y e h. k.one o a p q y (had o p y e) (had a q y h);
}
  where
    apart : (p : ℕ) → has (upto range end) p ≡ false → (p < range.first) ⊎ (end ≤ p)
    apart p e = ⊎_elim (λ (l : p < range.first). inl l)
        (λ (l : range.first ≤ p). ⊎_elim
        (λ (m : p < end). let both : has (upto range end) p ≡ true = in_has (upto range end) p l m in absurd cc)
        (λ (m : end ≤ p). inr m) (cases_lt p end))
        (cases_lt p range.first)

    fewer : (p y : ℕ) → frame_of ((cleared s (upto range end)).info p) ≡ Some y
        → (frame_of ((cleared s (upto range from)).info p) ≡ Some y) × ((p < range.first) ⊎ (end ≤ p))
    fewer p y = by_test
        (λ (i : Option PageInfo). frame_of i ≡ Some y
        → (frame_of ((cleared s (upto range from)).info p) ≡ Some y) × ((p < range.first) ⊎ (end ≤ p)))
        (has (upto range end) p) None (s.info p) (λ e h. never y h)
        (λ e h. (
          by_test (λ (i : Option PageInfo). frame_of i ≡ Some y) (has (upto range from) p) None (s.info p)
              (λ a. let in' = has_in (upto range from) p a in
              let both : has (upto range end) p ≡ true = in_has (upto range end) p in'.0 (omega (arith, in'.1, high)) in absurd cc)
              (λ a. h),
          apart p e,
        ))

    had : (o : Option ℕ) (p y : ℕ) → frame_at (frames_in (cleared s (upto range end))) cached o p ≡ Some y
        → frame_at (frames_in (cleared s (upto range from))) cached o p ≡ Some y
    had None p y e = (fewer p y e).0
    had (Some n) p y e = e

    other : (o : Option ℕ) (p y : ℕ) → frame_at (frames_in (cleared s (upto range end))) cached o p ≡ Some y → (q : ℕ) → from ≤ q → q < end
        → frame_of (s.info q) ≢ Some y
    other None p y e q a b h =
        let same : p ≡ q = (k.one None None p q y (had None p y e) (ap frame_of (behind s range from q a) ∙ h)).1 in
        ⊎_elim (λ (l : p < range.first). absurd (omega (arith, l, same, low, a))) (λ (l : end ≤ p). absurd (omega (arith, l, same, b)))
        (fewer p y e).1
    other (Some n) p y e q a b h =
        let same : Some n ≡ None = (k.one (Some n) None p q y e (ap frame_of (behind s range from q a) ∙ h)).0 in absurd cc

-- unmapped pages have none
pub kept_cleared : (s : Slots) (range : PageRange) (cached : ℕ → ℕ → Option ℕ) (f : FrameParts) → Keeps s cached f
    → Keeps (cleared s range) cached f
kept_cleared s range cached f = kept_changed s (cleared s range) (Clear range) cached f refl

-- pages that are mapped anew have no frame either
pub kept_put : (s t : Slots) (range : PageRange) (meta : Meta) (cached : ℕ → ℕ → Option ℕ) (f : FrameParts)
    → t.info ≡ (changed s (Put range meta)).info → Keeps (cleared s range) cached f → Keeps t cached f
kept_put s t range meta cached f same = kept_pages (cleared s range) t cached f
    (λ p x e. fewer p x (has range p) (ap (λ (i : ℕ → Option PageInfo). frame_of (i p)) (sym same) ∙ e))
  where
    fewer : (p x : ℕ) (b : Bool) → frame_of (cond b (Some (unused (advance meta (p - range.first)))) (s.info p)) ≡ Some x
        → frame_of (cond b None (s.info p)) ≡ Some x
    fewer p x true e = never x e
    fewer p x false e = e

-- ---- a frame that is taken

put_false : (free : ℕ → Bool) (x y : ℕ) → free y ≡ false → put free x false y ≡ false
put_false free x y e = by_test (λ b. b ≡ false) (y == x) false (free y) (λ h. refl) (λ h. e)

put_here : (free : ℕ → Bool) (x : ℕ) → put free x false x ≡ false
put_here free x = by_test (λ b. b ≡ false) (x == x) false (free x) (λ h. refl) (λ h. absurd (eq_false x x h refl))

pub kept_gained : (frame other : Option ℕ → ℕ → Option ℕ) (f g : FrameParts) (a : Option ℕ) (q x : ℕ) → free_frames f x ≡ true → x < f.count
    → free_frames g ≡ put (free_frames f) x false → g.count ≡ f.count
    → ((o : Option ℕ) (p y : ℕ) → other o p ≡ Some y → (frame o p ≡ Some y) ⊎ ((o ≡ a) × (p ≡ q) × (y ≡ x)))
    → IsKept frame f → IsKept other g
kept_gained frame other f g a q x was within free count gains k = record {
  taken = λ o p y e. taken o p y (gains o p y e);
  one = λ o b p r y e h. one o b p r y (gains o p y e) (gains b r y h);
}
  where
    taken : (o : Option ℕ) (p y : ℕ) → (frame o p ≡ Some y) ⊎ ((o ≡ a) × (p ≡ q) × (y ≡ x)) → (y < g.count) × (free_frames g y ≡ false)
    taken o p y (inl e) =
        let t = k.taken o p y e in
        (subst (λ n. y < n) (sym count) t.0, ap (λ (h : ℕ → Bool). h y) free ∙ put_false (free_frames f) x y t.1)
    taken o p y (inr e) = subst (λ z. (z < g.count) × (free_frames g z ≡ false)) (sym e.2)
        (subst (λ n. x < n) (sym count) within, ap (λ (h : ℕ → Bool). h x) free ∙ put_here (free_frames f) x)

    clash : (o : Option ℕ) (p y : ℕ) → frame o p ≡ Some y → y ≡ x → ⊥
    clash o p y e same = let t = (k.taken o p y e).1 in let z : free_frames f y ≡ true = ap (free_frames f) same ∙ was in absurd cc

    one : (o b : Option ℕ) (p r y : ℕ) → (frame o p ≡ Some y) ⊎ ((o ≡ a) × (p ≡ q) × (y ≡ x))
        → (frame b r ≡ Some y) ⊎ ((b ≡ a) × (r ≡ q) × (y ≡ x)) → (o ≡ b) × (p ≡ r)
    one o b p r y (inl e) (inl h) = k.one o b p r y e h
    one o b p r y (inl e) (inr h) = absurd (clash o p y e h.2)
    one o b p r y (inr e) (inl h) = absurd (clash b r y h e.2)
    one o b p r y (inr e) (inr h) = (e.0 ∙ sym h.0, e.1 ∙ sym h.1)
