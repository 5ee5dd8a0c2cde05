-- What takes effect, and what is kept behind it
use Rattle.slot_lock.proofs.Words.{◌≡◌, ◌≢◌, ◌∙◌, ℕ, ◌+◌, Bool, true, cond, List, [], ◌∷◌, ◌++◌, Option, None, Some, IfSome, ap, refl, subst, sym}
use Rattle.slot_lock.proofs.Words.{put, put_same, put_other}
use Rattle.slot_lock.proofs.Words.{PageEntry, Plain}
use Rattle.std.proofs.Common.{slice_get}
use Rattle.std.proofs.lemmas.List.Elements.{All-push}
use Rattle.vm_base.specs.Log.{RepliesBy}
use Rattle.vm_base.specs.Pages.{is_page, offset_of, page_of}
use Rattle.vm_base.specs.Places.{PlaceRule}
use Rattle.audit.specs.Placing.{rule_of}
use Rattle.orders.specs.declared.history.Timed.{Timed}
use Rattle.orders.specs.Orders.{CopiesFor}
use Rattle.loose_orders.specs.declared.keeping.Kept.{Kept}
use Rattle.loose_orders.specs.declared.keeping.Was.{Was}
use Rattle.loose_orders.specs.Kept.{AllKept, HasReplaced, IsKept, IsWas, Olds}
use Rattle.loose_orders.specs.Moved.{CopiesOn, TakesOn}
use Rattle.loose_orders.specs.Loose.{replaced, replaces}

-- ---- what is noted and forgotten

abbrev pub Forgets : ℕ → List Kept → List Kept → Type 0
Forgets call kept left =
    (old new : Olds) → ((other page : ℕ) → other ≢ call → new other page ≡ old other page) → AllKept old kept → AllKept new left

abbrev pub Notes : List Timed → ℕ → Plain → List Kept → List Kept → Type 0
Notes h call t kept more = (old : Olds) → HasReplaced old h call t → AllKept old kept → AllKept old more

pub noted : (h : List Timed) (call : ℕ) (c : Timed) (t : Plain) (kept : List Kept) (page offset : ℕ) (was : Was) → slice_get h call ≡ Some c
    → replaces c.call.request c.call.reply page ≡ true → is_page page ≡ true → IsWas (t.entry page) offset was
    → Notes h call t kept (kept ++ record { call = call; page = page; offset = offset; was = was } ∷ [])
noted h call c t kept page offset was is r valid w old has all =
    All-push (IsKept old) kept (record { call = call; page = page; offset = offset; was = was }) all
    (record { valid = valid; entry = t.entry page; is_old = has c is page r; was = w })

-- what is found of an entry is noted
pub noted_found : (h : List Timed) (call : ℕ) (c : Timed) (t : Plain) (kept more : List Kept) (addr at page offset : ℕ) (is : Bool)
    (found : Option Was) (was : Was)
    → slice_get h call ≡ Some c → at ≡ page_of addr → page ≡ page_of addr → offset ≡ offset_of addr → is ≡ replaces c.call.request c.call.reply at → is ≡ true
    → found ≡ Some was → IfSome found (λ w. is_page (page_of addr) ≡ true) → IfSome found (IsWas (t.entry (page_of addr)) (offset_of addr))
    → more ≡ kept ++ record { call = call; page = page; offset = offset; was = was } ∷ [] → Notes h call t kept more
noted_found h call c t kept more addr at page offset is found was there ea ep eo er does eq valid w added old has all =
    subst (AllKept old) (sym added) (noted h call c t kept page offset was there
    (subst (λ (p : ℕ). replaces c.call.request c.call.reply p ≡ true) (ea ∙ sym ep) (sym er ∙ does))
    (subst (λ (p : ℕ). is_page p ≡ true) (sym ep) (subst (λ (o : Option Was). IfSome o (λ v. is_page (page_of addr) ≡ true)) eq valid))
    (subst (λ (p : ℕ). IsWas (t.entry p) offset was) (sym ep) (subst (λ (i : ℕ). IsWas (t.entry (page_of addr)) i was) (sym eo)
    (subst (λ (o : Option Was). IfSome o (IsWas (t.entry (page_of addr)) (offset_of addr))) eq w))) old has all)

-- ---- one step

others : (old : Olds) (call : ℕ) (f : ℕ → Option (Option PageEntry)) (other page : ℕ) → other ≢ call → put old call f other page ≡ old other page
others old call f other page ne = ap (λ (g : ℕ → Option (Option PageEntry)). g page) (put_other old call f other ne)

pub replies_on : (rule : PlaceRule) (h : List Timed) (t u : Plain) (call : ℕ) (kept left more : List Kept) → Forgets call kept left → Notes h call t left more
    → (c : Timed) → slice_get h call ≡ Some c → RepliesBy rule t c.call.core c.call.request c.call.reply u
    → TakesOn rule h t kept call u more
replies_on rule h t u call kept left more f n c is by s e all =
    let new : Olds = put s.old call (replaced s.plain c.call) in
    let r : RepliesBy rule s.plain c.call.core c.call.request c.call.reply u =
    subst (λ (p : Plain). RepliesBy rule p c.call.core c.call.request c.call.reply u) (sym e) by in (
      record { plain = u; old = new },
      (c, is, r, refl),
      refl,
      n new (has c is) (f s.old new (others s.old call (replaced s.plain c.call)) all),
    )
  where
    has : (c : Timed) → slice_get h call ≡ Some c → HasReplaced (put s.old call (replaced s.plain c.call)) h call t
    has c is d is' page r =
        let both : Some d ≡ Some c = sym is' ∙ is in
        let same : d ≡ c = cc in
        ap (λ (g : ℕ → Option (Option PageEntry)). g page) (put_same s.old call (replaced s.plain c.call))
        ∙ (ap (λ (b : Bool). cond b (Some (s.plain.entry page)) None)
        (subst (λ (x : Timed). replaces x.call.request x.call.reply page ≡ true) same r)
        ∙ ap (λ (p : Plain). Some (p.entry page)) e)

-- the same behind what was noted, by the auditor's rule there
pub replies_from : (any now : Bool) (h : List Timed) (t m u : Plain) (call : ℕ) (kept left more : List Kept) → now ≡ any → m ≡ t → Forgets call kept left
    → Notes h call t left more → (c : Timed) → slice_get h call ≡ Some c → RepliesBy (rule_of now) m c.call.core c.call.request c.call.reply u
    → TakesOn (rule_of any) h t kept call u more
replies_from any now h t m u call kept left more same at f n c is by =
    replies_on (rule_of any) h t u call kept left more f n c is
    (subst (λ (p : Plain). RepliesBy (rule_of any) p c.call.core c.call.request c.call.reply u) at
    (subst (λ (b : Bool). RepliesBy (rule_of b) m c.call.core c.call.request c.call.reply u) same by))

pub copies_on : (h : List Timed) (t u : Plain) (call : ℕ) (kept : List Kept)
    → (c : Timed) → slice_get h call ≡ Some c → CopiesFor t c.call.request u → CopiesOn h t kept call u kept
copies_on h t u call kept c is by s e all =
    let r : CopiesFor s.plain c.call.request u = subst (λ (p : Plain). CopiesFor p c.call.request u) (sym e) by in
    (record { plain = u; old = s.old }, (c, is, r, refl), refl, all)
