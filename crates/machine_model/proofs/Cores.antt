-- What holds of one core's tables, TLB and inbox, and what they may come to
use Rattle.machine_model.proofs.Words.{◌≡◌, ◌≢◌, ℕ, inl, inr, ◌⊎◌, Bool, true, false, cond, ◌==◌, refl, sym, ap, subst, ◌∙◌, Some, None, Option, List, [], ◌∷◌}
use Rattle.machine_model.proofs.Words.{◌++◌, if◌then◌else◌, PageInfo, PageRange, put, over, has, is_recorded, by_test, put_all, put_same, put_other, over_all}
use Rattle.machine_model.proofs.Words.{eq_true, Translation, TlbEntry, tlb_without, Message, message_of, posted, asked, remaining, Phase, awaits_in}
use Rattle.machine_model.proofs.Words.{entry_of_page, Hardware}
use Rattle.mmu.specs.Tlb.{tlb_filled}
use Rattle.mmu.specs.declared.message.Took.TheVariants.{Clear, Invalidate}
use Rattle.machine_model.specs.Coherent.{Every, AllowsSome, IsBacked, Mirrors, IsSoundEntry, AreAsked, IsTableClear, IsTlbClear, HasDropped, IsCoherent}
use Rattle.machine_model.proofs.Lists.{every_map, every_both, every_left, every_kept, none_left, every_filled}
use Rattle.machine_model.proofs.Lists.{asked_still, posted_other, posted_own, asked_more}

-- of core d
pub record IsCore (cached : ℕ → ℕ → Option ℕ) (info : ℕ → Option PageInfo) (phase : ℕ → Phase) (d : ℕ) (table : ℕ → Option Translation)
    (tlb : List TlbEntry) (inbox : List Message) : Type 0 where
  pub tables : (p : ℕ) (t : Translation) → table p ≡ Some t → IsBacked cached (info p) d t
  pub tlbs : Every (IsSoundEntry cached info d table inbox) tlb
  pub asked : AreAsked phase d inbox
  pub dropped : (c : ℕ) (range : PageRange) → awaits_in (phase c) ≡ Some range
      → HasDropped table tlb range (message_of inbox c)

pub core_of : {cached : ℕ → ℕ → Option ℕ} {info : ℕ → Option PageInfo} {phase : ℕ → Phase} {h : Hardware} (d : ℕ) → IsCoherent cached info phase h
    → IsCore cached info phase d (h.table d) (h.tlb d) (h.inbox d)
core_of d k = record {
  tables = k.tables d;
  tlbs = k.tlbs d;
  asked = k.asked d;
  dropped = λ c range. k.dropped c d range;
}

pub of_cores : (cached : ℕ → ℕ → Option ℕ) (info : ℕ → Option PageInfo) (phase : ℕ → Phase) (h : Hardware)
    → ((d : ℕ) → IsCore cached info phase d (h.table d) (h.tlb d) (h.inbox d)) → IsCoherent cached info phase h
of_cores cached info phase h k = record {
  tables = λ d. (k d).tables;
  tlbs = λ d. (k d).tlbs;
  asked = λ d. (k d).asked;
  dropped = λ c d range. (k d).dropped c range;
}

-- ---- what is left of a range

-- tables and TLB that have got nothing of it
dropped_still : (table table2 : ℕ → Option Translation) (tlb tlb2 : List TlbEntry) (range : PageRange)
    (o : Option Message) → ((p : ℕ) → has range p ≡ true → table p ≡ None → table2 p ≡ None)
    → (IsTlbClear tlb range → IsTlbClear tlb2 range) → HasDropped table tlb range o → HasDropped table2 tlb2 range o
dropped_still table table2 tlb tlb2 range None less fewer h = (λ p i. less p i (h.0 p i), fewer h.1)
dropped_still table table2 tlb tlb2 range (Some m) less fewer h = λ is p i. less p i (h is p i)

-- tables without the pages of a range have no more than before
cleared_less : (table : ℕ → Option Translation) (range : PageRange) (p : ℕ) → table p ≡ None
    → over table (has range) None p ≡ None
cleared_less table range p h = by_test (λ o. o ≡ None) (has range p) None (table p) (λ i. refl) (λ i. h)

pub cleared_has : (table : ℕ → Option Translation) (range : PageRange)
    → IsTableClear (over table (has range) None) range
cleared_has table range p i = ap (λ b. cond b None (table p)) i

cleared_backed : (cached : ℕ → ℕ → Option ℕ) (info : ℕ → Option PageInfo) (d : ℕ) (table : ℕ → Option Translation) (range : PageRange)
    → ((p : ℕ) (t : Translation) → table p ≡ Some t → IsBacked cached (info p) d t)
    → (p : ℕ) (t : Translation) → over table (has range) None p ≡ Some t → IsBacked cached (info p) d t
cleared_backed cached info d table range h p t =
    over_all (λ q o. o ≡ Some t → IsBacked cached (info q) d t) table (has range) None (λ q i e. absurd cc) (λ q i. h q t) p

-- ---- a TLB's entry

cleared_mirror : (table : ℕ → Option Translation) (m : Message) (ms : List Message) (e : TlbEntry)
    → m.is_cleared ≡ false → Mirrors table (m ∷ ms) e
    → Mirrors (over table (has m.range) None) (record m { is_cleared = true } ∷ ms) e
cleared_mirror table m ms e not_yet h = elim h [
  | inl at ↦ go at (has m.range e.page) refl
  | inr old ↦ absurd (let a = old.0 in cc)
]
  where
    go : table e.page ≡ Some e.translation → (b : Bool) → has m.range e.page ≡ b
        → (over table (has m.range) None e.page ≡ Some e.translation) ⊎ ((true ≡ true) × (has m.range e.page ≡ true))
    go at true i = inr (refl, i)
    go at false i = inl (ap (λ b. cond b None (table e.page)) i ∙ at)

invalidated_mirror : (table : ℕ → Option Translation) (m : Message) (ms : List Message) (e : TlbEntry)
    → has m.range e.page ≡ false → Mirrors table (m ∷ ms) e → Mirrors table ms e
invalidated_mirror table m ms e out h = elim h [
  | inl at ↦ inl at
  | inr old ↦ absurd (let a = old.1 in cc)
]

told_mirror : (table : ℕ → Option Translation) (c : ℕ) (range : PageRange) (ms : List Message) (e : TlbEntry)
    → Mirrors table ms e → Mirrors table (ms ++ posted c range ∷ []) e
told_mirror table c range [] e h = elim h [
  | inl at ↦ inl at
  | inr old ↦ absurd old
]
told_mirror table c range (m ∷ ms) e h = h

shot_mirror : (table : ℕ → Option Translation) (range : PageRange) (ms : List Message) (e : TlbEntry)
    → has range e.page ≡ false → Mirrors table ms e → Mirrors (over table (has range) None) ms e
shot_mirror table range ms e out h = elim h [
  | inl at ↦ inl (ap (λ b. cond b None (table e.page)) out ∙ at)
  | inr old ↦ inr old
]

-- an entry is entered that the page's frame and protection give, as they gave the TLB's
installed_mirror : (cached : ℕ → ℕ → Option ℕ) (info : ℕ → Option PageInfo) (d p : ℕ) (table : ℕ → Option Translation) (ms : List Message)
    (e : TlbEntry) → IsSoundEntry cached info d table ms e → Mirrors (put table p (entry_of_page cached (info p))) ms e
installed_mirror cached info d p table ms e h = go (e.page == p) refl
  where
    go : (b : Bool) → (e.page == p) ≡ b → Mirrors (put table p (entry_of_page cached (info p))) ms e
    go true i = inl (ap (λ b. cond b (entry_of_page cached (info p)) (table e.page)) i
        ∙ ap (λ q. entry_of_page cached (info q)) (sym (eq_true e.page p i)) ∙ h.0.entry)
    go false i = elim h.1 [
      | inl at ↦ inl (ap (λ b. cond b (entry_of_page cached (info p)) (table e.page)) i ∙ at)
      | inr old ↦ inr old
    ]

-- ---- calls and pages

-- a call goes on that awaits nothing then, and has no message here
pub moves_on : {cached : ℕ → ℕ → Option ℕ} {info : ℕ → Option PageInfo} {phase : ℕ → Phase} {d : ℕ} {table : ℕ → Option Translation}
    {tlb : List TlbEntry} {inbox : List Message} (c : ℕ) (new : Phase) → awaits_in new ≡ None
    → message_of inbox c ≡ None → IsCore cached info phase d table tlb inbox → IsCore cached info (put phase c new) d table tlb inbox
moves_on {cached} {info} {phase} {d} {table} {tlb} {inbox} c new none silent k = record {
  tables = k.tables;
  tlbs = k.tlbs;
  asked = asked_still phase c new d inbox silent k.asked;
  dropped = λ x range. put_all (λ x ph. awaits_in ph ≡ Some range → HasDropped table tlb range (message_of inbox x))
      phase c new (λ a. absurd cc) (λ x ne. k.dropped x range) x;
}

-- what backed a translation still does
pub backed_still : {cached : ℕ → ℕ → Option ℕ} {info : ℕ → Option PageInfo} {phase : ℕ → Phase} {d : ℕ} {table : ℕ → Option Translation}
    {tlb : List TlbEntry} {inbox : List Message} (now : ℕ → ℕ → Option ℕ) (info2 : ℕ → Option PageInfo)
    → ((p : ℕ) (t : Translation) → IsBacked cached (info p) d t → IsBacked now (info2 p) d t)
    → IsCore cached info phase d table tlb inbox → IsCore now info2 phase d table tlb inbox
backed_still {cached} {info} {phase} {d} {table} {tlb} {inbox} now info2 f k = record {
  tables = λ p t i. f p t (k.tables p t i);
  tlbs = every_map (IsSoundEntry cached info d table inbox) (IsSoundEntry now info2 d table inbox) tlb
      (λ e h. (f e.page e.translation h.0, h.1)) k.tlbs;
  asked = k.asked;
  dropped = k.dropped;
}

-- pages of a range of which nothing is left here may have anything
pub backed_outside : {cached : ℕ → ℕ → Option ℕ} {info : ℕ → Option PageInfo} {phase : ℕ → Phase} {d : ℕ} {table : ℕ → Option Translation}
    {tlb : List TlbEntry} {inbox : List Message} (info2 : ℕ → Option PageInfo) (range : PageRange)
    → ((p : ℕ) → has range p ≡ false → info2 p ≡ info p) → IsTableClear table range → IsTlbClear tlb range
    → IsCore cached info phase d table tlb inbox → IsCore cached info2 phase d table tlb inbox
backed_outside {cached} {info} {phase} {d} {table} {tlb} {inbox} info2 range same none nothing k = record {
  tables = λ p t i. go p t i (has range p) refl;
  tlbs = every_both (IsSoundEntry cached info d table inbox) (λ e. has range e.page ≡ false)
      (IsSoundEntry cached info2 d table inbox) tlb
      (λ e h out. (subst (λ o. IsBacked cached o d e.translation) (sym (same e.page out)) h.0, h.1)) k.tlbs nothing;
  asked = k.asked;
  dropped = k.dropped;
}
  where
    go : (p : ℕ) (t : Translation) → table p ≡ Some t → (b : Bool) → has range p ≡ b → IsBacked cached (info2 p) d t
    go p t i true at = absurd (let a = none p at in cc)
    go p t i false at = subst (λ o. IsBacked cached o d t) (sym (same p at)) (k.tables p t i)

-- ---- the TLB alone

-- the tables' entry of a page enters it
pub fills : {cached : ℕ → ℕ → Option ℕ} {info : ℕ → Option PageInfo} {phase : ℕ → Phase} {d : ℕ} {table : ℕ → Option Translation}
    {tlb : List TlbEntry} {inbox : List Message} (p : ℕ) (t : Translation) → table p ≡ Some t
    → IsCore cached info phase d table tlb inbox → IsCore cached info phase d table (tlb_filled p t tlb) inbox
fills {cached} {info} {phase} {d} {table} {tlb} {inbox} p t at k = record {
  tables = k.tables;
  tlbs = every_filled (IsSoundEntry cached info d table inbox) p t tlb k.tlbs (k.tables p t at, inl at);
  asked = k.asked;
  dropped = λ c range a. filled range (message_of inbox c) (k.dropped c range a);
}
  where
    out : (range : PageRange) → IsTableClear table range → (b : Bool) → has range p ≡ b → has range p ≡ false
    out range none true i = absurd (let a = none p i in cc)
    out range none false i = i

    filled : (range : PageRange) (o : Option Message) → HasDropped table tlb range o
        → HasDropped table (tlb_filled p t tlb) range o
    filled range None h =
        (h.0, every_filled (λ e. has range e.page ≡ false) p t tlb h.1 (out range h.0 (has range p) refl))
    filled range (Some m) h = h

-- it drops the pages of a set
pub drops : {cached : ℕ → ℕ → Option ℕ} {info : ℕ → Option PageInfo} {phase : ℕ → Phase} {d : ℕ} {table : ℕ → Option Translation}
    {tlb : List TlbEntry} {inbox : List Message} (s : ℕ → Bool) → IsCore cached info phase d table tlb inbox
    → IsCore cached info phase d table (tlb_without s tlb) inbox
drops {cached} {info} {phase} {d} {table} {tlb} {inbox} s k = record {
  tables = k.tables;
  tlbs = every_kept (IsSoundEntry cached info d table inbox) s tlb k.tlbs;
  asked = k.asked;
  dropped = λ c range a. dropped_still table table tlb (tlb_without s tlb) range (message_of inbox c) (λ p i h. h)
      (every_kept (λ e. has range e.page ≡ false) s tlb) (k.dropped c range a);
}

-- ---- the takes

-- the range of the oldest message is what its sender awaits
its_range : (phase : ℕ → Phase) (d : ℕ) (m : Message) (ms : List Message) (c : ℕ) (range : PageRange)
    → AreAsked phase d (m ∷ ms) → awaits_in (phase c) ≡ Some range → m.from ≡ c → m.range ≡ range
its_range phase d m ms c range h a e =
    let b : awaits_in (phase c) ≡ Some m.range = subst (λ x. awaits_in (phase x) ≡ Some m.range) e h.1 in cc

first_take : {cached : ℕ → ℕ → Option ℕ} {info : ℕ → Option PageInfo} {phase : ℕ → Phase} {d : ℕ} {table : ℕ → Option Translation}
    {tlb : List TlbEntry} (m : Message) (ms : List Message) → m.is_cleared ≡ false
    → IsCore cached info phase d table tlb (m ∷ ms)
    → IsCore cached info phase d (over table (has m.range) None) tlb (record m { is_cleared = true } ∷ ms)
first_take {cached} {info} {phase} {d} {table} {tlb} m ms not_yet k = record {
  tables = cleared_backed cached info d table m.range k.tables;
  tlbs = every_map (IsSoundEntry cached info d table (m ∷ ms)) (IsSoundEntry cached info d less (record m { is_cleared = true } ∷ ms))
      tlb (λ e h. (h.0, cleared_mirror table m ms e not_yet h.1)) k.tlbs;
  asked = k.asked;
  dropped = λ c range a. go c range a (m.from == c) refl (k.dropped c range a);
}
  where
    less : ℕ → Option Translation
    less = over table (has m.range) None

    go : (c : ℕ) (range : PageRange) → awaits_in (phase c) ≡ Some range → (b : Bool) → (m.from == c) ≡ b
        → HasDropped table tlb range (if b then Some m else message_of ms c)
        → HasDropped less tlb range (if b then Some (record m { is_cleared = true }) else message_of ms c)
    go c range a true i h = λ is. subst (IsTableClear less)
        (its_range phase d m ms c range k.asked a (eq_true m.from c i)) (cleared_has table m.range)
    go c range a false i h = dropped_still table less tlb tlb range (message_of ms c)
        (λ p j e. cleared_less table m.range p e) (λ n. n) h

second_take : {cached : ℕ → ℕ → Option ℕ} {info : ℕ → Option PageInfo} {phase : ℕ → Phase} {d : ℕ} {table : ℕ → Option Translation}
    {tlb : List TlbEntry} (m : Message) (ms : List Message) → m.is_cleared ≡ true
    → IsCore cached info phase d table tlb (m ∷ ms) → IsCore cached info phase d table (tlb_without (has m.range) tlb) ms
second_take {cached} {info} {phase} {d} {table} {tlb} m ms was k = record {
  tables = k.tables;
  tlbs = every_left (IsSoundEntry cached info d table (m ∷ ms)) (IsSoundEntry cached info d table ms) (has m.range) tlb
      (λ e out h. (h.0, invalidated_mirror table m ms e out h.1)) k.tlbs;
  asked = k.asked.3;
  dropped = λ c range a. go c range a (m.from == c) refl (k.dropped c range a);
}
  where
    less : List TlbEntry
    less = tlb_without (has m.range) tlb

    go : (c : ℕ) (range : PageRange) → awaits_in (phase c) ≡ Some range → (b : Bool) → (m.from == c) ≡ b
        → HasDropped table tlb range (if b then Some m else message_of ms c)
        → HasDropped table less range (message_of ms c)
    go c range a true i h =
        let same : m.from ≡ c = eq_true m.from c i in
        subst (HasDropped table less range) (sym (subst (λ x. message_of ms x ≡ None) same k.asked.2))
        (h was, subst (IsTlbClear less) (its_range phase d m ms c range k.asked a same) (none_left m.range tlb))
    go c range a false i h = dropped_still table table tlb less range (message_of ms c) (λ p j e. e)
        (every_kept (λ e. has range e.page ≡ false) (has m.range) tlb) h

-- the oldest message is acted on
pub clears : {cached : ℕ → ℕ → Option ℕ} {info : ℕ → Option PageInfo} {phase : ℕ → Phase} {d : ℕ} {table : ℕ → Option Translation}
    {tlb : List TlbEntry} (range : PageRange) (inbox : List Message) → asked inbox ≡ Clear range
    → IsCore cached info phase d table tlb inbox
    → IsCore cached info phase d (over table (has range) None) tlb (remaining inbox)
clears range [] e k = absurd cc
clears {cached} {info} {phase} {d} {table} {tlb} range (m ∷ ms) e k = go m.is_cleared refl e
  where
    go : (b : Bool) → m.is_cleared ≡ b → (if b then Invalidate m.range else Clear m.range) ≡ Clear range
        → IsCore cached info phase d (over table (has range) None) tlb
        (if b then ms else record m { is_cleared = true } ∷ ms)
    go true i h = absurd cc
    go false i h =
        let same : m.range ≡ range = cc in
        subst (λ r. IsCore cached info phase d (over table (has r) None) tlb (record m { is_cleared = true } ∷ ms)) same
        (first_take m ms i k)

pub invalidates : {cached : ℕ → ℕ → Option ℕ} {info : ℕ → Option PageInfo} {phase : ℕ → Phase} {d : ℕ} {table : ℕ → Option Translation}
    {tlb : List TlbEntry} (range : PageRange) (inbox : List Message) → asked inbox ≡ Invalidate range
    → IsCore cached info phase d table tlb inbox
    → IsCore cached info phase d table (tlb_without (has range) tlb) (remaining inbox)
invalidates range [] e k = absurd cc
invalidates {cached} {info} {phase} {d} {table} {tlb} range (m ∷ ms) e k = go m.is_cleared refl e
  where
    go : (b : Bool) → m.is_cleared ≡ b → (if b then Invalidate m.range else Clear m.range) ≡ Invalidate range
        → IsCore cached info phase d table (tlb_without (has range) tlb)
        (if b then ms else record m { is_cleared = true } ∷ ms)
    go false i h = absurd cc
    go true i h =
        let same : m.range ≡ range = cc in
        subst (λ r. IsCore cached info phase d table (tlb_without (has r) tlb) ms) same (second_take m ms i k)

-- ---- a shootdown begins

-- the core drops its own translations of a range
pub shoots : {cached : ℕ → ℕ → Option ℕ} {info : ℕ → Option PageInfo} {phase : ℕ → Phase} {d : ℕ} {table : ℕ → Option Translation}
    {tlb : List TlbEntry} {inbox : List Message} (range : PageRange) → IsCore cached info phase d table tlb inbox
    → IsCore cached info phase d (over table (has range) None) (tlb_without (has range) tlb) inbox
shoots {cached} {info} {phase} {d} {table} {tlb} {inbox} range k = record {
  tables = cleared_backed cached info d table range k.tables;
  tlbs = every_left (IsSoundEntry cached info d table inbox) (IsSoundEntry cached info d less inbox) (has range) tlb
      (λ e out h. (h.0, shot_mirror table range inbox e out h.1)) k.tlbs;
  asked = k.asked;
  dropped = λ c r a. dropped_still table less tlb (tlb_without (has range) tlb) r (message_of inbox c)
      (λ p i h. cleared_less table range p h) (every_kept (λ e. has r e.page ≡ false) (has range) tlb)
      (k.dropped c r a);
}
  where
    less : ℕ → Option Translation
    less = over table (has range) None

-- the call of core c awaits the range now, of which nothing is left here
pub awaits_nothing : {cached : ℕ → ℕ → Option ℕ} {info : ℕ → Option PageInfo} {phase : ℕ → Phase} {d : ℕ} {table : ℕ → Option Translation}
    {tlb : List TlbEntry} {inbox : List Message} (c : ℕ) (new : Phase) (range : PageRange)
    → awaits_in new ≡ Some range → message_of inbox c ≡ None → IsTableClear table range → IsTlbClear tlb range
    → IsCore cached info phase d table tlb inbox → IsCore cached info (put phase c new) d table tlb inbox
awaits_nothing {cached} {info} {phase} {d} {table} {tlb} {inbox} c new range awaits silent none nothing k = record {
  tables = k.tables;
  tlbs = k.tlbs;
  asked = asked_still phase c new d inbox silent k.asked;
  dropped = λ x r. put_all (λ x ph. awaits_in ph ≡ Some r → HasDropped table tlb r (message_of inbox x)) phase c new
      (λ a. let same : range ≡ r = cc in
      subst (HasDropped table tlb r) (sym silent)
      (subst (IsTableClear table) same none, subst (IsTlbClear tlb) same nothing))
      (λ x ne. k.dropped x r) x;
}

-- the call of core c awaits the range now, and its message comes here
pub awaits_core : {cached : ℕ → ℕ → Option ℕ} {info : ℕ → Option PageInfo} {phase : ℕ → Phase} {d : ℕ} {table : ℕ → Option Translation}
    {tlb : List TlbEntry} {inbox : List Message} (c : ℕ) (new : Phase) (range : PageRange) → c ≢ d
    → awaits_in new ≡ Some range → message_of inbox c ≡ None → IsCore cached info phase d table tlb inbox
    → IsCore cached info (put phase c new) d table tlb (inbox ++ posted c range ∷ [])
awaits_core {cached} {info} {phase} {d} {table} {tlb} {inbox} c new range ne awaits silent k = record {
  tables = k.tables;
  tlbs = every_map (IsSoundEntry cached info d table inbox) (IsSoundEntry cached info d table more) tlb
      (λ e h. (h.0, told_mirror table c range inbox e h.1)) k.tlbs;
  asked = asked_more (put phase c new) c d range inbox ne (ap awaits_in (put_same phase c new) ∙ awaits) silent
      (asked_still phase c new d inbox silent k.asked);
  dropped = λ x r. put_all (λ x ph. awaits_in ph ≡ Some r → HasDropped table tlb r (message_of more x)) phase c new
      (λ a. subst (HasDropped table tlb r) (sym (posted_own c range inbox silent)) (λ is. absurd cc))
      (λ x other a. subst (HasDropped table tlb r) (sym (posted_other c x range inbox other)) (k.dropped x r a)) x;
}
  where
    more : List Message
    more = inbox ++ posted c range ∷ []

-- ---- an entry is installed

-- The page's entry enters the tables of a core that is recorded on it, and no call awaits the page.
pub installs : {cached : ℕ → ℕ → Option ℕ} {info : ℕ → Option PageInfo} {phase : ℕ → Phase} {d : ℕ} {table : ℕ → Option Translation}
    {tlb : List TlbEntry} {inbox : List Message} (p : ℕ) → is_recorded (info p) d ≡ true → AllowsSome (info p)
    → ((c : ℕ) (range : PageRange) → awaits_in (phase c) ≡ Some range → has range p ≡ true → ⊥)
    → IsCore cached info phase d table tlb inbox → IsCore cached info phase d (put table p (entry_of_page cached (info p))) tlb inbox
installs {cached} {info} {phase} {d} {table} {tlb} {inbox} p recorded right unawaited k = record {
  tables = λ q t. put_all (λ q o. o ≡ Some t → IsBacked cached (info q) d t) table p (entry_of_page cached (info p))
      (λ e. record { entry = e; recorded = recorded; right = right }) (λ q ne. k.tables q t) q;
  tlbs = every_map (IsSoundEntry cached info d table inbox) (IsSoundEntry cached info d more inbox) tlb
      (λ e h. (h.0, installed_mirror cached info d p table inbox e h)) k.tlbs;
  asked = k.asked;
  dropped = λ c range a. dropped_still table more tlb tlb range (message_of inbox c)
      (λ q i h. put_other table p (entry_of_page cached (info p)) q (other c range a q i) ∙ h) (λ n. n) (k.dropped c range a);
}
  where
    more : ℕ → Option Translation
    more = put table p (entry_of_page cached (info p))

    other : (c : ℕ) (range : PageRange) → awaits_in (phase c) ≡ Some range → (q : ℕ) → has range q ≡ true → q ≢ p
    other c range a q i at = unawaited c range a (subst (λ x. has range x ≡ true) at i)
