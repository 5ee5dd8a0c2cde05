-- What an order that was checked says of a history
use Rattle.std.proofs.Common.{◌≡◌, ◌∙◌, ℕ, zero, suc, ◌+◌, ◌<◌, ◌⊎◌, inl, inr, Bool, true, false, List, [], ◌∷◌, ◌++◌, Option, None, Some, append-nil}
use Rattle.std.proofs.Common.{ap, arith, length, refl, slice_get, subst, sym}
use Rattle.vm_base.specs.declared.replies.Reply.{Reply}
use Rattle.vm_base.specs.Plain.{Plain, nothing_mapped}
use Rattle.vm_base.specs.Places.{PlaceRule}
use Rattle.frames.specs.declared.file_spec.FileSpec.{FileSpec}
use Rattle.frames.specs.Given.{given_files}
use Rattle.audit.specs.Placing.{rule_of}
use Rattle.audit_text.specs.Legal.{first_map}
use Rattle.audit_text.proofs.FileLemmas.{same_files}
use Rattle.orders.specs.declared.history.Item.{Item}
use Rattle.orders.specs.declared.history.Timed.{Timed}
use Rattle.orders.specs.Orders.{HasOrder, IsOrder}
use Rattle.orders_text.specs.History.{IsHistory, Read, all_open, completed, replies_in}
use Rattle.orders_text.specs.declared.clock.PendingCall.{PendingCall}
use Rattle.orders_text.specs.Steps.{read_of}
use Rattle.orders_text.specs.declared.reading.History.{History}
use Rattle.cores.specs.Cores.{IsCore}
use Rattle.cores.specs.Shown.{IsShown}
use Rattle.cores.specs.declared.finding.Core.{Core}
use Rattle.core_text.specs.Told.{core_text}
use Rattle.overlapping.specs.Story.{IsStory}
use Rattle.overlapping.specs.declared.judging.Ruling.{Ruling}
use Rattle.overlapping.specs.declared.judging.Ruling.TheVariants.{Legal, NoOrder, Undecided}
use Rattle.overlapping.specs.declared.judging.Told.{Told}
use Rattle.overlapping.specs.declared.judging.Shown.{Shown}
use Rattle.overlapping.specs.declared.judging.Shown.TheVariants as By
use Rattle.overlapping.specs.Explained.{Explains, IsDisorder, IsTold, IsWhole, IsWholeOrLong, ShowsNone}
use Rattle.overlapping.specs.Rulings.{HasNone, IsLegal, IsRuling, IsUnordered}
use Rattle.overlapping.specs.Waiting.{NoneWaits}

pub judged_so : {A : Type 0} (files : List (FileSpec A)) (any_place rule : Bool) (t : Plain) (calls : List Timed) (items : List Item)
    → rule ≡ any_place → t ≡ nothing_mapped (given_files files) → IsOrder (rule_of rule) t calls items
    → IsOrder (rule_of any_place) (nothing_mapped (given_files files)) calls items
judged_so files any_place rule t calls items e f h =
    subst (λ (p : Plain). IsOrder (rule_of any_place) p calls items) f (subst (λ (b : Bool). IsOrder (rule_of b) t calls items) e h)

pub order_there : {A : Type 0} (history : History A) (any_place : Bool) (calls all : List Timed) (items : List Item) → calls ≡ all
    → IsOrder (rule_of any_place) (nothing_mapped (given_files history.declaration.files.items)) calls items
    → HasOrder (rule_of any_place) (first_map (read_of history).declared) all
order_there history any_place calls all items g h = record {
  items = items;
  is_order = subst (λ (cs : List Timed). IsOrder (rule_of any_place) (first_map (read_of history).declared) cs items) g
      (subst (λ (p : Plain). IsOrder (rule_of any_place) p calls items) (ap nothing_mapped (same_files history.declaration.files.items)) h);
}

pub none_open : (replies : ℕ → Reply) (core : ℕ) (waiting : List (Option PendingCall)) → NoneWaits waiting → all_open replies core waiting ≡ []
none_open replies core [] none = refl
none_open replies core (None ∷ bs) none = none_open replies (core + 1) bs (λ k l. none (suc k) (omega (arith, l)))
none_open replies core (Some b ∷ bs) none = let amiss : true ≡ false = none zero (omega arith) in absurd cc

-- where none waits, the calls that have a reply are all
pub order_of_all : {A : Type 0} (history : History A) (any_place : Bool) (replies : List Reply) (calls : List Timed) (items : List Item)
    → NoneWaits history.waiting.items → calls ≡ history.calls.items
    → IsOrder (rule_of any_place) (nothing_mapped (given_files history.declaration.files.items)) calls items
    → HasOrder (rule_of any_place) (first_map (read_of history).declared) (completed (replies_in replies) (read_of history))
order_of_all history any_place replies calls items none e h =
    let alone = none_open (replies_in replies) 0 history.waiting.items none in
    order_there history any_place calls (completed (replies_in replies) (read_of history)) items
    (e ∙ sym (ap (λ (cs : List Timed). history.calls.items ++ cs) alone ∙ append-nil history.calls.items)) h

pub legal_there : (any_place : Bool) (lines : List (List ℕ)) (r : Read) (replies : ℕ → Reply) (n : ℕ) → n ≡ length r.calls
    → HasOrder (rule_of any_place) (first_map r.declared) (completed replies r) → IsHistory lines r → IsLegal any_place lines n
legal_there any_place lines r replies n e h is = record { read = r; history = is; count = e; replies = replies; order = h }

-- where none waits, and the calls that have a reply have no order
pub none_there : {A : Type 0} (history : History A) (any_place : Bool) (files : List (FileSpec A)) (calls : List Timed)
    → NoneWaits history.waiting.items → files ≡ history.declaration.files.items → calls ≡ history.calls.items
    → ¬ HasOrder (rule_of any_place) (nothing_mapped (given_files files)) calls → HasNone any_place (read_of history)
none_there {A} history any_place files calls none f e amiss replies o =
    let alone = none_open replies 0 history.waiting.items none in
    let all : completed replies (read_of history) ≡ calls =
    ap (λ (cs : List Timed). history.calls.items ++ cs) alone ∙ (append-nil history.calls.items ∙ sym e) in
    let first : first_map (read_of history).declared ≡ nothing_mapped (given_files files) =
    ap nothing_mapped (sym (same_files history.declaration.files.items))
    ∙ ap (λ (fs : List (FileSpec A)). nothing_mapped (given_files fs)) (sym f) in
    amiss (subst (λ (p : Plain). HasOrder (rule_of any_place) p calls) first
    (subst (λ (cs : List Timed). HasOrder (rule_of any_place) (first_map (read_of history).declared) cs) all o))

pub unordered_there : (any_place : Bool) (lines : List (List ℕ)) (r : Read) (number line : ℕ) (c : Timed) → HasNone any_place r
    → slice_get r.lines number ≡ Some line → slice_get r.calls number ≡ Some c → IsHistory lines r
    → IsUnordered any_place lines line c.call.reply
unordered_there any_place lines r number line c none at is h =
    record { read = r; history = h; none = none; number = number; call = c; is_call = is; is_line = at; replied = refl }

-- ---- what is told

told_so : {A : Type 0} (any_place : Bool) (lines : List (List ℕ)) (r : Read) (told : Told A) (ruling : Ruling) → told.ruling ≡ ruling
    → Explains any_place lines r ruling told.explanation.items → ((ls : List (List ℕ)) → IsHistory ls r → IsRuling any_place ls ruling)
    → IsTold any_place lines r told
told_so any_place lines r told ruling e x h = record {
  ruling = λ ls is. subst (λ (y : Ruling). IsRuling any_place ls y) (sym e) (h ls is);
  explained = subst (λ (y : Ruling). Explains any_place lines r y told.explanation.items) (sym e) x;
}

pub undecided_bare : {A : Type 0} (any_place : Bool) (lines : List (List ℕ)) (r : Read) (told : Told A) (line : ℕ)
    → (told.ruling ≡ Undecided line) × (told.explanation.items ≡ []) → IsTold any_place lines r told
undecided_bare any_place lines r told line e = told_so any_place lines r told (Undecided line) e.0 e.1 (λ ls is. (r, is))

pub legal_bare : {A : Type 0} (any_place : Bool) (lines : List (List ℕ)) (r : Read) (told : Told A) (replies : ℕ → Reply) (n : ℕ)
    → (told.ruling ≡ Legal n) × (told.explanation.items ≡ []) → n ≡ length r.calls
    → HasOrder (rule_of any_place) (first_map r.declared) (completed replies r) → IsTold any_place lines r told
legal_bare any_place lines r told replies n e count order =
    told_so any_place lines r told (Legal n) e.0 e.1 (λ ls is. legal_there any_place ls r replies n count order is)

pub whole_there : {A : Type 0} (history : History A) (any_place : Bool) (files : List (FileSpec A)) (calls : List Timed) (numbers : List ℕ)
    (lines : List (List ℕ)) (told : List ℕ) → files ≡ history.declaration.files.items → calls ≡ history.calls.items → numbers ≡ history.lines.items
    → IsStory (rule_of any_place) (nothing_mapped (given_files files)) calls lines numbers told → IsWholeOrLong any_place lines (read_of history) told
whole_there {A} history any_place files calls numbers lines told e f g is =
    let first : nothing_mapped (given_files files) ≡ first_map (read_of history).declared =
    ap (λ (fs : List (FileSpec A)). nothing_mapped (given_files fs)) e ∙ ap nothing_mapped (same_files history.declaration.files.items) in
    inl (subst (λ (t : Plain). IsStory (rule_of any_place) t history.calls.items lines history.lines.items told) first
    (subst (λ (cs : List Timed). IsStory (rule_of any_place) (nothing_mapped (given_files files)) cs lines history.lines.items told) f
    (subst (λ (ns : List ℕ). IsStory (rule_of any_place) (nothing_mapped (given_files files)) calls lines ns told) g is)))

pub long_there : {A : Type 0} (history : History A) (any_place : Bool) (numbers : List ℕ) (lines : List (List ℕ)) (told : List ℕ)
    → numbers ≡ history.lines.items → told ≡ [] → 12 < length numbers → IsWholeOrLong any_place lines (read_of history) told
long_there history any_place numbers lines told e none long = inr (none, subst (λ (ns : List ℕ). 12 < length ns) e long)

pub whole_or_nothing : (any_place : Bool) (lines : List (List ℕ)) (r : Read) (told : List ℕ) → IsWholeOrLong any_place lines r told
    → (told ≡ []) ⊎ IsWhole any_place lines r told
whole_or_nothing any_place lines r told (inl whole) = inr whole
whole_or_nothing any_place lines r told (inr long) = inl long.0

pub unordered_whole : {A : Type 0} (any_place : Bool) (lines : List (List ℕ)) (r : Read) (told : Told A) (number line : ℕ) (c : Timed)
    → told.ruling ≡ NoOrder line c.call.reply → IsWholeOrLong any_place lines r told.explanation.items → HasNone any_place r
    → slice_get r.lines number ≡ Some line → slice_get r.calls number ≡ Some c → IsTold any_place lines r told
unordered_whole any_place lines r told number line c e x none at is = told_so any_place lines r told (NoOrder line c.call.reply) e
    (record { number = number; call = c; is_call = is; is_line = at; explains = inr x })
    (λ ls h. unordered_there any_place ls r number line c none at is h)

pub unordered_by : {A : Type 0} (any_place : Bool) (lines : List (List ℕ)) (r : Read) (told : Told A) (number line : ℕ) (c : Timed) (core : Core A)
    → told.ruling ≡ NoOrder line c.call.reply → core.cut ≡ c.end → told.explanation.items ≡ core_text lines r.lines core.number core.kept.items
    → HasNone any_place r × IsShown any_place r.calls core → slice_get r.lines number ≡ Some line → slice_get r.calls number ≡ Some c
    → IsTold any_place lines r told
unordered_by any_place lines r told number line c core e until text shown at is = told_so any_place lines r told (NoOrder line c.call.reply) e
    (record {
      number = number;
      call = c;
      is_call = is;
      is_line = at;
      explains = inl (record {
        pages = core.pages;
        number = core.number;
        first = core.first;
        start = core.start;
        built = core.built;
        kept = core.kept.items;
        seen = shown.1.seen;
        sees = shown.1.sees;
        is = subst (λ (cut : ℕ). IsCore shown.1.seen core.pages core.number core.first core.start core.built cut core.kept.items) until shown.1.shown.is;
        files = shown.1.shown.files;
        alone = shown.1.shown.alone;
        text = text;
      });
    })
    (λ ls h. unordered_there any_place ls r number line c shown.0 at is h)

-- where none waits, and a core shows that they have none
pub core_there : {A : Type 0} (history : History A) (any_place : Bool) (calls : List Timed) (core : Core A)
    → NoneWaits history.waiting.items → calls ≡ history.calls.items → IsShown any_place calls core
    → HasNone any_place (read_of history) × IsShown any_place history.calls.items core
core_there history any_place calls core none e shown = (
  none_there history any_place history.declaration.files.items calls none refl e (shown.none (nothing_mapped (given_files history.declaration.files.items))),
  subst (λ (cs : List Timed). IsShown any_place cs core) e shown,
)

pub disorder_there : {A : Type 0} (history : History A) (any_place : Bool) (files : List (FileSpec A)) (calls : List Timed) (shown : Shown A)
    → NoneWaits history.waiting.items → files ≡ history.declaration.files.items → calls ≡ history.calls.items
    → ShowsNone any_place (given_files files) calls shown → IsDisorder any_place (read_of history) shown
disorder_there history any_place files calls By.Nothing none f e s = tt
disorder_there history any_place files calls By.All none f e s = none_there history any_place files calls none f e s
disorder_there history any_place files calls (By.Few core) none f e s = core_there history any_place calls core none e s
