-- What an order by the kernels' rule says of a history
use Rattle.std.proofs.Common.{◌≡◌, ◌∙◌, ℕ, Bool, List, [], Some, ap, length, slice_get, subst, sym}
use Rattle.vm_base.specs.declared.replies.Reply.{Reply}
use Rattle.vm_base.specs.Plain.{Plain, nothing_mapped}
use Rattle.frames.specs.declared.file_spec.FileSpec.{FileSpec}
use Rattle.frames.specs.Given.{given_files}
use Rattle.audit.specs.Placing.{rule_of}
use Rattle.audit_text.specs.Legal.{first_map}
use Rattle.orders.specs.declared.history.Timed.{Timed}
use Rattle.orders_text.specs.History.{IsHistory, Read, completed, replies_in}
use Rattle.orders_text.specs.Steps.{read_of}
use Rattle.orders_text.specs.declared.reading.History.{History}
use Rattle.loose_orders.specs.declared.moves.Move.{Move}
use Rattle.loose_orders.specs.Kernel.{HasKernelOrder, IsKernelOrder}
use Rattle.cores.specs.declared.finding.Core.{Core}
use Rattle.core_text.specs.Told.{core_text}
use Rattle.overlapping.specs.Waiting.{NoneWaits}
use Rattle.overlapping.specs.declared.judging.Ruling.{Ruling}
use Rattle.overlapping.specs.declared.judging.Ruling.TheVariants.{Legal, NoOrder, Undecided}
use Rattle.overlapping.specs.declared.judging.Told.{Told}
use Rattle.loosely.specs.Rulings.{HasNone, IsLegal, IsRuling}
use Rattle.loosely.proofs.RuleLemmas.{all_answered, first_of, unordered_there}
use Rattle.cores.specs.Cores.{IsCore}
use Rattle.loosely.specs.Kernel.{ExplainsByKernel, IsCoreByKernel, IsTold}
use Rattle.loose_orders.proofs.TimelyLemmas.{timely_orders}

pub order_found : (any_place rule moving : Bool) (t u : Plain) (calls : List Timed) (moves : List Move) → rule ≡ any_place → t ≡ u
    → IsKernelOrder (rule_of rule) moving t calls moves → HasKernelOrder (rule_of any_place) moving u calls
order_found any_place rule moving t u calls moves e f o = record {
  moves = moves;
  is_order = subst (λ (p : Plain). IsKernelOrder (rule_of any_place) moving p calls moves) f
      (subst (λ (b : Bool). IsKernelOrder (rule_of b) moving t calls moves) e o);
}

pub legal_by_kernel : {A : Type 0} (any_place moving : Bool) (lines : List (List ℕ)) (history : History A) (replies : List Reply) (calls all : List Timed)
    (files : List (FileSpec A)) (n : ℕ) → n ≡ length history.calls.items → files ≡ history.declaration.files.items → calls ≡ all
    → all ≡ completed (replies_in replies) (read_of history)
    → HasKernelOrder (rule_of any_place) moving (nothing_mapped (given_files files)) calls → IsHistory lines (read_of history)
    → IsLegal (HasKernelOrder (rule_of any_place) moving) lines n
legal_by_kernel any_place moving lines history replies calls all files n count f same is o h = record {
  read = read_of history;
  history = h;
  count = count;
  replies = replies_in replies;
  order = subst (λ (cs : List Timed). HasKernelOrder (rule_of any_place) moving (first_map (read_of history).declared) cs) (same ∙ is)
      (subst (λ (t : Plain). HasKernelOrder (rule_of any_place) moving t calls) (first_of history files f) o);
}

-- ---- what is told

told_so : {A : Type 0} (any_place moving : Bool) (lines : List (List ℕ)) (r : Read) (told : Told A) (ruling : Ruling) → told.ruling ≡ ruling
    → ExplainsByKernel any_place lines r ruling told.explanation.items
    → ((ls : List (List ℕ)) → IsHistory ls r → IsRuling (HasKernelOrder (rule_of any_place) moving) ls ruling) → IsTold any_place moving lines r told
told_so any_place moving lines r told ruling e x h = record {
  ruling = λ ls is. subst (λ (y : Ruling). IsRuling (HasKernelOrder (rule_of any_place) moving) ls y) (sym e) (h ls is);
  explained = subst (λ (y : Ruling). ExplainsByKernel any_place lines r y told.explanation.items) (sym e) x;
}

pub undecided_told : {A : Type 0} (any_place moving : Bool) (lines : List (List ℕ)) (r : Read) (told : Told A) (line : ℕ)
    → (told.ruling ≡ Undecided line) × (told.explanation.items ≡ []) → IsTold any_place moving lines r told
undecided_told any_place moving lines r told line e = told_so any_place moving lines r told (Undecided line) e.0 e.1 (λ ls is. (r, is))

pub legal_told : {A : Type 0} (any_place moving : Bool) (lines : List (List ℕ)) (history : History A) (replies : List Reply) (calls all : List Timed)
    (files : List (FileSpec A)) (told : Told A) (n : ℕ) → (told.ruling ≡ Legal n) × (told.explanation.items ≡ [])
    → n ≡ length history.calls.items → files ≡ history.declaration.files.items → calls ≡ all
    → all ≡ completed (replies_in replies) (read_of history)
    → HasKernelOrder (rule_of any_place) moving (nothing_mapped (given_files files)) calls → IsTold any_place moving lines (read_of history) told
legal_told any_place moving lines history replies calls all files told n e count f same is o =
    told_so any_place moving lines (read_of history) told (Legal n) e.0 e.1
    (λ ls h. legal_by_kernel any_place moving ls history replies calls all files n count f same is o h)

none_by_core : {A : Type 0} (any_place moving : Bool) (history : History A) (core : Core A) → NoneWaits history.waiting.items
    → IsCoreByKernel any_place history.calls.items core → HasNone (HasKernelOrder (rule_of any_place) moving) (read_of history)
none_by_core any_place moving history core none is replies o =
    let those = subst (λ (cs : List Timed). HasKernelOrder (rule_of any_place) moving (first_map (read_of history).declared) cs)
    (all_answered history replies none) o in
    let at_once = timely_orders any_place moving (first_map (read_of history).declared) history.calls.items is.1.0 is.0 is.1.1 those in
    is.1.2.none at_once.0 at_once.1

pub none_told : {A : Type 0} (any_place moving : Bool) (lines : List (List ℕ)) (history : History A) (core : Core A) (told : Told A) (calls : List Timed)
    (numbers : List ℕ) (number line : ℕ) (c : Timed) → told.ruling ≡ NoOrder line c.call.reply → core.cut ≡ c.end
    → told.explanation.items ≡ core_text lines numbers core.number core.kept.items → numbers ≡ history.lines.items → calls ≡ history.calls.items
    → NoneWaits history.waiting.items → IsCoreByKernel any_place calls core → slice_get numbers number ≡ Some line
    → slice_get calls number ≡ Some c → IsTold any_place moving lines (read_of history) told
none_told {A} any_place moving lines history core told calls numbers number line c e until text f g none is at get =
    told_so any_place moving lines (read_of history) told (NoOrder line c.call.reply) e
    (record {
      number = number;
      call = c;
      is_call = got;
      is_line = there;
      tells = record {
        pages = core.pages;
        number = core.number;
        first = core.first;
        start = core.start;
        built = core.built;
        kept = core.kept.items;
        taken = here.1.0;
        takes = here.1.1;
        seen = here.1.2.seen;
        sees = here.1.2.sees;
        is = subst (λ (cut : ℕ). IsCore here.1.2.seen core.pages core.number core.first core.start core.built cut core.kept.items) until
            here.1.2.shown.is;
        files = here.1.2.shown.files;
        alone = here.1.2.shown.alone;
        text = text ∙ ap (λ (ns : List ℕ). core_text lines ns core.number core.kept.items) f;
      };
    })
    (λ ls h. unordered_there (HasKernelOrder (rule_of any_place) moving) ls (read_of history) number line c
    (none_by_core any_place moving history core none here) there got h)
  where
    here : IsCoreByKernel any_place history.calls.items core
    here = subst (λ (cs : List Timed). IsCoreByKernel any_place cs core) g is

    got : slice_get history.calls.items number ≡ Some c
    got = subst (λ (cs : List Timed). slice_get cs number ≡ Some c) g get

    there : slice_get history.lines.items number ≡ Some line
    there = subst (λ (ns : List ℕ). slice_get ns number ≡ Some line) f at
