use Rattle.std.proofs.Common.{◌≡◌, ℕ, List, ◌++◌, ◌∷◌, [], map, sym, ap, subst, ◌∙◌}
use Rattle.std.proofs.lemmas.List.{map_push}
use Rattle.import_forms.specs.Speech.{spoken}
use Rattle.import_lines.specs.Lines.{AreKept, IsPlace, said_by}
use Rattle.import_lines.proofs.LineLemmas.{order_push}
use Rattle.import_lines.proofs.lines.KeptLines.push.Goals as goal

pub invariant_of-self : goal.invariant_of-self
invariant_of-self c = c.in_err-place.ensures.others _ _ c.self.invariant

pub invariant_of-self-in_err-push : goal.invariant_of-self-in_err-push
invariant_of-self-in_err-push c =
    let said = map said_by c.self.inside.said.items in
    subst (λ l. AreKept said c.place_of.new.rares c.place_of.new.entries.items l) (sym c.in_err-push.ensures.items) (c.in_ok-place.ensures.others _ _ c.self.invariant)

pub invariant_of-self-2 : goal.invariant_of-self-2
invariant_of-self-2 c =
    let old = c.self.inside.said.items in
    let said = map said_by old in
    let rares = c.place_of.new.rares in
    let entries = c.place_of.new.entries.items in
    let text : c.and_all-text.result.items ≡ c.args.speech.text.now = c.and_all-text.ensures ∙ ap (λ l. l ++ c.args.speech.text.now) c.new.ensures in
    let said_now : map said_by c.and-self-inside.result.items ≡ said ++ spoken c.args.speech ∷ [] =
    ap (map said_by) c.and-self-inside.ensures ∙ map_push said_by old _ ∙ ap (λ (t : List ℕ). said ++ (c.args.speech.thread, t) ∷ []) text in
    let is = subst (λ k. IsPlace c.args.speech.thread k rares entries c.in_ok-place.place) c.requires c.in_ok-place.ensures.place in
    let kept = order_push said rares entries c.self.inside.order.items c.in_ok-place.place (spoken c.args.speech) (c.in_ok-place.ensures.others _ _ c.self.invariant) is in
    subst (λ l. AreKept l rares entries c.push.new.self.items) (sym said_now)
    (subst (λ l. AreKept (said ++ spoken c.args.speech ∷ []) rares entries l) (sym c.in_ok-push.ensures.items) kept)
