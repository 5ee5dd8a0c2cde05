use Rattle.std.proofs.Common.{All, ◌++◌, ◌∷◌, [], map, sym, ap, subst, ◌∙◌}
use Rattle.trace_io.proofs.LineLemmas.{on_err}
use Rattle.import_lines.specs.Lines.{IsNamed, kept_of, seldom_of}
use Rattle.import_lines.proofs.LineLemmas.{last_seldom, seldom_named, seldom_push, seldom_pushed, seldom_same, shown_by}
use Rattle.import_lines.proofs.rares.Rares.push.Goals as goal

pub invariant_of-self : goal.invariant_of-self
invariant_of-self c = subst (λ t. All (IsNamed t) c.self.inside.list.items) (sym c.in_err-name.ensures.err) c.self.invariant

pub returns-in_err-name-clause-err : goal.returns-in_err-name-clause-err
returns-in_err-name-clause-err c = on_err _ _ (ap (λ t. map (seldom_of t) c.self.inside.list.items) c.in_err-name.ensures.err ∙ c.self.view_is)

pub invariant_of-self-in_err-push : goal.invariant_of-self-in_err-push
invariant_of-self-in_err-push c =
    let list = c.self.inside.list.items in
    let texts = c.self.inside.texts.items in
    subst (λ l. All (IsNamed c.note_name.new.names.items) l) (sym c.in_err-push.ensures.items)
    (subst (λ t. All (IsNamed t) list) (sym c.in_ok-name.ensures.names) (seldom_named texts c.args.line.name.now list c.self.invariant))

pub returns-in_err-push-clause-err : goal.returns-in_err-push-clause-err
returns-in_err-push-clause-err c =
    let list = c.self.inside.list.items in
    let texts = c.self.inside.texts.items in
    on_err _ _ (ap (map (seldom_of c.note_name.new.names.items)) c.in_err-push.ensures.items
    ∙ ap (λ t. map (seldom_of t) list) c.in_ok-name.ensures.names
    ∙ seldom_same texts c.args.line.name.now list c.self.invariant ∙ c.self.view_is)

pub invariant_of-self-2 : goal.invariant_of-self-2
invariant_of-self-2 c =
    let list = c.self.inside.list.items in
    let texts = c.self.inside.texts.items in
    let l = c.args.line in
    subst (λ x. All (IsNamed c.note_name.new.names.items) x) (sym c.in_ok-push.ensures.items)
    (subst (λ n. All (IsNamed c.note_name.new.names.items) (list ++ shown_by l.half l.said n ∷ [])) (sym c.in_ok-name.ensures.name)
    (subst (λ t. All (IsNamed t) (list ++ last_seldom t l.half l.said l.name.now ∷ [])) (sym c.in_ok-name.ensures.names)
    (seldom_pushed texts l.name.now list l.half l.said c.self.invariant)))

pub returns-clause-ok : goal.returns-clause-ok
returns-clause-ok c =
    let list = c.self.inside.list.items in
    let texts = c.self.inside.texts.items in
    let l = c.args.line in
    ap (map (seldom_of c.note_name.new.names.items)) c.in_ok-push.ensures.items
    ∙ ap (λ n. map (seldom_of c.note_name.new.names.items) (list ++ shown_by l.half l.said n ∷ [])) c.in_ok-name.ensures.name
    ∙ ap (λ t. map (seldom_of t) (list ++ last_seldom t l.half l.said l.name.now ∷ [])) c.in_ok-name.ensures.names
    ∙ seldom_push texts l.name.now list l.half l.said c.self.invariant
    ∙ ap (λ k. k ++ kept_of l ∷ []) c.self.view_is
