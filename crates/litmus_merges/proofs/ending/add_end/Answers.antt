-- add_end
use Rattle.std.proofs.Common.{◌≡◌, ◌∙◌, ◌++◌, ◌∷◌, ◌+◌, [], List, Some, ap, false, map, rules, subst, sym, true}
use Rattle.std.specs.Prelude.{IfNone, IfSome}
use Rattle.std.proofs.lemmas.Result.{IfOk-from_err}
use Rattle.vm_base.specs.declared.replies.Reply.{Reply}
use Rattle.litmus_merges.specs.Mappings.{AreMaps, IsSight}
use Rattle.litmus_merges.specs.Finals.{AreShown}
use Rattle.litmus_merges.specs.Numbers.{number_of}
use Rattle.litmus_merges.specs.Nodes.{AreEnds, AreOnce, HasEnd, HaveEnds}
use Rattle.litmus_merges.specs.Steps.{AreSound, map_of}
use Rattle.litmus_merges.proofs.Ended.{end_kept, ends_more, has_new, have_more, have_none, once_more}
use Rattle.litmus_merges.proofs.Lists.{get_read}
use Rattle.litmus_merges.proofs.Numbered.{one_numbered}
use Rattle.litmus_merges.proofs.ending.add_end.Goals as goal

pub loads-requires : goal.loads-requires
loads-requires g c =
    let is = get_read c.args.nodes.now c.args.last c.index-nodes-last.result c.requires.within c.index-nodes-last.is in
    subst AreSound (sym c.as_slice-steps.ensures.value) (c.requires.sound c.args.last c.index-nodes-last.result is)

pub mappings-requires : goal.mappings-requires
mappings-requires g c =
    let is = get_read c.args.nodes.now c.args.last c.index-nodes-last.result c.requires.within c.index-nodes-last.is in
    subst AreSound (sym c.as_slice-steps.ensures.value) (c.requires.sound c.args.last c.index-nodes-last.result is)

pub returns-in_default-clause-have : goal.returns-in_default-clause-have
returns-in_default-clause-have g c =
    let is = get_read c.args.nodes.now c.args.last c.index-nodes-last.result c.requires.within c.index-nodes-last.is in
    let none = subst (λ x. IfNone x ((replies : List Reply) → ¬ c.as_slice-told.result.now ≡ map Some replies)) c.in_default.is c.in_ok-all.ensures.none in
    have_none c.args.objects.now c.args.addrs.now c.args.maps c.args.nodes.now c.args.ends.now.items c.args.last _ c.requires.have is
    (λ replies e. none replies (c.as_slice-told.ensures.value ∙ e))

pub returns-then-has_end-clause-have : goal.returns-then-has_end-clause-have
returns-then-has_end-clause-have g c =
    let is = get_read c.args.nodes.now c.args.last c.index-nodes-last.result c.requires.within c.index-nodes-last.is in
    let told = subst (λ x. IfSome x (λ its. c.as_slice-told.result.now ≡ map Some its.items)) c.in-Some.is c.in_ok-all.ensures.some in
    let shown = subst (λ xs. AreShown (map_of c.args.objects.now xs) c.args.addrs.now c.in_ok-finals.finals.items) c.as_slice-steps.ensures.value c.in_ok-finals.ensures in
    let mapped = subst (λ xs. AreMaps c.args.maps (map_of c.args.objects.now xs) c.in_ok-seen.seen.items) c.as_slice-steps.ensures.value c.in_ok-seen.ensures in
    let has = c.has_end.ensures.0 c.if-has_end.true in
    have_more c.args.objects.now c.args.addrs.now c.args.maps c.args.nodes.now c.args.ends.now.items c.args.ends.now.items c.args.last _ c.in-Some.replies.items
    c.in_ok-finals.finals.items c.in_ok-seen.seen.items c.requires.have is (sym c.as_slice-told.ensures.value ∙ told) (shown, mapped)
    (λ replies finals lines h. h)
    (subst (λ xs. HasEnd xs c.in-Some.replies.items c.in_ok-finals.finals.items c.in_ok-seen.seen.items) c.as_slice-listed.ensures.value
    (subst (λ ys. HasEnd c.as_slice-listed.result.now ys c.in_ok-finals.finals.items c.in_ok-seen.seen.items) c.as_slice-its.ensures.value
    (subst (λ ys. HasEnd c.as_slice-listed.result.now c.as_slice-its.result.now ys c.in_ok-seen.seen.items) c.as_slice-shown.ensures.value
    (subst (λ ys. HasEnd c.as_slice-listed.result.now c.as_slice-its.result.now c.as_slice-shown.result.now ys) c.as_slice-lines.ensures.value has))))

pub returns-clause-ends : goal.returns-clause-ends
returns-clause-ends g c =
    let is = get_read c.args.nodes.now c.args.last c.index-nodes-last.result c.requires.within c.index-nodes-last.is in
    let told = subst (λ x. IfSome x (λ its. c.as_slice-told.result.now ≡ map Some its.items)) c.in-Some.is c.in_ok-all.ensures.some in
    let shown = subst (λ xs. AreShown (map_of c.args.objects.now xs) c.args.addrs.now c.in_ok-finals.finals.items) c.as_slice-steps.ensures.value c.in_ok-finals.ensures in
    let mapped = subst (λ xs. AreMaps c.args.maps (map_of c.args.objects.now xs) c.in_ok-seen.seen.items) c.as_slice-steps.ensures.value c.in_ok-seen.ensures in
    subst (AreEnds c.args.objects.now c.args.addrs.now c.args.maps c.args.nodes.now) (search rules)
    (ends_more c.args.objects.now c.args.addrs.now c.args.maps c.args.nodes.now c.args.ends.now.items
    (record { replies = c.in-Some.replies; finals = c.in_ok-finals.finals; maps = c.in_ok-seen.seen; order = c.in_ok-order.order }) c.args.last
    _ c.requires.ends is (sym c.as_slice-told.ensures.value ∙ told) (shown, mapped) c.in_ok-order.ensures)

pub returns-clause-once : goal.returns-clause-once
returns-clause-once g c = subst AreOnce (search rules)
    (once_more c.args.ends.now.items
    (record { replies = c.in-Some.replies; finals = c.in_ok-finals.finals; maps = c.in_ok-seen.seen; order = c.in_ok-order.order }) c.requires.once
    (λ h. let wrong : false ≡ true = sym c.if-has_end.false ∙ c.has_end.ensures.1
    (subst (λ xs. HasEnd xs c.as_slice-its.result.now c.as_slice-shown.result.now c.as_slice-lines.result.now) (sym c.as_slice-listed.ensures.value)
    (subst (λ ys. HasEnd c.args.ends.now.items ys c.as_slice-shown.result.now c.as_slice-lines.result.now) (sym c.as_slice-its.ensures.value)
    (subst (λ ys. HasEnd c.args.ends.now.items c.in-Some.replies.items ys c.as_slice-lines.result.now) (sym c.as_slice-shown.ensures.value)
    (subst (λ ys. HasEnd c.args.ends.now.items c.in-Some.replies.items c.in_ok-finals.finals.items ys) (sym c.as_slice-lines.ensures.value) h))))
    in absurd cc))

pub returns-clause-have : goal.returns-clause-have
returns-clause-have g c =
    let is = get_read c.args.nodes.now c.args.last c.index-nodes-last.result c.requires.within c.index-nodes-last.is in
    let told = subst (λ x. IfSome x (λ its. c.as_slice-told.result.now ≡ map Some its.items)) c.in-Some.is c.in_ok-all.ensures.some in
    let shown = subst (λ xs. AreShown (map_of c.args.objects.now xs) c.args.addrs.now c.in_ok-finals.finals.items) c.as_slice-steps.ensures.value c.in_ok-finals.ensures in
    let mapped = subst (λ xs. AreMaps c.args.maps (map_of c.args.objects.now xs) c.in_ok-seen.seen.items) c.as_slice-steps.ensures.value c.in_ok-seen.ensures in
    subst (λ xs. HaveEnds c.args.objects.now c.args.addrs.now c.args.maps c.args.nodes.now (c.args.last + 1) xs) (search rules)
    (have_more c.args.objects.now c.args.addrs.now c.args.maps c.args.nodes.now c.args.ends.now.items (c.args.ends.now.items ++ record { replies = c.in-Some.replies; finals = c.in_ok-finals.finals; maps = c.in_ok-seen.seen; order = c.in_ok-order.order } ∷ [])
    c.args.last _ c.in-Some.replies.items c.in_ok-finals.finals.items c.in_ok-seen.seen.items c.requires.have is
    (sym c.as_slice-told.ensures.value ∙ told) (shown, mapped)
    (λ replies finals lines h. end_kept c.args.ends.now.items
    (record { replies = c.in-Some.replies; finals = c.in_ok-finals.finals; maps = c.in_ok-seen.seen; order = c.in_ok-order.order }) replies finals lines h)
    (has_new c.args.ends.now.items
    (record { replies = c.in-Some.replies; finals = c.in_ok-finals.finals; maps = c.in_ok-seen.seen; order = c.in_ok-order.order })))

pub returns-clause-numbered : goal.returns-clause-numbered
returns-clause-numbered g c =
    let number = c.number_of-number.ensures
    ∙ (ap (λ xs. number_of xs c.as_slice-shown.result.now) c.as_slice-its.ensures.value ∙ ap (number_of c.in-Some.replies.items) c.as_slice-shown.ensures.value) in
    one_numbered c.args.ends.now.items _ c.args.numbers.now.items _
    (record { replies = c.in-Some.replies; finals = c.in_ok-finals.finals; maps = c.in_ok-seen.seen; order = c.in_ok-order.order }) c.number_of-number.result c.requires.numbered
    (search rules) (search rules) number

pub returns-in_err-all-clause-numbered : goal.returns-in_err-all-clause-numbered
returns-in_err-all-clause-numbered g c = IfOk-from_err _ _ c.from_residual.ensures.0

pub returns-in_err-all-clause-ends : goal.returns-in_err-all-clause-ends
returns-in_err-all-clause-ends g c = IfOk-from_err _ _ c.from_residual.ensures.0

pub returns-in_err-all-clause-once : goal.returns-in_err-all-clause-once
returns-in_err-all-clause-once g c = IfOk-from_err _ _ c.from_residual.ensures.0

pub returns-in_err-all-clause-have : goal.returns-in_err-all-clause-have
returns-in_err-all-clause-have g c = IfOk-from_err _ _ c.from_residual.ensures.0

pub returns-in_err-finals-clause-numbered : goal.returns-in_err-finals-clause-numbered
returns-in_err-finals-clause-numbered g c = IfOk-from_err _ _ c.from_residual-in_err-finals.ensures.0

pub returns-in_err-finals-clause-ends : goal.returns-in_err-finals-clause-ends
returns-in_err-finals-clause-ends g c = IfOk-from_err _ _ c.from_residual-in_err-finals.ensures.0

pub returns-in_err-finals-clause-once : goal.returns-in_err-finals-clause-once
returns-in_err-finals-clause-once g c = IfOk-from_err _ _ c.from_residual-in_err-finals.ensures.0

pub returns-in_err-finals-clause-have : goal.returns-in_err-finals-clause-have
returns-in_err-finals-clause-have g c = IfOk-from_err _ _ c.from_residual-in_err-finals.ensures.0

pub returns-in_err-seen-clause-numbered : goal.returns-in_err-seen-clause-numbered
returns-in_err-seen-clause-numbered g c = IfOk-from_err _ _ c.from_residual-in_err-seen.ensures.0

pub returns-in_err-seen-clause-ends : goal.returns-in_err-seen-clause-ends
returns-in_err-seen-clause-ends g c = IfOk-from_err _ _ c.from_residual-in_err-seen.ensures.0

pub returns-in_err-seen-clause-once : goal.returns-in_err-seen-clause-once
returns-in_err-seen-clause-once g c = IfOk-from_err _ _ c.from_residual-in_err-seen.ensures.0

pub returns-in_err-seen-clause-have : goal.returns-in_err-seen-clause-have
returns-in_err-seen-clause-have g c = IfOk-from_err _ _ c.from_residual-in_err-seen.ensures.0

pub returns-in_err-order-clause-numbered : goal.returns-in_err-order-clause-numbered
returns-in_err-order-clause-numbered g c = IfOk-from_err _ _ c.from_residual-in_err-order.ensures.0

pub returns-in_err-order-clause-ends : goal.returns-in_err-order-clause-ends
returns-in_err-order-clause-ends g c = IfOk-from_err _ _ c.from_residual-in_err-order.ensures.0

pub returns-in_err-order-clause-once : goal.returns-in_err-order-clause-once
returns-in_err-order-clause-once g c = IfOk-from_err _ _ c.from_residual-in_err-order.ensures.0

pub returns-in_err-order-clause-have : goal.returns-in_err-order-clause-have
returns-in_err-order-clause-have g c = IfOk-from_err _ _ c.from_residual-in_err-order.ensures.0

pub returns-in_err-push-clause-numbered : goal.returns-in_err-push-clause-numbered
returns-in_err-push-clause-numbered g c = IfOk-from_err _ _ c.from_residual-in_err-push.ensures.0

pub returns-in_err-push-clause-ends : goal.returns-in_err-push-clause-ends
returns-in_err-push-clause-ends g c = IfOk-from_err _ _ c.from_residual-in_err-push.ensures.0

pub returns-in_err-push-clause-once : goal.returns-in_err-push-clause-once
returns-in_err-push-clause-once g c = IfOk-from_err _ _ c.from_residual-in_err-push.ensures.0

pub returns-in_err-push-clause-have : goal.returns-in_err-push-clause-have
returns-in_err-push-clause-have g c = IfOk-from_err _ _ c.from_residual-in_err-push.ensures.0

pub returns-in_err-push-2-clause-numbered : goal.returns-in_err-push-2-clause-numbered
returns-in_err-push-2-clause-numbered g c = IfOk-from_err _ _ c.from_residual-in_err-push-2.ensures.0

pub returns-in_err-push-2-clause-ends : goal.returns-in_err-push-2-clause-ends
returns-in_err-push-2-clause-ends g c = IfOk-from_err _ _ c.from_residual-in_err-push-2.ensures.0

pub returns-in_err-push-2-clause-once : goal.returns-in_err-push-2-clause-once
returns-in_err-push-2-clause-once g c = IfOk-from_err _ _ c.from_residual-in_err-push-2.ensures.0

pub returns-in_err-push-2-clause-have : goal.returns-in_err-push-2-clause-have
returns-in_err-push-2-clause-have g c = IfOk-from_err _ _ c.from_residual-in_err-push-2.ensures.0
