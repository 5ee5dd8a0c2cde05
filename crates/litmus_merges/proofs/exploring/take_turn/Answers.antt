use Rattle.litmus_merges.proofs.Grown.{grown, grows_keeps, next_none, next_some, turned_none, turned_some}
use Rattle.litmus_merges.proofs.Lists.{read_there}
use Rattle.litmus_merges.proofs.exploring.take_turn.Goals as goal

pub next_node-requires-clause-node : goal.next_node-requires-clause-node
next_node-requires-clause-node g c = c.requires.explored.each c.args.from _
    (read_there c.args.nodes.now.items c.as_slice-listed.result.now c.args.from c.index-listed-from.result c.as_slice-listed.ensures.value c.requires.within c.index-listed-from.is)

pub returns-in_default-clause-turned : goal.returns-in_default-clause-turned
returns-in_default-clause-turned g c = λ e.
    let is = read_there c.args.nodes.now.items c.as_slice-listed.result.now c.args.from c.index-listed-from.result c.as_slice-listed.ensures.value c.requires.within c.index-listed-from.is in
    turned_none c.args.objects.now c.args.calls.now c.args.nodes.now.items c.args.from c.args.at c.index-listed-from.result is c.requires.turned
    (next_none c.args.objects.now c.args.calls.now c.index-listed-from.result c.args.from c.args.at _ c.in_default.is c.in_ok-next.ensures)

pub returns-in_err-more-clause-explored : goal.returns-in_err-more-clause-explored
returns-in_err-more-clause-explored g c =
    let is = read_there c.args.nodes.now.items c.as_slice-listed.result.now c.args.from c.index-listed-from.result c.as_slice-listed.ensures.value c.requires.within c.index-listed-from.is in
    let next = next_some c.args.objects.now c.args.calls.now c.index-listed-from.result c.in-Some.node c.args.from c.args.at _ c.in-Some.is c.in_ok-next.ensures in
    grown c.args.objects.now c.args.calls.now c.args.nodes.now.items c.add.new.nodes.items c.args.from c.args.at c.index-listed-from.result c.in-Some.node
    c.requires.explored is next c.add.ensures.grows

pub returns-in_err-more-clause-keeps : goal.returns-in_err-more-clause-keeps
returns-in_err-more-clause-keeps g c = grows_keeps c.args.nodes.now.items c.add.new.nodes.items c.in-Some.node c.add.ensures.grows

pub returns-clause-explored : goal.returns-clause-explored
returns-clause-explored g c =
    let is = read_there c.args.nodes.now.items c.as_slice-listed.result.now c.args.from c.index-listed-from.result c.as_slice-listed.ensures.value c.requires.within c.index-listed-from.is in
    let next = next_some c.args.objects.now c.args.calls.now c.index-listed-from.result c.in-Some.node c.args.from c.args.at _ c.in-Some.is c.in_ok-next.ensures in
    grown c.args.objects.now c.args.calls.now c.args.nodes.now.items c.add.new.nodes.items c.args.from c.args.at c.index-listed-from.result c.in-Some.node
    c.requires.explored is next c.add.ensures.grows

pub returns-clause-keeps : goal.returns-clause-keeps
returns-clause-keeps g c = grows_keeps c.args.nodes.now.items c.add.new.nodes.items c.in-Some.node c.add.ensures.grows

pub returns-clause-turned : goal.returns-clause-turned
returns-clause-turned g c = λ e.
    let is = read_there c.args.nodes.now.items c.as_slice-listed.result.now c.args.from c.index-listed-from.result c.as_slice-listed.ensures.value c.requires.within c.index-listed-from.is in
    let next = next_some c.args.objects.now c.args.calls.now c.index-listed-from.result c.in-Some.node c.args.from c.args.at _ c.in-Some.is c.in_ok-next.ensures in
    turned_some c.args.objects.now c.args.calls.now c.args.nodes.now.items c.add.new.nodes.items c.args.from c.args.at c.index-listed-from.result
    c.in-Some.node is c.requires.turned next (grows_keeps c.args.nodes.now.items c.add.new.nodes.items c.in-Some.node c.add.ensures.grows)
    (c.in_ok-more.ensures.added e)
