use Rattle.state_seen.proofs.Lines.{three}
use Rattle.state_text.proofs.page_texts.put_mapping.Goals as goal

pub returns : goal.returns
returns c = three c.args.out.now.items c.put.new.out.items c.put_bytes.new.out.items c.put-2.new.out.items _ _ _ c.in_ok-put.ensures
    c.in_ok-put_bytes.ensures c.in_ok-put-2.ensures
