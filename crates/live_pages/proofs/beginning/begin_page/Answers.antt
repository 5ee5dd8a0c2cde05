use Rattle.vm_base.specs.Plain.{page_bytes}
use Rattle.frames.specs.Files.{files_of}
use Rattle.live_pages.proofs.FilePages.{begins_from}
use Rattle.live_pages.proofs.beginning.begin_page.Goals as goal

pub returns : goal.returns
returns g c = begins_from (files_of c.args.objects.now) c.args.file c.args.page c.args.count (page_bytes c.first_bytes.result.now 0) c.args.frame.now
    c.begin_bytes.new.frame c.requires.page c.first_bytes.ensures.bytes c.begin_bytes.ensures
