use Rattle.qk_whole.proofs.Files_grow.{files_none}
use Rattle.qk_whole.proofs.filing.all_files.Goals as goal

pub loop-at-init : goal.loop-at-init
loop-at-init c = files_none c.args.application.now.modules.list c.new-files.result c.new-files.ensures.empty
