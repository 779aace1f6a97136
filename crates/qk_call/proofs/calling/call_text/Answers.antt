use Rattle.std.proofs.Common.{ap}
use Rattle.qk_modules.specs.declared.modules.Modules.{Modules}
use Rattle.qk_code.specs.Modes.{mode_seen}
use Rattle.qk_whole.specs.Taking.{named, sources_of}
use Rattle.qk_call.proofs.Accepted.{accepted}
use Rattle.qk_call.proofs.Sources.{comes_of}
use Rattle.qk_call.proofs.calling.call_text.Goals as goal

pub new-requires : goal.new-requires
new-requires c = accepted c.args.source.now c.args.wanted.now.«module».now c.in_ok-application.application c.in_ok-application.ensures

pub returns : goal.returns
returns c =
    comes_of c.args.source.now c.args.wanted.now.«module».now c.args.wanted.now.name.now c.in_ok-file.file c.in_ok-name.name c.in_ok-application.application
    (sources_of c.in_ok-code.code.modules.list) (sources_of c.play_named.new.code.modules.list) c.args.wanted.now.budget (mode_seen c.args.wanted.now.mode) c.in_ok-played.played c.ending.result c.in_ok-played_text.field-0.items
    c.in_ok-application.ensures (ap (λ (m : Modules). named m.list) c.in_ok-code.ensures.modules) c.in_ok-played.ensures.grows c.in_ok-file.ensures c.in_ok-name.ensures c.in_ok-played.ensures.plays c.in_ok-played_text.ensures c.ending.ensures
