use Rattle.std.proofs.Common.{◌∙◌, sym}
use Rattle.std.specs.String.{string_bytes}
use Rattle.qk_lex.proofs.JoinLemmas.{decoded_on, some_length}
use Rattle.qk_lex.proofs.jsx.decoded_text.Goals as goal

pub loop-rest-preserved : goal.loop-rest-preserved
loop-rest-preserved c =
    decoded_on (string_bytes c.loop-rest.decoded) (string_bytes c.push.new.self) c.loop-rest.rest.now c.after-rest.result.now c.first_decoded-c.result.0 c.first_decoded-c.result.1 _
    (some_length c.loop-rest.rest.now (sym c.is_empty.ensures ∙ c.loop-rest-test.true)) c.first_decoded-c.ensures.value c.in_ok-push.ensures.bytes c.after-rest.ensures.value c.loop-rest.invariant
