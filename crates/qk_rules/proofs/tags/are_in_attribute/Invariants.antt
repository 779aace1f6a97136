use Rattle.std.proofs.Common.{◌≡◌, drop}
use Rattle.qk_ast.specs.Characters.{every}
use Rattle.qk_rules.specs.Attributes.{is_in_attribute}
use Rattle.qk_rules.proofs.tags.are_in_attribute.Given as goal

abbrev pub invariant-loop-byte : goal.invariant-loop-byte
invariant-loop-byte l = every is_in_attribute l.bytes ≡ every is_in_attribute (drop l.byte-index l.bytes)
