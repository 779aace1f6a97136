use Rattle.std.proofs.Common.{◌≡◌, ◌-◌}
use Rattle.qk_reading.specs.Forms.{links, links_from}
use Rattle.qk_reading.specs.Reader.{nesting}
use Rattle.qk_token.specs.Seen.{kind_of}
use Rattle.qk_grammar.proofs.grammar.Grammar.links.Given as goal

abbrev pub invariant-loop-turn : goal.invariant-loop-turn
invariant-loop-turn g l =
    links l.self.form l.self.room (nesting l.self.form l.self.room) (kind_of l.fn.found.kind) l.fn.found.links l.fn.tokens
    ≡ links_from l.self.form l.self.room (nesting l.self.form l.self.room) (l._turn-end - l._turn) (kind_of l.kind) l.links l.tokens
