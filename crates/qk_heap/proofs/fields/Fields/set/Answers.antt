use Rattle.std.specs.Prelude.{bytes_eq}
use Rattle.std.specs.List.{IsDistinct}
use Rattle.std.proofs.Common.{sym, subst}
use Rattle.indexmap.proofs.CallerLemmas.{keys-with_value_at}
use Rattle.qk_heap.proofs.fields.Fields.set.Goals as goal

pub invariant_of-self : goal.invariant_of-self
invariant_of-self c = subst (λ ks. IsDistinct bytes_eq ks) (sym (keys-with_value_at c.self.inside.map c.args.at c.args.v)) c.self.invariant
