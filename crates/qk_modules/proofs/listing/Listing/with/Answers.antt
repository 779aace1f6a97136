use Rattle.std.proofs.Common.{rules, ◌≡◌, sym, subst}
use Rattle.std.specs.String.{string_bytes}
use Rattle.qk_modules.specs.Known.{HasTexts}
use Rattle.qk_modules.proofs.Listed.{has_more}
use Rattle.qk_modules.proofs.listing.Listing.with.Goals as goal

pub invariant_of-result : goal.invariant_of-result
invariant_of-result c =
    let same : string_bytes c.in_ok-from_str.field-0 ≡ c.in_ok-share.field-0 = search rules in
    subst (λ all. HasTexts c.insert.new.self all) (sym c.in_ok-push.ensures.appended)
    (has_more c.self.inside.known c.insert.new.self c.in_ok-from_str.field-0 c.self.inside.sources c.in_ok-share.field-0 c.self.invariant same c.in_ok-insert.ensures.updates)
