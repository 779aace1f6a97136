use Rattle.std.proofs.Common.{◌∙◌, ◌++◌, sym, ap, rules}
use Rattle.std.specs.Char.{encode_utf8, IsScalar}
use Rattle.qk_token.proofs.Ends.{no_characters, characters_last}
use Rattle.qk_token.proofs.front.split_last.Goals as goal

pub returns-in-None : goal.returns-in-None
returns-in-None c = record { value = no_characters _ _ c.chars-characters.ensures.rest c.in-None.ensures.steps.0 }

pub returns-in-Some : goal.returns-in-Some
returns-in-Some c =
    let scalar : IsScalar c.in-Some.c = search rules in
    record { value = characters_last c.args.text.now c.as_str.result.now _ c.in-Some.c c.chars-characters.ensures.rest (c.in-Some.ensures.steps ∙ ap (λ r. r ++ encode_utf8 c.in-Some.c) (sym c.as_str.ensures)) c.as_str.utf8 scalar }
