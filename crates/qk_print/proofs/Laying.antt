-- Written text, laid out token by token: what is spelled, and which tokens are read.
use Rattle.std.specs.Prelude.{◌≡◌, refl, ℕ, [], ◌∷◌, ◌++◌, codes}
use Rattle.std.proofs.Common.{ap, sym, ◌∙◌, subst}
use Rattle.std.proofs.lemmas.List.{append_assoc}
use Rattle.std.specs.Char.{encode_utf8}
use Rattle.std.specs.Str.{encode_utf8_all}
use Rattle.qk_ast.specs.Characters.{Characters}
use Rattle.qk_ast.specs.Tokens.{Token, Written, written, tokens_of}
use Rattle.qk_ast.specs.Spelling.{Writing, ◌⨾◌, nothing, one}
use Rattle.qk_print.specs.Letters.{Text}
use Rattle.qk_print.proofs.Lines.{Line, ◌▹◌, empty, put, blank, space, feed}

abbrev pub spelled_bytes : Written → Text
spelled_bytes R = encode_utf8_all (written R [])

-- A piece of writing can be laid before what follows, so that this text is spelled.
pub record Lays (w : Writing) (t : Text) : Type 0 where
  pub line : Written → Written
  pub spells : (R : Written) → spelled_bytes (line R) ≡ t ++ spelled_bytes R
  pub reads : (R : Written) → tokens_of (line R) ≡ w (tokens_of R)

-- It is laid by this line.
pub record Lays_as (l : Line) (w : Writing) (t : Text) : Type 0 where
  pub spells : (R : Written) → spelled_bytes (l R) ≡ t ++ spelled_bytes R
  pub reads : (R : Written) → tokens_of (l R) ≡ w (tokens_of R)

abbrev pub lays_by_line : (l : Line) (w : Writing) (t : Text) → Lays_as l w t → Lays w t
lays_by_line l w t h = record { line = l; spells = h.spells; reads = h.reads }

pub lays_nothing : Lays_as empty nothing []
lays_nothing = record { spells = λ R. refl; reads = λ R. refl }

pub lays_then : {l m : Line} (u v : Writing) (s t : Text) → Lays_as l u s → Lays_as m v t → Lays_as (l ▹ m) (u ⨾ v) (s ++ t)
lays_then {l} {m} u v s t h k = record {
  spells = λ R. h.spells (m R) ∙ ap (λ x. s ++ x) (k.spells R) ∙ sym (append_assoc s t (spelled_bytes R));
  reads = λ R. h.reads (m R) ∙ ap u (k.reads R);
}

pub lays_so : {l : Line} (w : Writing) (s t : Text) → s ≡ t → Lays_as l w s → Lays_as l w t
lays_so {l} w s t e h = subst (Lays_as l w) e h

lays_blank : (c : ℕ) (t : Text) → ((cs : Characters) → encode_utf8_all (c ∷ cs) ≡ t ++ encode_utf8_all cs) → Lays_as (blank c) nothing t
lays_blank c t h = record { spells = spells; reads = reads }
  where
    spells : (R : Written) → spelled_bytes (blank c R) ≡ t ++ spelled_bytes R
    spells (Written.End gap) = h _
    spells (Written.Then gap token more) = h _

    reads : (R : Written) → tokens_of (blank c R) ≡ tokens_of R
    reads (Written.End gap) = refl
    reads (Written.Then gap token more) = refl

pub lays_space : Lays_as space nothing (codes " ")
unfolding encode_utf8
lays_space = lays_blank 32 (codes " ") (λ cs. refl)

pub lays_feed : Lays_as feed nothing (codes "\n")
unfolding encode_utf8
lays_feed = lays_blank 10 (codes "\n") (λ cs. refl)

-- a token that is spelled so
pub lays_one : (token : Token) (t : Text) → ((R : Written) → spelled_bytes (Written.Then [] token R) ≡ t ++ spelled_bytes R) → Lays_as (put token) (one token) t
lays_one token t h = record { spells = h; reads = λ R. refl }
