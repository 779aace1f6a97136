-- What a call appends to a buffer.
use Rattle.std.specs.Prelude.{ℕ, ◌≡◌, ◌≤◌, ◌<◌, ◌+◌, ◌++◌, length, Result, OnOk, OnErr, IfErr}
use Rattle.qk_meaning.specs.Value.{Text}
use Rattle.qk_html.specs.declared.writing.HtmlFault.{HtmlFault}

-- the first is the front of the second
unfoldable pub Begins : Text → Text → Type 0
Begins front whole = (rest : Text) × (whole ≡ front ++ rest)

-- what comes of appending a text to a buffer of at most `most` bytes
pub record Appends (text : Text) (most : ℕ) (old new : Text) (result : Result (Unit {0}) HtmlFault) : Type 0 where
  -- it stands behind what stood there
  pub all : OnOk result (new ≡ old ++ text)
  -- and the buffer still has at most `most`
  pub within : OnOk result (length old ≤ most → length new ≤ most)
  -- what is too long would pass that
  pub over : IfErr result (λ f. f ≡ HtmlFault.TooLong → most < length old + length text)
  -- what stood there is in front also where the text is refused
  pub front : OnErr result (Begins old new)
