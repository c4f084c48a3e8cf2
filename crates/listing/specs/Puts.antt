-- What each call on Lines does: text is written behind what is there, into the buffer that was lent.
use Rattle.std.specs.Prelude.{◌≡◌, List, ℕ, ◌≤◌, length}
use Rattle.listing.specs.declared.writing.Lines.{Lines}
use Rattle.listing.specs.Text.{Wrote}

pub record Puts (xs : List ℕ) (old new : Lines) : Type 0 where
  pub same : new.text.ghost_name ≡ old.text.ghost_name
  pub size : length new.text.now ≡ length old.text.now
  pub fits : new.len ≤ length new.text.now
  pub wrote : Wrote old.len xs old.text.now new.text.now new.len
