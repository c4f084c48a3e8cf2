-- Text that waits to be written, in a buffer that takes the answer of any call.
use Rattle.std.specs.Prelude.{◌≤◌, length}
use Rattle.listing.specs.declared.writing.Lines.{Lines}

pub record Roomy (lines : Lines) : Type 0 where
  pub buffer : 80000 ≤ length lines.text.now
  pub fits : lines.len ≤ length lines.text.now
