-- A line of a store by value, over the words of its items.
use mathlib.Core.Path.{◌≡◌, sym, ◌∙◌}
use mathlib.Core.List.{List}
use Prim.Native.Nat.{ℕ, ◌*◌, ◌≤◌}
use native.Mathlib.Omega.{arith}
use lib.ListN.{length}
use Rattle.rules.specs.Lines.{conn_at}
use Rattle.lines.specs.declared.Line.{Line}
use Rattle.lines.specs.Line.{line_of, held_of}
use Rattle.lines.specs.Area.{head_line}
use Rattle.store.specs.Store.{line_words_at, market_of}
use Rattle.store.specs.ConnMoves.{items_at, LineFits}
use Rattle.store.proofs.ConnLaws.{line-words, items-counted, items-inside}

module _ (w : List ℕ) (i : ℕ) (f : LineFits w i) {l : Line} (q : l ≡ head_line (line_words_at w i)) {is : List ℕ} (p : is ≡ items_at w i) where
  pub value-fits : 4 * held_of l ≤ length is
  value-fits = rw (q, p) (omega (arith, items-counted w i f.at.here, items-inside w i f))

  pub value_line : line_of l is ≡ (conn_at i (market_of w)).line
  value_line = (λ j. line_of (q j) (p j)) ∙ sym (line-words w i f.at.here)
