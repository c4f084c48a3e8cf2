use mathlib.Core.Path.{sym, ap, ◌∙◌}
use Prim.Native.Nat.{ℕ}
use native.Mathlib.Omega.{arith}
use borrow.Author.Tests.{le-ltb}
use Rattle.rules.specs.Lines.{Connection, is_in_line, conn_at}
use Rattle.store.specs.Store.{market_of}
use Rattle.store.proofs.ConnLaws.{lined-sound, line-told}
use Rattle.market.proofs.AskLaws.{absent, line-at-sound}
use Rattle.market.proofs.asking.in_line.Goals as goal

pub find-i-requires : goal.find-i-requires
find-i-requires c = lined-sound _ c.requires

pub line_at-requires : goal.line_at-requires
line_at-requires c = line-at-sound _ c.requires _ (omega arith)

pub returns-then-i-count : goal.returns-then-i-count
returns-then-i-count c = line-told _ _ (omega arith) is_in_line (λ v. c.in_line.result) _ c.in_line.ensures c.line_at.ensures ∙ ap (λ (j : ℕ). is_in_line (conn_at j (market_of c.args.s.now)).line) c.find-i.ensures

pub returns-else-i-count : goal.returns-else-i-count
returns-else-i-count c = le-ltb _ _ (omega arith) ∙ ap (λ (x : Connection). is_in_line x.line) (sym (absent _ _ _ c.find-i.ensures (omega arith)))
