use mathlib.Core.Path.{ap, ◌∙◌}
use native.Mathlib.Omega.{arith}
use Rattle.rules.specs.Lines.{Connection}
use Rattle.store.specs.Store.{limits_of}
use Rattle.store.proofs.ConnLaws.{conn-said}
use Rattle.store.proofs.LineFrame.{line-length}
use Rattle.store.proofs.conns.conn_at.Goals as goal

pub conn-requires : goal.conn-requires
conn-requires c = rw c.line_words.ensures (omega (arith, line-length _ _ c.requires))

pub returns : goal.returns
returns c =
    c.conn.ensures (limits_of c.args.s.now).H
    ∙ ap (λ (x : Connection). x.conn) (conn-said c.args.s.now c.args.i c.requires.here _ c.line_words.ensures)
