use mathlib.Core.Path.{sym, ◌∙◌}
use Rattle.rules.specs.Lines.{conn_at, is_pending}
use Rattle.store.specs.Store.{market_of}
use Rattle.store.proofs.ConnLaws.{line-told, lined-sound}
use Rattle.moves.proofs.LiningReads.{counted, aligned-place, nowhere-due, nowhere-other}
use Rattle.moves.proofs.reads.alignment.Goals as goal
use Rattle.moves.proofs.reads.alignment.Goals.{then-not-pending-via-then-not-pending, then-not-pending-via-else-not-pending+then-some_due}

pub line_at-requires : goal.line_at-requires
line_at-requires c = record { lined = lined-sound c.args.s.now c.requires.0; here = c.requires.1 }

pub some_due-requires : goal.some_due-requires
some_due-requires c = lined-sound c.args.s.now c.requires.0

pub returns-then-not-pending : goal.returns-then-not-pending
returns-then-not-pending c =
    let w = c.args.s.now in
    let m = market_of w in
    let l = (conn_at c.args.i m).line in
    elim c.then-not-pending.branch [
      | then-not-pending-via-then-not-pending b ↦ nowhere-other m.log.base c.args.quiet l m (sym (line-told w c.args.i c.requires.1 is_pending (λ v. c.pending.result) _ c.pending.ensures c.line_at.ensures) ∙ b.if-not-pending.true)
      | then-not-pending-via-else-not-pending+then-some_due b ↦ nowhere-due m.log.base c.args.quiet l m (sym b.some_due.ensures ∙ b.if-some_due.true)
    ]

pub held-n-requires : goal.held-n-requires
held-n-requires c =
    record { lined = lined-sound c.args.s.now c.requires.0; here = c.requires.1 }

pub items-requires : goal.items-requires
items-requires c =
    record { lined = lined-sound c.args.s.now c.requires.0; here = c.requires.1 }

pub alignment-requires : goal.alignment-requires
alignment-requires c =
    counted c.requires.0 c.requires.1 c.limits-g.ensures c.keys.ensures c.items.ensures c.head-head.ensures c.held-n.ensures

pub returns : goal.returns
returns c =
    let w = c.args.s.now in
    c.alignment.ensures
    ∙ aligned-place c.requires.0 c.requires.1 c.limits-g.ensures c.keys.ensures c.items.ensures c.head-head.ensures
    c.held-n.ensures c.args.quiet
    (sym (line-told w c.args.i c.requires.1 is_pending (λ v. c.pending.result) _ c.pending.ensures c.line_at.ensures) ∙ c.if-not-pending.false)
    (sym c.some_due.ensures ∙ c.if-some_due.false)
