use mathlib.Core.Path.{ap, ◌∙◌}
use mathlib.Core.Bool.{true}
use Rattle.std.proofs.lemmas.Result.{err_from_is_err_and}
use Rattle.rules.specs.Answers.{value}
use Rattle.depth.specs.Value.{book_of}
use Rattle.depth.proofs.Readings.{first-best, best-first, best_refused}
use Rattle.depth.proofs.Depth.best_bid.Goals as goal

pub returns-in_err-bids : goal.returns-in_err-bids
returns-in_err-bids c =
    let p = err_from_is_err_and c.from_residual.result c.from_residual.ensures.1 in
    rw (p.1, p.2) (best_refused (book_of c.args.self.now) _ true c.in_err-bids.ensures)

pub returns : goal.returns
returns c =
    ap value ((c.copied.ensures ∙ c.first.ensures.value) ∙ first-best _)
    ∙ best-first (book_of c.args.self.now) true c.in_ok-bids.ensures
