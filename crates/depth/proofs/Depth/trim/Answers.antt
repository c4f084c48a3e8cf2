use mathlib.Core.Path.{sym, ◌∙◌}
use Rattle.std.proofs.lemmas.Result.{err_from_is_err_and}
use Rattle.rules.specs.Answers.{value}
use Rattle.levels.proofs.Books.{sound-bids, sound-asks, trim-unsound, trim-done}
use Rattle.depth.specs.Value.{book_of}
use Rattle.depth.proofs.Depth.trim.Goals as goal

pub returns-in_err-tested-clause-answer : goal.returns-in_err-tested-clause-answer
returns-in_err-tested-clause-answer c =
    let a = c.args in
    let p = err_from_is_err_and c.from_residual.result c.from_residual.ensures.1 in
    let (e, u) = c.in_err-tested.ensures.refused in
    rw (p.1, p.2, e) (sym (trim-unsound (book_of a.self.now) a.best_bid a.best_ask u))

pub trim-requires : goal.trim-requires
trim-requires c = sound-bids (book_of c.args.self.now) c.in_ok-tested.ensures.done

pub trim-requires-2 : goal.trim-requires-2
trim-requires-2 c = sound-asks (book_of c.args.self.now) c.in_ok-tested.ensures.done

pub returns-clause-answer : goal.returns-clause-answer
returns-clause-answer c =
    let a = c.args in
    let e = c.trim.ensures in
    let f = c.trim-2.ensures in
    (λ i. value (record { bids = e i; asks = f i })) ∙ sym (trim-done (book_of a.self.now) a.best_bid a.best_ask c.in_ok-tested.ensures.done)
