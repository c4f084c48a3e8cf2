use mathlib.Core.Path.{sym}
use Rattle.std.proofs.lemmas.Result.{err_from_is_err_and}
use Rattle.levels.proofs.Reversed.{side-count}
use Rattle.levels.proofs.Theorems.{set-sound}
use Rattle.depth.specs.Value as Value
use Rattle.depth.proofs.Readings.{split-side, sound-few}
use Rattle.depth.proofs.Side.set.Goals as goal

pub split-columns-requires : goal.split-columns-requires
split-columns-requires c = let s = c.args.self.now in sound-few c.args.bid s.levels s.count c.requires

pub set-requires : goal.set-requires
set-requires c = let s = c.args.self.now in rw (split-side s.levels _ _ s.count c.split-columns.ensures) c.requires

pub returns-in_err-count-clause-answer : goal.returns-in_err-count-clause-answer
returns-in_err-count-clause-answer c =
    let s = c.args.self.now in
    let p = err_from_is_err_and c.from_residual.result c.from_residual.ensures.1 in
    rw (p.1, p.2) (rw (split-side s.levels _ _ s.count c.split-columns.ensures) at c.in_err-count.ensures.0)

pub join-self-requires : goal.join-self-requires
join-self-requires c =
    let a = c.args in
    let s = a.self.now in
    let answered = rw (split-side s.levels _ _ s.count c.split-columns.ensures) at c.in_ok-count.ensures.0 in
    side-count a.bid c.set.new.prices c.set.new.sizes c.in_ok-count.count
    (set-sound a.bid a.price a.size (Value.side_by_value s) _ c.requires (sym answered))

pub returns-clause-answer : goal.returns-clause-answer
returns-clause-answer c =
    let s = c.args.self.now in
    let answered = rw (split-side s.levels _ _ s.count c.split-columns.ensures) at c.in_ok-count.ensures.0 in
    rw (split-side c.join-self.result _ _ c.in_ok-count.count c.join-self.ensures) at answered
