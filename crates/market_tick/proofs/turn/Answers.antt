use mathlib.Core.Path.{refl}
use Rattle.market_tick.specs.declared.Way.TheVariants as Way
use Rattle.market_tick.proofs.TurnLaws.{turn-done}
use Rattle.market_tick.proofs.turn.Goals as goal

pub returns-in-Aligns : goal.returns-in-Aligns
returns-in-Aligns c =
    turn-done c.args.s.now _ _ _ _ _ _ _ c.args.i c.args.t c.args.due c.args.same c.in-Aligns.ensures Way.Aligns refl c.align.ensures

pub returns-in-Quietly : goal.returns-in-Quietly
returns-in-Quietly c =
    turn-done c.args.s.now _ _ _ _ _ _ _ c.args.i c.args.t c.args.due c.args.same c.in-Quietly.ensures Way.Quietly refl c.align_quietly.ensures

pub returns-in-Nowhere : goal.returns-in-Nowhere
returns-in-Nowhere c =
    turn-done c.args.s.now _ _ _ _ _ _ _ c.args.i c.args.t c.args.due c.args.same c.in-Nowhere.ensures Way.Nowhere refl c.ages.ensures
