use Rattle.lines.specs.declared.Aging.TheVariants as Aging
use Rattle.store.proofs.ConnLaws.{fits-sound}
use Rattle.market_tick.proofs.TimeLaws.{line-ages, fails-ready, rebuild-ready}
use Rattle.market_tick.proofs.TurnLaws.{turns-stay, ages-done}
use Rattle.market_tick.proofs.ages.Goals as goal

pub line_at-requires : goal.line_at-requires
line_at-requires c = let r = c.requires in (fits-sound _ r.ready.sound _ r.here).at

pub fails-requires : goal.fails-requires
fails-requires c =
    let u = c.args.s.now in
    let a = line-ages u c.args.i c.args.t c.requires.here
    c.base-base.ensures
    c.line_at.ensures
    c.time-aged.ensures in
    let b = fails-ready u c.args.i c.args.t a c.in-Fails.is in
    record { sound = (c.requires.ready.sound, (c.requires.here, (b.0, c.requires.reports))); stands = b.1 }

pub rebuild_from-requires : goal.rebuild_from-requires
rebuild_from-requires c =
    let u = c.args.s.now in
    let a = line-ages u c.args.i c.args.t c.requires.here
    c.base-base.ensures
    c.line_at.ensures
    c.time-aged.ensures in
    (c.requires, rebuild-ready u c.args.i c.args.t a c.in-Rebuilds.is)

pub returns-in-Stays : goal.returns-in-Stays
returns-in-Stays c =
    let u = c.args.s.now in
    let a = line-ages u c.args.i c.args.t c.requires.here
    c.base-base.ensures
    c.line_at.ensures
    c.time-aged.ensures in
    ages-done u _ _ _ _ _ _ _ c.args.i c.args.t a Aging.Stays c.in-Stays.is (turns-stay c.args.k c.requires.ready.sound.sized)

pub returns-in-Fails : goal.returns-in-Fails
returns-in-Fails c =
    let u = c.args.s.now in
    let a = line-ages u c.args.i c.args.t c.requires.here
    c.base-base.ensures
    c.line_at.ensures
    c.time-aged.ensures in
    ages-done u _ _ _ _ _ _ _ c.args.i c.args.t a Aging.Fails
    c.in-Fails.is
    (c.fails.ensures c.args.out.now)

pub returns-in-Rebuilds : goal.returns-in-Rebuilds
returns-in-Rebuilds c =
    let u = c.args.s.now in
    let a = line-ages u c.args.i c.args.t c.requires.here
    c.base-base.ensures
    c.line_at.ensures
    c.time-aged.ensures in
    ages-done u _ _ _ _ _ _ _ c.args.i c.args.t a Aging.Rebuilds
    c.in-Rebuilds.is
    c.rebuild_from.ensures
