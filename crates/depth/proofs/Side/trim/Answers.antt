use mathlib.Core.Path.{◌≡◌}
use mathlib.Core.Bool.{true}
use Rattle.levels.specs.Depth.{side_sound}
use Rattle.levels.specs.Work.{side_in}
use Rattle.levels.proofs.Reversed.{side-count, side-falling}
use Rattle.levels.proofs.Theorems.{trim-sound}
use Rattle.depth.proofs.Readings.{split-side, sound-few}
use Rattle.depth.proofs.Side.trim.Goals as goal

pub split-columns-requires : goal.split-columns-requires
split-columns-requires c = let s = c.args.self.now in sound-few c.args.bid s.levels s.count c.requires

pub trim-count-requires : goal.trim-count-requires
trim-count-requires c =
    let a = c.args in
    let s = a.self.now in
    let k = c.split-columns.result in
    let sound_is : side_sound a.bid (side_in k.prices k.sizes s.count) ≡ true = rw (split-side s.levels _ _ s.count c.split-columns.ensures) c.requires in
    (side-count a.bid k.prices k.sizes s.count sound_is, side-falling a.bid k.prices k.sizes s.count sound_is)

pub join-self-requires : goal.join-self-requires
join-self-requires c =
    let a = c.args in
    let s = a.self.now in
    let k = c.split-columns.result in
    let sound_is : side_sound a.bid (side_in k.prices k.sizes s.count) ≡ true = rw (split-side s.levels _ _ s.count c.split-columns.ensures) c.requires in
    side-count a.bid k.prices k.sizes c.trim-count.result
    (rw (c.trim-count.ensures k.sizes) (trim-sound a.bid a.best (side_in k.prices k.sizes s.count) sound_is))

pub returns : goal.returns
returns c =
    let s = c.args.self.now in
    rw (
      split-side c.join-self.result _ _ c.trim-count.result c.join-self.ensures,
      split-side s.levels _ _ s.count c.split-columns.ensures,
    ) at (c.trim-count.ensures c.split-columns.result.sizes)
