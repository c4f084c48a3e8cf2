use mathlib.Core.Path.{ap, ◌∙◌}
use mathlib.Core.List.{List}
use Prim.Native.Nat.{ℕ}
use native.Mathlib.Omega.{arith}
use Rattle.place.specs.Items.{item_in}
use Rattle.store.proofs.ConnLaws.{items-inside}
use Rattle.store.proofs.conns.item_at.Goals as goal

pub item_at-requires : goal.item_at-requires
item_at-requires c = let p = c.requires in rw c.items.ensures (omega (arith, items-inside _ _ p.0, p.1))

pub returns : goal.returns
returns c = c.item_at.ensures ∙ ap (λ (v : List ℕ). item_in v c.args.j) c.items.ensures
