-- Limits in range.
use mathlib.Core.Path.{◌≡◌}
use mathlib.Core.Bool.{true, ◌&&◌}
use Prim.Native.Nat.{◌+◌, ◌*◌, ◌≤◌}
use native.Mathlib.Nat.{mul-le-mul_right}
use Rattle.rules.specs.declared.Limits.{Limits}
use Rattle.rules.specs.Quantities.{within, in_range}
use Rattle.rules.proofs.Tests.{and-true-left, and-true-right, within_both}

pub record Bounds (l : Limits) : Type 0 where
  pub lines : l.L ≤ 16
  pub held : l.H ≤ 5000
  pub event : 1 ≤ l.G
  pub events : l.G ≤ 1048576
  pub keys : l.C ≤ 65536
  pub pairs : l.D ≤ 65536
  pub areas : l.L * (7 * l.H + 64) ≤ 16 * (7 * l.H + 64)

pub bounds : (l : Limits) → in_range l ≡ true → Bounds l
unfolding in_range
bounds l e =
    let a = within 1 16 l.L in
    let b = within 1 5000 l.H in
    let c = within 1 1048576 l.G in
    let d = within 1 65536 l.C in
    let f = within 1 65536 l.D in
    let e₄ : (a && b && c && d) ≡ true = and-true-left (a && b && c && d) f e in
    let e₃ : (a && b && c) ≡ true = and-true-left (a && b && c) d e₄ in
    let e₂ : (a && b) ≡ true = and-true-left (a && b) c e₃ in
    let h_l : l.L ≤ 16 = (within_both 1 16 l.L (and-true-left a b e₂)).1 in
    let h_g = within_both 1 1048576 l.G (and-true-right (a && b) c e₃) in
    record {
      lines = h_l;
      held = (within_both 1 5000 l.H (and-true-right a b e₂)).1;
      event = h_g.0;
      events = h_g.1;
      keys = (within_both 1 65536 l.C (and-true-right (a && b && c) d e₄)).1;
      pairs = (within_both 1 65536 l.D (and-true-right (a && b && c && d) f e)).1;
      areas = mul-le-mul_right (7 * l.H + 64) h_l;
    }
