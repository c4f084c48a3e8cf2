-- Moves that change neither the lines of a store nor its limits.
use mathlib.Core.Path.{◌≡◌, sym, ap, ◌∙◌}
use mathlib.Core.List.{List}
use Prim.Native.Nat.{ℕ}
use lib.ListN.{length, get_or}
use Rattle.rules.specs.declared.Limits.{Limits}
use Rattle.rules.specs.Lines.{Connection, conn_at, nobody}
use Rattle.store.specs.Store.{limits_of, line_count, market_of, Sized}
use Rattle.store.specs.ConnMoves.{LineAt, LineFits, NotFailed}
use Rattle.store.proofs.MarketLaws.{lines-count}

pub record Stays (w w₁ : List ℕ) : Type 0 where
  pub sized : Sized w₁
  pub lines : (market_of w₁).lines ≡ (market_of w).lines
  pub limits : limits_of w₁ ≡ limits_of w

pub count-stays : {w w₁ : List ℕ} → Stays w w₁ → line_count w₁ ≡ line_count w
count-stays {w} {w₁} s = sym (lines-count w₁) ∙ ap length s.lines ∙ lines-count w

module _ {w w₁ : List ℕ} (s : Stays w w₁) (i : ℕ) where
  pub conn-stays : conn_at i (market_of w₁) ≡ conn_at i (market_of w)
  conn-stays = ap (λ (ls : List Connection). get_or ls i nobody) s.lines

  pub line-at-stays : LineAt w i → LineAt w₁ i
  line-at-stays f =
      let n : line_count w₁ ≡ line_count w = count-stays s in
      let l : (limits_of w₁).L ≡ (limits_of w).L = ap (λ (x : Limits). x.L) s.limits in
      record { lined = record { sized = s.sized; count = rw (n, l) f.lined.count }; here = rw n f.here }

  pub fits-stays : LineFits w i → LineFits w₁ i
  fits-stays f =
      let l : (limits_of w₁).H ≡ (limits_of w).H = ap (λ (x : Limits). x.H) s.limits in
      record { at = line-at-stays f.at; items = rw (conn-stays, l) f.items; prints = rw (conn-stays, l) f.prints }

  pub unfailed-stays : NotFailed w i → NotFailed w₁ i
  unfailed-stays u = rw conn-stays u
