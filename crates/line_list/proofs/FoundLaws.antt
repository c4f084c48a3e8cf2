-- What remove and subscribe leave, by the place that they find.
use mathlib.Core.Path.{◌≡◌, refl, sym, ap, ◌∙◌, subst}
use mathlib.Core.List.{List}
use mathlib.Core.Bool.{false, not, ◌&&◌}
use Prim.Native.Nat.{ℕ, ◌≤◌, ◌<◌}
use lib.Dec.{leb, eqb}
use lib.ListN.{length, get_or, set}
use Rattle.rules.specs.Lists.{keep, any, index}
use Rattle.rules.specs.Lines as Rules
use Rattle.rules.specs.Lines.{Connection, nobody, conn_at, waiting, subscribed, with_lines}
use Rattle.rules.proofs.Tests.{leb-false}
use Rattle.store.specs.Store.{limits_of, line_count, market_of, Sound}
use Rattle.store.specs.Moves.{Moved}
use Rattle.store.proofs.MarketLaws.{market-limits, lines-count}
use Rattle.store.proofs.FrameLaws.{moved-is}
use Rattle.store.proofs.ConnLaws.{of_conn, lined-sound}
use Rattle.store.specs.Areas.{without, inserted, Room}
use Rattle.line_list.proofs.ListedLaws.{without-none, index-le, keep-without, not_lower, subscribed-there, Absent, subscribed-new, absent_none}

module _ (w : List ℕ) (s : Sound w) (i conn : ℕ) where
  -- ---- remove: the i-th is the first of this connection

  module _ (q : i ≡ Rules.line_of conn (market_of w)) where
    kept : without i (market_of w).lines ≡ keep (λ c. not (eqb c.conn conn)) (market_of w).lines
    kept = ap (λ (n : ℕ). without n (market_of w).lines) q ∙ sym (keep-without conn (market_of w).lines s.market.lines.rises)

    pub removed : (v : List ℕ) → Moved w v (with_lines (without i (market_of w).lines) (market_of w))
        → Moved w v (with_lines (keep (λ c. not (eqb c.conn conn)) (market_of w).lines) (market_of w))
    removed v a = moved-is refl a (ap (λ (ls : List Connection). with_lines ls (market_of w)) kept)

    pub none-removed : line_count w ≤ i → Moved w w (with_lines (keep (λ c. not (eqb c.conn conn)) (market_of w).lines) (market_of w))
    none-removed h =
        record {
          market = ap (λ (ls : List Connection). with_lines ls (market_of w)) (sym (without-none i (market_of w).lines (rw (lines-count w) h)) ∙ kept);
          sized = s.sized;
          kinds = λ k. k;
        }

  -- ---- subscribe: the i-th is the first whose connection is not lower

  -- it is there, and this connection's
  abbrev pub Stands : Type 0
  Stands = (i < line_count w) × ((conn_at i (market_of w)).conn ≡ conn)

  module _ (q : i ≡ index (not_lower conn) (market_of w).lines) where
    pub replaced : (limit t : ℕ) → Stands → (v : List ℕ) → Moved w v (with_lines (set (market_of w).lines i (waiting conn limit t)) (market_of w))
        → Moved w v (with_lines (subscribed conn limit t (market_of w).lines) (market_of w))
    replaced limit t h v a =
        let l : i < length (market_of w).lines = rw (lines-count w) h.0 in
        moved-is refl a
        (ap (λ (n : ℕ). with_lines (set (market_of w).lines n (waiting conn limit t)) (market_of w)) q
        ∙ ap (λ (x : List Connection). with_lines x (market_of w))
        (sym
        (subscribed-there conn limit t (market_of w).lines (subst (λ (n : ℕ). n < length (market_of w).lines) q l)
        (subst (λ (n : ℕ). (get_or (market_of w).lines n nobody).conn ≡ conn) q h.1))))

    module _ (no : Stands → ⊥) where
      absent : Absent conn (market_of w).lines
      absent h e =
          no (
            rw (lines-count w) at (subst (λ (n : ℕ). n < length (market_of w).lines) (sym q) h),
            subst (λ (n : ℕ). (get_or (market_of w).lines n nobody).conn ≡ conn) (sym q) e,
          )

      pub room-found : not (any (λ c. eqb c.conn conn) (market_of w).lines) && leb (market_of w).limits.L (length (market_of w).lines) ≡ false → Room w i
      room-found e =
          let z : any (of_conn conn) (market_of w).lines ≡ false = absent_none conn (market_of w).lines s.market.lines.rises absent in
          let r : leb (limits_of w).L (length (market_of w).lines) ≡ false = rw (z, market-limits w) at e in
          let u : length (market_of w).lines < (limits_of w).L = leb-false r in
          record {
            lined = lined-sound w s;
            here = rw q (rw (lines-count w) at (index-le (not_lower conn) (market_of w).lines));
            room = rw (lines-count w) at u;
          }

      pub put_in : (limit t : ℕ) (v : List ℕ) → Moved w v (with_lines (inserted i (waiting conn limit t) (market_of w).lines) (market_of w))
          → Moved w v (with_lines (subscribed conn limit t (market_of w).lines) (market_of w))
      put_in limit t v a =
          moved-is refl a
          (ap (λ (n : ℕ). with_lines (inserted n (waiting conn limit t) (market_of w).lines) (market_of w)) q
          ∙ ap (λ (x : List Connection). with_lines x (market_of w)) (sym (subscribed-new conn limit t (market_of w).lines absent)))
