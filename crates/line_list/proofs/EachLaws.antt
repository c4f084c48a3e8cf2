-- Every line of a store changed, one after another.
use mathlib.Core.Path.{◌≡◌, refl, sym, ap, ◌∙◌}
use mathlib.Core.List.{List, [], ◌∷◌, map}
use Prim.Native.Nat.{ℕ, zero, suc, ◌+◌, ◌≤◌, ◌<◌}
use native.Mathlib.Nat.{not-suc-le-zero, le_of_suc-le-suc}
use native.Mathlib.Numerals.{add-one}
use lib.ListN.{length, get_or, set}
use Rattle.rules.specs.Lines as Rules
use Rattle.rules.specs.Lines.{Connection, Market, nobody, conn_at, with_lines, set_line, with_line}
use Rattle.rules.specs.Calls.{each_line}
use Rattle.lines.specs.declared.Line.{Line}
use Rattle.lines.specs.Line.{line_of}
use Rattle.lines.specs.Area.{head_line}
use Rattle.store.specs.Store.{line_count, line_words_at, market_of, Sized}
use Rattle.store.specs.Moves.{Moved}
use Rattle.store.specs.ConnMoves.{items_at}
use Rattle.store.proofs.MarketLaws.{lines-count}
use Rattle.store.proofs.FrameLaws.{moved-is}
use Rattle.store.proofs.ConnLaws.{line-told}

-- one line changed, by value
pub line-changed : (w v : List ℕ) (i : ℕ) → i < line_count w → (g : Rules.Line → Rules.Line) (l new : Line) → l ≡ head_line (line_words_at w i)
    → ((u : List ℕ) → line_of new u ≡ g (line_of l u)) → Moved w v (set_line i (line_of new (items_at w i)) (market_of w))
    → Moved w v (set_line i (g (conn_at i (market_of w)).line) (market_of w))
line-changed w v i h g l new q e a = moved-is refl a (ap (λ (x : Rules.Line). set_line i x (market_of w)) (line-told w i h g (line_of new) l e q))

-- ---- the first i of a list changed

module _ {A : Type 0} (f : A → A) where
  unfoldable pub first_mapped : ℕ → List A → List A
  first_mapped zero l = l
  first_mapped (suc i) [] = []
  first_mapped (suc i) (x ∷ xs) = f x ∷ first_mapped i xs

  first-length : (i : ℕ) (l : List A) → length (first_mapped i l) ≡ length l
  unfolding first_mapped
  first-length zero l = refl
  first-length (suc i) [] = refl
  first-length (suc i) (x ∷ xs) = ap suc (first-length i xs)

  first_more : (i : ℕ) (l : List A) (d : A) → i < length l → set (first_mapped i l) i (f (get_or (first_mapped i l) i d)) ≡ first_mapped (suc i) l
  unfolding first_mapped
  first_more i [] d h = absurd (not-suc-le-zero h)
  first_more zero (x ∷ xs) d h = refl
  first_more (suc i) (x ∷ xs) d h = ap {B = List A} (λ r. f x ∷ r) (first_more i xs d (le_of_suc-le-suc h))

  first-all : (i : ℕ) (l : List A) → length l ≤ i → first_mapped i l ≡ map f l
  unfolding first_mapped
  first-all zero [] h = refl
  first-all zero (x ∷ xs) h = absurd (not-suc-le-zero h)
  first-all (suc i) [] h = refl
  first-all (suc i) (x ∷ xs) h = ap {B = List A} (λ r. f x ∷ r) (first-all i xs (le_of_suc-le-suc h))

-- ---- the first i lines of a store changed

abbrev pub on_line : (Rules.Line → Rules.Line) → Connection → Connection
on_line f s = with_line (f s.line) s

module _ (f : Rules.Line → Rules.Line) (w : List ℕ) where
  -- the words w became v, of which the first i lines are changed
  abbrev pub Partly : ℕ → List ℕ → Type 0
  Partly i v = Moved w v (with_lines (first_mapped (on_line f) i (market_of w).lines) (market_of w))

  pub each_none : Sized w → Partly 0 w
  unfolding first_mapped
  each_none z = record { market = refl; sized = z; kinds = λ k. k }

  module _ (v : List ℕ) (i : ℕ) (a : Partly i v) where
    pub each_more : (x : List ℕ) → i < line_count w → Moved v x (set_line i (f (conn_at i (market_of v)).line) (market_of v)) → Partly (i + 1) x
    each_more x h b =
        record {
          market = b.market
              ∙ ap (λ (m : Market). set_line i (f (conn_at i m).line) m) a.market
              ∙ ap (λ (ls : List Connection). with_lines ls (market_of w)) (first_more (on_line f) i (market_of w).lines nobody (rw (lines-count w) h) ∙ ap (λ (k : ℕ). first_mapped (on_line f) k (market_of w).lines) (sym (add-one i)));
          sized = b.sized;
          kinds = λ k. b.kinds (a.kinds k);
        }

    pub each_all : line_count w ≤ i → Moved w v (each_line f (market_of w))
    each_all h =
        moved-is refl a (ap (λ (ls : List Connection). with_lines ls (market_of w)) (first-all (on_line f) i (market_of w).lines (rw (lines-count w) h)))
