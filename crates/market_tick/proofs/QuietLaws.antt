-- Quiet line-up.
use Rattle.std.specs.Prelude.{Option}
use mathlib.Core.Path.{◌≡◌, refl, sym, ap, ◌∙◌}
use mathlib.Core.List.{List, [], ◌∷◌}
use mathlib.Core.Bool.{Bool, true, false, ◌&&◌}
use Prim.Native.Nat.{ℕ, ◌+◌, ◌<◌}
use native.Mathlib.Omega.{arith}
use lib.ListN.{length, set}
use Rattle.rules.specs.declared.Item.{Item}
use Rattle.rules.specs.Lists.{nil}
use Rattle.rules.specs.Log.{end}
use Rattle.rules.specs.Lines.{Line, Market, conn_at, events, nobody}
use Rattle.rules.specs.Entering.{enter, try_line_up}
use Rattle.rules.specs.Tick.{quiet_line_up, quiet_log}
use Rattle.rules.specs.Sound.{holdings, holds}
use Rattle.rules.proofs.SoundMoves.{sum-set}
use Rattle.event_log.specs.declared.Head.{Head}
use Rattle.event_log.specs.Answers.{quiet_stamp}
use Rattle.lines.specs.Line.{snapshot_quiet}
use Rattle.store.specs.Store.{head_of, line_count, market_of}
use Rattle.store.specs.ConnMoves.{NotFailed}
use Rattle.store.proofs.MarketLaws.{lines-count, market-last}
use Rattle.store.proofs.ConnLaws.{fits-sound}
use Rattle.store.proofs.TableLaws.{tabled}
use Rattle.moves.specs.Does.{Does, Ready, EnterRoom}
use Rattle.market_tick.specs.Turns.{fits_quietly, quietly_of}
use Rattle.moves.proofs.DoesLaws.{does-as}

-- ---- quiet line-up

nil-none : {A : Type 0} (l : List A) → length l ≡ 0 → nil l ≡ true
nil-none [] e = refl
nil-none (x ∷ l) e = absurd (omega arith)

nil-some : {A : Type 0} (l : List A) → (length l ≡ 0 → ⊥) → nil l ≡ false
nil-some [] e = absurd (e refl)
nil-some (x ∷ l) e = refl

-- its held prints have room
pub enter-room : {u v : List ℕ} {n i : ℕ} → Ready u v n → i < line_count u → NotFailed u i → EnterRoom u v n i
enter-room {u} {v} {n} {i} r h f =
    let l = lines-count u in
    let a : holdings (set (market_of u).lines i nobody) + holds (conn_at i (market_of u)) ≡ holdings (market_of u).lines + 0 = sum-set holds (market_of u).lines i nobody (omega arith) in
    let b = r.room in
    record { prints = record { tabled = tabled r.sound; fits = fits-sound u r.sound i h; room = omega arith }; unfailed = f }

module _ (i now : ℕ) (is : List Item) {u v u₁ v₁ : List ℕ} {n n₁ : ℕ} where
  pub quiet-enters : {x e : ℕ} → x ≡ length (events is) → x ≡ 0 → e ≡ end (market_of u).log → Does (enter i e e false false) u v n u₁ v₁ n₁ → Does (quiet_line_up i now is) u v n u₁ v₁ n₁
  unfolding quiet_line_up
  quiet-enters {x} {e} p z q d =
      does-as (enter i e e false false) (quiet_line_up i now is)
      (λ k s. let y : e ≡ end k.market.log = q ∙ ap (λ (m : Market). end m.log) (sym s) in rw (nil-none (events is) (sym p ∙ z)) (λ j. enter i (y j) (y j) false false k)) d

  pub quiet-tries : {x : ℕ} → x ≡ length (events is) → (x ≡ 0 → ⊥) → Does (try_line_up true i now) u v n u₁ v₁ n₁ → Does (quiet_line_up i now is) u v n u₁ v₁ n₁
  unfolding quiet_line_up
  quiet-tries p z d = does-as (try_line_up true i now) (quiet_line_up i now is) (λ k s. rw (nil-some (events is) (λ e. z (p ∙ e))) refl) d

-- ---- whether it may line up quietly

four-yes : (x : Bool) → (true && true && x && true) ≡ x
four-yes true = refl
four-yes false = refl

four-no : (a b x : Bool) → (a && b && x && false) ≡ false
four-no true true true = refl
four-no true true false = refl
four-no true false x = refl
four-no false b x = refl

second-no : (a x s : Bool) → (a && false && x && s) ≡ false
second-no true x s = refl
second-no false x s = refl

module _ (u : List ℕ) (i now : ℕ) (same : Bool) where
  abbrev line : Line
  line = (conn_at i (market_of u)).line

  abbrev It : Bool
  It = quietly_of line same now (market_of u)

  abbrev fit : Bool
  fit = fits_quietly line (market_of u)

  abbrev calm : Bool
  calm = quiet_log now (market_of u).log

  module _ {h : Head} (e : h ≡ head_of u) {a : Bool} (p : a ≡ quiet_stamp h.last now true) where
    calm-is : calm ≡ a
    calm-is = sym (p ∙ ap (λ (s : Option ℕ). quiet_stamp s now true) (ap (λ (x : Head). x.last) e ∙ sym (market-last u)))

    -- the log is not quiet
    pub quietly-loud : a ≡ false → false ≡ It
    quietly-loud z = sym (λ j. (calm-is ∙ z) j && snapshot_quiet now line && fit && same)

    -- the view is not the same
    pub quietly-other : same ≡ false → false ≡ It
    quietly-other z = sym ((λ j. calm && snapshot_quiet now line && fit && z j) ∙ four-no calm (snapshot_quiet now line) fit)

    module _ {b : Bool} (q : b ≡ snapshot_quiet now line) where
      -- its snapshot is new
      pub quietly-new : b ≡ false → false ≡ It
      quietly-new z = sym ((λ j. calm && (sym q ∙ z) j && fit && same) ∙ second-no calm fit same)

      pub quietly-fits : a ≡ true → b ≡ true → same ≡ true → {r : Bool} → r ≡ fit → r ≡ It
      quietly-fits x y z f = f ∙ sym ((λ j. (calm-is ∙ x) j && (sym q ∙ y) j && fit && z j) ∙ four-yes fit)
