-- Laws of a print: what it leaves when it is held, put out, counted, or neither.
use mathlib.Core.Path.{◌≡◌, refl, sym, ap, ◌∙◌, subst}
use mathlib.Core.List.{List, [], ◌∷◌, ◌++◌}
use mathlib.Core.Bool.{Bool, true, false}
use Prim.Native.Nat.{ℕ, suc, ◌+◌, ◌-◌, ◌*◌, ◌≤◌, ◌<◌}
use native.Mathlib.Omega.{arith}
use native.Mathlib.Numerals.{add-one}
use lib.Dec.{leb}
use lib.ListN.{length, get_or-eq_default}
use borrow.Author.Tests.{le-leb, lt-leb}
use Rattle.rules.specs.Lists.{any}
use Rattle.rules.specs.Quantities.{Key, same, max_count, print_out}
use Rattle.rules.specs.Prints as Tables
use Rattle.rules.specs.Prints.{applied_in, delivered_in, apply_print}
use Rattle.rules.specs.Lines.{Line, Waiting, Pending, InLine, Failed, Connection, Market, conn_at, line_of, nobody, is_in_line, is_failed, with_prints, set_conn, set_line}
use Rattle.rules.specs.Entering.{begin, on_market, put_out}
use Rattle.rules.specs.Calls.{Outcome, refused, did, just, apply, duplicate, held, ignored, failed, hold_print, print_counted, no_row, print}
use Rattle.rules.specs.Answers.{Said, number, word}
use Rattle.rules.specs.Sound as Rules
use Rattle.rules.proofs.Tests.{by_cond, ff≢tt}
use Rattle.rules.proofs.PrintsSound.{counted-sound, apply_print-sound}
use Rattle.rules.proofs.SoundCalls.{Safe, holdings-fit, just-safe, hold_print-safe, print-safe}
use Rattle.lines.specs.declared.Line.{Line as Value}
use Rattle.lines.specs.Line as Lines
use Rattle.lines.specs.Area.{head_line}
use Rattle.store.specs.Store.{limits_of, line_count, line_words_at, market_of, Sound}
use Rattle.store.specs.Moves.{Moved, Tabled}
use Rattle.store.specs.ConnMoves.{LineAt, NotFailed, PrintRoom}
use Rattle.store.proofs.MarketLaws.{market-limits, lines-count}
use Rattle.store.proofs.FrameLaws.{moved_on, moved-is}
use Rattle.store.proofs.ConnLaws.{fits-sound, limit-sound, line-told, line-again, line-at-kept}
use Rattle.store.proofs.TableLaws.{tabled}
use Rattle.output.specs.Output.{record_words, over_at}
use Rattle.market.specs.Lent.{Lent, lent, Answers, Roomy}
use Rattle.market_prints.specs.Put.{put_print}
use Rattle.moves.proofs.DoesLaws.{moved_none, does-then, does-market, does-put}
use Rattle.market.proofs.AnswerLaws.{roomy-then, safe-as, refuses, answered, justly, answers-from}

answers-is : {o p : Outcome} {l l₁ : Lent} {r : Said} → o ≡ p → Answers p l r l₁ → Answers o l r l₁
answers-is {l = l} {l₁ = l₁} {r = r} e a = subst (λ (x : Outcome). Answers x l r l₁) (sym e) a

-- ---- hold

module _ (i : ℕ) (k : Key) (msg : ℕ) (m : Market) where
  already-is : any (λ h. same h.0 k) (conn_at i m).held ≡ true → hold_print i k msg m ≡ just held m
  unfolding hold_print
  already-is e = rw e

  fails-is : any (λ h. same h.0 k) (conn_at i m).held ≡ false → leb (conn_at i m).limit (length (conn_at i m).held) ≡ true
      → hold_print i k msg m ≡ just failed (set_conn i Failed [] m)
  unfolding hold_print
  fails-is e f = rw (e, f)

  more-is : any (λ h. same h.0 k) (conn_at i m).held ≡ false → leb (conn_at i m).limit (length (conn_at i m).held) ≡ false
      → hold_print i k msg m ≡ just held (set_conn i (conn_at i m).line ((conn_at i m).held ++ ((k, msg) ∷ [])) m)
  unfolding hold_print
  more-is e f = rw (e, f)

module _ {w : List ℕ} {i : ℕ} (p : Sound w × ((i < line_count w) × NotFailed w i)) (k : Key) (msg : ℕ) where
  hold-safe : Safe (limits_of w) (hold_print i k msg (market_of w))
  hold-safe = safe-as w (hold_print i k msg (market_of w)) (hold_print-safe i k msg (market_of w) (conn_at i (market_of w)).line refl p.1.1 p.0.market)

  pub held-already : any (λ h. same h.0 k) (conn_at i (market_of w)).held ≡ true
      → (v : List ℕ) → Answers (hold_print i k msg (market_of w)) (lent w v) (word held 0 0) (lent w v)
  held-already e v = justly held p.0 refl (moved_none p.0.sized) (already-is i k msg (market_of w) e) hold-safe

  -- the print is not among the n that are held
  module _ {n : ℕ} (e : any (λ h. same h.0 k) (conn_at i (market_of w)).held ≡ false) (q : n ≡ length (conn_at i (market_of w)).held) where
    pub line-fails : {w₁ w₂ : List ℕ} → (conn_at i (market_of w)).limit ≤ n → length w₁ ≡ length w → length w₂ ≡ length w₁
        → Moved w w₁ (set_conn i (conn_at i (market_of w)).line [] (market_of w)) → Moved w₁ w₂ (set_line i Failed (market_of w₁))
        → (v : List ℕ) → Answers (hold_print i k msg (market_of w)) (lent w v) (word failed 0 0) (lent w₂ v)
    line-fails h l l₁ a b v =
        let x = lines-count w in
        let y = p.1.0 in
        justly failed p.0 (l₁ ∙ l)
        (moved-is refl (moved_on a b) (ap (set_line i Failed) a.market ∙ line-again i (conn_at i (market_of w)).line Failed [] (market_of w) (omega arith)))
        (fails-is i k msg (market_of w) e (le-leb (conn_at i (market_of w)).limit (length (conn_at i (market_of w)).held) (omega arith))) hold-safe

    pub hold-room : n < (conn_at i (market_of w)).limit → PrintRoom w i
    hold-room h = let z = limit-sound w p.0 i p.1.0 in record { fits = fits-sound w p.0 i p.1.0; unfailed = p.1.1; room = omega arith }

    pub held_more : {w₁ : List ℕ} → n < (conn_at i (market_of w)).limit → length w₁ ≡ length w
        → Moved w w₁ (set_conn i (conn_at i (market_of w)).line ((conn_at i (market_of w)).held ++ ((k, msg) ∷ [])) (market_of w))
        → (v : List ℕ) → Answers (hold_print i k msg (market_of w)) (lent w v) (word held 0 0) (lent w₁ v)
    held_more h l a v =
        justly held p.0 l a (more-is i k msg (market_of w) e (lt-leb (conn_at i (market_of w)).limit (length (conn_at i (market_of w)).held) (omega arith))) hold-safe

-- a line whose prints went is still there
pub dropped-at : {w w₁ : List ℕ} {i : ℕ} → Sound w → i < line_count w → Moved w w₁ (set_conn i (conn_at i (market_of w)).line [] (market_of w)) → LineAt w₁ i
dropped-at {w} {w₁} {i} s h a = line-at-kept w w₁ i _ a i (fits-sound w s i h).at

-- ---- put out

put-safe : (c : ℕ) (k : Key) (msg d a : ℕ) (m : Market) → d ≤ max_count → Rules.Sound m → Safe m.limits (put_print c k msg d a m)
put-safe c k msg d a m h s = (
  record {
    sound = record { limits_fit = s.limits_fit; lines = s.lines; prints = apply_print-sound m.limits m.prints k d h s.prints };
    limits = refl;
    spent = let z = holdings-fit m s in omega arith;
  },
  omega arith,
)

pub put-done : {w v w₁ v₁ : List ℕ} {n : ℕ} (c : ℕ) (k : Key) (msg d a : ℕ) → Roomy w v → d ≤ max_count → length w₁ ≡ length w
    → Moved w w₁ (with_prints (apply_print k d (market_of w).prints) (market_of w)) → (n ≡ 0 + 1) × (v₁ ≡ over_at (7 * 0) (record_words (print_out c k msg (d - a))) v)
    → Answers (put_print c k msg d a (market_of w)) (lent w v) (word apply n 0) (lent w₁ v₁)
put-done {w} {v} c k msg d a r h l moved put =
    let f : Market → Market = λ m. with_prints (apply_print k d m.prints) m in
    let x = print_out c k msg (d - a) in
    answered apply r.sound l
    (does-then (on_market f) (put_out x) (omega arith) (does-market {v = v} {n = 0} f moved) (does-put x moved.sized put) (begin (market_of w)) refl)
    refl (safe-as w (put_print c k msg d a (market_of w)) (put-safe c k msg d a (market_of w) h r.sound.market))

-- ---- counted

module _ (i c : ℕ) (k : Key) (msg d a : ℕ) (m : Market) where
  duplicate-is : (l : Line) → is_failed l ≡ false → leb d a ≡ true → print_counted i c k msg d a m l ≡ just duplicate m
  unfolding print_counted
  duplicate-is (Waiting is since) f e = rw e
  duplicate-is (Pending is at since) f e = rw e
  duplicate-is (InLine n x y) f e = rw e
  duplicate-is Failed f e = absurd (ff≢tt f refl)

  put_is : (l : Line) → is_in_line l ≡ true → leb d a ≡ false → print_counted i c k msg d a m l ≡ put_print c k msg d a m
  unfolding print_counted
  put_is (Waiting is since) f e = absurd (ff≢tt refl f)
  put_is (Pending is at since) f e = absurd (ff≢tt refl f)
  put_is (InLine n x y) f e = rw e
  put_is Failed f e = absurd (ff≢tt refl f)

  hold-is : (l : Line) → is_in_line l ≡ false → is_failed l ≡ false → leb d a ≡ false → print_counted i c k msg d a m l ≡ hold_print i k msg m
  unfolding print_counted
  hold-is (Waiting is since) g f e = rw e
  hold-is (Pending is at since) g f e = rw e
  hold-is (InLine n x y) g f e = absurd (ff≢tt g refl)
  hold-is Failed g f e = absurd (ff≢tt f refl)

-- what the line by value says
told : (w : List ℕ) (i : ℕ) → i < line_count w → (g : Line → Bool) {b : Bool} {r : Bool} {l : Value} → l ≡ head_line (line_words_at w i)
    → ((v : List ℕ) → r ≡ g (Lines.line_of l v)) → r ≡ b → g (conn_at i (market_of w)).line ≡ b
told w i h g {r = r} {l = l} q e t = sym (line-told w i h g (λ v. r) l e q) ∙ t

module _ {w v : List ℕ} (i c : ℕ) (k : Key) (msg d a : ℕ) where
  pub counted-duplicate : Sound w → NotFailed w i → d ≤ a
      → Answers (print_counted i c k msg d a (market_of w) (conn_at i (market_of w)).line) (lent w v) (word duplicate 0 0) (lent w v)
  counted-duplicate s f h =
      answers-is (duplicate-is i c k msg d a (market_of w) (conn_at i (market_of w)).line f (le-leb d a h))
      (justly duplicate s refl (moved_none s.sized) refl (safe-as w (just duplicate (market_of w)) (just-safe (market_of w) duplicate s.market)))

  module _ {w₁ v₁ : List ℕ} {s : Said} {r : Bool} {l : Value} (n : i < line_count w) (q : l ≡ head_line (line_words_at w i)) (e : (x : List ℕ) → r ≡ is_in_line (Lines.line_of l x)) (h : a < d) where
    pub counted-put : r ≡ true → Answers (put_print c k msg d a (market_of w)) (lent w v) s (lent w₁ v₁)
        → Answers (print_counted i c k msg d a (market_of w) (conn_at i (market_of w)).line) (lent w v) s (lent w₁ v₁)
    counted-put t x = answers-is (put_is i c k msg d a (market_of w) (conn_at i (market_of w)).line (told w i n is_in_line q e t) (lt-leb d a h)) x

    pub counted-held : NotFailed w i → r ≡ false → Answers (hold_print i k msg (market_of w)) (lent w v) s (lent w₁ v₁)
        → Answers (print_counted i c k msg d a (market_of w) (conn_at i (market_of w)).line) (lent w v) s (lent w₁ v₁)
    counted-held f t x = answers-is (hold-is i c k msg d a (market_of w) (conn_at i (market_of w)).line (told w i n is_in_line q e t) f (lt-leb d a h)) x

-- ---- a print that is counted is not refused

abbrev Done : Outcome → Type 0
Done (refused n) = ⊥
Done (did a rs k) = Unit {0}

hold-did : (i : ℕ) (k : Key) (msg : ℕ) (m : Market) → Done (hold_print i k msg m)
unfolding hold_print
hold-did i k msg m =
    by_cond Done (any (λ h. same h.0 k) (conn_at i m).held) (λ q. tt)
    (λ q. by_cond Done (leb (conn_at i m).limit (length (conn_at i m).held)) (λ r. tt) (λ r. tt))

counted-did : (i c : ℕ) (k : Key) (msg d a : ℕ) (m : Market) (l : Line) → Done (print_counted i c k msg d a m l)
unfolding print_counted
counted-did i c k msg d a m (Waiting is since) = by_cond Done (leb d a) (λ q. tt) (λ q. hold-did i k msg m)
counted-did i c k msg d a m (Pending is at since) = by_cond Done (leb d a) (λ q. tt) (λ q. hold-did i k msg m)
counted-did i c k msg d a m (InLine n x y) = by_cond Done (leb d a) (λ q. tt) (λ q. tt)
counted-did i c k msg d a m Failed = tt

answers-on : {w v w₁ w₂ v₂ : List ℕ} {r : Said} (o : Outcome) → Done o → length w₁ ≡ length w → Answers o (lent w₁ v) r (lent w₂ v₂) → Answers o (lent w v) r (lent w₂ v₂)
answers-on (refused n) d l x = absurd d
answers-on (did a rs k) d l x = answers-from l refl x

-- ---- the whole print

module _ (c : ℕ) (k : Key) (msg t : ℕ) (m : Market) where
  print-ignored : is_failed (conn_at (line_of c m) m).line ≡ true → print c k msg t m ≡ just ignored m
  unfolding print
  print-ignored f = rw f

  module _ (f : is_failed (conn_at (line_of c m) m).line ≡ false) where
    no-row-is : no_row k c m.limits m.prints ≡ true → print c k msg t m ≡ refused 7
    unfolding print
    no-row-is e = rw (f, e)

    module _ (e : no_row k c m.limits m.prints ≡ false) where
      too-many-is : leb max_count (delivered_in k c m.prints.count_rows) ≡ true → print c k msg t m ≡ refused 8
      unfolding print
      too-many-is g = rw (f, e, g)

      print-is : leb max_count (delivered_in k c m.prints.count_rows) ≡ false
          → print c k msg t m ≡ print_counted (line_of c m) c k msg (suc (delivered_in k c m.prints.count_rows)) (applied_in k m.prints.key_rows) (with_prints (Tables.counted k c t m.prints) m) (conn_at (line_of c m) m).line
      unfolding print
      print-is g = rw (f, e, g)

module _ {w v : List ℕ} {i : ℕ} (c : ℕ) (k : Key) (msg t : ℕ) (p : Roomy w v × ((i < line_count w) × (NotFailed w i × (i ≡ line_of c (market_of w))))) where
  unfailed : is_failed (conn_at (line_of c (market_of w)) (market_of w)).line ≡ false
  unfailed = subst (λ (x : ℕ). is_failed (conn_at x (market_of w)).line ≡ false) p.1.1.1 p.1.1.0

  module _ {b : Bool} (e : b ≡ no_row k c (market_of w).limits (market_of w).prints) where
    pub row-refused : b ≡ true → Answers (print c k msg t (market_of w)) (lent w v) (number 7) (lent w v)
    row-refused q = refuses 7 (lent w v) (no-row-is c k msg t (market_of w) unfailed (sym e ∙ q))

    module _ (q : b ≡ false) {d : ℕ} (y : d ≡ delivered_in k c (market_of w).prints.count_rows) where
      pub count-refused : max_count ≤ d → Answers (print c k msg t (market_of w)) (lent w v) (number 8) (lent w v)
      count-refused h = refuses 8 (lent w v) (too-many-is c k msg t (market_of w) unfailed (sym e ∙ q) (le-leb max_count (delivered_in k c (market_of w).prints.count_rows) (omega arith)))

      module _ (h : d < max_count) where
        fewer : leb max_count (delivered_in k c (market_of w).prints.count_rows) ≡ false
        fewer = lt-leb max_count (delivered_in k c (market_of w).prints.count_rows) (omega arith)

        pub deliver-ready : Tabled w × ((no_row k c (market_of w).limits (market_of w).prints ≡ false) × (delivered_in k c (market_of w).prints.count_rows < max_count))
        deliver-ready = (tabled p.0.sound, (sym e ∙ q, omega arith))

        module _ {w₁ : List ℕ} (moved : Moved w w₁ (with_prints (Tables.counted k c t (market_of w).prints) (market_of w))) where
          pub counted_ready : Roomy w₁ v × ((i < line_count w₁) × (NotFailed w₁ i × (d + 1 ≤ max_count)))
          counted_ready =
              let s = p.0.sound.market in
              let n : line_count w₁ ≡ line_count w = sym (lines-count w₁) ∙ ap (λ (m : Market). length m.lines) moved.market ∙ lines-count w in
              let x = p.1.0 in (
                roomy-then p.0 moved (market-limits w)
                    (record { limits_fit = s.limits_fit; lines = s.lines; prints = counted-sound (market_of w).limits (market_of w).prints k c t (sym e ∙ q) fewer s.prints }),
                (omega arith, (ap (λ (m : Market). is_failed (conn_at i m).line) moved.market ∙ p.1.1.0, omega arith)),
              )

          pub counted-done : {w₂ v₂ : List ℕ} {r : Said} {a : ℕ} → a ≡ applied_in k (market_of w).prints.key_rows → length w₁ ≡ length w
              → Answers (print_counted i c k msg (d + 1) a (market_of w₁) (conn_at i (market_of w₁)).line) (lent w₁ v) r (lent w₂ v₂)
              → Answers (print c k msg t (market_of w)) (lent w v) r (lent w₂ v₂)
          counted-done {a = a} z l x =
              let one : d + 1 ≡ suc (delivered_in k c (market_of w).prints.count_rows) = add-one d ∙ ap suc y in
              let at = p.1.1.1 in
              answers-is (print-is c k msg t (market_of w) unfailed (sym e ∙ q) fewer ∙ sym (λ j. print_counted (at j) c k msg (one j) (z j) (moved.market j) (conn_at (at j) (moved.market j)).line))
              (answers-on (print_counted i c k msg (d + 1) a (market_of w₁) (conn_at i (market_of w₁)).line) (counted-did i c k msg (d + 1) a (market_of w₁) (conn_at i (market_of w₁)).line) l x)

module _ {w v : List ℕ} {i : ℕ} (c : ℕ) (k : Key) (msg t : ℕ) (s : Sound w) (q : i ≡ line_of c (market_of w)) where
  ignores : is_failed (conn_at i (market_of w)).line ≡ true → Answers (print c k msg t (market_of w)) (lent w v) (word ignored 0 0) (lent w v)
  ignores f =
      justly ignored s refl (moved_none s.sized) (print-ignored c k msg t (market_of w) (subst (λ (x : ℕ). is_failed (conn_at x (market_of w)).line ≡ true) q f))
      (safe-as w (print c k msg t (market_of w)) (print-safe c k msg t (market_of w) s.market))

  pub nobody-ignored : line_count w ≤ i → Answers (print c k msg t (market_of w)) (lent w v) (word ignored 0 0) (lent w v)
  nobody-ignored h = ignores (ap (λ (x : Connection). is_failed x.line) (get_or-eq_default (market_of w).lines nobody {n = i} (omega (arith, lines-count w))))

  module _ {r : Bool} {l : Value} (n : i < line_count w) (a : l ≡ head_line (line_words_at w i)) (e : (x : List ℕ) → r ≡ is_failed (Lines.line_of l x)) where
    pub failed-ignored : r ≡ true → Answers (print c k msg t (market_of w)) (lent w v) (word ignored 0 0) (lent w v)
    failed-ignored y = ignores (told w i n is_failed a e y)

    pub print-ready : Roomy w v → r ≡ false → Roomy w v × ((i < line_count w) × (NotFailed w i × (i ≡ line_of c (market_of w))))
    print-ready x y = (x, (n, (told w i n is_failed a e y, q)))
