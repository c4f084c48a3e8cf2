-- Demand 3, first and second sentence: what is put out is numbered without gap or repeat, and the latest taken events of each
-- connection in line are what was put out from its entry number to just below its next number.
use mathlib.Core.Path.{◌≡◌, refl, sym, ◌∙◌, ap, subst}
use mathlib.Core.List.{List, [], ◌∷◌, ◌++◌, map}
use mathlib.Core.Bool.{Bool, true, false, ◌||◌, cond}
use Prim.Native.Nat.{ℕ, suc, ◌+◌, ◌-◌, ◌<◌}
use native.Mathlib.Omega.{arith}
use lib.Dec.{ltb, eqb}
use lib.ListN.{length, get_or, take, drop, length-append}
use lib.Seq.{drop_at, take_at}
use Rattle.rules.specs.declared.Limits.{Limits}
use Rattle.rules.specs.Lists.{Rising, count, index}
use Rattle.rules.specs.Quantities.{Key}
use Rattle.rules.specs.Log.{keys}
use Rattle.rules.specs.Lines.{Failed, InLine, Line, Market, Pending, Waiting, conn_at, is_failed, line_of, nobody, line_for}
use Rattle.rules.specs.Calls.{Outcome, book_event, did, drop_conn, print, promote, refuse, refused, snapshot}
use Rattle.rules.specs.Tick.{tick}
use Rattle.rules.specs.Refusals.{BookEvent, Call, Drop, Print, Promote, Reset, Snapshot, Subscribe, Tick, bad_answers, short, step}
use Rattle.rules.specs.Demand.{Agreed, History, book_keys, books, follow, now_entered, now_taken, run, set_up}
use Rattle.rules.proofs.Tests.{eqb-true}
use Rattle.rules.proofs.ListLaws.{each_at}
use Rattle.rules.proofs.Invariant.{Agree, ConnOk, Good, GoodM, LineOk, books-append, numbers_from, present}
use Rattle.rules.proofs.CallsKept.{Fine, begin-good, book-fine, drop-fine, print-fine, promote-fine, refuse-fine, reset-fine, snapshot-fine, subscribe-fine, taking}
use Rattle.rules.proofs.TickKept.{tick-fine}

pub index-found : {A : Type 0} (t : A → Bool) (d : A) (l : List A) → index t l < length l → t (get_or l (index t l) d) ≡ true
index-found t d [] h = absurd (omega arith)
index-found {A} t d (x ∷ xs) h = go (t x) refl h (λ k. index-found t d xs k)
  where
    go : (b : Bool) → t x ≡ b → cond b 0 (suc (index t xs)) < suc (length xs) → (index t xs < length xs → t (get_or xs (index t xs) d) ≡ true)
        → t (get_or (x ∷ xs) (cond b 0 (suc (index t xs))) d) ≡ true
    go true e k f = e
    go false e k f = f (omega arith)

pub conn-of : (c : ℕ) (m : Market) → is_failed (line_for c m) ≡ false → (conn_at (line_of c m) m).conn ≡ c
conn-of c m f = eqb-true (index-found (λ s. eqb s.conn c) nobody m.lines (present m.lines (line_of c m) f))

module _ (s : ℕ) (B : List (ℕ × Key)) (T : ℕ → List Key) (E : ℕ → ℕ) (m : Market) (g : GoodM s B T E m) where
  book-step : (c : ℕ) (k : Key) (msg now : ℕ) → Fine s B E (taking s B E T c k) (book_event (line_of c m) k msg now m (line_for c m))
  unfolding book_event
  book-step c k msg now = go (line_for c m) refl
    where
      there : (l : Line) → line_for c m ≡ l → is_failed l ≡ false → Fine s B E (taking s B E T c k) (book_event (line_of c m) k msg now m l)
      there l e f = subst (λ x. Fine s B E (taking s B E T x k) (book_event (line_of c m) k msg now m l)) (conn-of c m (ap is_failed e ∙ f)) (book-fine s B E T (line_of c m) k msg now m l e g)

      go : (l : Line) → line_for c m ≡ l → Fine s B E (taking s B E T c k) (book_event (line_of c m) k msg now m l)
      go Failed e = begin-good s B E T m g
      go (Waiting is since) e = there (Waiting is since) e refl
      go (Pending is at since) e = there (Pending is at since) e refl
      go (InLine n a b) e = there (InLine n a b) e refl

  pub step-fine : (x : Call) → Fine s B E (λ a. now_taken x a T) (step x m)
  unfolding step
  step-fine (Subscribe c limit now) = subscribe-fine s B E T c limit now m g
  step-fine (Snapshot c t msg now room) =
      let o = snapshot (line_of c m) t msg now m (line_for c m) in
      refuse-fine s B E (λ a. T) (ltb 1 t) 10 (refuse (short room m) 3 o)
      (refuse-fine s B E (λ a. T) (short room m) 3 o (snapshot-fine s B E T (line_of c m) t msg now m (line_for c m) refl g))
  step-fine (BookEvent c k msg now room) = refuse-fine s B E (taking s B E T c k) (short room m) 3
      (book_event (line_of c m) k msg now m (line_for c m)) (book-step c k msg now)
  step-fine (Print c k msg now room) = refuse-fine s B E (λ a. T) (short room m) 3 (print c k msg now m) (print-fine s B E T c k msg now m g)
  step-fine (Drop c now room) = refuse-fine s B E (λ a. T) (short room m) 3 (drop_conn c now m) (drop-fine s B E T c now m g)
  step-fine (Promote now room) = refuse-fine s B E (λ a. T) (short room m) 3 (promote now m) (promote-fine s B E T now m g)
  step-fine (Reset now) = reset-fine s B E T now m g
  step-fine (Tick answers now room reports) =
      let t₁₁ = bad_answers answers m in
      let t₃ = short room m || ltb reports m.limits.L in
      refuse-fine s B E (λ a. T) t₁₁ 11 (refuse t₃ 3 (tick answers now m)) (refuse-fine s B E (λ a. T) t₃ 3 (tick answers now m) (tick-fine s B E T answers now m g))

abbrev pub GoodH : ℕ → History → Type 0
GoodH s h = GoodM s (books h.out) h.taken h.entry h.market

follow-good : (s : ℕ) (x : Call) (h : History) (o : Outcome) → GoodH s h → Fine s (books h.out) h.entry (λ a. now_taken x a h.taken) o → GoodH s (follow x h o)
follow-good s x h (refused n) g f = g
follow-good s x h (did a rs w) g f =
    subst (λ B. Good s B (now_taken x a h.taken) (now_entered w.entered h.entry) w.market.log.base (keys w.market.log) w.market.lines) (sym (books-append h.out w.out)) f

pub run-good : (s : ℕ) (h : History) (xs : List Call) → GoodH s h → GoodH s (run h xs)
unfolding run
run-good s h [] g = g
run-good s h (x ∷ xs) g = run-good s (follow x h (step x h.market)) xs
    (follow-good s x h (step x h.market) g (step-fine s (books h.out) h.taken h.entry h.market g x))

pub set_up-good : (l : Limits) (start : ℕ) → GoodH start (set_up l start)
unfolding books numbers_from Rising
set_up-good l start = record { numbers = tt; gone = []; all = refl; basis = omega arith; rises = tt; conns = tt }

pub numbers-count : (n : ℕ) (l : List (ℕ × Key)) → numbers_from n l → map (λ x. x.0) l ≡ count n (length l)
unfolding numbers_from
numbers-count n [] h = refl
numbers-count n (x ∷ xs) h = let p = h.0 in let q = numbers-count (suc n) xs h.1 in cc

pub agreed : (s : ℕ) (O t : List Key) (e n : ℕ) → Agree s O t e n → Agreed s O t e n
agreed s O t e n a =
    let lo : length O ≡ length a.before + (length a.ks + length a.beyond) = ap length a.out ∙ simp length-append in
    let lt : length t ≡ length a.earlier + length a.ks = ap length a.taken ∙ simp length-append in
    let p = a.at in
    let q = a.upto in
    let d₁ : length a.earlier ≡ length t - (n - e) = omega arith in
    let d₂ : length a.before ≡ e - s = omega arith in
    let d₃ : length a.ks ≡ n - e = omega arith in record {
      from_start = omega arith;
      in_order = omega arith;
      put_out = omega arith;
      enough = omega arith;
      latest = ap (drop (length t - (n - e))) a.taken ∙ drop_at a.earlier a.ks (length t - (n - e)) d₁
          ∙ sym (ap (λ (l : List Key). take (n - e) (drop (e - s) l)) a.out
          ∙ ap (take (n - e)) (drop_at a.before (a.ks ++ a.beyond) (e - s) d₂) ∙ take_at a.ks a.beyond (n - e) d₃);
    }

pub in-line-agrees : (s : ℕ) (h : History) → GoodH s h → (c n : ℕ) (a b : Bool) → line_for c h.market ≡ InLine n a b → Agree s (book_keys h.out) (h.taken c) (h.entry c) n
in-line-agrees s h g c n a b e =
    let m = h.market in
    let f : is_failed (line_for c m) ≡ false = ap is_failed e in
    subst (λ x. Agree s (book_keys h.out) (h.taken x) (h.entry x) n) (conn-of c m f)
    (subst (LineOk s (book_keys h.out) (h.taken (conn_at (line_of c m) m).conn) (h.entry (conn_at (line_of c m) m).conn)) e
    (each_at (ConnOk s (book_keys h.out) h.taken h.entry) m.lines (line_of c m) nobody (present m.lines (line_of c m) f) g.conns))
