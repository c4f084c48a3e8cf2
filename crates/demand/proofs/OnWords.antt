-- Demand 3 on the words, from demand 3 of the rules and what each call meets.
use mathlib.Core.Path.{◌≡◌, refl, sym, ◌∙◌, ap, subst}
use mathlib.Core.List.{List, [], ◌∷◌, ◌++◌, map, append_assoc}
use mathlib.Core.Bool.{Bool, true, false, not}
use Prim.Native.Nat.{ℕ, ◌≤◌}
use native.Mathlib.Omega.{arith}
use lib.ListN.{length}
use Rattle.rules.specs.declared.Kind.{Kind}
use Rattle.rules.specs.declared.Kind.TheVariants as Kind
use Rattle.rules.specs.declared.Applied.{Applied}
use Rattle.rules.specs.Lists.{any, count, Each}
use Rattle.rules.specs.declared.Limits.{Limits}
use Rattle.rules.specs.Quantities.{Key, in_range, words_needed}
use lib.Dec.{ltb}
use Rattle.rules.specs.Lines.{Market, InLine, is_pending, fresh, line_for}
use Rattle.rules.specs.Calls.{Outcome, refused, did, done, refuse, just}
use Rattle.rules.specs.Refusals.{Call, step, setup}
use Rattle.rules.specs.Answers.{Said, number, word, said_by}
use Rattle.rules.specs.Demand.{books, book_keys, History, follow, run, set_up, Agreed, own, GoesOn, Ends, Passed, market_after, records_of, Unrefused, after, records, answers}
use Rattle.rules.proofs.ListLaws.{append-nil}
use Rattle.rules.proofs.Demand3.{demand3}
use Rattle.store.specs.Store.{market_of, Sound}
use Rattle.output.specs.Output.{kind_word, kind_of, record_words, records_words, record_of, records_in}
use Rattle.market.specs.Lent.{Lent, Leaves}
use Rattle.promise.specs.Meets.{Meets, SetsUp, MeetsSetup}
use Rattle.demand.specs.DemandOnWords.{Made, Chain, last_store, calls_of, put_out_by, put_out, answers_of, taken_by, taken, Accepted, DemandOn, Demand3OnWords}

-- ---- records read back

kind-back : (k : Kind) → kind_of (kind_word k) ≡ k
kind-back Kind.Snapshot = refl
kind-back Kind.Book = refl
kind-back Kind.Print = refl

record-back : (r : Applied) (t : List ℕ) → record_of (record_words r ++ t) ≡ r
record-back r t = λ i. record { conn = r.conn; kind = kind-back r.kind i; number = r.number; key = r.key; message = r.message; times = r.times }

pub records-back : (rs : List Applied) (t : List ℕ) → records_in (length rs) (records_words rs ++ t) ≡ rs
unfolding records_in records_words
records-back [] t = refl
records-back (r ∷ rs) t = let p = record-back r (records_words rs ++ t) in let q = records-back rs t in λ i. p i ∷ q i

-- ---- one call

-- what a call on a sound store is, beside the rules' outcome o on its market m
record Stepped (m : Market) (o : Outcome) (d : Made) : Type 0 where
  answer : d.answer ≡ said_by o
  next : market_after o m ≡ market_of d.after.store
  sound : Sound d.after.store
  out : records_of o ≡ put_out_by d.answer d.after.out

stepped : (w : List ℕ) (d : Made) → d.before.store ≡ w → Sound w → Meets d.call d.before d.answer d.after
    → Stepped (market_of w) (step d.call (market_of w)) d
stepped w d e s m =
    subst (λ v. Stepped (market_of v) (step d.call (market_of v)) d) e
    (let r = m.sound (subst Sound (sym e) s) in go (step d.call (market_of d.before.store)) r.said r.left)
  where
    go : (o : Outcome) → d.answer ≡ said_by o → Leaves o d.before d.after → Stepped (market_of d.before.store) o d
    go (refused n) a q =
        record {
          answer = a;
          next = ap (λ (x : Lent). market_of x.store) (sym q);
          sound = subst (λ (x : Lent). Sound x.store) (sym q) (subst Sound (sym e) s);
          out = ap (λ (x : Said). put_out_by x d.after.out) (sym a);
        }
    go (did x rs k) a q =
        record {
          answer = a;
          next = sym q.market;
          sound = q.sound;
          out = sym (ap (λ (y : Said). put_out_by y d.after.out) a ∙ ap (records_in (length k.out)) q.out ∙ records-back k.out _);
        }

record Followed (h : History) (d : Made) (h' : History) : Type 0 where
  market : h'.market ≡ market_of d.after.store
  out : h'.out ≡ h.out ++ put_out_by d.answer d.after.out
  taken' : h'.taken ≡ taken_by d.call d.answer h.taken

followed : (h : History) (d : Made) (o : Outcome) → Stepped h.market o d → Followed h d (follow d.call h o)
followed h d (refused n) t =
    record {
      market = t.next;
      out = sym (append-nil h.out) ∙ ap (λ (x : List Applied). h.out ++ x) t.out;
      taken' = ap (λ (a : Said). taken_by d.call a h.taken) (sym t.answer);
    }
followed h d (did x rs k) t =
    record {
      market = t.next;
      out = ap (λ (y : List Applied). h.out ++ y) t.out;
      taken' = ap (λ (a : Said). taken_by d.call a h.taken) (sym t.answer);
    }

-- ---- a list of calls beside the rules' run

record Same (h : History) (w : List ℕ) (ds : List Made) : Type 0 where
  market : (run h (calls_of ds)).market ≡ market_of (last_store w ds)
  sound : Sound (last_store w ds)
  out : (run h (calls_of ds)).out ≡ h.out ++ put_out ds
  taken' : (run h (calls_of ds)).taken ≡ taken h.taken ds

same : (h : History) (w : List ℕ) (ds : List Made) → h.market ≡ market_of w → Sound w → Chain w ds → Same h w ds
unfolding run last_store put_out taken Chain
same h w [] e s c = record { market = e; sound = s; out = sym (append-nil h.out); taken' = refl }
same h w (d ∷ ds) e s c =
    let t = subst (λ m. Stepped m (step d.call m) d) (sym e) (stepped w d c.0 s c.1) in
    let f = followed h d (step d.call h.market) t in
    let h' = follow d.call h (step d.call h.market) in
    let r = same h' d.after.store ds f.market t.sound c.2 in
    record {
      market = r.market;
      sound = r.sound;
      out = r.out ∙ ap (λ (x : List Applied). x ++ put_out ds) f.out ∙ append_assoc h.out (put_out_by d.answer d.after.out) (put_out ds);
      taken' = r.taken' ∙ ap (λ (x : ℕ → List Key). taken x ds) f.taken';
    }

-- ---- refused or not, and what a list of calls leaves

accepted-passed : (m : Market) (o : Outcome) (d : Made) (P : Market → Type 0) → Stepped m o d → Accepted d → P (market_of d.after.store) → Passed o P
accepted-passed m (refused n) d P t a p = refuse d.answer t.answer a
  where
    refuse : (x : Said) → x ≡ number n → elim x as (λ y. Type 0) [ number k ↦ ⊥ | word b i j ↦ Unit {0} ] → ⊥
    refuse (number k) e a = a
    refuse (word b i j) e a = let z : ◌≡◌ {A = ℕ} 0 1 = cc in omega arith
accepted-passed m (did x rs k) d P t a p = subst P (sym t.next) p

passed-accepted : (m : Market) (o : Outcome) (d : Made) (P : Market → Type 0) → Stepped m o d → Passed o P → Accepted d × P (market_of d.after.store)
passed-accepted m (refused n) d P t q = absurd q
passed-accepted m (did x rs k) d P t q = (subst (λ (y : Said). elim y as (λ z. Type 0) [ number n ↦ ⊥ | word b i j ↦ Unit {0} ]) (sym t.answer) tt, subst P t.next q)

unrefused : (w : List ℕ) (ds : List Made) → Sound w → Chain w ds → Each Accepted ds → Unrefused (market_of w) (calls_of ds)
unfolding Unrefused Chain
unrefused w [] s c a = tt
unrefused w (d ∷ ds) s c a =
    let t = stepped w d c.0 s c.1 in
    accepted-passed (market_of w) (step d.call (market_of w)) d (λ m. Unrefused m (calls_of ds)) t a.0 (unrefused d.after.store ds t.sound c.2 a.1)

accepted : (w : List ℕ) (ds : List Made) → Sound w → Chain w ds → Unrefused (market_of w) (calls_of ds) → Each Accepted ds
unfolding Unrefused Chain
accepted w [] s c u = tt
accepted w (d ∷ ds) s c u =
    let t = stepped w d c.0 s c.1 in
    let r = passed-accepted (market_of w) (step d.call (market_of w)) d (λ m. Unrefused m (calls_of ds)) t u in
    (r.0, accepted d.after.store ds t.sound c.2 r.1)

leaves : (w : List ℕ) (ds : List Made) → Sound w → Chain w ds
    → (after (market_of w) (calls_of ds) ≡ market_of (last_store w ds)) × (records (market_of w) (calls_of ds) ≡ put_out ds)
    × (answers (market_of w) (calls_of ds) ≡ answers_of ds)
unfolding after records answers last_store put_out Chain
leaves w [] s c = (refl, refl, refl)
leaves w (d ∷ ds) s c =
    let t = stepped w d c.0 s c.1 in
    let r = leaves d.after.store ds t.sound c.2 in (
      ap (λ (m : Market). after m (calls_of ds)) t.next ∙ r.0,
      ap (λ (m : Market). records_of (step d.call (market_of w)) ++ records m (calls_of ds)) t.next ∙ ap (λ (x : List Applied). x ++ records (market_of d.after.store) (calls_of ds)) t.out
          ∙ ap (λ (x : List Applied). put_out_by d.answer d.after.out ++ x) r.1,
      ap (λ (m : Market). said_by (step d.call (market_of w)) ∷ answers m (calls_of ds)) t.next
          ∙ ap (λ (a : Said). a ∷ answers (market_of d.after.store) (calls_of ds)) (sym t.answer) ∙ ap {B = List Said} (λ l. d.answer ∷ l) r.2,
    )

-- ---- the theorem

-- what setup made
made : (l : Limits) (start : ℕ) (before w : List ℕ) → MeetsSetup l start before (word done 0 0) w → Sound w × (market_of w ≡ fresh l start)
unfolding setup
made l start before w m = go (not (in_range l)) (ltb (length before) (words_needed l)) m.answered m.words
  where
    go : (x y : Bool) → word done 0 0 ≡ said_by (refuse x 2 (refuse y 1 (just done (fresh l start))))
        → SetsUp (refuse x 2 (refuse y 1 (just done (fresh l start)))) before w → Sound w × (market_of w ≡ fresh l start)
    go true y a q = absurd (let z : ◌≡◌ {A = ℕ} 0 1 = cc in omega arith)
    go false true a q = absurd (let z : ◌≡◌ {A = ℕ} 0 1 = cc in omega arith)
    go false false a q = (q.1, q.0)

from-fresh : (l : Limits) (start : ℕ) (w : List ℕ) → Sound w → market_of w ≡ fresh l start → (ds : List Made) → Chain w ds → DemandOn l start w ds
from-fresh l start w s e ds c =
    let h = set_up l start in
    let r = same h w ds (sym e) s c in
    let v = last_store w ds in
    let g = demand3 l start (calls_of ds) in
    record {
      numbers = subst (λ (o : List Applied). map (λ x. x.0) (books o) ≡ count start (length (books o))) r.out g.numbers;
      agrees =
          λ k n a b q.
          subst (λ (o : List Applied). Agreed start (book_keys o) (taken (λ x. []) ds k) ((run h (calls_of ds)).entry k) n) r.out
          (subst (λ (t : ℕ → List Key). Agreed start (book_keys (run h (calls_of ds)).out) (t k) ((run h (calls_of ds)).entry k) n) r.taken'
          (g.agrees k n a b (ap (line_for k) r.market ∙ q)));
      goes_on =
          λ np nb U xs cx on ax ys cy o.
          let go = subst Goes r.market g.goes_on in
          let z = go np nb U (calls_of xs) on (unrefused v xs r.sound cx ax) (calls_of ys) o in
          let q = leaves v ys r.sound cy in (
            accepted v ys r.sound cy z.0,
            subst (λ (m : Market). Ends (market_of v) U (calls_of xs) (calls_of ys) m (put_out ys) (answers_of ys)) q.0
                (subst (λ (x : List Applied). Ends (market_of v) U (calls_of xs) (calls_of ys) (after (market_of v) (calls_of ys)) x (answers_of ys)) q.1
                (subst (λ (a : List Said). Ends (market_of v) U (calls_of xs) (calls_of ys) (after (market_of v) (calls_of ys)) (records (market_of v) (calls_of ys)) a)
                q.2 z.1)),
          );
    }
  where
    Goes : Market → Type 0
    Goes m = any (λ s. is_pending s.line) m.lines ≡ false
        → ((c n : ℕ) (a b : Bool) → line_for c m ≡ InLine n a b → m.log.base ≤ n)
        → (U : List Key) (xs : List Call) → GoesOn m U xs → Unrefused m xs
        → (ys : List Call) → ((c : ℕ) → own c ys ≡ own c xs)
        → Unrefused m ys × Ends m U xs ys (after m ys) (records m ys) (answers m ys)

pub demand3-on-words : Demand3OnWords
demand3-on-words l start before w m ds c = let r = made l start before w m in from-fresh l start w r.0 r.1 ds c
