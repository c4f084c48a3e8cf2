-- The invariant of every market that calls make from the fresh one, and what keeps it: demand 3's first two sentences.
use mathlib.Core.Path.{◌≡◌, refl, sym, ◌∙◌, ap, subst}
use mathlib.Core.Logic.{◌≢◌, ◌⊎◌, inl, inr}
use mathlib.Core.List.{List, [], ◌∷◌, ◌++◌, map, append_assoc}
use mathlib.Core.Bool.{true, false}
use Prim.Native.Nat.{ℕ, zero, suc, ◌+◌, ◌≤◌, ◌<◌}
use native.Mathlib.Omega.{arith}
use native.Mathlib.Nat.{not-suc-le-zero, le_of_suc-le-suc}
use lib.Dec.{ltb}
use lib.ListN.{length, get_or, take, drop, set, length-append, length-map, take-append-drop}
use lib.Seq.{length-take-le}
use Rattle.rules.specs.declared.Applied.{Applied}
use Rattle.rules.specs.declared.Kind.{Kind}
use Rattle.rules.specs.Lists.{Each, Rising}
use Rattle.rules.specs.Quantities.{Key}
use Rattle.rules.specs.Log.{keys}
use Rattle.rules.specs.Lines.{Connection, Failed, InLine, Line, Market, Pending, Waiting, event_keys, is_failed, nobody, with_held, with_line}
use Rattle.rules.specs.Entering.{Work}
use Rattle.rules.specs.Sound.{Lower}
use Rattle.rules.specs.Demand.{books, if_book, now_entered}
use Rattle.rules.proofs.Tests.{either, ltb-false, ltb-true}
use Rattle.rules.proofs.ListLaws.{append-nil, each_at, each-imp, each_map, each_set, map-append}

-- ---- lines rise by connection

abbrev pub Sorted : List Connection → Type 0
Sorted ls = Rising Lower ls

module _ (d : Connection) where
  -- each but the i-th, which is v now
  pub revise : (P Q : Connection → Type 0) (l : List Connection) (i : ℕ) (v : Connection) → Sorted l → i < length l
      → ((x : Connection) → x.conn ≢ (get_or l i d).conn → P x → Q x) → Q v → Each P l → Each Q (set l i v)
  unfolding Rising
  revise P Q [] i v o h f q e = absurd (not-suc-le-zero h)
  revise P Q (x ∷ xs) zero v o h f q e =
      (q, each-imp (λ y. (x.conn < y.conn) × P y) Q (λ y r. f y (λ z. omega arith) r.1) xs (both xs o.0 e.1))
    where
      both : (l : List Connection) → Each (λ y. x.conn < y.conn) l → Each P l → Each (λ y. (x.conn < y.conn) × P y) l
      both [] a b = tt
      both (y ∷ ys) a b = ((a.0, b.0), both ys a.1 b.1)
  revise P Q (x ∷ xs) (suc i) v o h f q e = (
    f x (λ z. let k = each_at (λ y. x.conn < y.conn) xs i d (le_of_suc-le-suc h) o.0 in omega arith) e.0,
    revise P Q xs i v o.1 (le_of_suc-le-suc h) f q e.1,
  )

  pub sorted-set : (l : List Connection) (i : ℕ) (v : Connection) → v.conn ≡ (get_or l i d).conn → Sorted l → Sorted (set l i v)
  unfolding Rising
  sorted-set [] i v e o = tt
  sorted-set (x ∷ xs) zero v e o = (subst (λ n. Each (λ y. n < y.conn) xs) (sym e) o.0, o.1)
  sorted-set (x ∷ xs) (suc i) v e o = (go (either (ltb i (length xs))), sorted-set xs i v e o.1)
    where
      out : (l : List Connection) (k : ℕ) → length l ≤ k → set l k v ≡ l
      out [] k h = refl
      out (y ∷ ys) zero h = absurd (not-suc-le-zero h)
      out (y ∷ ys) (suc k) h = ap {B = List Connection} (λ r. y ∷ r) (out ys k (le_of_suc-le-suc h))

      go : (ltb i (length xs) ≡ true) ⊎ (ltb i (length xs) ≡ false) → Each (λ y. x.conn < y.conn) (set xs i v)
      go (inl b) = each_set (λ y. x.conn < y.conn) xs i v
          (let k = each_at (λ y. x.conn < y.conn) xs i d (ltb-true b) o.0 in omega arith) o.0
      go (inr b) = subst (Each (λ y. x.conn < y.conn)) (sym (out xs i (ltb-false b))) o.0

pub sorted-map : (f : Connection → Connection) → ((x : Connection) → (f x).conn ≡ x.conn) → (l : List Connection) → Sorted l → Sorted (map f l)
unfolding Rising
sorted-map f h [] o = tt
sorted-map f h (x ∷ xs) o =
    (each_map (λ y. x.conn < y.conn) (λ y. (f x).conn < y.conn) f (λ y k. let a = h x in let b = h y in omega arith) xs o.0, sorted-map f h xs o.1)

-- a line that has not failed is there
pub present : (l : List Connection) (i : ℕ) → is_failed (get_or l i nobody).line ≡ false → i < length l
present [] i e = absurd (let z : ◌≡◌ {A = ℕ} 0 1 = cc in omega arith)
present (x ∷ xs) zero e = omega arith
present (x ∷ xs) (suc i) e = let k = present xs i e in omega arith

-- ---- what is held and what was entered agree with what was put out

pub record Agree (s : ℕ) (O t : List Key) (e n : ℕ) : Type 0 where
  pub before : List Key
  pub ks : List Key
  pub beyond : List Key
  pub earlier : List Key
  pub out : O ≡ before ++ (ks ++ beyond)
  pub taken : t ≡ earlier ++ ks
  pub at : s + length before ≡ e
  pub upto : e + length ks ≡ n

abbrev pub Suffix : List Key → List Key → Type 0
Suffix ks t = (p : List Key) × (t ≡ p ++ ks)

abbrev pub LineOk : ℕ → List Key → List Key → ℕ → Line → Type 0
LineOk s O t e (Waiting is since) = Suffix (event_keys is) t
LineOk s O t e (Pending is at since) = Suffix (event_keys is) t
LineOk s O t e (InLine n a b) = Agree s O t e n
LineOk s O t e Failed = Unit {0}

abbrev pub ConnOk : ℕ → List Key → (ℕ → List Key) → (ℕ → ℕ) → Connection → Type 0
ConnOk s O T E x = LineOk s O (T x.conn) (E x.conn) x.line

pub grow : (s : ℕ) (O X t : List Key) (e : ℕ) (l : Line) → LineOk s O t e l → LineOk s (O ++ X) t e l
grow s O X t e (Waiting is since) h = h
grow s O X t e (Pending is at since) h = h
grow s O X t e Failed h = tt
grow s O X t e (InLine n a b) h = record {
  before = h.before;
  ks = h.ks;
  beyond = h.beyond ++ X;
  earlier = h.earlier;
  out = ap (λ (o : List Key). o ++ X) h.out ∙ simp append_assoc;
  taken = h.taken;
  at = h.at;
  upto = h.upto;
}

-- ---- the invariant: s the start number, B the book events put out, T taken keys, E entry numbers; a log's base and keys, and the lines

unfoldable pub numbers_from : ℕ → List (ℕ × Key) → Type 0
numbers_from n [] = Unit {0}
numbers_from n (x ∷ xs) = (x.0 ≡ n) × numbers_from (suc n) xs

abbrev pub keys_of : List (ℕ × Key) → List Key
keys_of l = map (λ x. x.1) l

pub record Good (s : ℕ) (B : List (ℕ × Key)) (T : ℕ → List Key) (E : ℕ → ℕ) (base : ℕ) (ks : List Key) (ls : List Connection) : Type 0 where
  pub numbers : numbers_from s B
  pub gone : List Key
  pub all : keys_of B ≡ gone ++ ks
  pub basis : s + length gone ≡ base
  pub rises : Sorted ls
  pub conns : Each (ConnOk s (keys_of B) T E) ls

abbrev pub GoodM : ℕ → List (ℕ × Key) → (ℕ → List Key) → (ℕ → ℕ) → Market → Type 0
GoodM s B T E m = Good s B T E m.log.base (keys m.log) m.lines

abbrev pub GoodW : ℕ → List (ℕ × Key) → (ℕ → List Key) → (ℕ → ℕ) → Work → Type 0
GoodW s B T E w = GoodM s (B ++ books w.out) T (now_entered w.entered E) w.market

pub books-cons : (k : Kind) (x : ℕ × Key) (l m r : List (ℕ × Key)) → l ≡ m ++ r → if_book k x l ≡ if_book k x m ++ r
books-cons Kind.Snapshot x l m r e = e
books-cons Kind.Book x l m r e = ap {B = List (ℕ × Key)} (λ t. x ∷ t) e
books-cons Kind.Print x l m r e = e

pub books-append : (a b : List Applied) → books (a ++ b) ≡ books a ++ books b
unfolding books
books-append [] b = refl
books-append (r ∷ rs) b = books-cons r.kind (r.number, r.key) (books (rs ++ b)) (books rs) (books b) (books-append rs b)

pub numbers-snoc : (n : ℕ) (l : List (ℕ × Key)) (x : ℕ × Key) → numbers_from n l → x.0 ≡ n + length l → numbers_from n (l ++ (x ∷ []))
unfolding numbers_from
numbers-snoc n [] x h e = (omega arith, tt)
numbers-snoc n (y ∷ ys) x h e = (h.0, numbers-snoc (suc n) ys x h.1 (omega arith))

module _ {s : ℕ} {B : List (ℕ × Key)} {T : ℕ → List Key} {E : ℕ → ℕ} {base : ℕ} {ks : List Key} {ls : List Connection} where
  -- the end is the start and all that was put out
  pub end_is : Good s B T E base ks ls → s + length B ≡ base + length ks
  end_is g =
      let a : length (keys_of B) ≡ length B = length-map B (λ x. x.1) in
      let b : length (keys_of B) ≡ length g.gone + length ks = ap length g.all ∙ length-append g.gone ks in
      let c = g.basis in omega arith

  pub push-good : (n : ℕ) (k : Key) → n ≡ base + length ks → Good s B T E base ks ls → Good s (B ++ ((n, k) ∷ [])) T E base (ks ++ (k ∷ [])) ls
  push-good n k e g =
      let m : keys_of (B ++ ((n, k) ∷ [])) ≡ keys_of B ++ (k ∷ []) = map-append (λ x. x.1) B ((n, k) ∷ []) in record {
        numbers = numbers-snoc s B (n, k) g.numbers (let i = end_is g in omega arith);
        gone = g.gone;
        all = m ∙ ap (λ (o : List Key). o ++ (k ∷ [])) g.all ∙ simp append_assoc;
        basis = g.basis;
        rises = g.rises;
        conns = subst (λ O. Each (ConnOk s O T E) ls) (sym m)
            (each-imp (ConnOk s (keys_of B) T E) (ConnOk s (keys_of B ++ (k ∷ [])) T E)
            (λ x h. grow s (keys_of B) (k ∷ []) (T x.conn) (E x.conn) x.line h) ls g.conns);
      }

  -- the i-th line changed, with its connection's taken keys and entry number
  pub set_conn-good : (T' : ℕ → List Key) (E' : ℕ → ℕ) (i : ℕ) (line : Line) (hs : List (Key × ℕ)) → i < length ls
      → ((x : ℕ) → x ≢ (get_or ls i nobody).conn → T' x ≡ T x)
      → ((x : ℕ) → x ≢ (get_or ls i nobody).conn → E' x ≡ E x)
      → LineOk s (keys_of B) (T' (get_or ls i nobody).conn) (E' (get_or ls i nobody).conn) line
      → Good s B T E base ks ls
      → Good s B T' E' base ks (set ls i (with_line line (with_held hs (get_or ls i nobody))))
  set_conn-good T' E' i line hs h t e ok g = record {
    numbers = g.numbers;
    gone = g.gone;
    all = g.all;
    basis = g.basis;
    rises = sorted-set nobody ls i (with_line line (with_held hs (get_or ls i nobody))) refl g.rises;
    conns = revise nobody (ConnOk s (keys_of B) T E) (ConnOk s (keys_of B) T' E') ls i
        (with_line line (with_held hs (get_or ls i nobody))) g.rises h
        (λ x ne p. rw (t x.conn ne, e x.conn ne) p) ok g.conns;
  }

  -- lines changed without word of what was taken or entered
  pub lines-good : (ls' : List Connection) → Sorted ls' → Each (ConnOk s (keys_of B) T E) ls' → Good s B T E base ks ls → Good s B T E base ks ls'
  lines-good ls' o e g = record { numbers = g.numbers; gone = g.gone; all = g.all; basis = g.basis; rises = o; conns = e }

  -- the log begins later
  pub cut-good : (n : ℕ) → n ≤ length ks → Good s B T E base ks ls → Good s B T E (base + n) (drop n ks) ls
  cut-good n h g = record {
    numbers = g.numbers;
    gone = g.gone ++ take n ks;
    all = g.all ∙ ap (λ (o : List Key). g.gone ++ o) (sym (take-append-drop n ks)) ∙ simp append_assoc;
    basis = let a = length-append g.gone (take n ks) in let b = length-take-le n ks h in let c = g.basis in omega arith;
    rises = g.rises;
    conns = g.conns;
  }

  pub clear-good : Good s B T E base ks ls → Good s B T E (base + length ks) [] ls
  clear-good g = record {
    numbers = g.numbers;
    gone = keys_of B;
    all = sym (append-nil (keys_of B));
    basis = let a = end_is g in let b : length (keys_of B) ≡ length B = length-map B (λ x. x.1) in omega arith;
    rises = g.rises;
    conns = g.conns;
  }
