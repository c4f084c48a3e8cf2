-- Held prints released one after the other.
use mathlib.Core.Path.{◌≡◌, refl, sym, ap, ◌∙◌, subst}
use mathlib.Core.List.{List, [], ◌∷◌, ◌++◌}
use Prim.Native.Nat.{ℕ, ◌+◌, ◌*◌, ◌^◌, ◌≤◌, ◌<◌}
use native.Mathlib.Numerals.{add-one}
use native.Mathlib.Omega.{arith}
use lib.ListN.{length, get_or, take, length-take}
use lib.Seq.{take-suc, take_all}
use Rattle.rules.specs.declared.Limits.{Limits}
use Rattle.rules.specs.Quantities.{Key}
use Rattle.rules.specs.Log.{Log, end}
use Rattle.rules.specs.Sound.{PrintsSound}
use Rattle.rules.specs.Lines.{Connection, Market, conn_at}
use Rattle.rules.specs.Entering.{Work, begin, release}
use Rattle.rules.proofs.SoundMoves.{release-rel}
use Rattle.rules.proofs.Loops.{release-lines}
use Rattle.lines.specs.Area.{no_print}
use Rattle.store.specs.Store.{limits_of, head_of, market_of, Sized}
use Rattle.store.specs.Moves.{Tabled}
use Rattle.store.specs.ConnMoves.{LineFits}
use Rattle.store.proofs.MarketLaws.{market-limits, entry-count, log-ends, key-count, pair-count, lines-count}
use Rattle.store.proofs.FrameLaws.{moved-limits}
use Rattle.moves.specs.Does.{Does, PrintsRoom}
use Rattle.moves.proofs.DoesLaws.{does-then, does-as, does-none}
use Rattle.moves.proofs.Staying.{Stays, conn-stays, fits-stays}

pub release-append : (c : ℕ) (hs gs : List (Key × ℕ)) (k : Work) → release c gs (release c hs k) ≡ release c (hs ++ gs) k
unfolding release
release-append c [] gs k = refl
release-append c (h ∷ hs) gs k = release-append c hs gs _

pub release-none : {w v : List ℕ} {n : ℕ} (c : ℕ) → Sized w → Does (release c []) w v n w v n
unfolding release
release-none c z = does-none z

prints-fit : {w : List ℕ} → Tabled w → PrintsSound (limits_of w) (market_of w).prints
prints-fit {w} t =
    let a = key-count w in
    let b = pair-count w in
    let x = t.counts.keys in
    let y = t.counts.pairs in
    record { keys_fit = omega arith; pairs_fit = omega arith; tables = t.tables }

-- tables that fit, of a store with the same lines and limits, whose log fits
pub tabled-stays : {w w₁ : List ℕ} → Stays w w₁ → Tabled w → (head_of w₁).count ≤ (limits_of w).G → (head_of w₁).base + (head_of w₁).count < 2 ^ 64
    → PrintsSound (limits_of w) (market_of w₁).prints → Tabled w₁
tabled-stays {w} {w₁} s t e n p =
    let l : limits_of w₁ ≡ limits_of w = s.limits in
    let L = ap (λ (x : Limits). x.L) l in
    let G = ap (λ (x : Limits). x.G) l in
    let C = ap (λ (x : Limits). x.C) l in
    let D = ap (λ (x : Limits). x.D) l in
    let ls = ap length s.lines in
    let a = lines-count w in
    let b = lines-count w₁ in
    let f = t.counts.lines in
    record {
      sized = s.sized;
      counts = record { entries = omega arith; numbers = n; lines = omega arith; keys = omega (arith, key-count w₁, p.keys_fit); pairs = omega (arith, pair-count w₁, p.pairs_fit) };
      tables = p.tables;
    }

-- at most l records more
pub record Released (w : List ℕ) (n : ℕ) (w₁ : List ℕ) (n₁ l : ℕ) : Type 0 where
  pub stays : Stays w w₁
  pub tabled : Tabled w₁
  pub records : n₁ ≤ n + l

pub released : {w v : List ℕ} {n : ℕ} {w₁ v₁ : List ℕ} {n₁ : ℕ} (c : ℕ) (hs : List (Key × ℕ)) → Tabled w → Does (release c hs) w v n w₁ v₁ n₁ → Released w n w₁ n₁ (length hs)
released {w} {v} {n} {w₁} {v₁} {n₁} c hs t d =
    let k : Work = begin (market_of w) in
    let g = d k refl in
    let m : market_of w₁ ≡ (release c hs k).market = g.moved.market in
    let r = release-rel c hs k in
    let log : (market_of w₁).log ≡ (market_of w).log = ap (λ (x : Market). x.log) m ∙ r.log in
    let e = ap (λ (x : Log). length x.entries) log in
    let f = ap end log in
    let o = ap length g.out in
    let q = r.out in
    let u = g.count in
    let s : Stays w w₁ = record { sized = g.moved.sized; lines = ap (λ (x : Market). x.lines) m ∙ release-lines c hs k; limits = moved-limits g.moved ∙ r.limits ∙ market-limits w } in
    let p : PrintsSound (limits_of w) (market_of w₁).prints = subst (λ (x : Market). PrintsSound (limits_of w) x.prints) (sym m) (r.prints (limits_of w) (prints-fit t)) in
    record {
      stays = s;
      tabled = tabled-stays s t (omega (arith, entry-count w, entry-count w₁, t.counts.entries)) (omega (arith, log-ends w, log-ends w₁, t.counts.numbers)) p;
      records = omega arith;
    }

-- the first j of the i-th line's held prints were released
module _ {w v w₁ v₁ : List ℕ} {n n₁ : ℕ} (i j : ℕ) (r : PrintsRoom w v n i) (h : j < length (conn_at i (market_of w)).held) (kept : length v₁ ≡ length v)
    (d : Does (release (conn_at i (market_of w)).conn (take j (conn_at i (market_of w)).held)) w v n w₁ v₁ n₁) where
  so_far : Released w n w₁ n₁ j
  so_far =
      let hs : List (Key × ℕ) = (conn_at i (market_of w)).held in
      let l : length (take j hs) ≡ j = simp length-take (omega arith) in
      subst (Released w n w₁ n₁) l (released (conn_at i (market_of w)).conn (take j hs) r.tabled d)

  pub print-ready : LineFits w₁ i × (j < length (conn_at i (market_of w₁)).held)
  print-ready = (fits-stays so_far.stays i r.fits, rw (conn-stays so_far.stays i) h)

  pub release-ready : Tabled w₁ × (7 * n₁ + 7 ≤ length v₁)
  release-ready = let a = so_far.records in let z = r.room in (so_far.tabled, omega arith)

  -- and the next
  pub release-next : {w₂ v₂ : List ℕ} {n₂ : ℕ} (c : ℕ) (print : Key × ℕ) → c ≡ (conn_at i (market_of w)).conn → print ≡ get_or (conn_at i (market_of w₁)).held j no_print
      → Does (release c (print ∷ [])) w₁ v₁ n₁ w₂ v₂ n₂
      → Does (release (conn_at i (market_of w)).conn (take (j + 1) (conn_at i (market_of w)).held)) w v n w₂ v₂ n₂
  release-next c print q e f =
      let hs : List (Key × ℕ) = (conn_at i (market_of w)).held in
      let a : ℕ = (conn_at i (market_of w)).conn in
      let at : get_or hs j no_print ≡ print = sym (e ∙ ap (λ (s : Connection). get_or s.held j no_print) (conn-stays so_far.stays i)) in
      let more : take j hs ++ (print ∷ []) ≡ take (j + 1) hs = sym (rw (add-one, take-suc hs j no_print h, at)) in
      let room = r.room in
      does-as (λ k. release c (print ∷ []) (release a (take j hs) k)) (release a (take (j + 1) hs))
      (λ k x. ap (λ (y : ℕ). release y (print ∷ []) (release a (take j hs) k)) q ∙ release-append a (take j hs) (print ∷ []) k ∙ ap (λ (l : List (Key × ℕ)). release a l k) more)
      (does-then (release a (take j hs)) (release c (print ∷ [])) (omega arith) d f)

pub release-all : {w v w₁ v₁ : List ℕ} {n n₁ : ℕ} (c j : ℕ) (hs : List (Key × ℕ)) → length hs ≤ j → Does (release c (take j hs)) w v n w₁ v₁ n₁ → Does (release c hs) w v n w₁ v₁ n₁
release-all c j hs h d = rw (take_all j hs h) at d
