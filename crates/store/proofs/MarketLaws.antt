-- Laws of a store's reading: the parts of the market, by the words that say them.
use mathlib.Core.Path.{◌≡◌, refl, sym, ap, ◌∙◌}
use mathlib.Core.List.{List, [], ◌∷◌}
use Prim.Native.Nat.{ℕ, ◌+◌, ◌*◌, ◌≤◌, ◌<◌}
use native.Mathlib.Omega.{arith}
use lib.ListN.{length, get_or}
use Rattle.rules.specs.declared.Limits.{Limits}
use Rattle.rules.specs.Log.{Log, keys, end}
use Rattle.rules.specs.Lines.{Connection, conn_at, nobody, fresh}
use Rattle.words.specs.Words.{back, tab}
use Rattle.words.proofs.Parts.{get_d_part, length_back}
use Rattle.words.proofs.Tab.{length-tab, get_d-tab}
use Rattle.event_log.specs.declared.Head.{Head}
use Rattle.event_log.specs.Log.{keys_of, log_of}
use Rattle.event_log.proofs.Reading.{log-base, log-last, log-length, log-end, log-keys, keys-same}
use Rattle.prints.specs.declared.Used.{Used}
use Rattle.rows.specs.Tables.{size, table_of}
use Rattle.prints.specs.Area.{prints_of}
use Rattle.prints.proofs.Tables.{key-rows, count-rows}
use Rattle.store.specs.Store.{layout_of, limits_of, head_of, line_count, used_of, log_words, key_words, table_words, conn_in, market_of}

module _ (w : List ℕ) where
  -- ---- its four parts

  pub market-limits : (market_of w).limits ≡ limits_of w
  unfolding market_of
  market-limits = refl

  pub market-log : (market_of w).log ≡ log_of (limits_of w).G (log_words w) (head_of w)
  unfolding market_of
  market-log = refl

  pub market-prints : (market_of w).prints ≡ prints_of (limits_of w).C (table_words w) (used_of w)
  unfolding market_of
  market-prints = refl

  pub market-lines : (market_of w).lines ≡ tab (line_count w) (conn_in w)
  unfolding market_of
  market-lines = refl

  -- ---- the log

  pub market-base : (market_of w).log.base ≡ (head_of w).base
  market-base = ap (λ (l : Log). l.base) market-log ∙ log-base (limits_of w).G (log_words w) (head_of w)

  pub market-last : (market_of w).log.last ≡ (head_of w).last
  market-last = ap (λ (l : Log). l.last) market-log ∙ log-last (limits_of w).G (log_words w) (head_of w)

  pub log-ends : end (market_of w).log ≡ (head_of w).base + (head_of w).count
  log-ends = ap end market-log ∙ log-end (limits_of w).G (log_words w) (head_of w)

  pub entry-count : length (market_of w).log.entries ≡ (head_of w).count
  entry-count = ap (λ (l : Log). length l.entries) market-log ∙ log-length (limits_of w).G (log_words w) (head_of w)

  -- its keys stand in the first words of its area
  pub market-keys : (head_of w).count ≤ (limits_of w).G → (head_of w).front < (limits_of w).G
      → keys (market_of w).log ≡ keys_of (limits_of w).G (head_of w).front (head_of w).count (key_words w)
  market-keys h f =
      let g = (limits_of w).G in
      let same : (i : ℕ) → i < 2 * g → get_or (log_words w) i 0 ≡ get_or (key_words w) i 0 = λ i l.
      get_d_part 64 (64 + 3 * g) w i (omega arith) ∙ sym (get_d_part 64 (64 + 2 * g) w i (omega arith)) in
      ap keys market-log ∙ log-keys g (log_words w) (head_of w)
      ∙ keys-same g (head_of w).front (head_of w).count (log_words w) (key_words w) f h same

  -- ---- the prints

  pub key-count : length (market_of w).prints.key_rows ≡ size (used_of w).keys
  unfolding market_of
  key-count = key-rows (limits_of w).C (table_words w) (used_of w)

  pub pair-count : length (market_of w).prints.count_rows ≡ size (used_of w).counts
  unfolding market_of
  pair-count = count-rows (limits_of w).C (table_words w) (used_of w)

  -- ---- the lines

  pub lines-count : length (market_of w).lines ≡ line_count w
  lines-count = ap length market-lines ∙ length-tab (line_count w) (conn_in w)

  pub conn-words : (i : ℕ) → i < line_count w → conn_at i (market_of w) ≡ conn_in w i
  conn-words i h = ap (λ (ls : List Connection). get_or ls i nobody) market-lines ∙ get_d-tab (line_count w) (conn_in w) i nobody h

-- the market of the words v, which have the limits of w, by what their parts are known to be
pub market-by : (v w : List ℕ) {xs ts : List ℕ} {h : Head} {u : Used} {ls : List Connection} → limits_of v ≡ limits_of w → log_words v ≡ xs → head_of v ≡ h
    → table_words v ≡ ts → used_of v ≡ u → tab (line_count v) (conn_in v) ≡ ls
    → market_of v ≡ record { limits = limits_of w; log = log_of (limits_of w).G xs h; prints = prints_of (limits_of w).C ts u; lines = ls }
unfolding market_of
market-by v w l x h t u ls = λ j. record { limits = l j; log = log_of (l j).G (x j) (h j); prints = prints_of (l j).C (t j) (u j); lines = ls j }

-- the header of an empty store: the limits, base, zeros, and the layout v
module _ (l : Limits) (start : ℕ) (w x y : List ℕ) (v : ℕ) (p : x ≡ l.L ∷ l.H ∷ l.G ∷ l.C ∷ l.D ∷ start ∷ 0 ∷ 0 ∷ []) (q : y ≡ 0 ∷ 0 ∷ 0 ∷ 0 ∷ v ∷ 0 ∷ 0 ∷ 0 ∷ []) where
  abbrev pub emptied : List ℕ
  emptied = back 8 16 y (back 0 8 x w)

  pub market-empty : market_of emptied ≡ fresh l start
  unfolding market_of log_of prints_of table_of
  market-empty = λ j. market_of (back 8 16 (q j) (back 0 8 (p j) w))

  pub layout-empty : layout_of emptied ≡ v
  layout-empty = λ j. layout_of (back 8 16 (q j) (back 0 8 (p j) w))

  pub front-empty : (head_of emptied).front ≡ 0
  front-empty = λ j. (head_of (back 8 16 (q j) (back 0 8 (p j) w))).front

  pub length-empty : 64 ≤ length w → length emptied ≡ length w
  length-empty h =
      let a : length (back 0 8 x w) ≡ length w = length_back 0 8 x w (record { kept = ap length p; start = omega arith; inside = omega arith }) in
      length_back 8 16 y (back 0 8 x w) (record { kept = ap length q; start = omega arith; inside = omega arith }) ∙ a
