-- The reading of a line's area: 7h + 64 words. Word 0 is the connection, words 1 to 8 the line, word 9 how many prints are held, word 10
-- the line's limit (request 5); from word 32 on h + 8 items of four words, and behind them h held prints of three words (key, key, message).
use Rattle.std.specs.Prelude.{Option, None, Some, ◌≡◌, List, [], ◌∷◌, Bool, true, false, ℕ, zero, suc, ◌+◌, ◌*◌, ◌≤◌, ◌<◌, length, get_or}
use Rattle.rules.specs.Quantities.{Key, key}
use Rattle.rules.specs.Lines as Rules
use Rattle.rules.specs.Lines.{Connection}
use Rattle.words.specs.Words.{part, tab, Apart}
use Rattle.lines.specs.declared.Line.{Line}
use Rattle.lines.specs.declared.Line.TheVariants as Line
use Rattle.lines.specs.Line.{line_of}

-- a flag is any word but 0; a time with its flag
abbrev pub flag : ℕ → Bool
flag zero = false
flag (suc n) = true

abbrev pub stamp_in : ℕ → ℕ → Option ℕ
stamp_in zero t = None
stamp_in (suc f) t = Some t

-- by kind: 0 Waiting, 1 Pending, 2 in line, any other Failed
abbrev pub by_kind : ℕ → Line → Line → Line → Line
by_kind zero a b c = a
by_kind (suc zero) a b c = b
by_kind (suc (suc zero)) a b c = c
by_kind (suc (suc (suc n))) a b c = Line.Failed

-- the line that eight words say: kind, items held, since, snapshot flag and time, next, due for tokens 0 and 1
unfoldable pub line_in : List ℕ → Line
line_in v =
    by_kind (get_or v 0 0)
    (Line.Waiting (get_or v 1 0) (get_or v 2 0))
    (Line.Pending (get_or v 1 0) (stamp_in (get_or v 3 0) (get_or v 4 0)) (get_or v 2 0))
    (Line.InLine (get_or v 5 0) (flag (get_or v 6 0)) (flag (get_or v 7 0)))

-- the words of a line
abbrev pub flag_of : Bool → ℕ
flag_of false = 0
flag_of true = 1

abbrev pub stamp_flag : Option ℕ → ℕ
stamp_flag None = 0
stamp_flag (Some t) = 1

abbrev pub stamp_time : Option ℕ → ℕ
stamp_time None = 0
stamp_time (Some t) = t

unfoldable pub line_words : Line → List ℕ
line_words (Line.Waiting n since) = 0 ∷ n ∷ since ∷ 0 ∷ 0 ∷ 0 ∷ 0 ∷ 0 ∷ []
line_words (Line.Pending n at since) = 1 ∷ n ∷ since ∷ stamp_flag at ∷ stamp_time at ∷ 0 ∷ 0 ∷ 0 ∷ []
line_words (Line.InLine next a b) = 2 ∷ 0 ∷ 0 ∷ 0 ∷ 0 ∷ next ∷ flag_of a ∷ flag_of b ∷ []
line_words Line.Failed = 3 ∷ 0 ∷ 0 ∷ 0 ∷ 0 ∷ 0 ∷ 0 ∷ 0 ∷ []

-- the i-th of prints that are three words each: key and message; and the first n of them
abbrev pub print_in : List ℕ → ℕ → Key × ℕ
print_in v i = (key (get_or v (3 * i) 0) (get_or v (3 * i + 1) 0), get_or v (3 * i + 2) 0)

unfoldable pub prints_in : ℕ → List ℕ → List (Key × ℕ)
prints_in n v = tab n (print_in v)

-- what stands past the end of a list of prints
abbrev pub no_print : Key × ℕ
no_print = (key 0 0, 0)

-- the items' words, and the held prints'
abbrev pub item_words : ℕ → List ℕ → List ℕ
item_words h w = part 32 (4 * h + 64) w

abbrev pub print_words : ℕ → List ℕ → List ℕ
print_words h w = part (4 * h + 64) (7 * h + 64) w

abbrev pub head_line : List ℕ → Line
head_line w = line_in (part 1 9 w)

abbrev pub print_count : List ℕ → ℕ
print_count w = get_or w 9 0

abbrev pub line_limit : List ℕ → ℕ
line_limit w = get_or w 10 0

-- what an area says of its connection
unfoldable pub conn_of : ℕ → List ℕ → Connection
conn_of h w =
    record {
      conn = get_or w 0 0;
      limit = line_limit w;
      line = line_of (head_line w) (item_words h w);
      held = prints_in (print_count w) (print_words h w);
    }

-- an area and what it counts fit each other
pub record Fit (h : ℕ) (w : List ℕ) : Type 0 where
  pub size : length w ≡ 7 * h + 64
  pub items : length (Rules.items_of (conn_of h w).line) ≤ h + 8
  pub prints : print_count w ≤ h

-- ---- an area copied

-- the area at a among the words w
abbrev pub area_at : ℕ → ℕ → List ℕ → List ℕ
area_at h a w = part a (a + (7 * h + 64)) w

-- the areas at `from` and at `to` lie inside the words, apart from each other
pub record TwoAreas (h from to : ℕ) (w : List ℕ) : Type 0 where
  pub apart : Apart from to (7 * h + 64)
  pub source : from + (7 * h + 64) ≤ length w
  pub target : to + (7 * h + 64) ≤ length w

-- the first r of m words hold the first n, or all where there are fewer than n
pub record Enough (n m r : ℕ) : Type 0 where
  pub inside : r ≤ m
  pub all : (j : ℕ) → j < n → j < m → j < r

-- the area at `to` in v says what the one at `from` says in w, with the same word for the kind; all words outside it stay
pub record AreaCopied (h from to : ℕ) (w v : List ℕ) : Type 0 where
  pub size : length v ≡ length w
  pub conn : conn_of h (area_at h to v) ≡ conn_of h (area_at h from w)
  pub kind : get_or (area_at h to v) 1 0 ≡ get_or (area_at h from w) 1 0
  pub below : (j : ℕ) → j < to → get_or v j 0 ≡ get_or w j 0
  pub above : (j : ℕ) → to + (7 * h + 64) ≤ j → get_or v j 0 ≡ get_or w j 0
