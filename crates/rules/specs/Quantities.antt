-- 01, Quantities. A number, a time and a key's word are plain numbers here: the words of a store are what bounds them.
use Rattle.std.specs.Prelude.{Option, None, Some, Bool, ◌&&◌, ℕ, ◌+◌, ◌-◌, ◌*◌, ◌^◌, leb, eqb}
use Rattle.rules.specs.declared.EventKey.{EventKey}
use Rattle.rules.specs.declared.Limits.{Limits}
use Rattle.rules.specs.declared.Kind.TheVariants as Kind
use Rattle.rules.specs.declared.Applied.{Applied}

abbrev pub Key : Type 0
Key = EventKey

abbrev pub key : ℕ → ℕ → Key
key a b = record { 0 = a; 1 = b }

-- what stands past the end of a list of keys
abbrev pub no_key : Key
no_key = key 0 0

abbrev pub same : Key → Key → Bool
same a b = eqb a.0 b.0 && eqb a.1 b.1

-- now minus stamp, 0 if the stamp is later
abbrev pub age : ℕ → ℕ → ℕ
age now stamp = now - stamp

-- of a stamp's time, or n where there is none
abbrev pub stamped : {A : Type 0} → A → (ℕ → A) → Option ℕ → A
stamped n f None = n
stamped n f (Some t) = f t

-- a log entry stays until it is older than this
abbrev pub log_keep : ℕ
log_keep = 10000

-- a line that has not entered line by this since-age ends
abbrev pub align_timeout : ℕ
align_timeout = 10000

-- a print key stays until it is untouched for longer than this
abbrev pub other_keep : ℕ
other_keep = 30000

-- quiet from this age on
abbrev pub quiet_after : ℕ
quiet_after = 1000

-- so many matches make a place count
abbrev pub align_run : ℕ
align_run = 4

-- the largest delivered or applied count, and the largest event number
abbrev pub max_count : ℕ
max_count = 2 ^ 32 - 1

abbrev pub max_number : ℕ
max_number = 2 ^ 64 - 1

-- items that a line area takes
abbrev pub area_items : Limits → ℕ
area_items l = l.H + 8

-- words that a store needs
abbrev pub words_needed : Limits → ℕ
words_needed l = 64 + l.L * (7 * l.H + 64) + 3 * l.G + 4 * l.C + 4 * l.D

abbrev pub within : ℕ → ℕ → ℕ → Bool
within a b n = leb a n && leb n b

unfoldable pub in_range : Limits → Bool
in_range l = within 1 16 l.L && within 1 5000 l.H && within 1 1048576 l.G && within 1 65536 l.C && within 1 65536 l.D

-- put_out records: the number is 0 unless book, a snapshot's key is 0, 0, times is 1 except for prints
abbrev pub snapshot_out : ℕ → ℕ → Applied
snapshot_out c msg = record { conn = c; kind = Kind.Snapshot; number = 0; key = no_key; message = msg; times = 1 }

abbrev pub book_out : ℕ → ℕ → Key → ℕ → Applied
book_out c n k msg = record { conn = c; kind = Kind.Book; number = n; key = k; message = msg; times = 1 }

abbrev pub print_out : ℕ → Key → ℕ → ℕ → Applied
print_out c k msg times = record { conn = c; kind = Kind.Print; number = 0; key = k; message = msg; times = times }
