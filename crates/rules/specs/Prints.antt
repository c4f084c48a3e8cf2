-- 01, Prints: per key an applied count and a touched time, and a delivered count per connection.
-- Both tables are kept in order, so that equal maps are equal lists.
use Rattle.std.specs.Prelude.{List, [], Bool, not, ◌&&◌, ◌||◌, cond, ℕ, suc, leb, ltb, eqb}
use Rattle.rules.specs.Lists.{keep, any, first, amend, insert, maybe}
use Rattle.rules.specs.Quantities.{Key, same, age, other_keep}

pub record KeyRow : Type 0 where
  pub key : Key
  pub applied : ℕ
  pub touched : ℕ

pub record CountRow : Type 0 where
  pub key : Key
  pub conn : ℕ
  pub delivered : ℕ

pub record Prints : Type 0 where
  pub key_rows : List KeyRow
  pub count_rows : List CountRow

abbrev pub no_prints : Prints
no_prints = record { key_rows = []; count_rows = [] }

-- the order of the rows: by key, first word first; then by connection
abbrev pub before : Key → Key → Bool
before a b = ltb a.0 b.0 || eqb a.0 b.0 && ltb a.1 b.1

abbrev pub key_before : KeyRow → KeyRow → Bool
key_before r s = before r.key s.key

abbrev pub count_before : CountRow → CountRow → Bool
count_before r s = before r.key s.key || same r.key s.key && ltb r.conn s.conn

abbrev pub of_key : Key → KeyRow → Bool
of_key k r = same r.key k

abbrev pub of_pair : Key → ℕ → CountRow → Bool
of_pair k c r = same r.key k && eqb r.conn c

abbrev pub applied_in : Key → List KeyRow → ℕ
applied_in k rs = maybe 0 (λ r. r.applied) (first (of_key k) rs)

abbrev pub touched_in : Key → List KeyRow → ℕ
touched_in k rs = maybe 0 (λ r. r.touched) (first (of_key k) rs)

abbrev pub delivered_in : Key → ℕ → List CountRow → ℕ
delivered_in k c rs = maybe 0 (λ r. r.delivered) (first (of_pair k c) rs)

-- touched = now, a new key starting at 0
abbrev pub touch : Key → ℕ → List KeyRow → List KeyRow
touch k now rs =
    cond (any (of_key k) rs)
    (amend (of_key k) (λ r. record { key = r.key; applied = r.applied; touched = now }) rs)
    (insert key_before (record { key = k; applied = 0; touched = now }) rs)

-- delivered rises by 1
abbrev pub deliver : Key → ℕ → List CountRow → List CountRow
deliver k c rs =
    cond (any (of_pair k c) rs)
    (amend (of_pair k c) (λ r. record { key = r.key; conn = r.conn; delivered = suc r.delivered }) rs)
    (insert count_before (record { key = k; conn = c; delivered = 1 }) rs)

-- a print of k by c
abbrev pub counted : Key → ℕ → ℕ → Prints → Prints
counted k c now p = record { key_rows = touch k now p.key_rows; count_rows = deliver k c p.count_rows }

-- applied = n
abbrev pub set_applied : Key → ℕ → List KeyRow → List KeyRow
set_applied k n rs = amend (of_key k) (λ r. record { key = r.key; applied = n; touched = r.touched }) rs

abbrev pub apply_print : Key → ℕ → Prints → Prints
apply_print k n p = record { key_rows = set_applied k n p.key_rows; count_rows = p.count_rows }

-- request 1: counts outlive drop, and subscribe removes the delivered counts of its connection, of every key; applied counts remain
abbrev pub of_other : ℕ → CountRow → Bool
of_other c r = not (eqb r.conn c)

abbrev pub remove_counts : ℕ → Prints → Prints
remove_counts c p = record { key_rows = p.key_rows; count_rows = keep (of_other c) p.count_rows }

-- keys untouched for more than 30,000 go, with all their rows
abbrev pub expire_prints : ℕ → Prints → Prints
expire_prints now p =
    let ks = keep (λ r. leb (age now r.touched) other_keep) p.key_rows in
    record { key_rows = ks; count_rows = keep (λ r. any (of_key r.key) ks) p.count_rows }
