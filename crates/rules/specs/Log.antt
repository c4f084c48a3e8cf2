-- 01, Log: entries (key, time) numbered from base.
use Rattle.std.specs.Prelude.{Option, None, Some, List, [], ◌∷◌, ◌++◌, map, cond, ◌&&◌, ℕ, suc, ◌+◌, ◌-◌, leb, ltb, length, get_or, drop}
use Rattle.rules.specs.Quantities.{Key, no_key, age, log_keep}

-- `last` is last-applied
pub record Log : Type 0 where
  pub base : ℕ
  pub entries : List (Key × ℕ)
  pub last : Option ℕ

-- the log that setup makes
abbrev pub empty_log : ℕ → Log
empty_log start = record { base = start; entries = []; last = None }

abbrev pub keys : Log → List Key
keys l = map (λ e. e.0) l.entries

abbrev pub end : Log → ℕ
end l = l.base + length l.entries

-- the key of event n, where the log has it
unfoldable pub key_at : ℕ → Log → Option Key
key_at n l = cond (leb l.base n && ltb n (end l)) (Some (get_or (keys l) (n - l.base) no_key)) None

-- adds at the end and sets last-applied to now
abbrev pub push : Key → ℕ → Log → Log
push k now l = record { base = l.base; entries = l.entries ++ ((k, now) ∷ []); last = Some now }

-- last-applied = now
abbrev pub stamp : ℕ → Log → Log
stamp now l = record { base = l.base; entries = l.entries; last = Some now }

-- sets base to end and empties the log
abbrev pub clear : Log → Log
clear l = record { base = end l; entries = []; last = l.last }

-- how many entries at the front are older than 10,000
unfoldable pub old : ℕ → List (Key × ℕ) → ℕ
old now [] = 0
old now (e ∷ es) = cond (ltb log_keep (age now e.1)) (suc (old now es)) 0

-- from the front, entries go while older than 10,000
abbrev pub prune : ℕ → Log → Log
prune now l = let n = old now l.entries in record { base = l.base + n; entries = drop n l.entries; last = l.last }
