-- The reading of a view: the keys' words of a ring, the number of the first entry, how many there are, and the first one's place.
use Rattle.std.specs.Prelude.{None, List, map, ℕ}
use Rattle.rules.specs.Log.{Log}
use Rattle.event_log.specs.Log.{keys_of}

-- a log with these keys, numbered from base; a view has no times and no last-applied
abbrev pub view_of : List ℕ → ℕ → ℕ → ℕ → ℕ → Log
view_of w base count front g = record { base = base; entries = map (λ k. (k, 0)) (keys_of g front count w); last = None }
