-- A record of 44 bytes, little-endian: mark, call byte, connection, key, message, time, index byte.
use Rattle.std.specs.Prelude.{Result, Ok, Err, List, cond, ℕ, ltb, eqb, length, take, drop, get_or}
use Rattle.rules.specs.Quantities.{Key, key}
use Rattle.keys.specs.Sip.{little_endian}
use Rattle.listing.specs.declared.Fault.{Fault}
use Rattle.listing.specs.declared.Call.{Call}

-- the eight bytes from a place on, as a number
abbrev pub word : ℕ → List ℕ → ℕ
word at b = little_endian (take 8 (drop at b))

abbrev pub conn : List ℕ → ℕ
conn b = word 3 b

abbrev pub key_in : List ℕ → Key
key_in b = key (word 11 b) (word 19 b)

abbrev pub message : List ℕ → ℕ
message b = word 27 b

abbrev pub time : List ℕ → ℕ
time b = word 35 b

abbrev pub index : List ℕ → ℕ
index b = get_or b 43 0

-- the call of a call byte
unfoldable pub by_call : ℕ → List ℕ → Result Call Fault
by_call n b =
    cond (eqb n 1) (Ok (Call.Subscribe (conn b) (time b)))
    (cond (eqb n 2) (Ok (Call.Snapshot (conn b) (index b) (message b) (time b)))
    (cond (eqb n 3) (Ok (Call.Book (conn b) (key_in b) (message b) (time b)))
    (cond (eqb n 4) (Ok (Call.Print (conn b) (key_in b) (message b) (time b)))
    (cond (eqb n 5) (Ok (Call.Drop (conn b) (time b)))
    (cond (eqb n 6) (Ok (Call.Promote (time b)))
    (cond (eqb n 7) (Ok (Call.Reset (time b)))
    (cond (eqb n 8) (Ok (Call.Tick (index b) (time b)))
    (Err Fault.Call))))))))

-- the record at the front of these bytes
unfoldable pub record_of : List ℕ → Result Call Fault
record_of b =
    cond (ltb (length b) 44) (Err Fault.Short)
    (cond (eqb (get_or b 0 0) 0x4D) (cond (eqb (get_or b 1 0) 0x47) (by_call (get_or b 2 0) b) (Err Fault.Mark)) (Err Fault.Mark))
