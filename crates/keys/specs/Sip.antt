-- SipHash-c-d as Aumasson and Bernstein's paper defines it, at c = 1, d = 3 and the secret key 0, 0.
-- A word is a number below 2 ^ 64, a message a list of bytes, and State the four words of internal state.
use Rattle.std.specs.Prelude.{ℕ, zero, suc, ◌+◌, ◌-◌, ◌*◌, ◌/◌, ◌%◌, ◌^◌, List, [], ◌∷◌, ◌++◌, length, take, drop, replicate, bit_xor}
use Rattle.keys.specs.declared.sip.State.{State}

-- rounds for each word, and at the end
abbrev pub c_rounds : ℕ
c_rounds = 1

abbrev pub d_rounds : ℕ
d_rounds = 3

-- a sum that wraps
unfoldable pub added : ℕ → ℕ → ℕ
added x y = (x + y) % 2 ^ 64

-- x turned left by k bits
unfoldable pub rotated : ℕ → ℕ → ℕ
rotated x k = (x * 2 ^ k) % 2 ^ 64 + x / 2 ^ (64 - k)

-- Initialization, from the two words of the secret key
abbrev pub initial : ℕ → ℕ → State
initial k0 k1 =
    record {
      v0 = bit_xor k0 0x736f6d6570736575;
      v1 = bit_xor k1 0x646f72616e646f6d;
      v2 = bit_xor k0 0x6c7967656e657261;
      v3 = bit_xor k1 0x7465646279746573;
    }

-- SipRound, a line for each of the paper's steps
unfoldable pub sip_round : State → State
sip_round s =
    let v0 : ℕ = added s.v0 s.v1 in
    let v2 : ℕ = added s.v2 s.v3 in
    let v1 : ℕ = rotated s.v1 13 in
    let v3 : ℕ = rotated s.v3 16 in
    let v1 : ℕ = bit_xor v1 v0 in
    let v3 : ℕ = bit_xor v3 v2 in
    let v0 : ℕ = rotated v0 32 in
    let v2 : ℕ = added v2 v1 in
    let v0 : ℕ = added v0 v3 in
    let v1 : ℕ = rotated v1 17 in
    let v3 : ℕ = rotated v3 21 in
    let v1 : ℕ = bit_xor v1 v2 in
    let v3 : ℕ = bit_xor v3 v0 in
    let v2 : ℕ = rotated v2 32 in
    record { v0 = v0; v1 = v1; v2 = v2; v3 = v3 }

unfoldable pub sip_rounds : ℕ → State → State
sip_rounds zero s = s
sip_rounds (suc n) s = sip_rounds n (sip_round s)

-- Compression of a word m: m into v3, c rounds, m into v0
unfoldable pub compressed : State → ℕ → State
compressed s m =
    let t : State = sip_rounds c_rounds (record { v0 = s.v0; v1 = s.v1; v2 = s.v2; v3 = bit_xor s.v3 m }) in
    record { v0 = bit_xor t.v0 m; v1 = t.v1; v2 = t.v2; v3 = t.v3 }

-- Compression of a message's words, in order
unfoldable pub compressed_all : State → List ℕ → State
compressed_all s [] = s
compressed_all s (m ∷ ms) = compressed_all (compressed s m) ms

-- Finalization: ff into v2, d rounds, and the exclusive or of the four words
unfoldable pub finalized : State → ℕ
finalized s =
    let t : State = sip_rounds d_rounds (record { v0 = s.v0; v1 = s.v1; v2 = bit_xor s.v2 0xff; v3 = s.v3 }) in
    bit_xor (bit_xor (bit_xor t.v0 t.v1) t.v2) t.v3

-- bytes as a number, the lowest first
unfoldable pub little_endian : List ℕ → ℕ
little_endian [] = 0
little_endian (b ∷ bs) = b + 256 * little_endian bs

-- the message, then null bytes, and as the last byte of a word its length modulo 256
unfoldable pub padded : List ℕ → List ℕ
padded m = m ++ (replicate (7 - length m % 8) 0 ++ (length m % 256 ∷ []))

-- the first n words of eight bytes
unfoldable pub words_of : ℕ → List ℕ → List ℕ
words_of zero p = []
words_of (suc n) p = little_endian (take 8 p) ∷ words_of n (drop 8 p)

-- the hash of a message of b bytes, which has b / 8 + 1 words
unfoldable pub sip : List ℕ → ℕ
sip m = finalized (compressed_all (initial 0 0) (words_of (length m / 8 + 1) (padded m)))
