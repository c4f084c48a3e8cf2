-- Laws of a state that has taken in the first words of a message, and of the rest.
use Rattle.std.proofs.Common.{◌≡◌, ℕ, suc, ◌+◌, ◌-◌, ◌*◌, ◌/◌, ◌%◌, ◌^◌, ◌<◌, ◌≤◌, List, [], ◌∷◌, ◌++◌, length, take, drop, replicate, sym, refl, ap, ◌∙◌, ap₂, mul_assoc, mul_comm, arith, length-append, length-drop, take_all, drop-drop, pow-add}
use lib.ListN.{length-replicate}
use lib.Seq.{take-append-le, drop-append-le}
use Rattle.keys.specs.declared.sip.State.{State}
use Rattle.keys.specs.Sip.{little_endian, padded, words_of, compressed, compressed_all, finalized, initial, sip}
use Rattle.keys.specs.Keys.{prefix}
use Rattle.keys.proofs.Bytes.{le-append, le-zeros}

-- the rest m of a message of len bytes, padded
abbrev padded_to : ℕ → List ℕ → List ℕ
padded_to len m = m ++ (replicate (7 - length m % 8) 0 ++ (len % 256 ∷ []))

-- the state once that rest is taken in
abbrev with_rest : State → List ℕ → ℕ → State
with_rest s m len = compressed_all s (words_of (length m / 8 + 1) (padded_to len m))

rest-word : (s : State) (m : List ℕ) (len : ℕ) → 8 ≤ length m → with_rest s m len ≡ with_rest (compressed s (little_endian (take 8 m))) (drop 8 m) len
unfolding words_of compressed_all
rest-word s m len h =
    let n : length m / 8 + 1 ≡ suc ((length m - 8) / 8 + 1) = omega arith in
    let z : length m % 8 ≡ (length m - 8) % 8 = omega arith in
    let q : ℕ → List ℕ = λ k. replicate (7 - k % 8) 0 ++ (len % 256 ∷ []) in
    let t : take 8 (padded_to len m) ≡ take 8 m = take-append-le 8 m (q (length m)) h in
    let d : drop 8 (padded_to len m) ≡ padded_to len (drop 8 m) =
    drop-append-le 8 m (q (length m)) h ∙ ap (λ (k : ℕ). drop 8 m ++ (replicate (7 - k) 0 ++ (len % 256 ∷ []))) (z ∙ ap (λ (k : ℕ). k % 8) (sym (length-drop 8 m))) in
    ap (λ (k : ℕ). compressed_all s (words_of k (padded_to len m))) n
    ∙ ap₂ (λ (x y : List ℕ). compressed_all (compressed s (little_endian x)) (words_of ((length m - 8) / 8 + 1) y)) t d
    ∙ ap (λ (k : ℕ). compressed_all (compressed s (little_endian (take 8 m))) (words_of (k / 8 + 1) (padded_to len (drop 8 m)))) (sym (length-drop 8 m))

rest-last : (s : State) (m : List ℕ) (len : ℕ) → length m < 8 → with_rest s m len ≡ compressed s (little_endian m + len % 256 * 2 ^ 56)
unfolding words_of compressed_all
rest-last s m len h =
    let n : length m / 8 + 1 ≡ 1 = omega arith in
    let z : length m % 8 ≡ length m = omega arith in
    let q : List ℕ = replicate (7 - length m) 0 ++ (len % 256 ∷ []) in
    let w : length (m ++ q) ≤ 8 = simp (length-append, length-replicate) (omega arith) in
    let k : 8 * length m + 8 * (7 - length m) ≡ 56 = omega arith in
    let p : 2 ^ (8 * length m) * 2 ^ (8 * (7 - length m)) ≡ 2 ^ 56 = sym (pow-add 2 (8 * length m) (8 * (7 - length m))) ∙ ap (λ (k : ℕ). 2 ^ k) k in
    let e : little_endian (m ++ q) ≡ little_endian m + len % 256 * 2 ^ 56 =
    le-append m q ∙ ap (λ (x : ℕ). little_endian m + x)
    (ap (λ (x : ℕ). 2 ^ (8 * length m) * x) (le-zeros (7 - length m) (len % 256)) ∙ sym (mul_assoc (2 ^ (8 * length m)) (2 ^ (8 * (7 - length m))) (len % 256))
    ∙ ap (λ (x : ℕ). x * (len % 256)) p ∙ mul_comm (2 ^ 56) (len % 256)) in
    let u : padded_to len m ≡ m ++ q = ap (λ (k : ℕ). m ++ (replicate (7 - k) 0 ++ (len % 256 ∷ []))) z in
    ap₂ (λ (x : List ℕ) (k : ℕ). compressed_all s (words_of k x)) u n ∙ ap (λ (x : List ℕ). compressed s (little_endian x)) (take_all 8 (m ++ q) w) ∙ ap (compressed s) e

-- the hash is h once t, which has taken in the words below at, takes in the rest of s; len counts the whole message
abbrev pub HashesTo : State → List ℕ → ℕ → ℕ → ℕ → Type 0
HashesTo t s at len h = finalized (with_rest t (drop at s) len) ≡ h

pub hash-start : (s : List ℕ) → HashesTo (initial 0 0) s 0 (length s) (sip s)
unfolding sip padded
hash-start s = refl

-- the prefix is the whole message's first word
pub hash-prefix : (s : List ℕ) → HashesTo (compressed (initial 0 0) 0x9E3779B97F4A7C15) s 0 (length s + 8) (sip (prefix ++ s))
unfolding sip padded prefix little_endian
hash-prefix s =
    let e : length s + 8 ≡ length (prefix ++ s) = omega arith ∙ sym (length-append prefix s) in
    ap finalized (sym (rest-word (initial 0 0) (prefix ++ s) (length s + 8) (omega arith)) ∙ ap (with_rest (initial 0 0) (prefix ++ s)) e)

pub hash-more : (t : State) (s : List ℕ) (at len h m : ℕ) → HashesTo t s at len h → at + 8 ≤ length s → m ≡ little_endian (take 8 (drop at s))
    → HashesTo (compressed t m) s (at + 8) len h
hash-more t s at len h m p l e =
    ap finalized
    (ap₂ (λ (x : ℕ) (y : List ℕ). with_rest (compressed t x) y len) e (sym (drop-drop 8 at s)) ∙ sym (rest-word t (drop at s) len (rw length-drop (omega arith))))
    ∙ p

pub hash-end : (t : State) (s : List ℕ) (at len h rest : ℕ) → HashesTo t s at len h → length s < at + 8 → rest ≡ little_endian (drop at s)
    → finalized (compressed t (rest + len % 256 * 2 ^ 56)) ≡ h
hash-end t s at len h rest p l e =
    ap finalized (ap (λ (x : ℕ). compressed t (x + len % 256 * 2 ^ 56)) e ∙ sym (rest-last t (drop at s) len (rw length-drop (omega arith)))) ∙ p
