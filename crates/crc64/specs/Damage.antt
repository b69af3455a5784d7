-- What damage the checksum refuses: statements (a) to (e), put together in `Refuses`, which the function `refuses` of this crate proves.
-- (a) to (d) say of two contents that both have a right checksum how they can differ; so of a right one, whatever differs less is refused.
-- Assumes nothing.
use Rattle.std.specs.Prelude.{ℕ, ◌+◌, ◌*◌, ◌%◌, ◌≤◌, ◌<◌, ◌≡◌, ◌⊎◌, Bool, false, List, [], ◌∷◌, ◌++◌, length, get_or, take, drop}
use Rattle.crc64.specs.Crc64.{bits, bits_of, digit, number, xor, crc_of}

-- every element is a byte
abbrev pub Bytes : List ℕ → Type 0
Bytes s = (i : ℕ) → get_or s i 0 < 256

-- s and t are equally long and equal outside of n consecutive bits
pub record Within (n : ℕ) (s t : List Bool) : Type 0 where
  pub long : length s ≡ length t
  pub start : ℕ
  pub before : (i : ℕ) → i < start → get_or s i false ≡ get_or t i false
  pub behind : (i : ℕ) → start + n ≤ i → get_or s i false ≡ get_or t i false

-- in how many places two lists of bits differ
unfoldable pub distance : List Bool → List Bool → ℕ
distance [] t = 0
distance (a ∷ s) [] = 0
distance (a ∷ s) (b ∷ t) = digit (xor a b) + distance s t

-- (a) BURST. Take of a content its bits, each byte from its lowest, and then its checksum's bits, from the lowest: two that differ only
-- within 64 consecutive bits of that order are equal. Contents of any length.
abbrev pub Burst : Type 0
Burst =
    (s t : List ℕ) → Bytes s → Bytes t
    → Within 64 (bits_of s ++ bits 64 (crc_of s)) (bits_of t ++ bits 64 (crc_of t)) → s ≡ t

-- A block is stored as its checksum in eight bytes, the lowest first, and then its content.
-- It is right if the checksum is the content's.
abbrev pub Right : List ℕ → Type 0
Right s = number (bits_of (take 8 s)) ≡ crc_of (drop 8 s)

pub record Block (s : List ℕ) : Type 0 where
  pub bytes : Bytes s
  pub long : 8 ≤ length s
  pub right : Right s

-- a stored block's bits in the order in which the CRC takes them: the content, each byte from its lowest bit; then the checksum from its
-- lowest bit. In the order in which they are stored, checksum first, it is not true, not even of 60 bits: `close` of the examples.
abbrev pub taken : List ℕ → List Bool
taken s = bits_of (drop 8 s) ++ bits_of (take 8 s)

abbrev pub StoredBurst : Type 0
StoredBurst = (s t : List ℕ) → Block s → Block t → Within 64 (taken s) (taken t) → s ≡ t

-- (b) ONE PIECE. Two right blocks that are equal outside of one aligned piece of eight bytes are equal.
abbrev pub OnePiece : Type 0
OnePiece =
    (s t : List ℕ) (p : ℕ) → Block s → Block t → length s ≡ length t
    → ((i : ℕ) → (i < 8 * p) ⊎ (8 * p + 8 ≤ i) → get_or s i 0 ≡ get_or t i 0) → s ≡ t

-- in how many bits two stored blocks differ, wherever these are
abbrev pub flips : List ℕ → List ℕ → ℕ
flips s t = distance (bits_of s) (bits_of t)

-- (c) ODD. Two right blocks of equal length never differ in an odd number of bits.
abbrev pub Odd : Type 0
Odd = (s t : List ℕ) → Block s → Block t → length s ≡ length t → flips s t % 2 ≡ 0

-- (d) FEW. Two right blocks of equal length, up to 4,095 bytes (a content of 4,087), are equal or differ in eight bits or more.
abbrev pub Few : Type 0
Few = (s t : List ℕ) → Block s → Block t → length s ≡ length t → length s ≤ 4095 → (s ≡ t) ⊎ (8 ≤ flips s t)

-- (e) TWO WORDS that name one of two places differ in 25 bits: what is within 24 flipped bits of one of them is not the other.
abbrev pub first : ℕ
first = 0xa328_42d1_9001_605e

abbrev pub second : ℕ
second = 0xab21_aa73_0695_31b7

abbrev pub Apart : Type 0
Apart =
    (distance (bits 64 first) (bits 64 second) ≡ 25)
    × ((w : ℕ) → distance (bits 64 first) (bits 64 w) ≤ 24 → w ≡ second → ⊥)
    × ((w : ℕ) → distance (bits 64 second) (bits 64 w) ≤ 24 → w ≡ first → ⊥)

pub record Refuses : Type 0 where
  pub burst : Burst
  pub stored_burst : StoredBurst
  pub one_piece : OnePiece
  pub odd : Odd
  pub few : Few
  pub apart : Apart
