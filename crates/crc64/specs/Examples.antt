-- Worked examples of the checksum, which are computed: the catalogue's check value, document 01's three headers, and a damage that the
-- checksum does not see. Nothing cites them. Assumes nothing.
use Rattle.std.specs.Prelude.{ℕ, ◌≡◌, List, [], ◌∷◌, ◌++◌}
use Rattle.device.specs.Word.{le}
use Rattle.crc64.specs.Crc64.{bits_of, crc_of}
use Rattle.crc64.specs.Damage.{Within, Right, flips}

-- the content of a log's header
abbrev pub header : ℕ → ℕ → ℕ → List ℕ
header head tail size = le head ++ (le tail ++ le size)

-- two headers as they are stored
abbrev pub whole : List ℕ
whole = le 0x4f7d_438f_09d1_b9d5 ++ header 0 100 4024

abbrev pub damaged : List ℕ
damaged = le 0x8eb6_c6d6_48f4_39d5 ++ header 1679 100 4024

pub record Examples : Type 0 where
  -- the digits 1 to 9 as text
  pub check : crc_of (49 ∷ 50 ∷ 51 ∷ 52 ∷ 53 ∷ 54 ∷ 55 ∷ 56 ∷ 57 ∷ []) ≡ 0x995d_c9bb_df19_39fa
  -- the digits 0 and 1
  pub zero : crc_of (48 ∷ []) ≡ 0x9901_423b_9732_9582
  pub one : crc_of (49 ∷ []) ≡ 0x2a2f_0e85_9495_caed
  pub empty : crc_of (header 0 0 4024) ≡ 0x329f_c849_810e_7b1d
  pub hundred : crc_of (header 0 100 4024) ≡ 0x4f7d_438f_09d1_b9d5
  pub smallest : crc_of (header 0 0 1) ≡ 0x6c28_1743_84cf_2c2c
  -- Both are right, and differ in 28 bits within 60 consecutive ones, as stored: so `StoredBurst` holds only in the order of `taken`.
  pub right : Right whole
  pub right_damaged : Right damaged
  pub damage : flips whole damaged ≡ 28
  pub close : Within 60 (bits_of whole) (bits_of damaged)
