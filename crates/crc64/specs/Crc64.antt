-- The checksum CRC-64/XZ, as a catalogue of CRCs has it: width 64, polynomial 0x42f0e1eba9ea3693, bits reflected, all ones before and after.
-- `crc_of` is the interface: every contract of this crate, and whoever stores a checksum, cites it. The rest serves it.
-- A bit is a Bool. A polynomial over the field of two elements is the list of its coefficients, the highest power first.
-- Assumes nothing.
use Rattle.std.specs.Prelude.{ℕ, zero, suc, ◌+◌, ◌-◌, ◌*◌, ◌/◌, ◌%◌, Bool, true, false, List, [], ◌∷◌, ◌++◌, reverse, length, replicate, eqb}

-- the n lowest bits of a number, from the lowest
unfoldable pub bits : ℕ → ℕ → List Bool
bits zero x = []
bits (suc n) x = eqb (x % 2) 1 ∷ bits n (x / 2)

-- the bits of bytes in the order in which the CRC takes them: each byte from its lowest bit ("reflected")
unfoldable pub bits_of : List ℕ → List Bool
bits_of [] = []
bits_of (b ∷ bs) = bits 8 b ++ bits_of bs

-- a bit as a number
abbrev pub digit : Bool → ℕ
digit false = 0
digit true = 1

-- the number that has these bits, from the lowest
unfoldable pub number : List Bool → ℕ
number [] = 0
number (b ∷ s) = number s * 2 + digit b

-- the sum of two bits, which is also their difference
abbrev pub xor : Bool → Bool → Bool
xor false b = b
xor true false = true
xor true true = false

-- adds g to the first coefficients of s
unfoldable pub onto : List Bool → List Bool → List Bool
onto [] s = s
onto (c ∷ g) [] = []
onto (c ∷ g) (b ∷ s) = xor c b ∷ onto g s

-- n steps of the long division of s by the polynomial 1 ∷ g: where the leading coefficient is 1, the divisor is taken off
unfoldable pub divide : ℕ → List Bool → List Bool → List Bool
divide zero g s = s
divide (suc n) g [] = []
divide (suc n) g (false ∷ s) = divide n g s
divide (suc n) g (true ∷ s) = divide n g (onto g s)

-- the remainder of that division: as many coefficients as g has are left
unfoldable pub remainder : List Bool → List Bool → List Bool
remainder g s = divide (length s - length g) g s

-- the polynomial x^64 + .., less its leading 1: the catalogue's number, its highest bit first
unfoldable pub generator : List Bool
generator = reverse (bits 64 0x42f0_e1eb_a9ea_3693)

abbrev pub ones : List Bool
ones = replicate 64 true

abbrev pub zeros : List Bool
zeros = replicate 64 false

-- THE CHECKSUM of bytes: their bits times x^64, with all ones added before, divided; all ones added to the remainder, which is read reflected
unfoldable pub crc_of : List ℕ → ℕ
crc_of s = number (onto ones (remainder generator (onto ones (bits_of s ++ zeros))))
