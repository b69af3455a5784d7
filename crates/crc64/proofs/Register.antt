-- The shift register: the form of the CRC that the code and the laws use. A register is a number, its lowest bit the next to fall out;
-- p is the polynomial with its bits reflected, less its leading 1. Generic laws leave these shut, so that nothing closed is computed.
-- Assumes nothing.
use Prim.Native.Nat.{ℕ, zero, suc, ◌/◌, ◌%◌}
use mathlib.Core.Bool.{Bool, true, false}
use mathlib.Core.List.{List, [], ◌∷◌}
use lib.Bits.{bit_xor}
use lib.Dec.{eqb}
use Rattle.crc64.specs.Crc64.{digit}

-- the polynomial of the catalogue, reflected
abbrev pub poly : ℕ
poly = 0xc96c_5795_d787_0f42

-- p, if the bit is set
abbrev pub only : Bool → ℕ → ℕ
only true p = p
only false p = 0

-- one step of the register with a zero bit
unfoldable pub fall : ℕ → ℕ → ℕ
fall p x = bit_xor (x / 2) (only (eqb (x % 2) 1) p)

-- n steps
unfoldable pub falls : ℕ → ℕ → ℕ → ℕ
falls p zero x = x
falls p (suc n) x = falls p n (fall p x)

-- one step with a bit of the message
unfoldable pub feed : ℕ → ℕ → Bool → ℕ
feed p r b = fall p (bit_xor r (digit b))

-- all bits of a message
unfoldable pub run : ℕ → ℕ → List Bool → ℕ
run p r [] = r
run p r (b ∷ s) = run p (feed p r b) s
