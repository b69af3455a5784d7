-- What the checksum's division leaves of a number alone: its n lowest bits, in the order in which the CRC takes them, times x^64.
-- `leaves 64` is the interface, and takes a register past a word; the shorter ones are for the tables. Assumes nothing.
use Rattle.std.specs.Prelude.{ℕ, ◌++◌}
use Rattle.crc64.specs.Crc64.{bits, number, remainder, generator, zeros}

unfoldable pub leaves : ℕ → ℕ → ℕ
leaves n x = number (remainder generator (bits n x ++ zeros))
