-- The statement Apart: the two words differ in 25 bits, which is computed. Assumes nothing.
use mathlib.Core.Path.{◌≡◌, refl, ap}
use Prim.Native.Nat.{ℕ, ◌≤◌, ◌<◌}
use native.Mathlib.Omega.{arith}
use lib.Dec.{lit<}
use Rattle.crc64.specs.Crc64.{bits}
use Rattle.crc64.specs.Damage.{distance, first, second, Apart}

there : distance (bits 64 first) (bits 64 second) ≡ 25
unfolding distance bits
there = refl

back : distance (bits 64 second) (bits 64 first) ≡ 25
unfolding distance bits
back = refl

far : (a b w n : ℕ) → distance (bits 64 a) (bits 64 b) ≡ 25 → n < 25 → distance (bits 64 a) (bits 64 w) ≤ n → w ≡ b → ⊥
far a b w n d k h e = omega (arith, ap (λ (x : ℕ). distance (bits 64 a) (bits 64 x)) e, d)

pub apart : Apart
apart = (there, λ w. far first second w _ there (lit< tt), λ w. far second first w _ back (lit< tt))
