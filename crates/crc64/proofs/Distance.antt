-- The distance of two lists of bits: of lists that are joined it is the sum, it counts the ones of the difference, and lists at the distance 0
-- are equal. Each goes by induction on the lists. Assumes nothing.
use mathlib.Core.Path.{◌≡◌, refl, sym, ap, ◌∙◌}
use mathlib.Core.Bool.{Bool, true, false}
use mathlib.Core.List.{List, [], ◌∷◌, ◌++◌}
use Prim.Native.Nat.{ℕ, ◌+◌}
use native.Mathlib.Nat.{zero-add, add_assoc, suc_inj}
use native.Mathlib.Omega.{arith}
use lib.ListN.{length}
use Rattle.crc64.specs.Crc64.{digit, xor, onto}
use Rattle.crc64.specs.Damage.{distance}
use Rattle.crc64.proofs.Places.{count}

pub distance_append : (a b s t : List Bool) → length a ≡ length s → distance (a ++ b) (s ++ t) ≡ distance a s + distance b t
unfolding distance
distance_append [] b [] t l = sym (zero-add (distance b t))
distance_append [] b (x ∷ s) t l = absurd (omega arith)
distance_append (x ∷ a) b [] t l = absurd (omega arith)
distance_append (x ∷ a) b (y ∷ s) t l =
    ap (λ (n : ℕ). digit (xor x y) + n) (distance_append a b s t (suc_inj l))
    ∙ sym (add_assoc (digit (xor x y)) (distance a s) (distance b t))

pub distance_count : (s t : List Bool) → length s ≡ length t → distance s t ≡ count (onto s t)
unfolding distance count onto
distance_count [] [] l = refl
distance_count [] (b ∷ t) l = absurd (omega arith)
distance_count (a ∷ s) [] l = absurd (omega arith)
distance_count (false ∷ s) (false ∷ t) l = zero-add (distance s t) ∙ distance_count s t (suc_inj l)
distance_count (false ∷ s) (true ∷ t) l = omega (arith, distance_count s t (suc_inj l))
distance_count (true ∷ s) (false ∷ t) l = omega (arith, distance_count s t (suc_inj l))
distance_count (true ∷ s) (true ∷ t) l = zero-add (distance s t) ∙ distance_count s t (suc_inj l)

pub distance_same : (s t : List Bool) → length s ≡ length t → distance s t ≡ 0 → s ≡ t
unfolding distance
distance_same [] [] l e = refl
distance_same [] (b ∷ t) l e = absurd (omega arith)
distance_same (a ∷ s) [] l e = absurd (omega arith)
distance_same (false ∷ s) (false ∷ t) l e = ap (λ (r : List Bool). false ∷ r) (distance_same s t (suc_inj l) (omega arith))
distance_same (false ∷ s) (true ∷ t) l e = absurd (omega arith)
distance_same (true ∷ s) (false ∷ t) l e = absurd (omega arith)
distance_same (true ∷ s) (true ∷ t) l e = ap (λ (r : List Bool). true ∷ r) (distance_same s t (suc_inj l) (omega arith))
