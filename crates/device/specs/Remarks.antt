-- Remarks on `Left`, so that nobody need take its general form on faith; the function `remarks` of this crate proves them.
-- Assumes nothing.
use Rattle.std.specs.Prelude.{ℕ, ◌/◌, ◌≡◌, ◌⊎◌, ◌↔◌, length, get_or}
use mathlib.Core.List.{List, [], ◌∷◌, Memᴰ}
use Rattle.device.specs.Device.{Write, write, Step, put, flush, Device, still, seen, step, after, upto, Left}

-- with one write under way, each aligned piece of eight bytes is old or new
pub record Torn (m : List ℕ) (w : Write) (m' : List ℕ) : Type 0 where
  pub long : length m' ≡ length m
  pub piece : (p : ℕ) →
      ((k : ℕ) → k / 8 ≡ p → get_or m' k 0 ≡ get_or m k 0) ⊎ ((k : ℕ) → k / 8 ≡ p → get_or m' k 0 ≡ get_or (write m w) k 0)

-- document 01's kind model: one write after the other, a flush after each
unfoldable pub one_by_one : List Write → List Step
one_by_one [] = []
one_by_one (w ∷ ws) = put w ∷ flush ∷ one_by_one ws

-- "when the power goes during a write, each piece of it is old or new, any mixture; all earlier writes are there; later ones never happened"
unfoldable pub Kind : List ℕ → List Write → List ℕ → Type 0
Kind m [] m' = m' ≡ m
Kind m (w ∷ ws) m' = Torn m w m' ⊎ Kind (write m w) ws m'

pub record Remarks : Type 0 where
  -- with nothing pending a cut changes nothing
  pub nothing_pending : (m m' : List ℕ) → Left (still m) m' ↔ (m' ≡ m)
  -- one write under way: any mixture of old and new pieces, and nothing else
  pub one_write : (m : List ℕ) (w : Write) (m' : List ℕ) → Left (step (still m) (put w)) m' ↔ Torn m w m'
  -- the kind model is the case with a flush after every write
  pub kind : (m : List ℕ) (ws : List Write) (m' : List ℕ) → ((n : ℕ) × Left (upto n (still m) (one_by_one ws)) m') ↔ Kind m ws m'
  -- in general: it may be that nothing arrived
  pub nothing_arrived : (d : Device) → Left d d.kept
  -- or everything
  pub all_arrived : (d : Device) → Left d (seen d)
  -- any one piece of any pending write may arrive next
  pub piece_arrives : (d : Device) (m : List ℕ) (w : Write) (p : ℕ) (m' : List ℕ) → Left d m → Memᴰ w d.pending → length m' ≡ length m
      → ((k : ℕ) → k / 8 ≡ p → get_or m' k 0 ≡ get_or (write m w) k 0) → ((k : ℕ) → (k / 8 ≡ p → ⊥) → get_or m' k 0 ≡ get_or m k 0) → Left d m'
  -- what could be left before a write can be left after it
  pub write_takes_nothing : (d : Device) (m : List ℕ) (w : Write) → Left d m → Left (step d (put w)) m
  -- a flush more, wherever it is, leaves nothing new: so what holds of a plan's cuts holds too with a flush after every write
  pub more_flushes : (d : Device) (ps : List Step) (m : List ℕ) → Left (after (step d flush) ps) m → Left (after d ps) m
