-- What a system on a medium is, what can happen to it, and the statement that it survives: `Survives`.
-- For: the one log, and every system after it. Nothing here knows of logs. A program that ends between two steps while the power stays,
-- and starts again, flushes before it opens: that is a cut at which everything arrived (`all_arrived` of the device's remarks), so what is
-- said of cuts holds of it. Assumes nothing.
use Rattle.std.specs.Prelude.{ℕ, ◌≡◌, ◌⊎◌, List, [], ◌∷◌, Option, Some, option_map}
use Rattle.device.specs.Device.{Step, Device, still, seen, after, upto, Left}

pub record System : Type 1 where
  -- what it means: a state; what an operation makes of it (the same, where it is refused); what of a state outlives a cut
  pub State : Type 0
  pub Op : Type 0
  pub does : Op → State → State
  pub idle : State → State
  -- how it is done, as the code does it: a handle; what opening answers, and the steps that it takes first;
  -- an operation's plan on the medium that it sees, and the handle afterwards
  pub Handle : Type 0
  pub opened : List ℕ → Option Handle
  pub reopen : List ℕ → List Step
  pub plan : Handle → Op → List ℕ → List Step
  pub next : Handle → Op → Handle
  -- the state that reads through a handle show
  pub view : Handle → List ℕ → State

module _ (S : System) where
  -- RECOVERY: the state that opening, if it is not cut, shows
  unfoldable pub recover : List ℕ → Option S.State
  recover m = option_map (λ h. S.view h (seen (after (still m) (S.reopen m)))) (S.opened m)

  -- the power is on, a handle and the device; or off, and the medium
  pub data Now : Type 0 where
    on : S.Handle → Device → Now
    off : List ℕ → Now

  -- what can happen
  pub data Event : Type 0 where
    answered : S.Op → Event  -- an operation is carried out and answered
    cut_in : S.Op → Event  -- the power goes during an operation
    cut : Event  -- the power goes between two operations
    cut_reopening : Event  -- the power goes while the system is opened again
    reopened : Event  -- opening is answered

  -- WHAT CAN HAPPEN: x, through these events, can become y
  unfoldable pub Runs : Now → List Event → Now → Type 0
  Runs x [] y = x ≡ y
  Runs (on h d) (answered o ∷ es) y = Runs (on (S.next h o) (after d (S.plan h o (seen d)))) es y
  Runs (on h d) (cut_in o ∷ es) y = (n : ℕ) × (m : List ℕ) × Left (upto n d (S.plan h o (seen d))) m × Runs (off m) es y
  Runs (on h d) (cut ∷ es) y = (m : List ℕ) × Left d m × Runs (off m) es y
  Runs (on h d) (cut_reopening ∷ es) y = ⊥
  Runs (on h d) (reopened ∷ es) y = ⊥
  Runs (off m) (answered o ∷ es) y = ⊥
  Runs (off m) (cut_in o ∷ es) y = ⊥
  Runs (off m) (cut ∷ es) y = ⊥
  Runs (off m) (cut_reopening ∷ es) y = (n : ℕ) × (m' : List ℕ) × Left (upto n (still m) (S.reopen m)) m' × Runs (off m') es y
  Runs (off m) (reopened ∷ es) y = (h : S.Handle) × (S.opened m ≡ Some h) × Runs (on h (after (still m) (S.reopen m))) es y

  -- WHAT IT MEANS: t is what these events may make of the state s. Answered operations count; one that was cut counts or does not; a cut
  -- between two loses nothing that outlives it; opening changes nothing.
  unfoldable pub Means : S.State → List Event → S.State → Type 0
  Means s [] t = s ≡ t
  Means s (answered o ∷ es) t = Means (S.does o s) es t
  Means s (cut_in o ∷ es) t = Means (S.idle s) es t ⊎ Means (S.idle (S.does o s)) es t
  Means s (cut ∷ es) t = Means (S.idle s) es t
  Means s (cut_reopening ∷ es) t = Means s es t
  Means s (reopened ∷ es) t = Means s es t

  -- what can be seen: by reads through the handle, or by recovery
  abbrev pub Shows : Now → S.State → Type 0
  Shows (on h d) t = S.view h (seen d) ≡ t
  Shows (off m) t = recover m ≡ Some t

  -- THE STATEMENT: from a medium on which recovery finds a state, whatever happens ends in what it means
  abbrev pub Survives : Type 0
  Survives =
      (m : List ℕ) (s : S.State) (es : List Event) (y : Now) → recover m ≡ Some s → Runs (off m) es y
      → (t : S.State) × Means s es t × Shows y t
