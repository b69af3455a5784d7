-- `Survives` holds of every system with the laws of `Right`: an invariant that holds of the handle, the device and the state while the
-- power is on. By induction on the events. Assumes nothing.
use mathlib.Core.Path.{◌≡◌, refl, subst}
use mathlib.Core.Logic.{◌⊎◌, inl, inr, ⊎_elim}
use mathlib.Core.List.{List, [], ◌∷◌}
use Prim.Native.Nat.{ℕ}
use Rattle.device.specs.Device.{Device, still, seen, after, Left, Safe}
use Rattle.std.specs.Prelude.{Some}
use Rattle.crash.specs.System.{System, recover, Now, on, off, Event, answered, cut_in, cut, cut_reopening, reopened, Runs, Means, Shows, Survives}

pub record Right (S : System) : Type 1 where
  pub Live : S.Handle → Device → S.State → Type 0
  -- reads through a live handle show the state
  pub shows : {h : S.Handle} {d : Device} {s : S.State} → Live h d s → S.view h (seen d) ≡ s
  -- an operation, cut at any moment, leaves the state before or after it; answered, it leaves a live handle
  pub in_op : {h : S.Handle} {d : Device} {s : S.State} (o : S.Op) → Live h d s
      → Safe (λ m. (recover S m ≡ Some (S.idle s)) ⊎ (recover S m ≡ Some (S.idle (S.does o s)))) d (S.plan h o (seen d))
  pub op_done : {h : S.Handle} {d : Device} {s : S.State} (o : S.Op) → Live h d s
      → Live (S.next h o) (after d (S.plan h o (seen d))) (S.does o s)
  -- between two operations a cut loses nothing that outlives it
  pub between : {h : S.Handle} {d : Device} {s : S.State} (m : List ℕ) → Live h d s → Left d m → recover S m ≡ Some (S.idle s)
  -- opening, cut at any moment, leaves the same state; answered, it leaves a live handle
  pub in_opening : (m : List ℕ) (s : S.State) → recover S m ≡ Some s → Safe (λ m'. recover S m' ≡ Some s) (still m) (S.reopen m)
  pub open_done : (m : List ℕ) (s : S.State) (h : S.Handle) → recover S m ≡ Some s → S.opened m ≡ Some h
      → Live h (after (still m) (S.reopen m)) s

module _ (S : System) (R : Right S) where
  -- what the events start from: a live handle, or a medium on which recovery finds the state
  abbrev From : Now S → S.State → Type 0
  From (on h d) s = R.Live h d s
  From (off m) s = recover S m ≡ Some s

  from_shows : (x : Now S) (s : S.State) → From x s → Shows S x s
  from_shows (on h d) s f = R.shows f
  from_shows (off m) s f = f

  abbrev Ends : S.State → List (Event S) → Now S → Type 0
  Ends s es y = (t : S.State) × Means S s es t × From y t

  go : (es : List (Event S)) (x : Now S) (s : S.State) (y : Now S) → From x s → Runs S x es y → Ends s es y
  unfolding Runs Means Safe
  go [] x s y f r = (s, refl, subst (λ (z : Now S). From z s) r f)
  go (answered o ∷ es) (on h d) s y f r = go es (on (S.next h o) (after d (S.plan h o (seen d)))) (S.does o s) y (R.op_done o f) r
  go (answered o ∷ es) (off m) s y f r = absurd r
  go (cut_in o ∷ es) (on h d) s y f r =
      ⊎_elim
      (λ (e : recover S r.1 ≡ Some (S.idle s)). let g = go es (off r.1) (S.idle s) y e r.3 in (g.0, inl g.1, g.2))
      (λ (e : recover S r.1 ≡ Some (S.idle (S.does o s))).
      let g = go es (off r.1) (S.idle (S.does o s)) y e r.3 in
      (g.0, inr g.1, g.2))
      (R.in_op o f r.0 r.1 r.2)
  go (cut_in o ∷ es) (off m) s y f r = absurd r
  go (cut ∷ es) (on h d) s y f r = go es (off r.0) (S.idle s) y (R.between r.0 f r.1) r.2
  go (cut ∷ es) (off m) s y f r = absurd r
  go (cut_reopening ∷ es) (on h d) s y f r = absurd r
  go (cut_reopening ∷ es) (off m) s y f r = go es (off r.1) s y (R.in_opening m s f r.0 r.1 r.2) r.3
  go (reopened ∷ es) (on h d) s y f r = absurd r
  go (reopened ∷ es) (off m) s y f r = go es (on r.0 (after (still m) (S.reopen m))) s y (R.open_done m s r.0 f r.1) r.2

  pub survives : Survives S
  survives m s es y f r = let g = go es (off m) s y f r in (g.0, g.1, from_shows y g.0 g.2)

  -- a handle that events reach is live
  pub reaches : (m : List ℕ) (s : S.State) (es : List (Event S)) (h : S.Handle) (d : Device) → recover S m ≡ Some s
      → Runs S (off m) es (on h d) → (t : S.State) × Means S s es t × R.Live h d t
  reaches m s es h d f r = go es (off m) s (on h d) f r
