-- `blackboxlog::joined`: a handle comes back as it went, and a read leaves a part of the log. Assumes nothing.
use mathlib.Core.Path.{◌≡◌, refl, ap}
use mathlib.Core.Bool.{Bool, true, false}
use lib.Dec.{eqb}
use Rattle.record_log.specs.declared.Handle.{Handle}
use Rattle.operations.proofs.Reading.{read_part}
use Rattle.blackboxlog.specs.Replies.{side, known, handle_of, kept_of}
use Rattle.blackboxlog.proofs.joined.Goals as goal

side_back : (s : Bool) → eqb (side s) 1 ≡ s
side_back false = refl
side_back true = refl

side_known : (h : Handle) → known (kept_of h) ≡ true
side_known h = go h.second
  where
    go : (s : Bool) → known (kept_of (record { second = s; head = h.head; tail = h.tail; size = h.size })) ≡ true
    go false = refl
    go true = refl

back : (h : Handle) → handle_of (kept_of h) ≡ h
back h = ap (λ (s : Bool). record { second = s; head = h.head; tail = h.tail; size = h.size }) (side_back h.second)

pub returns : goal.returns
returns c = record { handle = λ h. (side_known h, back h); read = read_part }
