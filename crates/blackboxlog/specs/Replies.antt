-- The answers of the operations as the boundary hands them over: codes and numbers. Assumes nothing.
use Rattle.std.specs.Prelude.{ℕ, ◌+◌, ◌-◌, ◌≤◌, ◌≡◌, Bool, true, false, cond, List, eqb, leb, length, take, drop, Option, Some, None, Result, Ok, Err, ⊤}
use Rattle.carrier.specs.declared.Done.{Done}
use Rattle.record_log.specs.Opening.{view, possible}
use Rattle.record_log.specs.Operations.{read_into}
use Rattle.record_log.specs.declared.Handle.{Handle}
use Rattle.record_log.specs.declared.OpenError.{OpenError}
use Rattle.record_log.specs.declared.SetUp.{SetUp}
use Rattle.record_log.specs.declared.Appended.{Appended}
use Rattle.record_log.specs.declared.Refused.{Refused}
use Rattle.record_log.specs.declared.Numbers.{Numbers}
use Rattle.blackboxlog.specs.declared.Kept.{Kept}
use Rattle.blackboxlog.specs.declared.Reply.{Reply}
use Rattle.blackboxlog.specs.declared.Stepped.{Stepped}

-- a handle across the boundary: the first header is 0, the second 1, and nothing else is known
abbrev pub side : Bool → ℕ
side false = 0
side true = 1

-- the handle of these four numbers: the live header, head, tail and size
abbrev pub kept : ℕ → ℕ → ℕ → ℕ → Kept
kept l h t z = record { live = l; head = h; tail = t; size = z }

abbrev pub known : Kept → Bool
known k = leb k.live 1

abbrev pub handle_of : Kept → Handle
handle_of k = record { second = eqb k.live 1; head = k.head; tail = k.tail; size = k.size }

abbrev pub kept_of : Handle → Kept
kept_of h = record { live = side h.second; head = h.head; tail = h.tail; size = h.size }

abbrev pub no_handle : Kept
no_handle = kept 0 0 0 0

-- a code, two numbers, and no handle
abbrev pub said : ℕ → ℕ → ℕ → Reply
said c a b = record { code = c; number = a; other = b; steps = 0; handle = no_handle }

-- it went well: a number, the steps of the plan, and the handle once they are carried out
abbrev pub done : ℕ → ℕ → Handle → Reply
done a n h = record { code = 0; number = a; other = 0; steps = n; handle = kept_of h }

-- a refusal: its code and its number; nothing was planned
abbrev pub refused_reply : Refused → Reply
refused_reply (Refused.TooShort r) = said 1 r 0
refused_reply (Refused.ShortPlan w) = said 12 w 0
refused_reply Refused.BadHandle = said 11 0 0
refused_reply (Refused.NoRoom r) = said 8 r 0
refused_reply (Refused.BeforeHead h) = said 9 h 0
refused_reply (Refused.BeyondTail t) = said 10 t 0

abbrev pub bad_handle : Reply
bad_handle = refused_reply Refused.BadHandle

abbrev pub if_known : {A : Type 0} → Kept → A → A → A
if_known k a b = cond (known k) a b

-- a handle that comes back: the log's, or refused
abbrev pub known_handle : Kept → Result Handle Refused
known_handle k = if_known k (Ok (handle_of k)) (Err Refused.BadHandle)

-- what is wrong with a medium: which header in the place of the handle, and the size of a log that is too full
abbrev pub damaged_reply : OpenError → Reply
damaged_reply (OpenError.TooShort n) = said 1 n 0
damaged_reply (OpenError.BadSelector w) = said 2 w 0
damaged_reply (OpenError.BadChecksum s a b) =
    record { code = 3; number = a; other = b; steps = 0; handle = record { live = side s; head = 0; tail = 0; size = 0 } }
damaged_reply OpenError.SizeZero = said 4 0 0
damaged_reply (OpenError.HeadPastTail h t) = said 5 h t
damaged_reply (OpenError.TooFull h t z) =
    record { code = 6; number = h; other = t; steps = 0; handle = record { live = 0; head = 0; tail = 0; size = z } }
damaged_reply (OpenError.WrongSize z r) = said 7 z r

abbrev pub opened_reply : Result Handle OpenError → Reply
opened_reply (Ok h) = done 0 0 h
opened_reply (Err e) = damaged_reply e

-- of planning: so many steps, none where it refuses
abbrev pub set_up_reply : Result SetUp Refused → ℕ → Reply
set_up_reply (Ok s) n = done s.capacity n s.handle
set_up_reply (Err e) n = refused_reply e

abbrev pub appended_reply : Result Appended Refused → ℕ → Reply
appended_reply (Ok a) n = done a.position n a.handle
appended_reply (Err e) n = refused_reply e

abbrev pub advanced_reply : Result Handle Refused → ℕ → Reply
advanced_reply (Ok h) n = done 0 n h
advanced_reply (Err e) n = refused_reply e

abbrev pub got_reply : Result ⊤ Refused → Reply
got_reply (Ok x) = said 0 0 0
got_reply (Err e) = refused_reply e

-- the capacity; head and tail in their places
abbrev pub numbers_reply : Result Numbers Refused → Reply
numbers_reply (Ok n) =
    record { code = 0; number = n.capacity; other = 0; steps = 0; handle = record { live = 0; head = n.head; tail = n.tail; size = 0 } }
numbers_reply (Err e) = refused_reply e

abbrev pub step_reply : Option Done → Stepped
step_reply (Some (Done.Put a n)) = record { code = 0; at = a; length = n }
step_reply (Some Done.Flush) = record { code = 1; at = 0; length = 0 }
step_reply None = record { code = 2; at = 0; length = 0 }

-- of a put: how many bytes were put
abbrev pub bytes_put : Option Done → ℕ
bytes_put (Some (Done.Put a n)) = n
bytes_put (Some Done.Flush) = 0
bytes_put None = 0

-- WHAT JOINS the contracts of the boundary to the log: a handle that was answered means the same when it is handed back; and what a read
-- that is not refused leaves in its buffer is that part of the log's bytes
pub record Boundary : Type 0 where
  pub handle : (h : Handle) → (known (kept_of h) ≡ true) × (handle_of (kept_of h) ≡ h)
  pub read : (m out : List ℕ) (h : Handle) (p : ℕ) → possible h (length m) ≡ true → h.head ≤ p → p + length out ≤ h.tail
      → read_into m h p out ≡ take (length out) (drop (p - h.head) (view h m).bytes)
