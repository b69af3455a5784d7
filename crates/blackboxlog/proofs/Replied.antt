-- A handle that comes back across the boundary is the log's, or not known; and a refusal has no steps. Assumes nothing.
use mathlib.Core.Path.{◌≡◌, refl}
use mathlib.Core.Bool.{true, false}
use Rattle.std.specs.Prelude.{Ok, Err}
use Rattle.record_log.specs.declared.Handle.{Handle}
use Rattle.record_log.specs.declared.Refused.{Refused}
use Rattle.operations.proofs.Checks.{passed, failed}
use Rattle.blackboxlog.specs.Replies.{known, handle_of, known_handle, refused_reply}
use Rattle.blackboxlog.specs.declared.Kept.{Kept}

pub unknown : (k : Kept) (e : Refused) → Err e ≡ known_handle k → known k ≡ false
unknown k e q = (failed (handle_of k) (known k) q).0

pub is_known : (k : Kept) (h : Handle) → Ok h ≡ known_handle k → (known k ≡ true) × (h ≡ handle_of k)
is_known k h q = passed (handle_of k) Refused.BadHandle (known k) q

-- a refusal plans no step
pub no_steps : (e : Refused) → (refused_reply e).steps ≡ 0
no_steps (Refused.TooShort r) = refl
no_steps (Refused.ShortPlan w) = refl
no_steps Refused.BadHandle = refl
no_steps (Refused.NoRoom r) = refl
no_steps (Refused.BeforeHead h) = refl
no_steps (Refused.BeyondTail t) = refl
