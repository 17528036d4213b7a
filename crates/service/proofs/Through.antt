-- A service that goes through the door runs the host itself: what a call leaves in the memory of a sound state stands for what the host's own call
-- leaves. Assumes nothing.
use mathlib.Core.Path.{◌≡◌, refl, ap, subst}
use mathlib.Core.Bool.{Bool, true, false, cond}
use Prim.Native.Nat.{ℕ}
use lib.Dec.{eqb}
use Rattle.clock.specs.declared.Reading.{Reading}
use Rattle.host.specs.declared.Host.{Host}
use Rattle.host.specs.State.{sound, Sized}
use Rattle.host.specs.Calls.{Call, refusal, becomes, after}
use Rattle.host.proofs.Outcomes.{sound_is_kept}
use Rattle.service.specs.declared.HostMemory.{HostMemory}
use Rattle.service.specs.Memory.{host_from, host_memory}
use Rattle.service.specs.Calls.{call_left}
use Rattle.service.proofs.Back.{state_back}

pub through : (f : HostMemory) (u : Reading) (c : Call) → Sized (host_from f) → sound (host_from f) ≡ true → host_from (call_left f u c) ≡ after (host_from f) u c
through f u c z s = go (eqb k 0) refl
  where
    k : ℕ
    k = refusal (host_from f) u.0 c

    m : HostMemory
    m = host_memory (becomes (host_from f) u c)

    go : (b : Bool) → eqb k 0 ≡ b → host_from (cond b m f) ≡ cond b (becomes (host_from f) u c) (host_from f)
    go true zero = state_back (becomes (host_from f) u c) (subst (λ (g : Host). sound g ≡ true) (ap (λ (b : Bool). cond b (becomes (host_from f) u c) (host_from f)) zero) (sound_is_kept (host_from f) u c z s))
    go false zero = refl
