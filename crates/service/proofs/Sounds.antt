-- What the frame of a sound memory tells, where it was asked for. Assumes nothing.
use mathlib.Core.Path.{◌≡◌, refl, sym, ap, ◌∙◌}
use mathlib.Core.Bool.{Bool, true, false, cond}
use mathlib.Core.List.{map}
use Rattle.std.specs.Prelude.{Result, Ok, Err}
use Rattle.host.specs.declared.Frame.{Frame}
use Rattle.host.specs.declared.Host.{Host}
use Rattle.host.specs.declared.Refusal.{Refusal}
use Rattle.host.specs.declared.Refusal.TheVariants.{Unsound}
use Rattle.host.specs.State.{sound, frame_of}
use Rattle.host.specs.Inside.{stored}
use Rattle.service.specs.declared.HostMemory.{HostMemory}
use Rattle.service.specs.Memory.{held_from, host_from}

module _ (h : Host) {a : Result Frame Refusal} (is : a ≡ cond (sound h) (Ok (frame_of h)) (Err Unsound)) where
  pub framed_is : {g : Frame} → a ≡ Ok g → (sound h ≡ true) × (g ≡ frame_of h)
  framed_is {g} e = go (sound h) (sym e ∙ is)
    where
      go : (b : Bool) → Ok g ≡ cond {A = Result Frame Refusal} b (Ok (frame_of h)) (Err Unsound) → (b ≡ true) × (g ≡ frame_of h)
      go true f = (refl, cc f)
      go false f = cc f

  pub unframed_is : {r : Refusal} → a ≡ Err r → (sound h ≡ false) × (r ≡ Unsound)
  unframed_is {r} e = go (sound h) (sym e ∙ is)
    where
      go : (b : Bool) → Err r ≡ cond {A = Result Frame Refusal} b (Ok (frame_of h)) (Err Unsound) → (b ≡ false) × (r ≡ Unsound)
      go true f = cc f
      go false f = (refl, cc f)

-- a memory is tested by its frame, g, and its history; b is what the test found
pub memory_sound : (f : HostMemory) (g : Frame) {b : Bool} → g ≡ frame_of (host_from f) → b ≡ sound (stored g (map held_from f.history)) → sound (host_from f) ≡ b
memory_sound f g e t = sym (t ∙ ap (λ (k : Frame). sound (stored k (map held_from f.history))) e)
