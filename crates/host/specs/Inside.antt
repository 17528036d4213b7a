-- Notions that only the walks over a history cite. Assumes nothing.
use Rattle.std.specs.Prelude.{Bool, cond, ◌&&◌, ◌||◌, List, ℕ, ◌+◌, ◌-◌, leb, ltb, eqb}
use Rattle.host.specs.declared.Frame.{Frame}
use Rattle.host.specs.declared.Held.{Held}
use Rattle.host.specs.declared.Host.{Host}
use Rattle.host.specs.State.{bare, with}

-- the state of a frame with this history
abbrev pub stored : Frame → List Held → Host
stored f history = with (bare f) f.last f.starts f.started history f.held

-- one past the stamp of the last order of the host's own, 0 where there is none: at this order, from what it was before it
abbrev pub past_own : ℕ → Held → ℕ → ℕ
past_own own e end = cond (eqb e.source own) (e.stamp.0 + 1) end

-- that last order was started
abbrev pub end_started : ℕ → ℕ → ℕ → Bool
end_started started newest end = eqb end 0 || ltb 0 started && leb (end - 1) newest
