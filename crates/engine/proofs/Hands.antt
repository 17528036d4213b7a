-- The world once a host has taken a copy or an order, and what it sends is sent. Assumes nothing.
use mathlib.Core.Path.{◌≡◌, ap, ◌∙◌}
use mathlib.Core.List.{List}
use Prim.Native.Nat.{ℕ}
use lib.ListN.{set}
use Rattle.std.specs.Prelude.{Result}
use Rattle.clock.specs.declared.Tick.{Tick}
use Rattle.orders.specs.declared.Order.{Order}
use Rattle.host.specs.Answers.{Said, says}
use Rattle.host.specs.Start.{start_says, start_host}
use Rattle.host.specs.Receive.{receive_says, receive_host}
use Rattle.host.specs.declared.Refusal.{Refusal}
use Rattle.host.specs.declared.Sent.{Sent}
use Rattle.schedule.specs.declared.Schedule.{Schedule}
use Rattle.engine.specs.declared.Post.{Post}
use Rattle.engine.specs.declared.Station.{Station}
use Rattle.engine.specs.declared.World.{World}
use Rattle.engine.specs.Parts.{clock, order, start_of, link_of, receiver}
use Rattle.engine.specs.Run.{station, send, handed, hand, told, tell}
use Rattle.engine.specs.Inside.{world_of, with_host}

-- what the host answered, the station after it, and the post after what was sent
module _ (s : Schedule) (t : Tick) (w : World) (a : Result Sent Refusal) (b : Station) (post : Post) where
  pub handed_over : (c q : ℕ) → q ≡ receiver s.plan c
      → b ≡ with_host (station w q) (receive_host (station w q).host (clock s t q) (link_of c) 0 (order s (start_of c)))
      → says a ≡ receive_says (station w q).host (clock s t q).0 (link_of c) 0 (order s (start_of c))
      → post ≡ send s t (start_of c) q (says a).links w.post → world_of (set w.stations q b) post w.refusals ≡ hand s t c (receiver s.plan c) w
  handed_over c q eq eb ea ep =
      ap (λ (p : Post). world_of (set w.stations q b) p w.refusals) (ep ∙ ap (λ (y : Said). send s t (start_of c) q y.links w.post) ea)
      ∙ ap (λ (x : Station). world_of (set w.stations q x) (send s t (start_of c) q (handed s t c q w).links w.post) w.refusals) eb
      ∙ ap (λ (i : ℕ). hand s t c i w) eq

  pub told_to : (k p r : ℕ) (o : Order) → b ≡ with_host (station w p) (start_host (station w p).host (clock s t p) o)
      → says a ≡ start_says (station w p).host (clock s t p).0 o → r ≡ (says a).refusal
      → post ≡ send s t k p (says a).links w.post → world_of (set w.stations p b) post (set w.refusals k r) ≡ tell s t k p o w
  told_to k p r o eb ea er ep =
      ap (λ (x : Post). world_of (set w.stations p b) x (set w.refusals k r)) (ep ∙ ap (λ (y : Said). send s t k p y.links w.post) ea)
      ∙ ap (λ (x : Station). world_of (set w.stations p x) (send s t k p (told s t p o w).links w.post) (set w.refusals k r)) eb
      ∙ ap (λ (n : ℕ). world_of (set w.stations p (with_host (station w p) (start_host (station w p).host (clock s t p) o))) (send s t k p (told s t p o w).links w.post) (set w.refusals k n)) (er ∙ ap (λ (y : Said). y.refusal) ea)

-- a world is its parts
pub of_parts : (l k : List Station) (a b : Post) (r q : List ℕ) → l ≡ k → a ≡ b → r ≡ q → world_of l a r ≡ world_of k b q
of_parts l k a b r q el ea er = cc
