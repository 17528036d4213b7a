-- What flat memory stands for: a host's state, a board's, and back. Assumes nothing.
use Rattle.std.specs.Prelude.{Bool, cond, ◌&&◌, map, ℕ, leb, ltb, eqb}
use Rattle.orders.specs.declared.Order.{Order}
use Rattle.orders.specs.declared.Order.TheVariants.{Publish}
use Rattle.orders.specs.Orders.{kind_of, image_of, share_of, is_kind, is_share, share_fits, order_of}
use Rattle.host.specs.declared.Held.{Held}
use Rattle.host.specs.declared.Host.{Host}
use Rattle.board.specs.declared.Stand.{Stand}
use Rattle.board.specs.declared.Stand.TheVariants.{Absent, Offered, Halted}
use Rattle.board.specs.declared.Place.{Place}
use Rattle.board.specs.declared.Board.{Board}
use Rattle.message.specs.declared.Message.{Message}
use Rattle.service.specs.declared.HeldMemory.{HeldMemory}
use Rattle.service.specs.declared.HostMemory.{HostMemory}
use Rattle.service.specs.declared.PlaceMemory.{PlaceMemory}
use Rattle.service.specs.declared.BoardMemory.{BoardMemory}

-- ---- an order as three numbers

-- "share 1 (0 unless publish)": kind and share are some order's
abbrev pub formed : ℕ → ℕ → Bool
formed kind share = cond (eqb kind 1) (is_share share) (is_kind kind && eqb share 0)

abbrev pub zeros : ℕ → ℕ → ℕ → Bool
zeros kind image share = eqb kind 0 && eqb image 0 && eqb share 0

-- the order; zeros are the blank one, "unused places zero", and other numbers that are no order's a publish of share 255. The share of both is out of range
abbrev pub order_from : ℕ → ℕ → ℕ → Order
order_from kind image share = cond (formed kind share) (order_of kind image share) (Publish 0 (cond (zeros kind image share) 0 255))

-- a received copy
abbrev pub copy_from : ℕ → ℕ → ℕ → ℕ → ℕ → Held
copy_from stamp source kind image share = record { stamp = record { 0 = stamp }; source = source; order = order_from kind image share }

-- a message to write
abbrev pub message_from : ℕ → ℕ → ℕ → ℕ → ℕ → ℕ → Message
message_from stamp source hop kind image share = record { stamp = record { 0 = stamp }; source = source; hop = hop; order = order_from kind image share }

-- ---- a host

abbrev pub held_from : HeldMemory → Held
held_from e = record { stamp = e.stamp; source = e.source; order = order_from e.kind e.image e.share }

-- a host's number has one byte; hosts are 0..7, and 255 is none
abbrev pub own_from : ℕ → ℕ
own_from own = cond (ltb own 8) own 255

abbrev pub host_from : HostMemory → Host
host_from f =
    record {
      plan = f.plan;
      rules = f.rules;
      d = f.d;
      bound = f.bound;
      own = own_from f.own;
      last = f.last;
      started = f.started;
      starts = f.starts;
      held = f.held;
      history = map held_from f.history;
    }

-- an order that no host can hold has no kind
abbrev pub held_memory : Held → HeldMemory
held_memory x =
    cond (share_fits x.order)
    (record { stamp = x.stamp; image = image_of x.order; source = x.source; kind = kind_of x.order; share = share_of x.order })
    (record { stamp = x.stamp; image = 0; source = x.source; kind = 0; share = 0 })

abbrev pub host_memory : Host → HostMemory
host_memory h =
    record {
      bound = h.bound;
      last = h.last;
      own = h.own;
      started = h.started;
      held = h.held;
      starts = h.starts;
      history = map held_memory h.history;
      plan = h.plan;
      rules = h.rules;
      d = h.d;
    }

-- ---- a board

-- what stands so; numbers that are no stand's are an image offered to none, which no sound board has
abbrev pub stand_from : ℕ → ℕ → Stand
stand_from stand share =
    cond (eqb stand 0 && eqb share 0) Absent
    (cond (eqb stand 1 && leb share 100) (Offered share)
    (cond (eqb stand 2 && leb share 100) (Halted share) (Offered 0)))

abbrev pub place_from : PlaceMemory → Place
place_from p = record { image = p.image; stand = stand_from p.stand p.share }

abbrev pub board_from : BoardMemory → Board
board_from f = record { count = f.count; places = map place_from f.places }

abbrev pub stand_number : Stand → ℕ
stand_number Absent = 0
stand_number (Offered share) = 1
stand_number (Halted share) = 2

abbrev pub stand_share : Stand → ℕ
stand_share Absent = 0
stand_share (Offered share) = share
stand_share (Halted share) = share

abbrev pub place_memory : Place → PlaceMemory
place_memory p = record { image = p.image; stand = stand_number p.stand; share = stand_share p.stand }

abbrev pub board_memory : Board → BoardMemory
board_memory b = record { count = b.count; places = map place_memory b.places }
