-- The eleven rows and cases that 01 marks (P), and the one statement that each holds of its definition. Assumes nothing.
use Rattle.std.specs.Prelude.{◌≡◌, refl, List, [], ◌∷◌, ℕ}
use Rattle.std.specs.Int.Count.{ones}
use Rattle.lists.specs.Tests.{all_of, any_of}
use Rattle.lists.specs.Searches.{some, largest, least}
use Rattle.lists.specs.Bytes.{be, val_at}
use Rattle.lists.specs.Members.{All}
use Rattle.orders.specs.declared.Order.TheVariants.{Halt}
use Rattle.orders.specs.Orders.{order_bytes}
use Rattle.network.specs.declared.Link.{Link}
use Rattle.network.specs.declared.Plan.{Plan}
use Rattle.network.specs.Network.{Said, planned, in_range, same, bad_link, bad_links, has, survives, via, within, distance, farthest, diameter, worst_links, worst, bound, plan_tests}
use Rattle.fields.specs.Fields.{field}
use Rattle.fields.specs.Faults.{first}
use Rattle.message.specs.declared.Message.{Message}
use Rattle.message.specs.Layout.{layout}
use Rattle.message.specs.Calls.{read_of}
use Rattle.host.specs.declared.Held.{Held}
use Rattle.host.specs.State.{frame_tests, history_tests}
use Rattle.host.specs.Make.{fresh}
use Rattle.host.specs.Receive.{receive_tests, receive_refusal}

pub data Case : Type 0 where
  -- a row of the planning table: the plan, and what planning says
  planning : Plan → List ℕ → Case
  -- a case of receive: the rule set, the hop, the reading and the refusal
  receiving : ℕ → ℕ → ℕ → ℕ → Case
  -- a message: the rule set, its parts and its bytes
  message : ℕ → Message → List ℕ → Case

-- ---- "With δ = 10, ε = 3"

abbrev pair : ℕ → ℕ → Link
pair a b = record { a = a; b = b }

-- an unused place
abbrev none : Link
none = pair 0 0

abbrev pub two_hosts : ℕ → ℕ → Plan
two_hosts π L =
    record {
      hosts = 2;
      faulty_hosts = π;
      link_count = 1;
      faulty_links = L;
      delay = 10;
      skew = 3;
      links = pair 0 1 ∷ none ∷ none ∷ none ∷ none ∷ none ∷ none ∷ none ∷ none ∷ none ∷ none ∷ none ∷ [];
    }

abbrev pub triangle : ℕ → ℕ → Plan
triangle π L =
    record {
      hosts = 3;
      faulty_hosts = π;
      link_count = 3;
      faulty_links = L;
      delay = 10;
      skew = 3;
      links = pair 0 1 ∷ pair 0 2 ∷ pair 1 2 ∷ none ∷ none ∷ none ∷ none ∷ none ∷ none ∷ none ∷ none ∷ none ∷ [];
    }

-- what planning says, as the table has it: the refusal, d, and Δ of the first and the second rules
abbrev pub shown : Said → List ℕ
shown s = s.refusal ∷ s.bounds.d ∷ s.bounds.first.bound ∷ s.bounds.second.bound ∷ []

abbrev pub refusal : ℕ → List ℕ
refusal r = r ∷ 0 ∷ 0 ∷ 0 ∷ []

abbrev pub found : ℕ → ℕ → ℕ → List ℕ
found d first second = 0 ∷ d ∷ first ∷ second ∷ []

-- ---- "Triangle, π = 1, second rules, T = 100": an order of host 0, got over link 0 by a fresh host 1

abbrev pub copy : Held
copy = record { stamp = record { 0 = 100 }; source = 0; order = Halt 7 }

abbrev pub received : ℕ → ℕ → ℕ → ℕ
received rules hop u = receive_refusal (fresh (triangle 1 0) rules 1) u 0 hop copy

-- ---- "Halt of image 7, stamp 100, source 0, first rules"

abbrev pub halt_7 : Message
halt_7 = record { stamp = record { 0 = 100 }; source = 0; hop = 0; order = Halt 7 }

abbrev pub halt_7_bytes : List ℕ
halt_7_bytes =
    0x01 ∷ 0x00 ∷ 0x08 ∷ 0x00 ∷ 0x00 ∷ 0x00 ∷ 0x00 ∷ 0x00 ∷ 0x00 ∷ 0x00 ∷ 0x64 ∷ 0x02 ∷ 0x00 ∷ 0x01 ∷ 0x00 ∷ 0x04 ∷ 0x00 ∷ 0x05 ∷ 0x02 ∷ 0x00 ∷ 0x00 ∷ 0x00 ∷ 0x07 ∷ []

-- ---- the statement

-- the definitions give what 01 states of the case; a message's bytes are also read as that message
abbrev pub Holds : Case → Type 0
Holds (planning p said) = shown (planned p) ≡ said
Holds (receiving rules hop u refused) = received rules hop u ≡ refused
Holds (message rules m bytes) = (layout rules m ≡ bytes) × (((read_of rules bytes).0 ≡ 0) × ((read_of rules bytes).1.message ≡ m))

abbrev pub cases : List Case
cases =
    planning (two_hosts 0 0) (found 1 13 13)
    ∷ planning (two_hosts 0 1) (refusal 3)
    ∷ planning (triangle 1 0) (found 1 23 26)
    ∷ planning (triangle 0 1) (found 2 23 23)
    ∷ planning (triangle 1 1) (refusal 3)
    ∷ receiving 2 1 97 16
    ∷ receiving 2 1 113 17
    ∷ receiving 2 2 126 17
    ∷ receiving 2 3 126 18
    ∷ receiving 1 0 123 18
    ∷ message 1 halt_7 halt_7_bytes
    ∷ []

pub all_hold : All Holds cases
unfolding all_of any_of some largest least has in_range same bad_link bad_links survives via within distance farthest diameter worst_links worst bound plan_tests ones frame_tests history_tests receive_tests layout field be val_at order_bytes first
all_hold = (refl, (refl, (refl, (refl, (refl, (refl, (refl, (refl, (refl, (refl, ((refl, (refl, refl)), tt)))))))))))
