-- Runs of hosts that differ from ours in one thing, or were planned for another network than the one they run on: in each two faultless hosts part,
-- or a claim fails. So what differs in each is not idle. Assumes nothing.
use Rattle.std.specs.Prelude.{◌≡◌, cond, List, [], ◌∷◌, ℕ, ◌+◌, ◌≤◌, eqb}
use Rattle.lists.specs.Lists.{listed}
use Rattle.orders.specs.declared.Order.TheVariants.{Publish, Halt, Resume, Withdraw}
use Rattle.network.specs.Network.{Survivor}
use Rattle.network.specs.declared.Plan.{Plan}
use Rattle.host.specs.declared.Host.{Host}
use Rattle.host.specs.Make.{fresh}
use Rattle.board.specs.Board.{holding}
use Rattle.board.specs.declared.Stand.TheVariants.{Offered}
use Rattle.board.specs.declared.Board.{Board}
use Rattle.diffusion.specs.Hosts as hosts
use Rattle.diffusion.specs.Hosts.{Carried, Call, Answer}
use Rattle.diffusion.specs.Run.{Story, reading, log, up_to, Premises}
use Rattle.diffusion.specs.Ours.{called, hosts_of, ours}
use Rattle.diffusion.specs.Example.{calls_of, story, faulty, told, begun, handed, two_hosts, complete, triangle, case_plan}
use Rattle.diffusion.specs.Variants.{takes_late, starts_other, sends_other, idle, whole_d, unlent}

-- ---- a run in which two faultless hosts part

-- the network that the run keeps the premises of, the hosts' first states and calls, the run, two hosts, and a reading
pub record Witness : Type 0 where
  pub network : Plan
  pub first : ℕ → Host
  pub call : ℕ → Host → Call → Answer Host
  pub run : Story
  pub one : ℕ
  pub other : ℕ
  pub until : ℕ

-- what host p has delivered up to that reading
abbrev pub sequence : Witness → ℕ → List (ℕ × Carried)
sequence w p = up_to (hosts_of w.first w.call) w.run w.until (log (hosts_of w.first w.call) w.run p w.run.end)

pub record Parts (w : Witness) : Type 0 where
  pub premises : Premises w.network (hosts_of w.first w.call) w.run
  pub faultless : Survivor w.network w.run.faults w.one
  pub other_faultless : Survivor w.network w.run.faults w.other
  pub reached : w.until ≤ reading w.run w.one w.run.end
  pub other_reached : w.until ≤ reading w.run w.other w.run.end
  pub part : sequence w w.one ≡ sequence w w.other → ⊥

-- ---- the witnesses

abbrev pub soon : Carried
soon = begun 0 (Halt 7)

-- a late copy: "a totally connected network of four processors s (sender), f (faulty), e (early, correct), and l (late, correct)" (004, 5.2), which
-- are 0, 1, 2 and 3; e's clock is 2 in advance, planned δ is 1, and f's copies take 4
abbrev pub late_copy : Witness
late_copy =
    record {
      network = complete 2 4;
      first = fresh (complete 2 1) 1;
      call = called;
      run = story (0 ∷ 0 ∷ 2 ∷ 0 ∷ []) 8 (faulty 3 0) (told 0 0 (Halt 7) ∷ handed 1 1 0 soon ∷ handed 2 5 3 soon ∷ handed 3 5 4 soon ∷ handed 2 6 5 soon ∷ []);
      one = 3;
      other = 2;
      until = 6;
    }

-- accepting at T + Δ: hosts 2 and 3 relay to each other what they are about to deliver, and deliver it twice
abbrev pub twice : Witness
twice =
    record {
      network = complete 1 1;
      first = fresh (complete 1 1) 1;
      call = takes_late;
      run =
          story (0 ∷ 0 ∷ 2 ∷ 2 ∷ []) 6 (faulty 1 0) (
          told 0 0 (Halt 7) ∷ handed 1 1 0 soon ∷ handed 2 2 3 soon ∷ handed 3 2 4 soon ∷ handed 2 3 5 soon ∷ handed 3 3 5 soon
          ∷ handed 1 4 3 soon ∷ handed 1 4 4 soon ∷ []);
      one = 2;
      other = 1;
      until = 6;
    }

-- 01's own case, with the start at tick T: host 2, whose clock is ahead, is handed the copy two delays later, just in time under a right plan
abbrev tight : (ℕ → Host) → Plan → ℕ → ℕ → ℕ → ℕ → Witness
tight first network δ T ahead end =
    record {
      network = network;
      first = first;
      call = called;
      run =
          story (0 ∷ 0 ∷ ahead ∷ []) end (faulty 1 0) (
          told 0 T (Halt 7) ∷ handed 1 (T + δ) 0 (begun T (Halt 7)) ∷ handed 2 (T + δ + δ) 2 (begun T (Halt 7)) ∷ []);
      one = 1;
      other = 2;
      until = T + δ + δ + 3;
    }

-- Δ less by 1, since the hosts are planned for ε less by 1
abbrev pub short_bound : Witness
short_bound = tight (fresh (triangle 1 0 10 2) 1) case_plan 10 5 2 28

-- clocks ε apart
abbrev pub skewed : Witness
skewed = tight (fresh (triangle 1 0 1 3) 1) (triangle 1 0 1 4) 1 0 3 5

-- one host more faulty than planned
abbrev pub unplanned : Witness
unplanned = tight (fresh (triangle 0 0 1 3) 1) (triangle 1 0 1 3) 1 0 2 5

-- d of the whole network: link 0-1 is faulty, and the way round takes two links
abbrev pub whole_network : Witness
whole_network =
    record {
      network = triangle 0 1 1 3;
      first = whole_d (triangle 0 1 1 3);
      call = called;
      run = story (0 ∷ 2 ∷ 0 ∷ []) 5 (faulty 0 1) (told 0 0 (Halt 7) ∷ handed 2 1 1 soon ∷ handed 1 2 2 soon ∷ []);
      one = 0;
      other = 1;
      until = 5;
    }

-- a plan that planning refuses 3: the one link is faulty
abbrev pub unaccepted : Witness
unaccepted =
    record {
      network = two_hosts 1;
      first = fresh (two_hosts 1) 1;
      call = called;
      run = story (0 ∷ 0 ∷ []) 5 (faulty 0 1) (told 0 0 (Halt 7) ∷ []);
      one = 0;
      other = 1;
      until = 5;
    }

-- host 0 is told to halt the image, and host 1 is handed a resume of it
abbrev pub other_run : Story
other_run = story (0 ∷ 0 ∷ []) 5 (faulty 0 0) (told 0 0 (Halt 7) ∷ handed 1 1 0 (begun 0 (Resume 7)) ∷ [])

-- what is sent is another order than the one that is held
abbrev pub altered : Witness
altered =
    record {
      network = two_hosts 0;
      first = fresh (two_hosts 0) 1;
      call = sends_other;
      run = other_run;
      one = 0;
      other = 1;
      until = 5;
    }

abbrev pub witnesses : List Witness
witnesses = late_copy ∷ twice ∷ short_bound ∷ skewed ∷ unplanned ∷ whole_network ∷ altered ∷ unaccepted ∷ []

-- ---- runs of two faultless hosts in which another claim fails

-- a start that is held as another order
abbrev pub others : hosts.Host
others = hosts_of (fresh (two_hosts 0) 1) starts_other

-- what is sent is another order than the one that is held, and so is delivered though no host started it
abbrev pub senders : hosts.Host
senders = hosts_of (fresh (two_hosts 0) 1) sends_other

-- a copy that no host sent: host 1 is handed a halt that no host is told to start
abbrev pub forged_run : Story
forged_run = story (0 ∷ 0 ∷ []) 5 (faulty 0 0) (handed 1 1 0 soon ∷ [])

-- a host that refuses every start
abbrev pub idle_run : Story
idle_run = story (0 ∷ 0 ∷ []) 5 (faulty 0 0) (told 0 0 (Halt 7) ∷ [])

abbrev pub idlers : hosts.Host
idlers = hosts_of (fresh (two_hosts 0) 1) idle

-- host 1 is lent no room
abbrev pub tight_run : Story
tight_run =
    record { offset = λ p. 0; calls = calls_of (told 0 0 (Halt 7) ∷ handed 1 1 0 soon ∷ []); room = λ p t. cond (eqb p 1) 0 512; end = 5; faults = faulty 0 0 }

abbrev pub roomless : hosts.Host
roomless = unlent (ours (two_hosts 0))

-- ---- the exception of a halt: a board of 16 images without 7, which is halted, given room and published

abbrev pub full_board : Board
full_board = holding (listed 16 (λ i. record { image = 10 + i; stand = Offered 1 }))

abbrev pub full_orders : List Carried
full_orders = soon ∷ begun 1 (Withdraw 10) ∷ begun 2 (Publish 7 50) ∷ []
