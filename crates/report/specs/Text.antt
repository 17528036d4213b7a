-- What the replay writes, byte by byte (01, "Schedules and the replay program"). Assumes nothing.
use Rattle.std.specs.Prelude.{cond, List, [], ◌∷◌, ◌++◌, ℕ, zero, suc, ◌+◌, ◌/◌, ◌%◌, ltb, eqb, get_or}
use Prim.Native.Char.{code}
use Prim.Native.String.{String, [] as no_more, ◌∷◌ as ◌and◌}
use Rattle.lists.specs.Lists.{flat, listed}
use Rattle.orders.specs.declared.Order.{Order}
use Rattle.orders.specs.declared.Order.TheVariants.{Publish, Halt, Resume, Withdraw}
use Rattle.host.specs.declared.Held.{Held}
use Rattle.engine.specs.Parts.{no_delivery, no_log}
use Rattle.engine.specs.declared.Delivery.{Delivery}
use Rattle.engine.specs.declared.Log.{Log}
use Rattle.engine.specs.declared.Outcome.{Outcome}

-- the bytes of a word
abbrev pub word : String → List ℕ
word no_more = []
word (c and s) = code c ∷ word s

-- a number in decimal, in its last k digits at most, without padding
unfoldable pub digits : ℕ → ℕ → List ℕ
digits zero x = []
digits (suc k) x = cond (ltb x 10) ((code "0" + x) ∷ []) (digits k (x / 10) ++ ((code "0" + x % 10) ∷ []))

-- no number of 64 bits has more than 20 digits
abbrev pub decimal : ℕ → List ℕ
decimal x = digits 20 x

-- a word and a number
unfoldable pub item : String → ℕ → List ℕ
item s x = word s ++ decimal x

-- a word and a number at the end of a line
unfoldable pub line : String → ℕ → List ℕ
line s x = item s x ++ word "\n"

-- "order, image, and for publish the share"
unfoldable pub order_text : Order → List ℕ
order_text (Publish image share) = item " publish " image ++ item " " share
order_text (Halt image) = item " halt " image
order_text (Resume image) = item " resume " image
order_text (Withdraw image) = item " withdraw " image

-- "stamp, source, order"
unfoldable pub held_text : Held → List ℕ
held_text e = item " stamp " e.stamp.0 ++ item " from " e.source ++ order_text e.order

-- "its number, the clock reading", and what was delivered
unfoldable pub delivery_line : ℕ → Delivery → List ℕ
delivery_line host d = item "host " host ++ item " at " d.at.0 ++ held_text d.what ++ word "\n"

-- "each delivery as in the case"
abbrev pub host_text : ℕ → Log → List ℕ
host_text host log = flat (listed log.count (λ i. delivery_line host (get_or log.entries i no_delivery)))

-- "a line `start k refused r` for each refused start"
unfoldable pub start_line : ℕ → ℕ → List ℕ
start_line k r = cond (eqb r 0) [] (item "start " k ++ line " refused " r)

-- ".. in file order"
abbrev pub starts_text : ℕ → List ℕ → List ℕ
starts_text count refusals = flat (listed count (λ k. start_line k (get_or refusals k 0)))

-- "for each host, rising"
abbrev pub hosts_text : ℕ → List Log → List ℕ
hosts_text count logs = flat (listed count (λ h. host_text h (get_or logs h no_log)))

-- "It writes `delta` and Δ", the starts, the hosts, "last `copies` and the count"
unfoldable pub outcome_text : Outcome → List ℕ
outcome_text o = line "delta " o.bound ++ starts_text o.starts o.refusals ++ hosts_text o.hosts o.logs ++ line "copies " o.copies

-- "the one line `refused r`, with the index after 32"
unfoldable pub refused_text : ℕ × ℕ → List ℕ
refused_text a = item "refused " a.0 ++ cond (eqb a.0 32) (item " " a.1) [] ++ word "\n"

-- "A refused file gives the one line", and any other the outcome of its run
unfoldable pub text : ℕ × ℕ → Outcome → List ℕ
text a o = cond (eqb a.0 0) (outcome_text o) (refused_text a)
