-- How long the texts are: each number has at most 20 digits. Assumes nothing.
use mathlib.Core.Path.{◌≡◌, ap}
use mathlib.Core.Bool.{Bool, true, false, cond}
use mathlib.Core.List.{List, [], ◌∷◌, ◌++◌}
use Prim.Native.Nat.{ℕ, zero, suc, ◌+◌, ◌*◌, ◌/◌, ◌%◌, ◌≤◌, ◌<◌}
use Prim.Native.String.{String}
use native.Mathlib.Nat.{suc-mul}
use native.Mathlib.Omega.{arith}
use borrow.Author.Tests.{lt-ltb}
use lib.Dec.{ltb, eqb}
use lib.ListN.{length, get_or, length-append}
use Rattle.lists.specs.Lists.{flat, listed}
use Rattle.orders.specs.declared.Order.{Order}
use Rattle.orders.specs.declared.Order.TheVariants.{Publish, Halt, Resume, Withdraw}
use Rattle.host.specs.declared.Held.{Held}
use Rattle.engine.specs.Parts.{no_delivery, no_log}
use Rattle.engine.specs.declared.Delivery.{Delivery}
use Rattle.engine.specs.declared.Log.{Log}
use Rattle.report.specs.Text.{word, digits, item, line, order_text, held_text, delivery_line, start_line, starts_text, host_text, hosts_text}
use Rattle.report.proofs.Writing.{flat_more}

pub length_digits : (k x : ℕ) → length (digits k x) ≤ k
unfolding digits
length_digits zero x = omega arith
length_digits (suc k) x = go (ltb x 10) (length_digits k (x / 10))
  where
    go : (t : Bool) → length (digits k (x / 10)) ≤ k → length (cond t ((48 + x) ∷ []) (digits k (x / 10) ++ ((48 + x % 10) ∷ []))) ≤ suc k
    go true ih = omega arith
    go false ih = let n = length-append (digits k (x / 10)) ((48 + x % 10) ∷ []) in omega arith

pub length_digit : (x : ℕ) → x < 10 → length (digits 20 x) ≡ 1
unfolding digits
length_digit x h = rw (lt-ltb x 10 h)

pub item_size : (s : String) (x : ℕ) → length (item s x) ≤ length (word s) + 20
unfolding item
item_size s x = omega (arith, length-append (word s) (digits 20 x), length_digits 20 x)

pub line_size : (s : String) (x : ℕ) → length (line s x) ≤ length (word s) + 21
unfolding line
line_size s x = omega (arith, length-append (item s x) (word "\n"), item_size s x)

pub order_size : (o : Order) → length (order_text o) ≤ 50
unfolding order_text
order_size (Publish image share) = omega (arith, length-append (item " publish " image) (item " " share), item_size " publish " image, item_size " " share)
order_size (Halt image) = omega (arith, item_size " halt " image)
order_size (Resume image) = omega (arith, item_size " resume " image)
order_size (Withdraw image) = omega (arith, item_size " withdraw " image)

pub held_size : (e : Held) → length (held_text e) ≤ 103
unfolding held_text
held_size e =
    let a = item " stamp " e.stamp.0 in
    let b = item " from " e.source in
    let o = order_text e.order in
    omega
    (arith, length-append (a ++ b) o, length-append a b, item_size " stamp " e.stamp.0, item_size " from " e.source, order_size e.order)

pub delivery_size : (host : ℕ) (d : Delivery) → host < 10 → length (delivery_line host d) ≤ 134
unfolding delivery_line item
delivery_size host d h =
    let a = word "host " ++ digits 20 host in
    let b = word " at " ++ digits 20 d.at.0 in
    let e = held_text d.what in
    omega
    (arith, length-append (a ++ b ++ e) (word "\n"), length-append (a ++ b) e, length-append a b, length_digit host h, length_digits 20 d.at.0, held_size d.what)

pub start_size : (k r : ℕ) → length (start_line k r) ≤ 56
unfolding start_line
start_size k r = go (eqb r 0)
  where
    go : (t : Bool) → length (cond t [] (item "start " k ++ line " refused " r)) ≤ 56
    go true = omega arith
    go false = omega (arith, length-append (item "start " k) (line " refused " r), item_size "start " k, line_size " refused " r)

-- as many pieces, each of at most so many bytes
pub pieces_size : (f : ℕ → List ℕ) (n b : ℕ) → ((i : ℕ) → i < n → length (f i) ≤ b) → length (flat (listed n f)) ≤ n * b
unfolding listed
pieces_size f zero b h = omega arith
pieces_size f (suc n) b h =
    let ih = pieces_size f n b (λ i k. h i (omega arith)) in
    let e : length (flat (listed n f ++ (f n ∷ []))) ≡ length (flat (listed n f) ++ f n) = ap length (flat_more (listed n f) (f n)) in
    omega (arith, e, length-append (flat (listed n f)) (f n), h n (omega arith), suc-mul n b)

pub index_size : (t : Bool) (x : ℕ) → length (cond t (item " " x) []) ≤ 21
index_size true x = omega (arith, item_size " " x)
index_size false x = omega arith

pub starts_size : (count : ℕ) (refusals : List ℕ) → length (starts_text count refusals) ≤ count * 56
starts_size count refusals = pieces_size (λ k. start_line k (get_or refusals k 0)) count 56 (λ k h. start_size k (get_or refusals k 0))

pub deliveries_size : (host count : ℕ) (entries : List Delivery) → host < 10
    → length (flat (listed count (λ i. delivery_line host (get_or entries i no_delivery)))) ≤ count * 134
deliveries_size host count entries l =
    pieces_size (λ i. delivery_line host (get_or entries i no_delivery)) count 134 (λ i h. delivery_size host (get_or entries i no_delivery) l)

pub hosts_size : (count : ℕ) (logs : List Log) → count ≤ 8 → ((h : ℕ) → h < 8 → (get_or logs h no_log).count ≤ 16)
    → length (hosts_text count logs) ≤ count * 2144
hosts_size count logs few short =
    pieces_size (λ h. host_text h (get_or logs h no_log)) count 2144
    (λ h l. omega
    (arith, deliveries_size h (get_or logs h no_log).count (get_or logs h no_log).entries (omega arith), short h (omega arith)))
