-- The records of a schedule, and which bytes are one: refusal 31 (01, "Schedules and the replay program"). Assumes nothing.
use Rattle.std.specs.Prelude.{Bool, cond, not, ◌&&◌, List, [], ◌∷◌, ℕ, zero, suc, ◌+◌, ◌-◌, leb, ltb, eqb, length, get_or}
use Rattle.lists.specs.Tests.{all_of}
use Rattle.lists.specs.Searches.{each, least, count}
use Rattle.orders.specs.Orders.{wrong_size, wrong_value}
use Rattle.fields.specs.Fields.{stated_at}

-- "Fields as above": a record begins where the one before it ends
unfoldable pub place : List ℕ → ℕ → ℕ
place bs zero = 0
place bs (suc k) = place bs k + 3 + stated_at bs (place bs k)

-- how many begin within the bytes
unfoldable pub records : List ℕ → ℕ
records bs = least (length bs) (λ k. leb (length bs) (place bs k))

-- a record's tag, and where its value begins
abbrev pub tag : List ℕ → ℕ → ℕ
tag bs k = get_or bs (place bs k) 0

abbrev pub value : List ℕ → ℕ → ℕ
value bs k = place bs k + 3

-- "17 one per link", "21 one per start"
abbrev pub tagged : List ℕ → ℕ → ℕ → Bool
tagged bs t k = eqb (tag bs k) t

abbrev pub links : List ℕ → ℕ
links bs = count (records bs) (tagged bs 17)

abbrev pub starts : List ℕ → ℕ
starts bs = count (records bs) (tagged bs 21)

-- "in this order", with "16, 18, 19, 20 once each": the tag of record k among so many links and starts
abbrev pub tag_among : ℕ → ℕ → ℕ → ℕ
tag_among links starts k =
    cond (eqb k 0) 16
    (cond (leb k links) 17
    (cond (eqb k (links + 1)) 18 (cond (eqb k (links + 2)) 19 (cond (eqb k (links + 3)) 20 (cond (ltb k (links + starts + 4)) 21 22)))))

-- "16 plan (n, π, L, δ, ε, one byte each)": n as it stands there
abbrev pub hosts : List ℕ → ℕ
hosts bs = get_or bs 3 0

-- "21 one per start (tick 2, host 1, order 5 or 6)": the value of so many bytes at a place has a host below n, and a kind and share
abbrev pub start_fits : List ℕ → ℕ → ℕ → Bool
start_fits bs at size =
    all_of (
    ltb (get_or bs (at + 2) 0) (hosts bs)
    ∷ not (wrong_size (get_or bs (at + 3) 0) (size - 3)) ∷ not (wrong_value (get_or bs (at + 3) 0) (get_or bs (at + 8) 0)) ∷ [])

-- "22 one per fate (start, link, direction, delay, one byte each; direction 0 is a to b"
abbrev pub fate_fits : List ℕ → ℕ → ℕ → ℕ → ℕ → Bool
fate_fits bs links starts at size =
    all_of (eqb size 4 ∷ ltb (get_or bs at 0) starts ∷ ltb (get_or bs (at + 1) 0) links ∷ leb (get_or bs (at + 2) 0) 1 ∷ [])

-- the length that each tag asks, and what stands in a start and a fate
unfoldable pub fits_at : List ℕ → ℕ → ℕ → ℕ → Bool
fits_at bs links starts at =
    cond (eqb (get_or bs at 0) 16) (eqb (stated_at bs at) 5)
    (cond (eqb (get_or bs at 0) 17) (eqb (stated_at bs at) 2)
    (cond (eqb (get_or bs at 0) 18) (eqb (stated_at bs at) 3)
    (cond (eqb (get_or bs at 0) 19) (eqb (stated_at bs at) (hosts bs))
    (cond (eqb (get_or bs at 0) 20) (eqb (stated_at bs at) 2)
    (cond (eqb (get_or bs at 0) 21) (start_fits bs (at + 3) (stated_at bs at)) (fate_fits bs links starts (at + 3) (stated_at bs at)))))))

-- record k, which begins at a place
unfoldable pub right_at : List ℕ → ℕ → ℕ → ℕ → ℕ → Bool
right_at bs links starts k at = eqb (get_or bs at 0) (tag_among links starts k) && fits_at bs links starts at

abbrev pub right : List ℕ → ℕ → Bool
right bs k = right_at bs (links bs) (starts bs) k (place bs k)

-- "A wrong tag, length, order or count of tags .., direction, kind or share, a start's host, a fate's link or start, more than 12 links or 16
-- starts, or a file too long is 31"; a field cut short ends past the last byte
unfoldable pub is_schedule : List ℕ → Bool
is_schedule bs =
    all_of (
    leb (length bs) 8192 ∷ eqb (place bs (records bs)) (length bs) ∷ leb (links bs) 12 ∷ leb (starts bs) 16
    ∷ leb (links bs + starts bs + 4) (records bs) ∷ each (records bs) (right bs) ∷ [])
