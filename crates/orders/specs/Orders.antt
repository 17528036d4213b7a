-- An order and its bytes (01, "A host's calls" and "The message"; 02 §1 for what can be wrong with the bytes). Assumes nothing.
use Rattle.std.specs.Prelude.{Bool, cond, not, ◌&&◌, ◌||◌, List, [], ◌++◌, ℕ, ◌+◌, leb, eqb, get_or}
use Rattle.lists.specs.Bytes.{be, val_at}
use Rattle.orders.specs.declared.Order.{Order}
use Rattle.orders.specs.declared.Order.TheVariants.{Publish, Halt, Resume, Withdraw}

-- "Kinds are 1 publish, 2 halt, 3 resume, 4 withdraw"
abbrev pub kind_of : Order → ℕ
kind_of (Publish image share) = 1
kind_of (Halt image) = 2
kind_of (Resume image) = 3
kind_of (Withdraw image) = 4

abbrev pub is_kind : ℕ → Bool
is_kind kind = leb 1 kind && leb kind 4

abbrev pub image_of : Order → ℕ
image_of (Publish image share) = image
image_of (Halt image) = image
image_of (Resume image) = image
image_of (Withdraw image) = image

-- "share 1 (0 unless publish)"
abbrev pub share_of : Order → ℕ
share_of (Publish image share) = share
share_of (Halt image) = 0
share_of (Resume image) = 0
share_of (Withdraw image) = 0

-- "share 1..100"
abbrev pub is_share : ℕ → Bool
is_share share = leb 1 share && leb share 100

abbrev pub share_fits : Order → Bool
share_fits o = not (eqb (kind_of o) 1) || is_share (share_of o)

-- 19: "the same order", which is kind, image and share
abbrev pub same_order : Order → Order → Bool
same_order o p = eqb (kind_of o) (kind_of p) && eqb (image_of o) (image_of p) && eqb (share_of o) (share_of p)

-- the order of a kind, and the blank order, all zero, of a kind that there is not
abbrev pub order_of : ℕ → ℕ → ℕ → Order
order_of kind image share =
    cond (eqb kind 1) (Publish image share)
    (cond (eqb kind 2) (Halt image) (cond (eqb kind 3) (Resume image) (cond (eqb kind 4) (Withdraw image) (Publish 0 0))))

-- the order in the bytes from a place on
abbrev pub order_at : List ℕ → ℕ → Order
order_at bs at = order_of (get_or bs at 0) (val_at bs (at + 1) 4) (get_or bs (at + 5) 0)

-- "order (kind, image, and share for publish; 6 or 5 bytes)"
unfoldable pub order_bytes : Order → List ℕ
order_bytes o = be 1 (kind_of o) ++ (be 4 (image_of o) ++ cond (eqb (kind_of o) 1) (be 1 (share_of o)) [])

abbrev pub size_of : ℕ → ℕ
size_of kind = cond (eqb kind 1) 6 5

-- "an order's length is wrong if no kind has it or its own kind has another"
abbrev pub wrong_size : ℕ → ℕ → Bool
wrong_size kind bytes = not (eqb bytes 5 || eqb bytes 6) || is_kind kind && not (eqb bytes (size_of kind))

-- "value out of range": no kind, or a publish's share
abbrev pub wrong_value : ℕ → ℕ → Bool
wrong_value kind share = not (is_kind kind) || eqb kind 1 && not (is_share share)
