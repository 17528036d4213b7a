-- The promise of each public function admits one result only. Assumes nothing.
use mathlib.Core.Path.{◌≡◌}
use mathlib.Core.Bool.{Bool}
use Prim.Native.Nat.{ℕ}
use lib.ListN.{length}
use Rattle.lists.proofs.One.{one_result}
use Rattle.orders.specs.Orders.{kind_of, image_of, share_of, share_fits, same_order, order_of, order_bytes, wrong_size, wrong_value}
use Rattle.orders.specs.Rules.{is_rules, hop_fits}
use Rattle.orders.specs.declared.Order.{Order}

-- ---- an order and its parts

pub kind_one : (o : Order) (r s : ℕ) → r ≡ kind_of o → s ≡ kind_of o → r ≡ s
kind_one o r s = one_result

pub image_one : (o : Order) (r s : ℕ) → r ≡ image_of o → s ≡ image_of o → r ≡ s
image_one o r s = one_result

pub share_one : (o : Order) (r s : ℕ) → r ≡ share_of o → s ≡ share_of o → r ≡ s
share_one o r s = one_result

pub share_fits_one : (o : Order) (r s : Bool) → r ≡ share_fits o → s ≡ share_fits o → r ≡ s
share_fits_one o r s = one_result

pub same_one : (o p : Order) (r s : Bool) → r ≡ same_order o p → s ≡ same_order o p → r ≡ s
same_one o p r s = one_result

pub order_of_one : (kind image share : ℕ) (r s : Order) → r ≡ order_of kind image share → s ≡ order_of kind image share → r ≡ s
order_of_one kind image share r s = one_result

-- ---- its bytes

pub size_one : (o : Order) (r s : ℕ) → r ≡ length (order_bytes o) → s ≡ length (order_bytes o) → r ≡ s
size_one o r s = one_result

pub wrong_size_one : (kind bytes : ℕ) (r s : Bool) → r ≡ wrong_size kind bytes → s ≡ wrong_size kind bytes → r ≡ s
wrong_size_one kind bytes r s = one_result

pub wrong_value_one : (kind share : ℕ) (r s : Bool) → r ≡ wrong_value kind share → s ≡ wrong_value kind share → r ≡ s
wrong_value_one kind share r s = one_result

-- ---- the rule sets

pub is_rules_one : (rules : ℕ) (r s : Bool) → r ≡ is_rules rules → s ≡ is_rules rules → r ≡ s
is_rules_one rules r s = one_result

pub hop_fits_one : (rules hop : ℕ) (r s : Bool) → r ≡ hop_fits rules hop → s ≡ hop_fits rules hop → r ≡ s
hop_fits_one rules hop r s = one_result
