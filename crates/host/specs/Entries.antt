-- What a tick writes (01, "Tick at U"). Assumes nothing.
use Rattle.std.specs.Prelude.{List, [], ◌∷◌, ◌++◌, map, ℕ}
use Rattle.lists.specs.Bytes.{be}
use Rattle.lists.specs.Lists.{flat}
use Rattle.orders.specs.Orders.{kind_of, image_of, share_of}
use Rattle.host.specs.declared.Held.{Held}

-- "An entry has 16 bytes: stamp 8, source 1, kind 1, image 4, share 1 (0 unless publish), one zero. All numbers are big-endian."
unfoldable pub entry_of : Held → List ℕ
entry_of e =
    be 8 e.stamp.0 ++ ((e.source ∷ kind_of e.order ∷ []) ++ (be 4 (image_of e.order) ++ (share_of e.order ∷ 0 ∷ [])))

-- the entries of held orders, one after the other
abbrev pub entries_of : List Held → List ℕ
entries_of l = flat (map entry_of l)
