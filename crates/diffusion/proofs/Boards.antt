-- Equal boards: a host's orders up to a reading are the one rising list of what faultless hosts took and is due; and a halt stays in force. Assumes nothing.
use mathlib.Core.Path.{◌≡◌, refl, sym, ap, ◌∙◌, subst}
use mathlib.Core.Logic.{◌⊎◌, inl, inr}
use mathlib.Core.Bool.{Bool, true, false, cond, false≢true}
use mathlib.Core.List.{List, [], ◌∷◌, ◌++◌}
use Prim.Native.Nat.{ℕ, ◌+◌, ◌≤◌, ◌<◌}
use native.Mathlib.Omega.{arith}
use lib.Dec.{eqb}
use lib.ListN.{length}
use Rattle.lists.specs.Members.{In}
use Rattle.lists.proofs.MemberLaws.{in_map, map_in}
use Rattle.orders.specs.declared.Order.{Order}
use Rattle.orders.specs.declared.Order.TheVariants.{Publish, Halt, Resume, Withdraw}
use Rattle.orders.specs.Orders.{image_of, share_fits}
use Rattle.network.specs.Network.{n, Survivor}
use Rattle.network.specs.declared.Plan.{Plan}
use Rattle.board.specs.Board.{images, sound, outcome, stands, board_after}
use Rattle.board.specs.declared.Stand.{Stand}
use Rattle.board.specs.declared.Stand.TheVariants.{Absent, Offered, Halted}
use Rattle.board.specs.declared.Board.{Board}
use Rattle.board.proofs.Stands.{is_halted, sound_stays, stands_after, halt_after}
use Rattle.diffusion.specs.Hosts.{Carried, Host}
use Rattle.diffusion.specs.Run.{Story, reading, delivers, Starts-at, log}
use Rattle.diffusion.specs.Boards.{board_by, orders, board_of, Due, Whole, is_offered, offers, Full, Frees, Publishes, None, Stopped, Boards}
use Rattle.diffusion.proofs.Laws.{Δ, Laws, FirstRules, Sturdy, Timed}
use Rattle.diffusion.proofs.Life as Life
use Rattle.diffusion.proofs.Sequences.{rising_same}
use Rattle.diffusion.proofs.Theorem as Theorem
use Rattle.diffusion.proofs.Follows.{in_log, log_in}

-- ---- boards by lists of orders

by_append : (b : Board) (l m : List Carried) → board_by b (l ++ m) ≡ board_by (board_by b l) m
unfolding board_by
by_append b [] m = refl
by_append b (x ∷ l) m = by_append (board_after b x.order) l m

by_sound : (b : Board) (l : List Carried) → sound b ≡ true → sound (board_by b l) ≡ true
unfolding board_by
by_sound b [] s = s
by_sound b (x ∷ l) s = by_sound (board_after b x.order) l (sound_stays b x.order s)

-- what the table keeps of an image, but for some orders, stays so while none of these comes
module _ (i : ℕ) (good : Stand → Bool) (Q : Carried → Type 0)
    (step : (x : Carried) (s : Stand) → (Q x → ⊥) → image_of x.order ≡ i → good s ≡ true → good (outcome x.order s) ≡ true) where
  stays : (b : Board) (l : List Carried) → sound b ≡ true → None Q l → good (stands i (images b)) ≡ true → good (stands i (images (board_by b l))) ≡ true
  unfolding board_by
  stays b [] s free g = g
  stays b (x ∷ l) s free g =
      stays (board_after b x.order) l (sound_stays b x.order s) (λ y j. free y (inr j)) (go (stands_after b x.order i s))
    where
      go : (stands i (images (board_after b x.order)) ≡ stands i (images b))
          ⊎ ((image_of x.order ≡ i) × (stands i (images (board_after b x.order)) ≡ outcome x.order (stands i (images b))))
          → good (stands i (images (board_after b x.order))) ≡ true
      go (inl e) = ap good e ∙ g
      go (inr r) = ap good r.1 ∙ step x (stands i (images b)) (free x (inl refl)) r.0 g

-- halted, but for a resume or a withdraw
halted_on : (i : ℕ) (o : Order) (s : Stand) → ((o ≡ Resume i) ⊎ (o ≡ Withdraw i) → ⊥) → image_of o ≡ i → is_halted s ≡ true → is_halted (outcome o s) ≡ true
halted_on i (Publish image share) Absent free e h = absurd (false≢true h)
halted_on i (Publish image share) (Offered old) free e h = absurd (false≢true h)
halted_on i (Publish image share) (Halted old) free e h = refl
halted_on i (Halt image) Absent free e h = refl
halted_on i (Halt image) (Offered old) free e h = refl
halted_on i (Halt image) (Halted old) free e h = refl
halted_on i (Resume image) s free e h = absurd (free (inl (ap Resume e)))
halted_on i (Withdraw image) s free e h = absurd (free (inr (ap Withdraw e)))

-- absent, or halted with free share to be offered with, but for a publish
is_low : Stand → Bool
is_low Absent = true
is_low (Offered share) = false
is_low (Halted share) = eqb share 0

low_on : (i : ℕ) (o : Order) (s : Stand) → ((share : ℕ) × (o ≡ Publish i share) → ⊥) → image_of o ≡ i → is_low s ≡ true → is_low (outcome o s) ≡ true
unfolding is_low
low_on i (Publish image share) s free e h = absurd (free (share, ap (λ (j : ℕ). Publish j share) e))
low_on i (Halt image) Absent free e h = refl
low_on i (Halt image) (Offered old) free e h = absurd (false≢true h)
low_on i (Halt image) (Halted old) free e h = h
low_on i (Resume image) Absent free e h = refl
low_on i (Resume image) (Offered old) free e h = absurd (false≢true h)
low_on i (Resume image) (Halted old) free e h = ap (λ (t : Bool). is_low (cond t Absent (Offered old))) h
low_on i (Withdraw image) Absent free e h = refl
low_on i (Withdraw image) (Offered old) free e h = refl
low_on i (Withdraw image) (Halted old) free e h = refl

halted_not : (s : Stand) → is_halted s ≡ true → is_offered s ≡ false
halted_not Absent h = refl
halted_not (Offered share) h = sym h
halted_not (Halted share) h = refl

low_not : (s : Stand) → is_low s ≡ true → is_offered s ≡ false
unfolding is_low
low_not Absent h = refl
low_not (Offered share) h = sym h
low_not (Halted share) h = refl

-- a halt stops its image
stopped : (b : Board) (x : Carried) (i : ℕ) (later : List Carried) → sound b ≡ true → x.order ≡ Halt i → Stopped b (board_by b (x ∷ later)) i later
unfolding board_by is_low
stopped b x i later s e = subst (λ (o : Order). Stopped b (board_by (board_after b o) later) i later) (sym e) (record { halted = held; absent = low })
  where
    whole : sound (board_after b (Halt i)) ≡ true
    whole = sound_stays b (Halt i) s

    held : (Full b i → ⊥) → None (Frees i) later → offers (board_by (board_after b (Halt i)) later) i ≡ false
    held f free = halted_not (stands i (images (board_by (board_after b (Halt i)) later))) (stays i is_halted (Frees i) (λ y t n q g. halted_on i y.order t n q g) (board_after b (Halt i)) later whole free (go (halt_after b i s)))
      where
        go : (is_halted (stands i (images (board_after b (Halt i)))) ≡ true) ⊎ ((length (images b) ≡ 16) × (stands i (images b) ≡ Absent))
            → is_halted (stands i (images (board_after b (Halt i)))) ≡ true
        go (inl h) = h
        go (inr r) = absurd (f r)

    low : Full b i → None (Publishes i) later → offers (board_by (board_after b (Halt i)) later) i ≡ false
    low f free = low_not (stands i (images (board_by (board_after b (Halt i)) later))) (stays i is_low (Publishes i) (λ y t n q g. low_on i y.order t n q g) (board_after b (Halt i)) later whole free (go (stands_after b (Halt i) i s)))
      where
        go : (stands i (images (board_after b (Halt i))) ≡ stands i (images b)) ⊎ ((i ≡ i) × (stands i (images (board_after b (Halt i))) ≡ outcome (Halt i) (stands i (images b))))
            → is_low (stands i (images (board_after b (Halt i)))) ≡ true
        go (inl q) = ap is_low (q ∙ f.1)
        go (inr q) = ap is_low (q.1 ∙ ap (outcome (Halt i)) f.1)

-- a member of a list splits it
split : (l : List Carried) (x : Carried) → In x l → (a : List Carried) × (b : List Carried) × (l ≡ a ++ (x ∷ b))
split [] x i = absurd i
split (y ∷ l) x (inl e) = ([], l, ap (λ (z : Carried). z ∷ l) (sym e))
split (y ∷ l) x (inr i) = let r = split l x i in (y ∷ r.0, r.1, ap (λ (m : List Carried). y ∷ m) r.2)

module _ (P : Plan) (F : Sturdy P) (H : Host) (L : Laws P H) (B : FirstRules P H L) (R : Story) (M : Timed P H R) where
  in_orders : (p t k : ℕ) (x : Carried) → t ≤ k → In x (delivers H R p t) → In x (orders H R p k)
  in_orders p t k x l i = in_map (λ (e : ℕ × Carried). e.1) (log H R p k) (reading R p t, x) (in_log H R p t k x l i)

  orders_in : (p k : ℕ) (x : Carried) → In x (orders H R p k) → (t : ℕ) × (t ≤ k) × In x (delivers H R p t)
  orders_in p k x i =
      let r = map_in (λ (e : ℕ × Carried). e.1) (log H R p k) x i in
      let s = log_in H R p k r.0 r.1 in
      (s.0, s.1, subst (λ (y : Carried). In y (delivers H R p s.0)) (sym r.2) s.2)

  -- a taken order that is due is among a faultless host's
  all_due : (p t : ℕ) (x : Carried) → Survivor P R.faults p → t ≤ R.end → Due P H R (reading R p t) x → In x (orders H R p t)
  all_due p t x sp l d =
      let r = Theorem.taken_delivered P F H L B R M d.0 d.1 x d.2 d.3 p t sp l d.4 in
      in_orders p r.0 t x r.1 r.2

  only_due : (p t : ℕ) (x : Carried) → Survivor P R.faults p → In x (orders H R p t) → Due P H R (reading R p t) x
  only_due p t x sp i =
      let o = orders_in p t x i in
      let k = Theorem.delivered_taken P F H L B R M p o.0 x sp.host o.2 in
      let early = o.1 in
      let due = k.2 in
      (p, k.0, sp, k.1, omega arith)

  delivered : (p t : ℕ) → Survivor P R.faults p → t ≤ R.end → Whole P H R (reading R p t) (orders H R p t)
  delivered p t sp l = record { rises = Theorem.rises P F H L B R M p t sp.host; only = λ x i. only_due p t x sp i; all = λ x d. all_due p t x sp l d }

  one_list : (U : ℕ) (l m : List Carried) → Whole P H R U l → Whole P H R U m → l ≡ m
  one_list U l m a b = rising_same l m a.rises b.rises (λ x i. b.all x (a.only x i)) (λ x i. a.all x (b.only x i))

  made : (b : Board) (p t : ℕ) (l : List Carried) → Survivor P R.faults p → t ≤ R.end → Whole P H R (reading R p t) l → board_of H R b p t ≡ board_by b l
  made b p t l sp h w = ap (board_by b) (one_list (reading R p t) (orders H R p t) l (delivered p t sp h) w)

  equal : (b : Board) (p q t u : ℕ) → Survivor P R.faults p → Survivor P R.faults q → t ≤ R.end → u ≤ R.end → reading R p t ≡ reading R q u
      → board_of H R b p t ≡ board_of H R b q u
  equal b p q t u sp sq lt lu e = made b p t (orders H R q u) sp lt (subst (λ (U : ℕ). Whole P H R U (orders H R q u)) (sym e) (delivered q u sq lu))

  in_range_lem : (p t : ℕ) (x : Carried) → p < n P → In x (delivers H R p t) → share_fits x.order ≡ true
  in_range_lem p t x h i =
      let s = Theorem.started P F H L B R M p t x h i in
      (Life.started_facts P H L B R M F.bound_least s.0 s.1 x s.2 s.4).share

  halts : (b : Board) (s p t u i : ℕ) (x : Carried) → sound b ≡ true → Survivor P R.faults s → Survivor P R.faults p → Starts-at H R s t x → x.order ≡ Halt i
      → u ≤ R.end → x.stamp + Δ P ≤ reading R p u
      → (l : List Carried) × (later : List Carried) × (orders H R p u ≡ l ++ (x ∷ later)) × Stopped (board_by b l) (board_of H R b p u) i later
  halts b s p t u i x sb fs fp k e l h =
      let took = Life.starts_taken P H L B R M F.bound_least s t x fs.host k in
      let r = split (orders H R p u) x (all_due p u x fp l (s, t, fs, took, h)) in
      let now : board_of H R b p u ≡ board_by (board_by b r.0) (x ∷ r.1) = ap (board_by b) r.2 ∙ by_append b r.0 (x ∷ r.1) in
      let stop = stopped (board_by b r.0) x i r.1 (by_sound b r.0 sb) e in
      (r.0, r.1, r.2, subst (λ (c : Board). Stopped (board_by b r.0) c i r.1) (sym now) stop)

  pub boards : Boards P H R
  boards =
      record {
        equal = equal;
        delivered = delivered;
        made = made;
        keeps_sound = λ b p t s. by_sound b (orders H R p t) s;
        in_range = in_range_lem;
        halts = λ b s p t u i x sb fs fp k e l h. halts b s p t u i x sb fs fp k e l (omega arith);
      }
