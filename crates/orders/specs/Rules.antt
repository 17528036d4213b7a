-- The rule sets (01, "Numbers" and refusal 23). Assumes nothing.
use Rattle.std.specs.Prelude.{Bool, cond, ◌&&◌, ◌||◌, ℕ, leb, eqb}

-- 23: "a rule set other than 1 or 2"
abbrev pub is_rules : ℕ → Bool
is_rules rules = eqb rules 1 || eqb rules 2

-- hop h: "1..8 under the second rules, 0 under the first"
abbrev pub hop_fits : ℕ → ℕ → Bool
hop_fits rules hop = cond (eqb rules 2) (leb 1 hop && leb hop 8) (eqb hop 0)
