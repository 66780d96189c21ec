-- What the scheme of members decides, behind three names. Document 01 has one scheme: a member set, changed by one node at a time.
use Rattle.std.specs.Prelude.{ℕ, Bool}
use Rattle.rules.specs.Nodes.{majority, one_step, subset}

-- the voters suffice to decide for these members
unfoldable pub quorum : ℕ → ℕ → Bool
quorum voters members = majority voters members

-- the voters are members
unfoldable pub within : ℕ → ℕ → Bool
within voters members = subset voters members

-- the new members may follow the present ones
unfoldable pub next : ℕ → ℕ → Bool
next members new = one_step members new
