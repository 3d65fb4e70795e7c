-- Who is a member of a virtual node, while no node has stopped.
use Rattle.std.specs.Prelude.{ℕ, ◌+◌, ◌-◌, ◌%◌}

-- the node that has the standby of a virtual node, of so many: the one behind its primary, on the other site
abbrev pub standby_node : ℕ → ℕ → ℕ
standby_node nodes v = (v + 1) % nodes

-- the virtual node of which a node has the standby, of so many: that of the node before it
abbrev pub backed_up : ℕ → ℕ → ℕ
backed_up nodes me = (me + (nodes - 1)) % nodes
