-- Messages that are kept, by number, and which of them are due.
use Rattle.std.specs.Prelude.{ℕ, zero, suc, Bool, true, false, if◌then◌else◌, List, [], ◌∷◌, map}
use Rattle.cl_link.specs.declared.kept.Kept.{Kept}

-- the index of the first due message, counted from 0, or their number where none is due
abbrev pub due_index : {B : Type 0} → List (Kept B) → ℕ
due_index [] = 0
due_index (m ∷ ms) = if m.due then 0 else suc (due_index ms)

-- the message is due, or no longer due
abbrev pub with_due : {B : Type 0} → Bool → Kept B → Kept B
with_due due m = record m { due = due }

-- the message at an index, if there is one, is no longer due
abbrev pub sent_at : {B : Type 0} → List (Kept B) → ℕ → List (Kept B)
sent_at [] index = []
sent_at (m ∷ ms) zero = with_due false m ∷ ms
sent_at (m ∷ ms) (suc index) = m ∷ sent_at ms index

-- each message is due
abbrev pub all_due : {B : Type 0} → List (Kept B) → List (Kept B)
all_due ms = map (with_due true) ms
