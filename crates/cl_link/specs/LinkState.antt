-- What one end of a link knows, and what each call makes of it.
use Rattle.std.specs.Prelude.{ℕ, ◌+◌, ◌-◌, true, if◌then◌else◌, nat_lt, ◌==◌, min, List, [], ◌∷◌, ◌++◌, length, drop, map, Option, Some, None}
use Rattle.std.specs.Option.{option_map}
use Rattle.std.specs.Borrow.{Bor}
use Rattle.cl_link.specs.declared.kept.Kept.{Kept}
use Rattle.cl_link.specs.declared.link.Taken.{Taken}
use Rattle.cl_link.specs.declared.link.Taken.TheVariants.{Now, Old, Gap}
use Rattle.cl_link.specs.Kept.{sent_at, all_due}

-- one end of a link: the messages to its peer, and how many came from it. Messages are numbered from 1
pub record LinkState (B : Type 0) : Type 0 where
  -- how many of the messages given, from the first on, are no longer kept
  pub released : ℕ
  -- the others, by number
  pub kept : List (Kept B)
  -- how many messages of the peer were accepted
  pub accepted : ℕ

-- nothing was given and nothing accepted
abbrev pub no_message : {B : Type 0} → LinkState B
no_message = record { released = 0; kept = []; accepted = 0 }

-- the number of the last message given
abbrev pub last_number : {B : Type 0} → LinkState B → ℕ
last_number s = s.released + length s.kept

-- the messages that are kept, by number
abbrev pub unacknowledged : {B : Type 0} → LinkState B → List B
unacknowledged s = map (λ m. m.body) s.kept

-- the first due message and its number, where the first of the messages has this number
unfoldable pub first_due : {B : Type 0} → ℕ → List (Kept B) → Option (ℕ × B)
first_due number [] = None
first_due number (m ∷ ms) = if m.due then Some (number, m.body) else first_due (number + 1) ms

-- the least due message and its number
unfoldable pub due_of : {B : Type 0} → LinkState B → Option (ℕ × B)
due_of s = first_due (s.released + 1) s.kept

-- a numbered message that is pointed to
abbrev pub due_read : {B : Type 0} → Option (ℕ × Bor B) → Option (ℕ × B)
due_read message = option_map (λ m. (m.0, m.1.now)) message

-- the message is given: it is kept, and due
unfoldable pub after_send : {B : Type 0} → LinkState B → B → LinkState B
after_send s body = record s { kept = s.kept ++ record { body = body; due = true } ∷ [] }

-- the message of this number, where it is kept, is no longer due
unfoldable pub after_sent : {B : Type 0} → LinkState B → ℕ → LinkState B
after_sent s number = if nat_lt s.released number then record s { kept = sent_at s.kept (number - s.released - 1) } else s

-- each message that is kept is due
unfoldable pub after_again : {B : Type 0} → LinkState B → LinkState B
after_again s = record s { kept = all_due s.kept }

-- how many messages that are kept an acknowledgement covers
abbrev pub covered : {B : Type 0} → LinkState B → ℕ → ℕ
covered s ack = min (ack - s.released) (length s.kept)

-- what the acknowledgement covers is no longer kept
unfoldable pub after_heard : {B : Type 0} → LinkState B → ℕ → LinkState B
after_heard s ack = record s { released = s.released + covered s ack; kept = drop (covered s ack) s.kept }

-- what becomes of a message of this number that comes
unfoldable pub taken_of : {B : Type 0} → LinkState B → ℕ → Taken
taken_of s number = if number == s.accepted + 1 then Now else (if nat_lt (s.accepted + 1) number then Gap else Old)

-- how many messages are accepted once a message of this number has come: exactly the next one counts
abbrev pub count_after : Taken → ℕ → ℕ
count_after Now accepted = accepted + 1
count_after Old accepted = accepted
count_after Gap accepted = accepted

-- a message of this number comes, with an acknowledgement
unfoldable pub after_accept : {B : Type 0} → LinkState B → ℕ → ℕ → LinkState B
after_accept s number ack = record (after_heard s ack) { accepted = count_after (taken_of s number) s.accepted }

-- nothing is kept any more
unfoldable pub after_drop_all : {B : Type 0} → LinkState B → LinkState B
after_drop_all s = record s { released = last_number s; kept = [] }
