-- What each call leaves as it was, and what it changes.
use Rattle.std.proofs.Common.{◌≡◌, ℕ, zero, suc, ◌+◌, ◌-◌, ◌≤◌, true, false, cond, nat_lt, List, [], ◌∷◌, ◌++◌, length, map, drop, Some, refl, ap, sym, arith}
use Rattle.std.specs.List.{slice_get}
use Rattle.std.proofs.lemmas.List.{map_push, drop-map, length-map, length_push, length-drop}
use Rattle.std.proofs.lemmas.Bool.Decides.{nat_tests}
use Rattle.cl_link.specs.declared.kept.Kept.{Kept}
use Rattle.cl_link.specs.declared.link.Taken.TheVariants.{Now}
use Rattle.cl_link.specs.Kept.{sent_at, all_due}
use Rattle.cl_link.specs.LinkState.{LinkState, last_number, unacknowledged, first_due, due_of, covered, taken_of, count_after, after_send, after_sent, after_again, after_heard, after_accept, after_drop_all}
use Rattle.cl_link.proofs.KeptLemmas.{length-sent_at, length-all_due}

pub accepted-after_send : {B : Type 0} (s : LinkState B) (body : B) → (after_send s body).accepted ≡ s.accepted
unfolding after_send
accepted-after_send s body = refl

pub accepted-after_sent : {B : Type 0} (s : LinkState B) (number : ℕ) → (after_sent s number).accepted ≡ s.accepted
unfolding after_sent
accepted-after_sent s number =
    elim (nat_lt s.released number) as (λ b. (cond b (record s { kept = sent_at s.kept (number - s.released - 1) }) s).accepted ≡ s.accepted) [ true ↦ refl | false ↦ refl ]

pub accepted-after_again : {B : Type 0} (s : LinkState B) → (after_again s).accepted ≡ s.accepted
unfolding after_again
accepted-after_again s = refl

pub accepted-after_heard : {B : Type 0} (s : LinkState B) (ack : ℕ) → (after_heard s ack).accepted ≡ s.accepted
unfolding after_heard
accepted-after_heard s ack = refl

pub accepted-after_accept : {B : Type 0} (s : LinkState B) (number ack : ℕ) → (after_accept s number ack).accepted ≡ count_after (taken_of s number) s.accepted
unfolding after_accept
accepted-after_accept s number ack = refl

pub accepted-after_drop_all : {B : Type 0} (s : LinkState B) → (after_drop_all s).accepted ≡ s.accepted
unfolding after_drop_all
accepted-after_drop_all s = refl

pub released-after_send : {B : Type 0} (s : LinkState B) (body : B) → (after_send s body).released ≡ s.released
unfolding after_send
released-after_send s body = refl

pub released-after_sent : {B : Type 0} (s : LinkState B) (number : ℕ) → (after_sent s number).released ≡ s.released
unfolding after_sent
released-after_sent s number =
    elim (nat_lt s.released number) as (λ b. (cond b (record s { kept = sent_at s.kept (number - s.released - 1) }) s).released ≡ s.released) [ true ↦ refl | false ↦ refl ]

pub released-after_again : {B : Type 0} (s : LinkState B) → (after_again s).released ≡ s.released
unfolding after_again
released-after_again s = refl

pub released-after_heard : {B : Type 0} (s : LinkState B) (ack : ℕ) → (after_heard s ack).released ≡ s.released + covered s ack
unfolding after_heard
released-after_heard s ack = refl

pub released-after_accept : {B : Type 0} (s : LinkState B) (number ack : ℕ) → (after_accept s number ack).released ≡ (after_heard s ack).released
unfolding after_accept
released-after_accept s number ack = refl

pub released-after_drop_all : {B : Type 0} (s : LinkState B) → (after_drop_all s).released ≡ last_number s
unfolding after_drop_all
released-after_drop_all s = refl

pub unacknowledged-after_send : {B : Type 0} (s : LinkState B) (body : B) → unacknowledged (after_send s body) ≡ unacknowledged s ++ body ∷ []
unfolding after_send
unacknowledged-after_send s body = map_push (λ m. m.body) s.kept _

bodies-sent_at : {B : Type 0} (ms : List (Kept B)) (index : ℕ) → map (λ (m : Kept B). m.body) (sent_at ms index) ≡ map (λ (m : Kept B). m.body) ms
bodies-sent_at [] index = refl
bodies-sent_at (m ∷ ms) zero = refl
bodies-sent_at (m ∷ ms) (suc index) = ap (λ rest. m.body ∷ rest) (bodies-sent_at ms index)

bodies-all_due : {B : Type 0} (ms : List (Kept B)) → map (λ (m : Kept B). m.body) (all_due ms) ≡ map (λ (m : Kept B). m.body) ms
bodies-all_due [] = refl
bodies-all_due (m ∷ ms) = ap (λ rest. m.body ∷ rest) (bodies-all_due ms)

pub unacknowledged-after_sent : {B : Type 0} (s : LinkState B) (number : ℕ) → unacknowledged (after_sent s number) ≡ unacknowledged s
unfolding after_sent
unacknowledged-after_sent s number =
    elim (nat_lt s.released number) as (λ b. unacknowledged (cond b (record s { kept = sent_at s.kept (number - s.released - 1) }) s) ≡ unacknowledged s) [ true ↦ bodies-sent_at s.kept _ | false ↦ refl ]

pub unacknowledged-after_again : {B : Type 0} (s : LinkState B) → unacknowledged (after_again s) ≡ unacknowledged s
unfolding after_again
unacknowledged-after_again s = bodies-all_due s.kept

pub unacknowledged-after_heard : {B : Type 0} (s : LinkState B) (ack : ℕ) → unacknowledged (after_heard s ack) ≡ drop (covered s ack) (unacknowledged s)
unfolding after_heard
unacknowledged-after_heard s ack = sym (drop-map (λ m. m.body) (covered s ack) s.kept)

pub unacknowledged-after_accept : {B : Type 0} (s : LinkState B) (number ack : ℕ) → unacknowledged (after_accept s number ack) ≡ unacknowledged (after_heard s ack)
unfolding after_accept
unacknowledged-after_accept s number ack = refl

pub unacknowledged-after_drop_all : {B : Type 0} (s : LinkState B) → unacknowledged (after_drop_all s) ≡ []
unfolding after_drop_all
unacknowledged-after_drop_all s = refl

-- the last number, by the messages that are kept
pub last_number-unacknowledged : {B : Type 0} (s : LinkState B) → last_number s ≡ s.released + length (unacknowledged s)
last_number-unacknowledged s = ap (λ n. s.released + n) (sym (length-map s.kept (λ m. m.body)))

pub last_number-after_send : {B : Type 0} (s : LinkState B) (body : B) → last_number (after_send s body) ≡ last_number s + 1
unfolding after_send
last_number-after_send s body = omega (arith, length_push s.kept (record { body = body; due = true }))

pub last_number-after_sent : {B : Type 0} (s : LinkState B) (number : ℕ) → last_number (after_sent s number) ≡ last_number s
unfolding after_sent
last_number-after_sent s number =
    elim (nat_lt s.released number) as (λ b. last_number (cond b (record s { kept = sent_at s.kept (number - s.released - 1) }) s) ≡ last_number s) [ true ↦ ap (λ n. s.released + n) (length-sent_at s.kept _) | false ↦ refl ]

pub last_number-after_again : {B : Type 0} (s : LinkState B) → last_number (after_again s) ≡ last_number s
unfolding after_again
last_number-after_again s = ap (λ n. s.released + n) (length-all_due s.kept)

pub last_number-after_heard : {B : Type 0} (s : LinkState B) (ack : ℕ) → last_number (after_heard s ack) ≡ last_number s
unfolding after_heard
last_number-after_heard s ack = omega (arith, length-drop (covered s ack) s.kept)

pub last_number-after_accept : {B : Type 0} (s : LinkState B) (number ack : ℕ) → last_number (after_accept s number ack) ≡ last_number s
unfolding after_accept
last_number-after_accept s number ack = last_number-after_heard s ack

pub last_number-after_drop_all : {B : Type 0} (s : LinkState B) → last_number (after_drop_all s) ≡ last_number s
unfolding after_drop_all
last_number-after_drop_all s = omega arith

-- exactly the next number is accepted
pub number_of_taken : {B : Type 0} (s : LinkState B) (number : ℕ) → taken_of s number ≡ Now → number ≡ s.accepted + 1
unfolding taken_of
number_of_taken s number now = grind (arith, nat_tests)

pub taken_of-next : {B : Type 0} (s : LinkState B) (number : ℕ) → number ≡ s.accepted + 1 → taken_of s number ≡ Now
unfolding taken_of
taken_of-next s number next = grind (arith, nat_tests)

first_here : {B : Type 0} (b : B) (bs : List B) (number : ℕ) (m : ℕ × B) → Some (number, b) ≡ Some m → (number ≤ m.0) × (slice_get (b ∷ bs) (m.0 - number) ≡ Some m.1)
first_here b bs number m e =
    let same : (number, b) ≡ m = cc in
    let none : m.0 - number ≡ 0 = omega (arith, ap (λ k. k.0) same) in
    (omega (arith, ap (λ k. k.0) same), rw none (ap (λ k. Some k.1) same))

later : {B : Type 0} (b : B) (bs : List B) (number : ℕ) (m : ℕ × B) → (number + 1 ≤ m.0) × (slice_get bs (m.0 - (number + 1)) ≡ Some m.1) → (number ≤ m.0) × (slice_get (b ∷ bs) (m.0 - number) ≡ Some m.1)
later b bs number m found =
    let next : m.0 - number ≡ suc (m.0 - (number + 1)) = omega arith in
    (omega arith, rw next found.1)

-- the first due message is one of these, under its number
pub first_due_kept : {B : Type 0} (ms : List (Kept B)) (number : ℕ) (m : ℕ × B) → first_due number ms ≡ Some m → (number ≤ m.0) × (slice_get (map (λ (k : Kept B). k.body) ms) (m.0 - number) ≡ Some m.1)
unfolding first_due
first_due_kept [] number m found = cc
first_due_kept {B} (x ∷ ms) number m found =
    elim (x.due) as (λ due. cond due (Some (number, x.body)) (first_due (number + 1) ms) ≡ Some m → (number ≤ m.0) × (slice_get (map (λ (k : Kept B). k.body) (x ∷ ms)) (m.0 - number) ≡ Some m.1)) [
      | true ↦ λ e. first_here x.body (map (λ (k : Kept B). k.body) ms) number m e
      | false ↦ λ e. later x.body (map (λ (k : Kept B). k.body) ms) number m (first_due_kept ms (number + 1) m e)
    ] found

-- the least due message is one of those kept, under its number
pub due_of-kept : {B : Type 0} (s : LinkState B) (m : ℕ × B) → due_of s ≡ Some m → (s.released + 1 ≤ m.0) × (slice_get (unacknowledged s) (m.0 - s.released - 1) ≡ Some m.1)
unfolding due_of
due_of-kept s m found =
    let kept : (s.released + 1 ≤ m.0) × (slice_get (unacknowledged s) (m.0 - (s.released + 1)) ≡ Some m.1) = first_due_kept s.kept (s.released + 1) m found in
    let same : m.0 - (s.released + 1) ≡ m.0 - s.released - 1 = omega arith in
    (kept.0, rw (← same) kept.1)
