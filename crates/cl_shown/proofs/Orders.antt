-- The positions of a session's transactions, as they grow.
use Rattle.std.proofs.Common.{◌≡◌, ℕ, suc, ◌<◌, ◌≤◌, ◌⊎◌, inl, inr, List, [], ◌∷◌, ◌++◌, length, Option, Some, None, refl, sym, ◌∙◌, ap, subst, arith}
use Rattle.std.specs.Option.{unwrap_or}
use Rattle.cl_serial.specs.Exchanges.{Exchange, answered}
use Rattle.cl_serial.specs.Transactions.{Transaction, with_command}
use Rattle.cl_serial.specs.Serial.{StandsAt, IsIn}
use Rattle.cl_serial.proofs.Places.{StandsAt-push, StandsAt-within, StandsAt-append_left, StandsAt-push_last, IsIn-push, IsIn-nil}
use Rattle.cl_shown.specs.Sessions.{AreInOrder}
use Rattle.cl_types.specs.declared.answers.Outcome.{Outcome}
use Rattle.cl_types.specs.declared.operations.Command.{Command}

-- the transactions are in order, and all began below this position
pub record AreOrderedBelow (all : List Transaction) (size floor : ℕ) : Type 0 where
  pub order : AreInOrder all size
  pub below : (i : ℕ) (x : Transaction) → StandsAt all i x → x.begin < floor

pub ordered_none : (size floor : ℕ) → AreOrderedBelow [] size floor
ordered_none size floor = record {
  order = record {
    rising = λ i j x y at at' le. absurd (let none : None ≡ Some x = at in cc);
    within = λ i x at. absurd (let none : None ≡ Some x = at in cc);
    asked_after = λ i x exchange at is_in. absurd (let none : None ≡ Some x = at in cc);
    answered_after = λ i x exchange outcome position at is_in is. absurd (let none : None ≡ Some x = at in cc);
    answered_within = λ i x exchange outcome position at is_in is. absurd (let none : None ≡ Some x = at in cc);
  };
  below = λ i x at. absurd (let none : None ≡ Some x = at in cc);
}

-- below a higher position
pub ordered_up : (all : List Transaction) (size floor higher : ℕ) → floor ≤ higher → AreOrderedBelow all size floor → AreOrderedBelow all size higher
ordered_up all size floor higher le h = record { order = h.order; below = λ i x at. omega (arith, h.below i x at) }

-- ---- a transaction begins

-- the transaction that begins at this position
abbrev pub begun_at : ℕ → Transaction
begun_at line = record { begin = line; commands = [] }

module _ (all : List Transaction) (line size floor : ℕ) (above : floor ≤ line) (within : line < size) (h : AreOrderedBelow all size floor) where
  -- a transaction is an old one, or the new one
  abbrev IsOldOrNew : ℕ → Transaction → Type 0
  IsOldOrNew i x = StandsAt all i x ⊎ ((i ≡ length all) × (x ≡ begun_at line))

  old_or_new : (i : ℕ) (x : Transaction) → StandsAt (all ++ begun_at line ∷ []) i x → IsOldOrNew i x
  old_or_new i x at = StandsAt-push all (begun_at line) i x at

  new_begins : (x : Transaction) → x ≡ begun_at line → x.begin ≡ line
  new_begins x is = ap (λ (t : Transaction). t.begin) is

  new_has_none : (x : Transaction) (exchange : Exchange) → x ≡ begun_at line → IsIn x.commands exchange → ⊥
  new_has_none x exchange is is_in = IsIn-nil exchange (subst (λ (t : Transaction). IsIn t.commands exchange) is is_in)

  begun_rising : (i j : ℕ) (x y : Transaction) → IsOldOrNew i x → IsOldOrNew j y → i ≤ j → x.begin ≤ y.begin
  begun_rising i j x y (inl at) (inl at') le = h.order.rising i j x y at at' le
  begun_rising i j x y (inl at) (inr new) le = omega (arith, h.below i x at, above, new_begins y new.1)
  begun_rising i j x y (inr new) (inl at') le = absurd (omega (arith, new.0, le, StandsAt-within all j y at'))
  begun_rising i j x y (inr new) (inr new') le = omega (arith, new_begins x new.1, new_begins y new'.1)

  begun_below : (i : ℕ) (x : Transaction) → IsOldOrNew i x → x.begin < suc line
  begun_below i x (inl at) = omega (arith, h.below i x at, above)
  begun_below i x (inr new) = omega (arith, new_begins x new.1)

  begun_within : (i : ℕ) (x : Transaction) → IsOldOrNew i x → x.begin < size
  begun_within i x (inl at) = h.order.within i x at
  begun_within i x (inr new) = omega (arith, new_begins x new.1, within)

  begun_asked : (i : ℕ) (x : Transaction) (exchange : Exchange) → IsOldOrNew i x → IsIn x.commands exchange → x.begin < exchange.line
  begun_asked i x exchange (inl at) is_in = h.order.asked_after i x exchange at is_in
  begun_asked i x exchange (inr new) is_in = absurd (new_has_none x exchange new.1 is_in)

  begun_after : (i : ℕ) (x : Transaction) (exchange : Exchange) (outcome : Outcome) (position : ℕ) → IsOldOrNew i x → IsIn x.commands exchange →
      exchange.answer ≡ Some (outcome, position) → exchange.line < position
  begun_after i x exchange outcome position (inl at) is_in is = h.order.answered_after i x exchange outcome position at is_in is
  begun_after i x exchange outcome position (inr new) is_in is = absurd (new_has_none x exchange new.1 is_in)

  begun_answered : (i : ℕ) (x : Transaction) (exchange : Exchange) (outcome : Outcome) (position : ℕ) → IsOldOrNew i x → IsIn x.commands exchange →
      exchange.answer ≡ Some (outcome, position) → position < size
  begun_answered i x exchange outcome position (inl at) is_in is = h.order.answered_within i x exchange outcome position at is_in is
  begun_answered i x exchange outcome position (inr new) is_in is = absurd (new_has_none x exchange new.1 is_in)

  pub ordered_begun : AreOrderedBelow (all ++ begun_at line ∷ []) size (suc line)
  ordered_begun = record {
    order = record {
      rising = λ i j x y at at' le. begun_rising i j x y (old_or_new i x at) (old_or_new j y at') le;
      within = λ i x at. begun_within i x (old_or_new i x at);
      asked_after = λ i x exchange at is_in. begun_asked i x exchange (old_or_new i x at) is_in;
      answered_after = λ i x exchange outcome position at is_in is. begun_after i x exchange outcome position (old_or_new i x at) is_in is;
      answered_within = λ i x exchange outcome position at is_in is. begun_answered i x exchange outcome position (old_or_new i x at) is_in is;
    };
    below = λ i x at. begun_below i x (old_or_new i x at);
  }

-- ---- the last transaction has one more command, with its answer

module _ (ended : List Transaction) (current : Transaction) (command : Command) (line : ℕ) (outcome : Outcome) (position size floor : ℕ)
    (above : floor ≤ line) (follows : line < position) (within : position < size) (h : AreOrderedBelow (ended ++ current ∷ []) size floor) where
  abbrev one : Exchange
  one = answered (command, line) (outcome, position)

  abbrev IsEndedOrLast : ℕ → Transaction → Type 0
  IsEndedOrLast i x = StandsAt ended i x ⊎ ((i ≡ length ended) × (x ≡ with_command current one))

  ended_or_last : (i : ℕ) (x : Transaction) → StandsAt (ended ++ with_command current one ∷ []) i x → IsEndedOrLast i x
  ended_or_last i x at = StandsAt-push ended (with_command current one) i x at

  current_stands : StandsAt (ended ++ current ∷ []) (length ended) current
  current_stands = StandsAt-push_last ended current

  ended_stands : (i : ℕ) (x : Transaction) → StandsAt ended i x → StandsAt (ended ++ current ∷ []) i x
  ended_stands i x at = StandsAt-append_left ended (current ∷ []) i x at

  -- each began where an old one of its place did
  old_there : (i : ℕ) (x : Transaction) → IsEndedOrLast i x → (old : Transaction) × StandsAt (ended ++ current ∷ []) i old × (x.begin ≡ old.begin)
  old_there i x (inl at) = (x, ended_stands i x at, refl)
  old_there i x (inr last) =
      (current, subst (λ k. StandsAt (ended ++ current ∷ []) k current) (sym last.0) current_stands, ap (λ (t : Transaction). t.begin) last.1)

  -- an exchange of the last one is an old one, or the new one
  old_exchange : (x : Transaction) (exchange : Exchange) → x ≡ with_command current one → IsIn x.commands exchange →
      IsIn current.commands exchange ⊎ (exchange ≡ one)
  old_exchange x exchange is is_in = IsIn-push current.commands one exchange (subst (λ (t : Transaction). IsIn t.commands exchange) is is_in)

  more_asked : (i : ℕ) (x : Transaction) (exchange : Exchange) → IsEndedOrLast i x → IsIn x.commands exchange → x.begin < exchange.line
  more_asked i x exchange (inl at) is_in = h.order.asked_after i x exchange (ended_stands i x at) is_in
  more_asked i x exchange (inr last) is_in = by (old_exchange x exchange last.1 is_in) (ap (λ (t : Transaction). t.begin) last.1)
    where
      by : IsIn current.commands exchange ⊎ (exchange ≡ one) → x.begin ≡ current.begin → x.begin < exchange.line
      by (inl old) same = omega (arith, same, h.order.asked_after (length ended) current exchange current_stands old)
      by (inr new) same =
          let at_line : exchange.line ≡ line = ap (λ (e : Exchange). e.line) new in omega
          (arith, same, at_line, above, h.below (length ended) current current_stands)

  -- the position of the new answer
  new_position : (exchange : Exchange) (given : Outcome) (place : ℕ) → exchange ≡ one → exchange.answer ≡ Some (given, place) → place ≡ position
  new_position exchange given place new is =
      let answers : ◌≡◌ {A = Option (Outcome × ℕ)} (Some (given, place)) (Some (outcome, position)) = sym is ∙ ap (λ (e : Exchange). e.answer) new in
      ap (λ (o : Option (Outcome × ℕ)). (unwrap_or o (given, 0)).1) answers

  more_after : (i : ℕ) (x : Transaction) (exchange : Exchange) (given : Outcome) (place : ℕ) → IsEndedOrLast i x → IsIn x.commands exchange →
      exchange.answer ≡ Some (given, place) → exchange.line < place
  more_after i x exchange given place (inl at) is_in is = h.order.answered_after i x exchange given place (ended_stands i x at) is_in is
  more_after i x exchange given place (inr last) is_in is = by (old_exchange x exchange last.1 is_in)
    where
      by : IsIn current.commands exchange ⊎ (exchange ≡ one) → exchange.line < place
      by (inl old) = h.order.answered_after (length ended) current exchange given place current_stands old is
      by (inr new) =
          let at_line : exchange.line ≡ line = ap (λ (e : Exchange). e.line) new in omega (arith, at_line, follows, new_position exchange given place new is)

  more_within : (i : ℕ) (x : Transaction) (exchange : Exchange) (given : Outcome) (place : ℕ) → IsEndedOrLast i x → IsIn x.commands exchange →
      exchange.answer ≡ Some (given, place) → place < size
  more_within i x exchange given place (inl at) is_in is = h.order.answered_within i x exchange given place (ended_stands i x at) is_in is
  more_within i x exchange given place (inr last) is_in is = by (old_exchange x exchange last.1 is_in)
    where
      by : IsIn current.commands exchange ⊎ (exchange ≡ one) → place < size
      by (inl old) = h.order.answered_within (length ended) current exchange given place current_stands old is
      by (inr new) = omega (arith, within, new_position exchange given place new is)

  pub ordered_more : AreOrderedBelow (ended ++ with_command current one ∷ []) size (suc line)
  ordered_more = record {
    order = record {
      rising = λ i j x y at at' le.
          let a = old_there i x (ended_or_last i x at) in
          let b = old_there j y (ended_or_last j y at') in
          omega (arith, a.2, b.2, h.order.rising i j a.0 b.0 a.1 b.1 le);
      within = λ i x at. let a = old_there i x (ended_or_last i x at) in omega (arith, a.2, h.order.within i a.0 a.1);
      asked_after = λ i x exchange at is_in. more_asked i x exchange (ended_or_last i x at) is_in;
      answered_after = λ i x exchange given place at is_in is. more_after i x exchange given place (ended_or_last i x at) is_in is;
      answered_within = λ i x exchange given place at is_in is. more_within i x exchange given place (ended_or_last i x at) is_in is;
    };
    below = λ i x at. let a = old_there i x (ended_or_last i x at) in omega (arith, a.2, above, h.below i a.0 a.1);
  }
