-- Packets that are kept.
use Rattle.std.proofs.Common.{◌≡◌, ℕ, zero, suc, ◌+◌, ◌-◌, ◌<◌, eqb, cond, Bool, true, false, List, [], ◌∷◌, ◌++◌, length, get_or, map, Option, Some, None, set, slice_get, unwrap_or, refl, sym, ap, ◌∙◌, arith}
use Rattle.std.specs.Option.{option_map}
use Rattle.std.proofs.lemmas.List.{map-set}
use Rattle.std.proofs.lemmas.List.Elements.{All-append, All-map, All-same, All-set}
use Rattle.cl_ranked.specs.Slots.{kept_from, slot_at}
use Rattle.cl_wire.specs.declared.packet.Packet.{Packet}
use Rattle.cl_wire.specs.Message.{Message, message_of}
use Rattle.cl_world.specs.Mail.{messages_in, AreKept, AreToLiving, IsToLiving, forgotten, is_living, to_living, IsSlotOf}

-- the index of an item that is kept is one of a slot
pub kept_bound : {T : Type 0} (slots : List (Option T)) (first rank index : ℕ) (item : T) → slice_get (kept_from first slots) rank ≡ Some (index, item) → index < first + length slots
unfolding kept_from
kept_bound [] first rank index item is = absurd cc
kept_bound (None ∷ slots) first rank index item is = omega (arith, kept_bound slots (suc first) rank index item is)
kept_bound {T} (Some one ∷ slots) first zero index item is =
    let same : first ≡ index = ap (λ found. (unwrap_or {T = ℕ × T} found (first, one)).0) is in omega arith
kept_bound (Some one ∷ slots) first (suc rank) index item is = omega (arith, kept_bound slots (suc first) rank index item is)

-- a slot that is emptied
pub kept_without : (slots : List (Option Packet)) (emitted : List Message) (index : ℕ) → AreKept (messages_in slots) emitted → AreKept (messages_in (set slots index None)) emitted
kept_without [] emitted index kept = kept
kept_without (slot ∷ slots) [] index kept = absurd kept
kept_without (slot ∷ slots) (m ∷ emitted) zero kept = (tt, kept.1)
kept_without (slot ∷ slots) (m ∷ emitted) (suc index) kept = (kept.0, kept_without slots emitted index kept.1)

-- a packet that is forgotten
pub kept_forgotten : (slots : List (Option Packet)) (emitted : List Message) (id : ℕ) → AreKept (messages_in slots) emitted → AreKept (messages_in (forgotten slots id)) emitted
kept_forgotten slots emitted id kept =
    elim (eqb id 0) as (λ none. AreKept (messages_in (cond none slots (set slots (id - 1) None))) emitted) [ true ↦ kept | false ↦ kept_without slots emitted (id - 1) kept ]

-- a packet that is kept says what was emitted
pub kept_at : (slots : List (Option Packet)) (emitted : List Message) (index : ℕ) (packet : Packet) → AreKept (messages_in slots) emitted → slot_at slots index ≡ Some packet →
    slice_get emitted index ≡ Some (message_of packet)
kept_at [] emitted index packet kept is = absurd cc
kept_at (slot ∷ slots) [] index packet kept is = absurd kept
kept_at (None ∷ slots) (m ∷ emitted) zero packet kept is = absurd cc
kept_at (Some one ∷ slots) (m ∷ emitted) zero packet kept is =
    let same : one ≡ packet = ap (λ found. unwrap_or found one) is in
    ap (λ x. Some x) (sym kept.0 ∙ ap message_of same)
kept_at (slot ∷ slots) (m ∷ emitted) (suc index) packet kept is = kept_at slots emitted index packet kept.1 is

-- the slot of a packet that was just emitted
slot_of : (living : ℕ) (m : Message) → IsSlotOf (to_living living m) m
slot_of living m = elim (is_living living m.to) as (λ lives. IsSlotOf (cond lives (Some m) None) m) [ true ↦ refl | false ↦ tt ]

-- packets of one event more
pub kept_more : (slots : List (Option Message)) (emitted : List Message) (living : ℕ) (more : List Message) → AreKept slots emitted → AreKept (slots ++ map (to_living living) more) (emitted ++ more)
kept_more [] [] living [] kept = tt
kept_more [] [] living (m ∷ more) kept = (slot_of living m, kept_more [] [] living more tt)
kept_more [] (m ∷ emitted) living more kept = absurd kept
kept_more (slot ∷ slots) [] living more kept = absurd kept
kept_more (slot ∷ slots) (m ∷ emitted) living more kept = (kept.0, kept_more slots emitted living more kept.1)

lives_where : (living : ℕ) (m : Message) (lives : Bool) → is_living living m.to ≡ lives → IsToLiving living (cond lives (Some m) None)
lives_where living m true is = is
lives_where living m false is = tt

-- what an event emits is kept only where its receiver lives
pub living_more : (living : ℕ) (slots : List (Option Message)) (more : List Message) → AreToLiving living slots → AreToLiving living (slots ++ map (to_living living) more)
living_more living slots more are =
    All-append (IsToLiving living) slots (map (to_living living) more) are
    (All-map (IsToLiving living) (to_living living) more (λ k d within. lives_where living (get_or more k d) (is_living living (get_or more k d).to) refl))

-- a packet that is forgotten
pub living_forgotten : (living : ℕ) (slots : List (Option Packet)) (id : ℕ) → AreToLiving living (messages_in slots) → AreToLiving living (messages_in (forgotten slots id))
living_forgotten living slots id are =
    elim (eqb id 0) as (λ none. AreToLiving living (messages_in (cond none slots (set slots (id - 1) None)))) [
      | true ↦ are
      | false ↦ All-same (IsToLiving living) (messages_in (set slots (id - 1) None)) (set (messages_in slots) (id - 1) None) (map-set (option_map message_of) slots (id - 1) None)
          (All-set (IsToLiving living) (messages_in slots) (id - 1) None tt are)
    ]
