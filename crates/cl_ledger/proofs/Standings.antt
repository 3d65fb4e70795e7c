-- What an order that comes to a participant says of its transaction.
use Rattle.std.proofs.Common.{◌≡◌, ℕ, ◌<◌, Bool, true, false, cond, not, inl, inr, List, [], ◌∷◌, Option, Some, None, filter, refl, sym, ◌∙◌, ap, arith}
use Rattle.std.proofs.lemmas.Bool.{and_parts}
use Rattle.cl_types.specs.declared.operations.Op.{Op}
use Rattle.cl_types.specs.declared.operations.TxnId.{TxnId}
use Rattle.cl_control.specs.declared.entry.Phase.{Phase}
use Rattle.cl_control.specs.declared.entry.Phase.TheVariants.{Idle, Asked, Preparing, Decided, Logged}
use Rattle.cl_control.specs.State.{Entry, is_among}
use Rattle.cl_log.specs.declared.stage.Stage.{Stage}
use Rattle.cl_log.specs.declared.stage.Stage.TheVariants.{Unknown, Running, Prepared, Ended}
use Rattle.cl_log.specs.LogEntry.{LogEntry}
use Rattle.cl_log.specs.Open.{has_begun, has_ended, has_prepared, is_open, stage_of, is_among as is_member}
use Rattle.cl_node.specs.Addressing.{home_in}
use Rattle.cl_runs.specs.World.{Shape}
use Rattle.cl_system.specs.Replicas.{ReplicaWorld}
use Rattle.cl_wire.specs.Message.{Content, Bare, Ask, Prepare, Finish}
use Rattle.cl_commit.specs.Life.{Life, to_come, open_as, committed, aborted, entry_in, IsToCome, HasBegun, IsSoFar, MayParticipate, MayStandOpen, MayStand, Lives}
use Rattle.cl_commit.specs.Standing.{Standing, absent, running, asked, answered, preparing, voting, voted, ending, over, PartView, part_view, is_order, StandsSo, IsUnprepared, IsBeforeEnd}

-- ---- stages

unended_at : (begun ended prepared : Bool) → cond (not begun) Unknown (cond ended Ended (cond prepared Prepared Running)) ≡ Running → ended ≡ false
unended_at true true prepared is = absurd (let e : Ended ≡ Running = is in cc)
unended_at true false prepared is = refl
unended_at false ended prepared is = absurd (let e : Unknown ≡ Running = is in cc)

unbegun_at : (begun ended prepared : Bool) → cond (not begun) Unknown (cond ended Ended (cond prepared Prepared Running)) ≡ Unknown → begun ≡ false
unbegun_at true true prepared is = absurd (let e : Ended ≡ Unknown = is in cc)
unbegun_at true false true is = absurd (let e : Prepared ≡ Unknown = is in cc)
unbegun_at true false false is = absurd (let e : Running ≡ Unknown = is in cc)
unbegun_at false ended prepared is = refl

pub running_unended : (log : List LogEntry) (txn : TxnId) → stage_of log txn ≡ Running → has_ended log txn ≡ false
running_unended log txn is = unended_at (has_begun log txn) (has_ended log txn) (has_prepared log txn) is

-- who is not prepared has not ended
pub unprepared_unended : (log : List LogEntry) (txn : TxnId) → (has_ended log txn ≡ true → has_begun log txn ≡ true) → IsUnprepared (stage_of log txn) → has_ended log txn ≡ false
unprepared_unended log txn begun (inl runs) = running_unended log txn runs
unprepared_unended log txn begun (inr unknown) = by_end (has_ended log txn) refl
  where
    by_end : (b : Bool) → has_ended log txn ≡ b → has_ended log txn ≡ false
    by_end true ends = absurd (let e : true ≡ false = sym (begun ends) ∙ unbegun_at (has_begun log txn) (has_ended log txn) (has_prepared log txn) unknown in cc)
    by_end false none = none

-- who is open has not ended
pub open_unended : (log : List LogEntry) (txn : TxnId) → is_open log txn ≡ true → has_ended log txn ≡ false
open_unended log txn is = none (has_ended log txn) (and_parts _ _ is).1
  where
    none : (b : Bool) → not b ≡ true → b ≡ false
    none true is = absurd (let e : false ≡ true = is in cc)
    none false is = refl

-- ---- standings

-- the first message, if there is one
abbrev pub first_of : List Content → Content
first_of [] = Bare
first_of (content ∷ rest) = content

-- the standing of whom this order is for
abbrev pub IsOrderFor : ℕ → TxnId → Content → Stage → Standing → Type 0
IsOrderFor v txn content stage (asked number) = ((table : List ℕ) × ((key : List ℕ) × ((op : Op) × (content ≡ Ask v txn number table key op)))) × IsUnprepared stage
IsOrderFor v txn content stage preparing = (content ≡ Prepare v txn) × (stage ≡ Running)
IsOrderFor v txn content stage (ending commit) = (content ≡ Finish v txn commit) × IsBeforeEnd commit stage
IsOrderFor v txn content stage absent = ⊥
IsOrderFor v txn content stage running = ⊥
IsOrderFor v txn content stage (answered number answer) = ⊥
IsOrderFor v txn content stage voting = ⊥
IsOrderFor v txn content stage voted = ⊥
IsOrderFor v txn content stage over = ⊥

module _ (v : ℕ) (txn : TxnId) (view : PartView) (content : Content) (more : List Content) (first : view.orders ≡ content ∷ more) where
  no_orders : view.orders ≡ [] → ⊥
  no_orders none = let e : ◌≡◌ {A = List Content} [] (content ∷ more) = sym none ∙ first in cc

  one_order : (order : Content) → view.orders ≡ order ∷ [] → content ≡ order
  one_order order is = ap first_of (sym first ∙ is)

  order_so : (standing : Standing) → StandsSo v txn view standing → IsOrderFor v txn content view.stage standing
  order_so absent stands = no_orders stands.orders
  order_so running stands = no_orders stands.orders
  order_so (asked number) stands = ((stands.0.table, (stands.0.key, (stands.0.op, one_order _ stands.0.order.orders))), stands.1)
  order_so (answered number answer) stands = no_orders stands.0.orders
  order_so preparing stands = (one_order _ stands.0.orders, stands.1)
  order_so voting stands = no_orders stands.0.orders
  order_so voted stands = no_orders stands.orders
  order_so (ending commit) stands = (one_order _ stands.0.orders, stands.1)
  order_so over stands = no_orders stands.0

-- ---- lives

-- who is asked is open, and this virtual node is a participant
pub record IsAskedAt (nodes : ℕ) (world : ReplicaWorld) (txn : TxnId) (v : ℕ) : Type 0 where
  pub entry : Entry
  pub opened : entry_in nodes world txn ≡ Some entry
  pub participates : is_among v entry.participants ≡ true
  pub outside : is_member txn world.history ≡ false
  pub begun : HasBegun nodes world txn

module _ (nodes : ℕ) (world : ReplicaWorld) (txn : TxnId) (v : ℕ) where
  participates_asked : (entry : Entry) (number : ℕ) (b : Bool) → is_among v entry.participants ≡ b → MayStandOpen b entry v (asked number) → is_among v entry.participants ≡ true
  participates_asked entry number true is may = is
  participates_asked entry number false is may = absurd (let e : asked number ≡ absent = may in cc)

  life_asked : (life : Life) (number : ℕ) → MayStand life v (asked number) → IsSoFar nodes world txn life → IsAskedAt nodes world txn v
  life_asked to_come number may so_far = absurd (let e : asked number ≡ absent = may in cc)
  life_asked (open_as entry) number may so_far = record {
    entry = entry;
    opened = so_far.1;
    participates = participates_asked entry number (is_among v entry.participants) refl may;
    outside = so_far.2;
    begun = so_far.0;
  }
  life_asked committed number (inl may) so_far = absurd (let e : asked number ≡ absent = may in cc)
  life_asked committed number (inr (inl may)) so_far = absurd (let e : asked number ≡ ending true = may in cc)
  life_asked committed number (inr (inr may)) so_far = absurd (let e : asked number ≡ over = may in cc)
  life_asked aborted number (inl may) so_far = absurd (let e : asked number ≡ absent = may in cc)
  life_asked aborted number (inr (inl may)) so_far = absurd (let e : asked number ≡ ending false = may in cc)
  life_asked aborted number (inr (inr may)) so_far = absurd (let e : asked number ≡ over = may in cc)

  -- who is open is not ending
  participates_ending : (phase : Phase) (has_voted commit : Bool) → MayParticipate phase has_voted v (ending commit) → ⊥
  participates_ending Idle has_voted commit may = let e : ending commit ≡ running = may in cc
  participates_ending (Asked number w) has_voted commit (inl (at, inl may)) = let e : ending commit ≡ asked number = may in cc
  participates_ending (Asked number w) has_voted commit (inl (at, inr may)) = let e : ending commit ≡ answered number may.0 = may.1 in cc
  participates_ending (Asked number w) has_voted commit (inr may) = let e : ending commit ≡ running = may.1 in cc
  participates_ending (Preparing number) true commit may = let e : ending commit ≡ voted = may in cc
  participates_ending (Preparing number) false commit (inl may) = let e : ending commit ≡ preparing = may in cc
  participates_ending (Preparing number) false commit (inr may) = let e : ending commit ≡ voting = may in cc
  participates_ending (Decided number) has_voted commit may = may
  participates_ending (Logged number) has_voted commit may = may

  open_ending : (entry : Entry) (commit b : Bool) → MayStandOpen b entry v (ending commit) → ⊥
  open_ending entry commit true may = participates_ending entry.phase (is_among v entry.votes) commit may
  open_ending entry commit false may = let e : ending commit ≡ absent = may in cc

  -- who ends is not open, and is a member exactly where it ends with commit
  life_ending : (life : Life) (commit : Bool) → MayStand life v (ending commit) → IsSoFar nodes world txn life → (entry_in nodes world txn ≡ None) × (is_member txn world.history ≡ commit)
  life_ending to_come commit may so_far = absurd (let e : ending commit ≡ absent = may in cc)
  life_ending (open_as entry) commit may so_far = absurd (open_ending entry commit (is_among v entry.participants) may)
  life_ending committed commit (inl may) so_far = absurd (let e : ending commit ≡ absent = may in cc)
  life_ending committed true (inr (inl may)) so_far = (so_far.1, so_far.2)
  life_ending committed false (inr (inl may)) so_far = absurd (let e : ending false ≡ ending true = may in cc)
  life_ending committed commit (inr (inr may)) so_far = absurd (let e : ending commit ≡ over = may in cc)
  life_ending aborted commit (inl may) so_far = absurd (let e : ending commit ≡ absent = may in cc)
  life_ending aborted true (inr (inl may)) so_far = absurd (let e : ending true ≡ ending false = may in cc)
  life_ending aborted false (inr (inl may)) so_far = (so_far.1, so_far.2)
  life_ending aborted commit (inr (inr may)) so_far = absurd (let e : ending commit ≡ over = may in cc)

  -- who is open at its controller is no member
  life_open : (life : Life) (entry : Entry) → entry_in nodes world txn ≡ Some entry → IsSoFar nodes world txn life → is_member txn world.history ≡ false
  life_open to_come entry is so_far = absurd (let e : ◌≡◌ {A = Option Entry} None (Some entry) = sym so_far.1 ∙ is in cc)
  life_open (open_as other) entry is so_far = so_far.2
  life_open committed entry is so_far = absurd (let e : ◌≡◌ {A = Option Entry} None (Some entry) = sym so_far.1 ∙ is in cc)
  life_open aborted entry is so_far = so_far.2

  -- who has begun is not to come
  pub begun_not_to_come : HasBegun nodes world txn → IsToCome nodes world txn → ⊥
  begun_not_to_come begun (inl later) = let at = begun.begun in omega (arith, later, at)
  begun_not_to_come begun (inr coming) = let e : false ≡ true = sym begun.heard ∙ coming in cc

-- ---- orders

-- the transaction is open at its controller
pub open_outside : (shape : Shape) (world : ReplicaWorld) (txn : TxnId) (entry : Entry) → Lives shape world txn → entry_in shape.nodes world txn ≡ Some entry → is_member txn world.history ≡ false
open_outside shape world txn entry lives is = life_open shape.nodes world txn 0 lives.life entry is lives.so_far

module _ (shape : Shape) (world : ReplicaWorld) (txn : TxnId) (v : ℕ) (below : v < shape.nodes) (lives : Lives shape world txn) where
  module _ (content : Content) (rest : List Content) (here : world.mail (home_in shape.nodes txn) v ≡ content ∷ rest) (own : is_order v txn content ≡ true) where
    orders_are : (part_view shape.nodes world txn v).orders ≡ content ∷ filter (is_order v txn) rest
    orders_are = ap (filter (is_order v txn)) here ∙ ap (λ b. cond b (content ∷ filter (is_order v txn) rest) (filter (is_order v txn) rest)) own

    stands_for_order : IsOrderFor v txn content (part_view shape.nodes world txn v).stage (lives.stands v below).0
    stands_for_order = order_so v txn (part_view shape.nodes world txn v) content (filter (is_order v txn) rest) orders_are (lives.stands v below).0 (lives.stands v below).1

  -- an operation comes
  ask_from : (number : ℕ) (table key : List ℕ) (op : Op) (stage : Stage) (standing : Standing) → IsOrderFor v txn (Ask v txn number table key op) stage standing → MayStand lives.life v standing →
      IsAskedAt shape.nodes world txn v × IsUnprepared stage
  ask_from number table key op stage (asked k) is may = (life_asked shape.nodes world txn v lives.life k may lives.so_far, is.1)
  ask_from number table key op stage preparing is may = absurd (let e : Ask v txn number table key op ≡ Prepare v txn = is.0 in cc)
  ask_from number table key op stage (ending commit) is may = absurd (let e : Ask v txn number table key op ≡ Finish v txn commit = is.0 in cc)
  ask_from number table key op stage absent is may = absurd is
  ask_from number table key op stage running is may = absurd is
  ask_from number table key op stage (answered k answer) is may = absurd is
  ask_from number table key op stage voting is may = absurd is
  ask_from number table key op stage voted is may = absurd is
  ask_from number table key op stage over is may = absurd is

  -- a vote is asked for
  prepare_from : (stage : Stage) (standing : Standing) → IsOrderFor v txn (Prepare v txn) stage standing → stage ≡ Running
  prepare_from stage (asked k) is = absurd (let e : Prepare v txn ≡ Ask v txn k is.0.0 is.0.1.0 is.0.1.1.0 = is.0.1.1.1 in cc)
  prepare_from stage preparing is = is.1
  prepare_from stage (ending commit) is = absurd (let e : Prepare v txn ≡ Finish v txn commit = is.0 in cc)
  prepare_from stage absent is = absurd is
  prepare_from stage running is = absurd is
  prepare_from stage (answered k answer) is = absurd is
  prepare_from stage voting is = absurd is
  prepare_from stage voted is = absurd is
  prepare_from stage over is = absurd is

  -- an end comes
  finish_from : (commit : Bool) (stage : Stage) (standing : Standing) → IsOrderFor v txn (Finish v txn commit) stage standing → MayStand lives.life v standing →
      (entry_in shape.nodes world txn ≡ None) × (is_member txn world.history ≡ commit)
  finish_from commit stage (asked k) is may = absurd (let e : Finish v txn commit ≡ Ask v txn k is.0.0 is.0.1.0 is.0.1.1.0 = is.0.1.1.1 in cc)
  finish_from commit stage preparing is may = absurd (let e : Finish v txn commit ≡ Prepare v txn = is.0 in cc)
  finish_from true stage (ending true) is may = life_ending shape.nodes world txn v lives.life true may lives.so_far
  finish_from false stage (ending false) is may = life_ending shape.nodes world txn v lives.life false may lives.so_far
  finish_from true stage (ending false) is may = absurd (let e : Finish v txn true ≡ Finish v txn false = is.0 in cc)
  finish_from false stage (ending true) is may = absurd (let e : Finish v txn false ≡ Finish v txn true = is.0 in cc)
  finish_from commit stage absent is may = absurd is
  finish_from commit stage running is may = absurd is
  finish_from commit stage (answered k answer) is may = absurd is
  finish_from commit stage voting is may = absurd is
  finish_from commit stage voted is may = absurd is
  finish_from commit stage over is may = absurd is

  pub ask_stands : (number : ℕ) (table key : List ℕ) (op : Op) (rest : List Content) → world.mail (home_in shape.nodes txn) v ≡ Ask v txn number table key op ∷ rest →
      is_order v txn (Ask v txn number table key op) ≡ true → IsAskedAt shape.nodes world txn v × IsUnprepared (stage_of (world.replicas v).part.log txn)
  ask_stands number table key op rest here own =
      ask_from number table key op _ (lives.stands v below).0 (stands_for_order (Ask v txn number table key op) rest here own) (lives.stands v below).2

  pub prepare_stands : (rest : List Content) → world.mail (home_in shape.nodes txn) v ≡ Prepare v txn ∷ rest → is_order v txn (Prepare v txn) ≡ true → stage_of (world.replicas v).part.log txn ≡ Running
  prepare_stands rest here own = prepare_from _ (lives.stands v below).0 (stands_for_order (Prepare v txn) rest here own)

  pub finish_stands : (commit : Bool) (rest : List Content) → world.mail (home_in shape.nodes txn) v ≡ Finish v txn commit ∷ rest → is_order v txn (Finish v txn commit) ≡ true →
      (entry_in shape.nodes world txn ≡ None) × (is_member txn world.history ≡ commit)
  finish_stands commit rest here own = finish_from commit _ (lives.stands v below).0 (stands_for_order (Finish v txn commit) rest here own) (lives.stands v below).2
